-- Answers as replies.
use Rattle.std.specs.Prelude.{Option, Some, None}
use Rattle.vm_types.specs.declared.reply.Answer.{Answer}
use Rattle.vm_types.specs.declared.reply.Answer.TheVariants as Answers
use Rattle.vm_types.specs.declared.reply.Reply.{Reply}
use Rattle.vm_types.specs.declared.reply.Reply.TheVariants.{Process, Address, Done, Value, Faulted, Refused, Stalled, Halted, Past}
use Rattle.vm_types.specs.History as History

-- an answer is the reply of its name
abbrev pub reply_of : Answer → Reply
reply_of (Answers.Process pid) = Process pid
reply_of (Answers.Address addr) = Address addr
reply_of Answers.Done = Done
reply_of (Answers.Value width value) = Value width value
reply_of (Answers.Faulted fault) = Faulted fault
reply_of (Answers.Refused errno) = Refused errno
reply_of (Answers.Stalled stall) = Stalled stall
reply_of Answers.Halted = Halted

-- the reply where none stands for the history, which is told
abbrev pub told : History.Past → Option Answer → Reply
told past (Some answer) = reply_of answer
told past None = Past past
