use Rattle.{std.proofs.Common.{ap, sym}, vm_types.specs.Replies.{reply_of}}
use Rattle.vm_types.proofs.reply.Answer.reply.Goals as goal

pub returns-in-Done : goal.returns-in-Done
returns-in-Done c = ap reply_of (sym c.in-Done.is)
