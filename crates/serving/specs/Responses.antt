-- What five numbers tell.
use Rattle.std.specs.Prelude.{ℕ, List, ◌++◌, Some, None}
use Rattle.byteorder.specs.Endian.{little_bytes}
use Rattle.vm_types.specs.Refusal.{errno_number, stall_number}
use Rattle.vm_types.specs.Width.{byte_count}
use Rattle.vm_types.specs.declared.refusal.Code.{Code}
use Rattle.vm_types.specs.declared.refusal.Code.TheVariants.{BusAdraln, SegvMaperr, SegvAccerr, BusAdrerr}
use Rattle.vm_types.specs.declared.refusal.Fault.{Fault}
use Rattle.vm_types.specs.declared.reply.Answer.{Answer}
use Rattle.vm_types.specs.declared.reply.Answer.TheVariants.{Process, Address, Done, Value, Faulted, Refused, Stalled, Halted}
use Rattle.serving.specs.declared.responses.ReplyNumbers.{ReplyNumbers}
use Rattle.serving.specs.declared.responses.Response.{Response}
use Rattle.serving.specs.declared.responses.Response.TheVariants.{Malformed, Answered}

abbrev pub code_number : Code → ℕ
code_number BusAdraln = 0
code_number SegvMaperr = 1
code_number SegvAccerr = 2
code_number BusAdrerr = 3

abbrev pub of_kind : ℕ → ℕ → ReplyNumbers
of_kind kind first = record { kind = kind; first = first; second = 0; third = 0; root = 0 }

abbrev pub fault_numbers : Fault → ReplyNumbers
fault_numbers fault = record { kind = 4; first = fault.cause; second = code_number fault.code; third = fault.addr; root = 0 }

-- the kind of an answer, and what it tells
abbrev pub answer_numbers : Answer → ReplyNumbers
answer_numbers (Process pid) = of_kind 0 pid
answer_numbers (Address addr) = of_kind 1 addr
answer_numbers Done = of_kind 2 0
answer_numbers (Value width value) = record { kind = 3; first = value; second = byte_count width; third = 0; root = 0 }
answer_numbers (Faulted fault) = fault_numbers fault
answer_numbers (Refused errno) = of_kind 5 (errno_number errno)
answer_numbers (Stalled stall) = of_kind 6 (stall_number stall)
answer_numbers Halted = of_kind 7 0

-- the same, and the frame of a root table
abbrev pub of_answer : Answer → ℕ → ReplyNumbers
of_answer answer root =
    let n = answer_numbers answer in
    record { kind = n.kind; first = n.first; second = n.second; third = n.third; root = root }

abbrev pub numbers_of : Response → ReplyNumbers
numbers_of Malformed = of_kind 8 0
numbers_of (Answered (Some answer) root) = of_answer answer root
numbers_of (Answered None root) = of_kind 9 0

-- the numbers one behind the other, each of eight bytes with the low one first
abbrev pub number_bytes : ReplyNumbers → List ℕ
number_bytes n = little_bytes 8 n.kind ++ little_bytes 8 n.first ++ little_bytes 8 n.second ++ little_bytes 8 n.third ++ little_bytes 8 n.root

abbrev pub response_bytes : Response → List ℕ
response_bytes response = number_bytes (numbers_of response)
