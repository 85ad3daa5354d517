-- The texts of replies, each a line that a newline ends: our own. The numbers and names of errors are those of errno(3),
-- the names of faults those of sigaction(2), si_code.
use Rattle.std.specs.Prelude.{◌≡◌, ℕ, zero, suc, ◌*◌, ◌/◌, ◌%◌, false, List, [], ◌∷◌, ◌++◌, codes, decimal, flat_map, length, replicate, refl}
use Rattle.std.specs.Fmt.{digits, digit_glyph}
use Rattle.vm_types.specs.Refusal.{errno_number, stall_number}
use Rattle.vm_types.specs.Width.{byte_count}
use Rattle.vm_types.specs.declared.refusal.Code.{Code}
use Rattle.vm_types.specs.declared.refusal.Code.TheVariants.{BusAdraln, SegvMaperr, SegvAccerr, BusAdrerr}
use Rattle.vm_types.specs.declared.refusal.Errno.{Errno}
use Rattle.vm_types.specs.declared.refusal.Errno.TheVariants.{ESRCH, EIO, EBADF, EAGAIN, ENOMEM, EACCES, EEXIST, EINVAL, EFBIG, ENOSPC, EOVERFLOW}
use Rattle.vm_types.specs.declared.refusal.Fault.{Fault}
use Rattle.vm_types.specs.declared.refusal.Stall.{Stall}
use Rattle.vm_types.specs.declared.refusal.Stall.TheVariants.{NoFrames, NoSwap, SwapDevice, StoreDevice}
use Rattle.vm_types.specs.declared.reply.Reply.{Reply}
use Rattle.vm_types.specs.declared.reply.Reply.TheVariants.{Process, Address, Done, Value, Faulted, Refused, Stalled, Halted, Past}
use Rattle.vm_types.specs.declared.width.Width.TheVariants.{Two, Eight}

-- 0x and the hexadecimal digits, in lower case and with no leading zeros; zero is 0x0
abbrev pub hexadecimal : ℕ → List ℕ
hexadecimal n = codes "0x" ++ digits 16 false n

-- the last k hexadecimal digits of a number, in lower case
abbrev pub hex_digits : ℕ → ℕ → List ℕ
hex_digits zero n = []
hex_digits (suc k) n = hex_digits k (n / 16) ++ digit_glyph false (n % 16) ∷ []

abbrev pub errno_name : Errno → List ℕ
errno_name ESRCH = codes "ESRCH"
errno_name EIO = codes "EIO"
errno_name EBADF = codes "EBADF"
errno_name EAGAIN = codes "EAGAIN"
errno_name ENOMEM = codes "ENOMEM"
errno_name EACCES = codes "EACCES"
errno_name EEXIST = codes "EEXIST"
errno_name EINVAL = codes "EINVAL"
errno_name EFBIG = codes "EFBIG"
errno_name ENOSPC = codes "ENOSPC"
errno_name EOVERFLOW = codes "EOVERFLOW"

-- our own
abbrev pub stall_name : Stall → List ℕ
stall_name NoFrames = codes "NOFRAMES"
stall_name NoSwap = codes "NOSWAP"
stall_name SwapDevice = codes "SWAPDEV"
stall_name StoreDevice = codes "STOREDEV"

abbrev pub code_name : Code → List ℕ
code_name BusAdraln = codes "BUS_ADRALN"
code_name SegvMaperr = codes "SEGV_MAPERR"
code_name SegvAccerr = codes "SEGV_ACCERR"
code_name BusAdrerr = codes "BUS_ADRERR"

-- the exception code, the reason and the address
abbrev pub fault_text : Fault → List ℕ
fault_text fault = decimal fault.cause ++ codes " " ++ code_name fault.code ++ codes " " ++ hexadecimal fault.addr

-- a line of the history: the process, and its fault
abbrev pub past_line : ℕ × Fault → List ℕ
past_line past = codes "\npast " ++ decimal past.0 ++ codes " " ++ fault_text past.1

-- the words of a reply; those of a history are of several lines
abbrev pub words_of_reply : Reply → List ℕ
words_of_reply (Process pid) = codes "pid " ++ decimal pid
words_of_reply (Address addr) = codes "addr " ++ hexadecimal addr
words_of_reply Done = codes "ok"
words_of_reply (Value width value) = codes "value 0x" ++ hex_digits (2 * byte_count width) value
words_of_reply (Faulted fault) = codes "fault " ++ fault_text fault
words_of_reply (Refused errno) = codes "error " ++ decimal (errno_number errno) ++ codes " " ++ errno_name errno
words_of_reply (Stalled stall) = codes "stall " ++ decimal (stall_number stall) ++ codes " " ++ stall_name stall
words_of_reply Halted = codes "halted"
words_of_reply (Past faults) = codes "faults " ++ decimal (length faults) ++ flat_map past_line faults

-- the text of a reply, with the newline that ends it
abbrev pub text_of : Reply → List ℕ
text_of reply = words_of_reply reply ++ codes "\n"

-- the text that answers a line in no form, with its newline
abbrev pub bad_line_text : List ℕ
bad_line_text = codes "bad line\n"

-- texts of replies, computed
pub fault_row : text_of (Faulted record { cause = 13; code = SegvMaperr; addr = 0xffffffc000000000 }) ≡ codes "fault 13 SEGV_MAPERR 0xffffffc000000000\n"
unfolding digits
fault_row = refl

pub zero_row : text_of (Faulted record { cause = 15; code = SegvAccerr; addr = 0 }) ≡ codes "fault 15 SEGV_ACCERR 0x0\n"
unfolding digits
zero_row = refl

pub value_row : text_of (Value Two 0x5566) ≡ codes "value 0x5566\n"
value_row = refl

pub wide_row : text_of (Value Eight 0xab) ≡ codes "value 0x00000000000000ab\n"
wide_row = refl

pub refusal_row : text_of (Refused ENOSPC) ≡ codes "error 28 ENOSPC\n"
unfolding digits
refusal_row = refl

pub large_row : text_of (Refused EFBIG) ≡ codes "error 27 EFBIG\n"
unfolding digits
large_row = refl

pub stall_row : text_of (Stalled StoreDevice) ≡ codes "stall 4 STOREDEV\n"
unfolding digits
stall_row = refl

pub history_row : text_of (Past ((1, record { cause = 13; code = SegvMaperr; addr = 0 }) ∷ (1, record { cause = 6; code = BusAdraln; addr = 0x20001 }) ∷ []))
    ≡ codes "faults 2\npast 1 13 SEGV_MAPERR 0x0\npast 1 6 BUS_ADRALN 0x20001\n"
unfolding digits
history_row = refl

pub no_history_row : text_of (Past []) ≡ codes "faults 0\n"
unfolding digits
no_history_row = refl

abbrev pub longest : List (ℕ × Fault)
longest = replicate 16 (64, record { cause = 13; code = SegvMaperr; addr = 0xffffffffffffffff })

-- the longest text of a history
pub longest_row : length (text_of (Past longest)) ≡ 682
unfolding digits
longest_row = refl
