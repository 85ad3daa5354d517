-- What a run of commands leaves durable after the first of its msyncs, each taken whole.
-- Park, Kelly and Shen, Failure-Atomic msync, EuroSys 2013.
use Rattle.std.specs.Prelude.{ℕ, zero, suc, ◌≤◌, ◌≡◌, Bool, true, false, if◌then◌else◌, List, [], ◌∷◌}
use Rattle.vm_types.specs.declared.command.Command.{Command}
use Rattle.vm_types.specs.declared.command.Command.TheVariants.{Spawn, Fork, Exit, Mmap, Munmap, Mprotect, Dontneed, Msync, Truncate, Load, Store, Fetch, PastFaults}
use Rattle.vm_types.specs.declared.refusal.Errno.{Errno}
use Rattle.vm_types.specs.declared.refusal.Errno.TheVariants.{ESRCH, EIO, EBADF, EAGAIN, ENOMEM, EACCES, EEXIST, EINVAL, EFBIG, ENOSPC, EOVERFLOW}
use Rattle.vm_types.specs.declared.reply.Reply.{Reply}
use Rattle.vm_types.specs.declared.reply.Reply.TheVariants.{Process, Address, Done, Value, Faulted, Refused, Stalled, Halted, Past}
use Rattle.vm_types.specs.State.{State}
use Rattle.vm_types.specs.Step.{ruling, takes}
use Rattle.vm_types.specs.Files.{Contents}

-- A command as it was answered, and the state before it.
pub record Event : Type 0 where
  pub state : State
  pub command : Command
  pub reply : Reply

abbrev pub is_msync : Command → Bool
is_msync (Msync pid addr len mode) = true
is_msync Spawn = false
is_msync (Fork pid) = false
is_msync (Exit pid) = false
is_msync (Mmap pid addr len prot source placing) = false
is_msync (Munmap pid addr len) = false
is_msync (Mprotect pid addr len prot) = false
is_msync (Load pid addr width) = false
is_msync (Store pid addr value) = false
is_msync (Fetch pid addr) = false
is_msync (Dontneed pid addr len) = false
is_msync (Truncate file length) = false
is_msync PastFaults = false

abbrev pub is_io_error : Errno → Bool
is_io_error EIO = true
is_io_error ESRCH = false
is_io_error EBADF = false
is_io_error EAGAIN = false
is_io_error ENOMEM = false
is_io_error EACCES = false
is_io_error EEXIST = false
is_io_error EINVAL = false
is_io_error EFBIG = false
is_io_error ENOSPC = false
is_io_error EOVERFLOW = false

abbrev pub is_done : Reply → Bool
is_done Done = true
is_done (Process pid) = false
is_done (Address addr) = false
is_done (Value width value) = false
is_done (Faulted fault) = false
is_done (Refused errno) = false
is_done (Stalled stall) = false
is_done Halted = false
is_done (Past past) = false

-- whether an msync so answered may have made pages durable
abbrev pub may_have_taken : Reply → Bool
may_have_taken Done = true
may_have_taken (Refused errno) = is_io_error errno
may_have_taken (Process pid) = false
may_have_taken (Address addr) = false
may_have_taken (Value width value) = false
may_have_taken (Faulted fault) = false
may_have_taken (Stalled stall) = false
may_have_taken Halted = false
may_have_taken (Past past) = false

-- what files hold with this command taken as done, whole
abbrev pub after_event : Event → Contents → Contents
after_event event before =
    if may_have_taken event.reply then takes event.state (ruling event.state event.command) before else before

-- what files hold with the first i msyncs of the events taken as done
abbrev pub after_msyncs : Contents → List Event → ℕ → Contents
after_msyncs before [] i = before
after_msyncs before (event ∷ events) zero = before
after_msyncs before (event ∷ events) (suc i) =
    if is_msync event.command then after_msyncs (after_event event before) events i
    else after_msyncs before events (suc i)

-- an acknowledged msync itself, where none after it is
abbrev pub this_or_further : Event → ℕ → ℕ
this_or_further event zero = if is_done event.reply then 1 else 0
this_or_further event (suc place) = suc (suc place)

-- the place among the msyncs, counted from 1, of the last that was acknowledged among the first k events; 0 where none was
abbrev pub acknowledged : List Event → ℕ → ℕ
acknowledged [] k = 0
acknowledged (event ∷ events) zero = 0
acknowledged (event ∷ events) (suc k) =
    if is_msync event.command then this_or_further event (acknowledged events k) else acknowledged events k

-- The files hold what the first i msyncs left, each whole, and i holds each that was acknowledged among the first k events.
pub record IsPrefixHolding (before : Contents) (events : List Event) (k : ℕ) (contents : Contents) : Type 0 where
  pub i : ℕ
  pub holds : acknowledged events k ≤ i
  pub same : contents ≡ after_msyncs before events i
