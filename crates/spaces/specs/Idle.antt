-- What replies and commands say of devices and frames: which leave both devices alone, which name a failure of the store or of
-- swap, and which refused a frame. Our own.
use Rattle.std.specs.Prelude.{ℕ, Bool, true, false, not, if◌then◌else◌, is_some}
use Rattle.vm_types.specs.declared.command.Command.{Command}
use Rattle.vm_types.specs.declared.command.Command.TheVariants.{Spawn, Fork, Exit, Mmap, Munmap, Mprotect, Dontneed, Msync, Truncate, Load, Store, Fetch, PastFaults}
use Rattle.vm_types.specs.declared.refusal.Stall.{Stall}
use Rattle.vm_types.specs.declared.refusal.Stall.TheVariants.{NoFrames, NoSwap, SwapDevice, StoreDevice}
use Rattle.vm_types.specs.declared.reply.Reply.{Reply}
use Rattle.vm_types.specs.declared.reply.Reply.TheVariants.{Process, Address, Done, Value, Faulted, Refused, Stalled, Halted, Past}
use Rattle.vm_types.specs.Prefix.{is_io_error}
use Rattle.vm_types.specs.State.{State}
use Rattle.vm_types.specs.Step.{commits}

-- whether a command may ask a device: it needs a frame, which may have to be freed, or a file page, or makes pages or lengths durable
abbrev pub may_ask : State → Command → Bool
may_ask s Spawn = true
may_ask s (Fork pid) = true
may_ask s (Exit pid) = false
may_ask s (Mmap pid addr len prot source placing) = false
may_ask s (Munmap pid addr len) = false
may_ask s (Mprotect pid addr len prot) = false
may_ask s (Dontneed pid addr len) = false
may_ask s (Msync pid addr len mode) = is_some (commits s (Msync pid addr len mode))
may_ask s (Truncate file length) = true
may_ask s (Load pid addr width) = true
may_ask s (Store pid addr value) = true
may_ask s (Fetch pid addr) = true
may_ask s PastFaults = false

-- whether a reply tells that the command was not begun: a call was refused, an access faulted, or the machine has halted
abbrev pub is_denial : Reply → Bool
is_denial (Refused errno) = not (is_io_error errno)
is_denial (Faulted fault) = true
is_denial Halted = true
is_denial (Process pid) = false
is_denial (Address addr) = false
is_denial Done = false
is_denial (Value width value) = false
is_denial (Stalled stall) = false
is_denial (Past past) = false

-- whether a command that returns this asked no device
abbrev pub is_idle : State → Command → Reply → Bool
is_idle s command reply = if may_ask s command then is_denial reply else true

-- whether a command that stalls so names a failure of the store's device
abbrev pub stalls_store : Stall → Bool
stalls_store NoFrames = false
stalls_store NoSwap = false
stalls_store SwapDevice = false
stalls_store StoreDevice = true

-- whether a reply names one: an msync returned EIO, or a command stalled for that device
abbrev pub names_store : Reply → Bool
names_store (Refused errno) = is_io_error errno
names_store (Stalled stall) = stalls_store stall
names_store (Process pid) = false
names_store (Address addr) = false
names_store Done = false
names_store (Value width value) = false
names_store (Faulted fault) = false
names_store Halted = false
names_store (Past past) = false

-- whether a command that stalls so names a failure of the swap device
abbrev pub stalls_swap : Stall → Bool
stalls_swap NoFrames = false
stalls_swap NoSwap = false
stalls_swap SwapDevice = true
stalls_swap StoreDevice = false

-- whether a reply names one
abbrev pub names_swap : Reply → Bool
names_swap (Stalled stall) = stalls_swap stall
names_swap (Process pid) = false
names_swap (Address addr) = false
names_swap Done = false
names_swap (Value width value) = false
names_swap (Faulted fault) = false
names_swap (Refused errno) = false
names_swap Halted = false
names_swap (Past past) = false

-- how many requests for a frame were refused where a command stalls so
abbrev pub refused_by : Stall → ℕ
refused_by NoFrames = 1
refused_by NoSwap = 1
refused_by SwapDevice = 0
refused_by StoreDevice = 0

-- how many requests for a frame were refused where a command returns this
abbrev pub refused_count : Reply → ℕ
refused_count (Stalled stall) = refused_by stall
refused_count (Process pid) = 0
refused_count (Address addr) = 0
refused_count Done = 0
refused_count (Value width value) = 0
refused_count (Faulted fault) = 0
refused_count (Refused errno) = 0
refused_count Halted = 0
refused_count (Past past) = 0
