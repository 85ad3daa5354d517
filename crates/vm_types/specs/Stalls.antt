-- When a command may stall: it would succeed, but memory or a device is wanting. Our own choice.
use Rattle.std.specs.Prelude.{◌≡◌, Bool, true, false, is_some}
use Rattle.vm_types.specs.declared.command.Command.{Command}
use Rattle.vm_types.specs.declared.command.Command.TheVariants.{Spawn, Fork, Exit, Mmap, Munmap, Mprotect, Dontneed, Msync, Truncate, Load, Store, Fetch, PastFaults}
use Rattle.vm_types.specs.declared.refusal.Stall.{Stall}
use Rattle.vm_types.specs.declared.refusal.Stall.TheVariants.{NoFrames, NoSwap, SwapDevice, StoreDevice}
use Rattle.vm_types.specs.declared.reply.Reply.{Reply}
use Rattle.vm_types.specs.declared.reply.Reply.TheVariants.{Process, Address, Done, Value, Faulted, Refused, Stalled, Halted, Past}
use Rattle.vm_types.specs.State.{State}
use Rattle.vm_types.specs.Step.{outcome, commits}

-- What came to pass in a call besides its reply: the store device failed, the swap device failed, a request for a frame was refused, or the store
-- had no room for the lengths and pages that an msync would make durable.
pub record Causes : Type 1 where
  pub store : Type 0
  pub swap : Type 0
  pub refused : Type 0
  pub room : Type 0

-- whether a reply tells of success
abbrev pub is_success : Reply → Bool
is_success (Process pid) = true
is_success (Address addr) = true
is_success Done = true
is_success (Value width value) = true
is_success (Faulted fault) = false
is_success (Refused errno) = false
is_success (Stalled stall) = false
is_success Halted = false
is_success (Past past) = true

-- whether a command needs frames
abbrev pub needs_frames : Command → Bool
needs_frames Spawn = true
needs_frames (Fork pid) = true
needs_frames (Exit pid) = false
needs_frames (Mmap pid addr len prot source placing) = false
needs_frames (Munmap pid addr len) = false
needs_frames (Mprotect pid addr len prot) = false
needs_frames (Msync pid addr len mode) = false
needs_frames (Load pid addr width) = true
needs_frames (Store pid addr value) = true
needs_frames (Fetch pid addr) = true
needs_frames (Dontneed pid addr len) = false
needs_frames (Truncate file length) = true
needs_frames PastFaults = false

-- whether a command may read a file page from the store
abbrev pub reads_files : Command → Bool
reads_files Spawn = false
reads_files (Fork pid) = false
reads_files (Exit pid) = false
reads_files (Mmap pid addr len prot source placing) = false
reads_files (Munmap pid addr len) = false
reads_files (Mprotect pid addr len prot) = false
reads_files (Msync pid addr len mode) = false
reads_files (Load pid addr width) = true
reads_files (Store pid addr value) = true
reads_files (Fetch pid addr) = true
reads_files (Dontneed pid addr len) = false
reads_files (Truncate file length) = true
reads_files PastFaults = false

-- whether a command may read the swap device
abbrev pub reads_swap : State → Command → Bool
reads_swap s Spawn = true
reads_swap s (Fork pid) = true
reads_swap s (Exit pid) = false
reads_swap s (Mmap pid addr len prot source placing) = false
reads_swap s (Munmap pid addr len) = false
reads_swap s (Mprotect pid addr len prot) = false
reads_swap s (Msync pid addr len mode) = is_some (commits s (Msync pid addr len mode))
reads_swap s (Load pid addr width) = true
reads_swap s (Store pid addr value) = true
reads_swap s (Fetch pid addr) = true
reads_swap s (Dontneed pid addr len) = false
reads_swap s (Truncate file length) = true
reads_swap s PastFaults = false

-- whether that stall may come of that command
abbrev pub is_open_to : State → Command → Stall → Bool
is_open_to s command NoFrames = needs_frames command
is_open_to s command NoSwap = needs_frames command
is_open_to s command SwapDevice = reads_swap s command
is_open_to s command StoreDevice = reads_files command

-- what a stall comes from
abbrev pub cause_of : Causes → Stall → Type 0
cause_of causes NoFrames = causes.refused
cause_of causes NoSwap = causes.refused
cause_of causes SwapDevice = causes.swap
cause_of causes StoreDevice = causes.store

pub record MayStall (causes : Causes) (s : State) (command : Command) (stall : Stall) : Type 0 where
  pub otherwise : is_success (outcome s command).reply ≡ true
  pub open_to : is_open_to s command stall ≡ true
  pub cause : cause_of causes stall
