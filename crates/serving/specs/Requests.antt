-- What nine numbers ask for.
use Rattle.std.specs.Prelude.{◌≡◌, ℕ, ◌==◌, nat_lt, if◌then◌else◌, List, drop, Option, Some, None}
use Rattle.std.specs.Option.{option_and_then, option_map}
use Rattle.byteorder.specs.Endian.{little_number}
use Rattle.vm_types.specs.Permission.{with_bits}
use Rattle.vm_types.specs.declared.command.Command.{Command}
use Rattle.vm_types.specs.declared.command.Command.TheVariants.{Spawn, Fork, Exit, Mmap, Munmap, Mprotect, Dontneed, Msync, Truncate, Load, Fetch}
use Rattle.vm_types.specs.declared.command.MapSource.{MapSource}
use Rattle.vm_types.specs.declared.command.MapSource.TheVariants.{Anon, Common, Private, Shared}
use Rattle.vm_types.specs.declared.command.MsyncMode.{MsyncMode}
use Rattle.vm_types.specs.declared.command.MsyncMode.TheVariants.{Sync, Async}
use Rattle.vm_types.specs.declared.command.Placing.{Placing}
use Rattle.vm_types.specs.declared.command.Placing.TheVariants.{Hint, Fixed, NoReplace}
use Rattle.vm_types.specs.declared.permission.Prot.{Prot}
use Rattle.vm_types.specs.declared.width.Width.{Width}
use Rattle.vm_types.specs.declared.width.Width.TheVariants.{One, Two, Four, Eight}
use Rattle.serving.specs.declared.numbers.RequestNumbers.{RequestNumbers}
use Rattle.serving.specs.declared.requests.Request.{Request}
use Rattle.serving.specs.declared.requests.Request.TheVariants.{Carry, Touch}

-- The bytes are these numbers, one behind the other, each of eight with the low one first.
pub record HoldsNumbers (bytes : List ℕ) (n : RequestNumbers) : Type 0 where
  pub kind : n.kind ≡ little_number 8 (drop 0 bytes)
  pub pid : n.pid ≡ little_number 8 (drop 8 bytes)
  pub addr : n.addr ≡ little_number 8 (drop 16 bytes)
  pub len : n.len ≡ little_number 8 (drop 24 bytes)
  pub prot : n.prot ≡ little_number 8 (drop 32 bytes)
  pub source : n.source ≡ little_number 8 (drop 40 bytes)
  pub value : n.value ≡ little_number 8 (drop 48 bytes)
  pub offset : n.offset ≡ little_number 8 (drop 56 bytes)
  pub placing : n.placing ≡ little_number 8 (drop 64 bytes)

abbrev pub permission_of : ℕ → Option Prot
permission_of n = if nat_lt n 8 then Some (with_bits n) else None

abbrev pub width_of : ℕ → Option Width
width_of n =
    if n == 1 then Some One
    else (if n == 2 then Some Two
    else (if n == 4 then Some Four
    else (if n == 8 then Some Eight
    else None)))

abbrev pub placing_of : ℕ → Option Placing
placing_of n =
    if n == 0 then Some Hint
    else (if n == 1 then Some Fixed
    else (if n == 2 then Some NoReplace
    else None))

abbrev pub source_of : RequestNumbers → Option MapSource
source_of n =
    if n.source == 0 then Some Anon
    else (if n.source == 1 then Some Common
    else (if n.source == 2 then Some (Private n.value n.offset)
    else (if n.source == 3 then Some (Shared n.value n.offset)
    else None)))

abbrev pub mapping_of : RequestNumbers → Option Command
mapping_of n =
    option_and_then (λ prot. option_and_then (λ source. option_map (λ placing. Mmap n.pid n.addr n.len prot source placing) (placing_of n.placing)) (source_of n)) (permission_of n.prot)

abbrev pub protection_of : RequestNumbers → Option Command
protection_of n = option_map (λ prot. Mprotect n.pid n.addr n.len prot) (permission_of n.prot)

abbrev pub sync_of : RequestNumbers → MsyncMode → Option Command
sync_of n mode = Some (Msync n.pid n.addr n.len mode)

abbrev pub load_of : RequestNumbers → Option Command
load_of n = option_map (λ width. Load n.pid n.addr width) (width_of n.len)

-- the command of each kind
abbrev pub command_of : RequestNumbers → Option Command
command_of n =
    if n.kind == 0 then Some Spawn
    else (if n.kind == 1 then Some (Fork n.pid)
    else (if n.kind == 2 then Some (Exit n.pid)
    else (if n.kind == 3 then mapping_of n
    else (if n.kind == 4 then Some (Munmap n.pid n.addr n.len)
    else (if n.kind == 5 then protection_of n
    else (if n.kind == 6 then Some (Dontneed n.pid n.addr n.len)
    else (if n.kind == 7 then sync_of n Sync
    else (if n.kind == 8 then sync_of n Async
    else (if n.kind == 9 then load_of n
    else (if n.kind == 10 then Some (Fetch n.pid n.addr)
    else (if n.kind == 12 then Some (Truncate n.value n.len)
    else None)))))))))))

-- what is asked for: a command, or, by the kind 11, that a page may be stored to
abbrev pub request_of : RequestNumbers → Option Request
request_of n = if n.kind == 11 then Some (Touch n.pid n.addr) else option_map (λ command. Carry command) (command_of n)
