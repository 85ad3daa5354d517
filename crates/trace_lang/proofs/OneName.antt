-- A word is one name at most.
use Rattle.{std.proofs.Common.{◌≡◌, ℕ, List, get_or, ◌+◌, ◌*◌, ◌==◌, if◌then◌else◌, refl, sym, ◌∙◌, ap}, trace_lang.specs.{Names.{name_text}, declared.names.Name.{Name, TheVariants.{Spawn, Fork, Exit}}}}
use Rattle.{trace_lang.specs.declared.names.Name.TheVariants.{Mmap, Munmap, Mprotect, Dontneed, Msync, Truncate, Load, Store, Fetch, Faults}, vm_types.specs.declared.{access.StoredValue.{StoredValue}, command.Command.{Command}}}
use Rattle.vm_types.specs.declared.{command.{MapSource.{MapSource}, MsyncMode.{MsyncMode}, Placing.{Placing}}, permission.Prot.{Prot}, width.Width.{Width}}
use Rattle.vm_types.specs.declared.command.Command.TheVariants as command

-- a number of the first two bytes, by which all names differ
abbrev key : List ℕ → ℕ
key text = get_or text 0 0 * 256 + get_or text 1 0

-- the name of a key
abbrev of_key : ℕ → Name
of_key k =
    if k == 29552 then Spawn else if k == 26223 then Fork else if k == 25976 then Exit else if k == 28013 then Mmap
    else if k == 28021 then Munmap else if k == 28016 then Mprotect else if k == 25711 then Dontneed else if k == 28019 then Msync
    else if k == 29810 then Truncate else if k == 27759 then Load else if k == 29556 then Store else if k == 26213 then Fetch else Faults

named : (n : Name) → of_key (key (name_text n)) ≡ n
named Spawn = refl
named n = refl

-- names differ
pub same_name : (a b : Name) → name_text a ≡ name_text b → a ≡ b
same_name a b e = sym (named a) ∙ ap (λ t. of_key (key t)) e ∙ named b

-- what holds of each command of the name
abbrev pub Each : Name → (Command → Type 0) → Type 0
Each Spawn P = P command.Spawn
Each Fork P = (pid : ℕ) → P (command.Fork pid)
Each Exit P = (pid : ℕ) → P (command.Exit pid)
Each Mmap P = (pid addr len : ℕ) (prot : Prot) (source : MapSource) (placing : Placing) → P (command.Mmap pid addr len prot source placing)
Each Munmap P = (pid addr len : ℕ) → P (command.Munmap pid addr len)
Each Mprotect P = (pid addr len : ℕ) (prot : Prot) → P (command.Mprotect pid addr len prot)
Each Dontneed P = (pid addr len : ℕ) → P (command.Dontneed pid addr len)
Each Msync P = (pid addr len : ℕ) (mode : MsyncMode) → P (command.Msync pid addr len mode)
Each Truncate P = (file length : ℕ) → P (command.Truncate file length)
Each Load P = (pid addr : ℕ) (width : Width) → P (command.Load pid addr width)
Each Store P = (pid addr : ℕ) (stored : StoredValue) → P (command.Store pid addr stored)
Each Fetch P = (pid addr : ℕ) → P (command.Fetch pid addr)
Each Faults P = P command.PastFaults
