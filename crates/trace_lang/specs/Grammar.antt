-- Which line stands for which command: our own language, one case for each form of a line.
use Rattle.std.specs.Prelude.{◌≡◌, ℕ, ◌+◌, ◌*◌, ◌^◌, ◌<◌, ◌≤◌, ◌⊎◌, ◌≢◌, Bool, List, [], ◌∷◌, ◌++◌, length, codes, All, if◌then◌else◌}
use Rattle.std.specs.List.{join_with_byte}
use Rattle.std.specs.Str.Parse.{IsNumeral, digits_value}
use Rattle.vm_types.specs.Permission.{with_bits}
use Rattle.vm_types.specs.Width.{byte_count}
use Rattle.vm_types.specs.declared.command.Command.{Command}
use Rattle.vm_types.specs.declared.command.Command.TheVariants.{Spawn, Fork, Exit, Mmap, Munmap, Mprotect, Dontneed, Msync, Truncate, Load, Store, Fetch, PastFaults}
use Rattle.vm_types.specs.declared.command.MapSource.{MapSource}
use Rattle.vm_types.specs.declared.command.MapSource.TheVariants.{Anon, Private, Shared, Common}
use Rattle.vm_types.specs.declared.command.MsyncMode.{MsyncMode}
use Rattle.vm_types.specs.declared.command.MsyncMode.TheVariants.{Sync, Async}
use Rattle.vm_types.specs.declared.command.Placing.{Placing}
use Rattle.vm_types.specs.declared.command.Placing.TheVariants.{Hint, Fixed, NoReplace}
use Rattle.vm_types.specs.declared.permission.Prot.{Prot}
use Rattle.vm_types.specs.declared.width.Width.{Width}

-- one decimal digit or more
abbrev pub IsDecimal : List ℕ → ℕ → Type 0
IsDecimal text n = IsNumeral 10 text × (digits_value 10 text ≡ n)

-- 0x, and one hexadecimal digit of either case or more
abbrev pub IsHexadecimal : List ℕ → ℕ → Type 0
IsHexadecimal text n = (digits : List ℕ) × (text ≡ codes "0x" ++ digits) × IsNumeral 16 digits × (digits_value 16 digits ≡ n)

-- the text writes the number, which fits 64 bits; leading zeros change nothing
pub record IsNumber (text : List ℕ) (n : ℕ) : Type 0 where
  pub written : IsDecimal text n ⊎ IsHexadecimal text n
  pub fits : n < 2 ^ 64

-- a letter where the permission is given, and a dash where it isn't
abbrev pub letter_or_dash : ℕ → Bool → ℕ
letter_or_dash letter given = if given then letter else 45

-- three characters: r or a dash, w or a dash, x or a dash
abbrev pub IsPermission : List ℕ → Prot → Type 0
IsPermission text prot =
    (read write execute : Bool) × (text ≡ letter_or_dash 114 read ∷ letter_or_dash 119 write ∷ letter_or_dash 120 execute ∷ [])
    × (prot ≡ with_bits ((if read then 1 else 0) + (if write then 2 else 0) + (if execute then 4 else 0)))

-- 1, 2, 4 or 8, as a number
abbrev pub IsWidth : List ℕ → Width → Type 0
IsWidth text width = IsNumber text (byte_count width)

abbrev pub IsMode : List ℕ → MsyncMode → Type 0
IsMode text Sync = text ≡ codes "sync"
IsMode text Async = text ≡ codes "async"

-- the words that say what a mapping is to stand on
abbrev pub IsSource : List (List ℕ) → MapSource → Type 0
IsSource words Anon = words ≡ codes "anon" ∷ []
IsSource words Common = words ≡ codes "common" ∷ []
IsSource words (Private file offset) =
    (f o : List ℕ) × (words ≡ codes "private" ∷ f ∷ o ∷ []) × IsNumber f file × IsNumber o offset
IsSource words (Shared file offset) =
    (f o : List ℕ) × (words ≡ codes "shared" ∷ f ∷ o ∷ []) × IsNumber f file × IsNumber o offset

-- the words at the end of a mapping, which say how firmly its address is asked for: none, MAP_FIXED or
-- MAP_FIXED_NOREPLACE (mmap(2))
abbrev pub IsPlacing : List (List ℕ) → Placing → Type 0
IsPlacing words Hint = words ≡ []
IsPlacing words Fixed = words ≡ codes "fixed" ∷ []
IsPlacing words NoReplace = words ≡ codes "noreplace" ∷ []

-- the words behind the permission of a mapping: what it is to stand on, and then how firmly its address is asked for
abbrev pub IsBack : List (List ℕ) → MapSource → Placing → Type 0
IsBack words source placing = (s e : List (List ℕ)) × (words ≡ s ++ e) × IsSource s source × IsPlacing e placing

-- the words of a line that stand for the command
abbrev pub IsForm : List (List ℕ) → Command → Type 0
IsForm words Spawn = words ≡ codes "spawn" ∷ []
IsForm words (Fork pid) = (p : List ℕ) × (words ≡ codes "fork" ∷ p ∷ []) × IsNumber p pid
IsForm words (Exit pid) = (p : List ℕ) × (words ≡ codes "exit" ∷ p ∷ []) × IsNumber p pid
IsForm words (Mmap pid addr len prot source placing) =
    (p a l t : List ℕ) × (b : List (List ℕ)) × (words ≡ codes "mmap" ∷ p ∷ a ∷ l ∷ t ∷ b)
    × IsNumber p pid × IsNumber a addr × IsNumber l len × IsPermission t prot × IsBack b source placing
IsForm words (Munmap pid addr len) =
    (p a l : List ℕ) × (words ≡ codes "munmap" ∷ p ∷ a ∷ l ∷ [])
    × IsNumber p pid × IsNumber a addr × IsNumber l len
IsForm words (Mprotect pid addr len prot) =
    (p a l t : List ℕ) × (words ≡ codes "mprotect" ∷ p ∷ a ∷ l ∷ t ∷ [])
    × IsNumber p pid × IsNumber a addr × IsNumber l len × IsPermission t prot
IsForm words (Dontneed pid addr len) =
    (p a l : List ℕ) × (words ≡ codes "dontneed" ∷ p ∷ a ∷ l ∷ [])
    × IsNumber p pid × IsNumber a addr × IsNumber l len
IsForm words (Msync pid addr len mode) =
    (p a l m : List ℕ) × (words ≡ codes "msync" ∷ p ∷ a ∷ l ∷ m ∷ [])
    × IsNumber p pid × IsNumber a addr × IsNumber l len × IsMode m mode
IsForm words (Truncate file length) =
    (f l : List ℕ) × (words ≡ codes "truncate" ∷ f ∷ l ∷ []) × IsNumber f file × IsNumber l length
IsForm words (Load pid addr width) =
    (p a w : List ℕ) × (words ≡ codes "load" ∷ p ∷ a ∷ w ∷ [])
    × IsNumber p pid × IsNumber a addr × IsWidth w width
IsForm words (Store pid addr stored) =
    (p a w v : List ℕ) × (words ≡ codes "store" ∷ p ∷ a ∷ w ∷ v ∷ [])
    × IsNumber p pid × IsNumber a addr × IsWidth w stored.width × IsNumber v stored.value
    × (stored.value < 2 ^ (8 * byte_count stored.width))
IsForm words (Fetch pid addr) =
    (p a : List ℕ) × (words ≡ codes "fetch" ∷ p ∷ a ∷ []) × IsNumber p pid × IsNumber a addr
IsForm words PastFaults = words ≡ codes "faults" ∷ []

-- no space stands in it
abbrev pub HasNoSpace : List ℕ → Type 0
HasNoSpace word = All (λ b. b ≢ 32) word

-- The words are parted by exactly one space each. At two spaces, or a space at either end, one of them is empty, and
-- no form has an empty word.
pub record IsWords (line : List ℕ) (words : List (List ℕ)) : Type 0 where
  pub joined : line ≡ join_with_byte 32 words
  pub each : All HasNoSpace words

-- The line stands for the command. A line of more than 256 bytes stands for none.
pub record IsCommand (line : List ℕ) (command : Command) : Type 0 where
  pub short : length line ≤ 256
  pub words : List (List ℕ)
  pub parted : IsWords line words
  pub form : IsForm words command
