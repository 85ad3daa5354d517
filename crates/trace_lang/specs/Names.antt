-- The names of commands, as the parser holds them.
use Rattle.std.specs.Prelude.{◌≡◌, ℕ, List, ◌∷◌, Option, Some, IfSome, codes}
use Rattle.trace_lang.specs.Grammar.{IsForm, IsNumber, IsPlacing}
use Rattle.trace_lang.specs.declared.names.Name.{Name}
use Rattle.trace_lang.specs.declared.names.Name.TheVariants.{Spawn, Fork, Exit, Mmap, Munmap, Mprotect, Dontneed, Msync, Truncate, Load, Store, Fetch, Faults}
use Rattle.trace_lang.specs.declared.names.SourceName.{SourceName}
use Rattle.trace_lang.specs.declared.names.SourceName.TheVariants as source
use Rattle.vm_types.specs.declared.command.Command.{Command}
use Rattle.vm_types.specs.declared.command.MapSource.{MapSource}
use Rattle.vm_types.specs.declared.command.MapSource.TheVariants as map
use Rattle.vm_types.specs.declared.command.Placing.{Placing}

abbrev pub name_text : Name → List ℕ
name_text Spawn = codes "spawn"
name_text Fork = codes "fork"
name_text Exit = codes "exit"
name_text Mmap = codes "mmap"
name_text Munmap = codes "munmap"
name_text Mprotect = codes "mprotect"
name_text Dontneed = codes "dontneed"
name_text Msync = codes "msync"
name_text Truncate = codes "truncate"
name_text Load = codes "load"
name_text Store = codes "store"
name_text Fetch = codes "fetch"
name_text Faults = codes "faults"

-- what is read of a word is the name that it is, and None exactly where it is none
pub record SaysName (word : List ℕ) (read : Option Name) : Type 0 where
  pub found : IfSome read (λ name. word ≡ name_text name)
  pub only : (name : Name) → word ≡ name_text name → read ≡ Some name

-- what is read of the words of a line is the command that they stand for, and None exactly where they are in no form
pub record ReadsWords (words : List (List ℕ)) (read : Option Command) : Type 0 where
  pub found : IfSome read (λ command. IsForm words command)
  pub only : (command : Command) → IsForm words command → read ≡ Some command

abbrev pub source_text : SourceName → List ℕ
source_text source.Anon = codes "anon"
source_text source.Common = codes "common"
source_text source.Private = codes "private"
source_text source.Shared = codes "shared"

-- what is read of a word is the source that it names, and None exactly where it names none
pub record SaysSource (word : List ℕ) (read : Option SourceName) : Type 0 where
  pub found : IfSome read (λ name. word ≡ source_text name)
  pub only : (name : SourceName) → word ≡ source_text name → read ≡ Some name

-- the words after the name of a file's pages: the file, where in it, and how firmly the address is asked for
abbrev pub IsInFile : List (List ℕ) → ℕ → ℕ → Placing → Type 0
IsInFile words file offset placing =
    (f o : List ℕ) × (e : List (List ℕ)) × (words ≡ f ∷ o ∷ e) × IsNumber f file × IsNumber o offset × IsPlacing e placing

-- what is read of the words after a source's name is all that they can say
abbrev pub ReadsAfter : SourceName → List (List ℕ) → Option (MapSource × Placing) → Type 0
ReadsAfter source.Anon words read = (placing : Placing) → IsPlacing words placing → read ≡ Some (map.Anon, placing)
ReadsAfter source.Common words read = (placing : Placing) → IsPlacing words placing → read ≡ Some (map.Common, placing)
ReadsAfter source.Private words read =
    (file offset : ℕ) (placing : Placing) → IsInFile words file offset placing → read ≡ Some (map.Private file offset, placing)
ReadsAfter source.Shared words read =
    (file offset : ℕ) (placing : Placing) → IsInFile words file offset placing → read ≡ Some (map.Shared file offset, placing)
