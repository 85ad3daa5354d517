-- The words of a line stand for one command at most, whose name the first word is.
use Rattle.{std.proofs.Common.{◌≡◌, ℕ, List, [], Option, None, get_or, subst, sym, ◌∙◌, ap}, trace_lang.{proofs.OneName.{Each, same_name}, specs.{Grammar.{IsForm}, Names.{name_text, ReadsWords}, declared.names.Name.{Name}}}}
use Rattle.vm_types.specs.declared.command.Command.{Command, TheVariants.{Spawn, Fork, Exit, Mmap, Munmap, Mprotect, Dontneed, Msync, Truncate, Load, Store, Fetch, PastFaults}}
use Rattle.trace_lang.specs.declared.names.Name.TheVariants as name

abbrev pub form_name : Command → Name
form_name Spawn = name.Spawn
form_name (Fork pid) = name.Fork
form_name (Exit pid) = name.Exit
form_name (Mmap pid addr len prot source placing) = name.Mmap
form_name (Munmap pid addr len) = name.Munmap
form_name (Mprotect pid addr len prot) = name.Mprotect
form_name (Dontneed pid addr len) = name.Dontneed
form_name (Msync pid addr len mode) = name.Msync
form_name (Truncate file length) = name.Truncate
form_name (Load pid addr width) = name.Load
form_name (Store pid addr stored) = name.Store
form_name (Fetch pid addr) = name.Fetch
form_name PastFaults = name.Faults

abbrev pub first : List (List ℕ) → List ℕ
first words = get_or words 0 []

-- a form begins with its command's name
pub begins : (ws : List (List ℕ)) (command : Command) → IsForm ws command → first ws ≡ name_text (form_name command)
begins ws Spawn h = ap first h
begins ws (Fork pid) h = ap first h.1
begins ws (Exit pid) h = ap first h.1
begins ws (Mmap pid addr len prot source placing) h = ap first h.5
begins ws (Mprotect pid addr len prot) h = ap first h.4
begins ws (Msync pid addr len mode) h = ap first h.4
begins ws (Truncate file length) h = ap first h.2
begins ws (Store pid addr stored) h = ap first h.4
begins ws (Fetch pid addr) h = ap first h.2
begins ws PastFaults h = ap first h
begins ws command h = ap first h.3

each : (P : Command → Type 0) (command : Command) → Each (form_name command) P → P command
each P (Fork pid) all = all pid
each P (Exit pid) all = all pid
each P (Mmap pid addr len prot source placing) all = all pid addr len prot source placing
each P (Munmap pid addr len) all = all pid addr len
each P (Mprotect pid addr len prot) all = all pid addr len prot
each P (Dontneed pid addr len) all = all pid addr len
each P (Msync pid addr len mode) all = all pid addr len mode
each P (Truncate file length) all = all file length
each P (Load pid addr width) all = all pid addr width
each P (Store pid addr stored) all = all pid addr stored
each P (Fetch pid addr) all = all pid addr
each P command all = all

-- what holds of each command of the name that the first word is
pub at_name : (P : Command → Type 0) (n : Name) (ws : List (List ℕ)) (command : Command) → first ws ≡ name_text n → Each n P → IsForm ws command → P command
at_name P n ws command e all h = each P command (subst (λ m. Each m P) (same_name n (form_name command) (sym e ∙ begins ws command h)) all)

-- nothing was read of words that are in no form
pub unread : (ws : List (List ℕ)) (r : Option Command) → r ≡ None → ((command : Command) → IsForm ws command → ⊥) → ReadsWords ws r
unread ws r e none = subst (λ t. ReadsWords ws t) (sym e) record { found = tt; only = λ command h. absurd (none command h) }

-- nor of words that are in no form of their name
pub none_named : (n : Name) (ws : List (List ℕ)) (r : Option Command) → r ≡ None → first ws ≡ name_text n → Each n (λ command. IsForm ws command → ⊥) → ReadsWords ws r
none_named n ws r e named none = unread ws r e (λ command h. at_name (λ c. IsForm ws c → ⊥) n ws command named none h h)

-- words whose first is no name stand for no command
pub no_command : (ws : List (List ℕ)) (r : Option Command) → r ≡ None → ((n : Name) → first ws ≡ name_text n → ⊥) → ReadsWords ws r
no_command ws r e unnamed = unread ws r e (λ command h. unnamed (form_name command) (begins ws command h))
