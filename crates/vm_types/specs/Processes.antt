-- Processes and their numbers. fork(2): EAGAIN where there is no free number; _exit(2).
use Rattle.std.specs.Prelude.{ℕ, ◌≡◌, refl, zero, suc, ◌+◌, ◌==◌, ◌&&◌, ◌||◌, not, nat_lt, Bool, if◌then◌else◌, Option, Some, None}
use Rattle.vm_types.specs.Objects.{maps_of, named_objects}
use Rattle.vm_types.specs.State.{State}
use Rattle.vm_types.specs.View.{View}

-- process numbers are 1 to this one (our choice)
abbrev pub process_limit : ℕ
process_limit = 64

-- the least number of so many from this one on that no process has
unfoldable pub least_free_from : (ℕ → Bool) → ℕ → ℕ → Option ℕ
least_free_from live pid zero = None
least_free_from live pid (suc count) = if live pid then least_free_from live (pid + 1) count else Some pid

-- the least process number that is free
abbrev pub least_free_pid : (ℕ → Bool) → Option ℕ
least_free_pid live = least_free_from live 1 process_limit

-- one more process, with these pages
abbrev pub with_process : State → ℕ → (ℕ → Option View) → State
with_process s pid space = record s {
  live = λ p. p == pid || s.live p;
  views = λ p. if p == pid then space else s.views p;
}

-- one more process, with the pages of the parent as they are: fork(2), parent and child see the same bytes, and each
-- its own stores to them from then on, but for shared mappings
abbrev pub forked : State → ℕ → ℕ → State
forked s parent child = with_process s child (s.views parent)

-- the pages of all processes but one
abbrev pub without_space : (ℕ → ℕ → Option View) → ℕ → ℕ → ℕ → Option View
without_space views pid = λ p. if p == pid then (λ page. None) else views p

-- one process less: its number is free and its pages are gone; what its shared mappings of files stored stays, and of objects
-- what another process names
abbrev pub without_process : State → ℕ → State
without_process s pid = record s {
  live = λ p. not (p == pid) && s.live p;
  views = without_space s.views pid;
  objects = named_objects (maps_of (without_space s.views pid)) s.objects;
}

-- of 1, 2 and 4, the number 3 is next
pub between : least_free_pid (λ p. nat_lt p 3 || p == 4) ≡ Some 3
unfolding least_free_from
between = refl

-- 64 is the last number, and where all of 1 to 64 live there is none
pub last_number : least_free_pid (λ p. nat_lt p 64) ≡ Some 64
unfolding least_free_from
last_number = refl

pub no_number : least_free_pid (λ p. nat_lt p 65) ≡ None
unfolding least_free_from
no_number = refl
