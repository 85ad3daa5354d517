-- munmap, mprotect and madvise with MADV_DONTNEED: their checks in their order, and the pages that they leave. munmap(2), mprotect(2), madvise(2).
use Rattle.std.specs.Prelude.{ℕ, ◌+◌, ◌/◌, ◌%◌, Bool, false, not, ◌==◌, ◌&&◌, ◌||◌, nat_lt, if◌then◌else◌, List, [], ◌∷◌, Option, Some, None, option_map}
use Rattle.vm_types.specs.declared.permission.Prot.{Prot}
use Rattle.vm_types.specs.declared.refusal.Errno.TheVariants.{ESRCH, ENOMEM, EACCES, EINVAL}
use Rattle.vm_types.specs.declared.region.Backing.{Backing}
use Rattle.vm_types.specs.declared.region.Backing.TheVariants.{Anon, Private, Shared, Common}
use Rattle.vm_types.specs.Attributes.{with_prot}
use Rattle.vm_types.specs.Checks.{Check, pages_from}
use Rattle.vm_types.specs.Counting.{any_below}
use Rattle.vm_types.specs.Files.{Files, is_unwritable}
use Rattle.vm_types.specs.Objects.{maps_of, named_objects}
use Rattle.vm_types.specs.Permission.{can_write, kept}
use Rattle.vm_types.specs.Rows.{in_row, is_covered, protected, removed}
use Rattle.vm_types.specs.Runs.{run_count}
use Rattle.vm_types.specs.State.{State}
use Rattle.vm_types.specs.View.{View, attrs_of}

-- the pages of the row are mapped no more
abbrev pub unmapped : (ℕ → Option View) → ℕ → ℕ → ℕ → Option View
unmapped space first pages page = if in_row first pages page then None else space page

-- the pages of all processes, with such a row in one
abbrev pub without_pages : (ℕ → ℕ → Option View) → ℕ → ℕ → ℕ → ℕ → ℕ → Option View
without_pages views pid first pages = λ p. if p == pid then unmapped (views pid) first pages else views p

-- the state with such a row in one process; pages of objects that no page names any more are gone
abbrev pub without_row : State → ℕ → ℕ → ℕ → State
without_row s pid first pages = record s {
  views = without_pages s.views pid first pages;
  objects = named_objects (maps_of (without_pages s.views pid first pages)) s.objects;
}

-- the checks of munmap in their order; pages that aren't mapped are no error
abbrev pub munmap_checks : State → ℕ → ℕ → ℕ → List Check
munmap_checks s pid addr len =
    (not (s.live pid), ESRCH)
    ∷ ((len == 0) || not (addr % 4096 == 0), EINVAL)
    ∷ (nat_lt 256 (run_count s.mode (removed (attrs_of (s.views pid)) (addr / 4096) (pages_from addr len))), ENOMEM)
    ∷ []

-- a page with another permission
abbrev pub permitted : Prot → View → View
permitted prot view = record view { attr = with_prot prot view.attr }

-- the mapped pages of the row get the permission, and keep what they show
abbrev pub reprotected : (ℕ → Option View) → ℕ → ℕ → Prot → ℕ → Option View
reprotected space first pages prot page =
    if in_row first pages page then option_map (permitted prot) (space page) else space page

-- the state with such a row in one process
abbrev pub with_protection : State → ℕ → ℕ → ℕ → Prot → State
with_protection s pid first pages prot =
    record s { views = λ p. if p == pid then reprotected (s.views pid) first pages prot else s.views p }

-- whether stores through a backing go to a file that may only be read
abbrev pub is_guarded : Files → Backing → Bool
is_guarded files Anon = false
is_guarded files (Private p) = false
is_guarded files (Shared p) = is_unwritable (files p.file)
is_guarded files (Common p) = false

-- whether a page is a shared one of a file that may only be read
abbrev pub is_guarded_page : Files → Option View → Bool
is_guarded_page files None = false
is_guarded_page files (Some view) = is_guarded files view.attr.backing

-- whether stores are asked for, and some page of the row is a shared one of a file that may only be read
abbrev pub denies_stores : Files → (ℕ → Option View) → ℕ → ℕ → Prot → Bool
denies_stores files space first pages prot =
    can_write prot && any_below (λ i. is_guarded_page files (space (first + i))) pages

-- the checks of mprotect that come before a length of 0 is done with
abbrev pub asked_checks : State → ℕ → ℕ → List Check
asked_checks s pid addr = (not (s.live pid), ESRCH) ∷ (not (addr % 4096 == 0), EINVAL) ∷ []

-- its checks of a row of pages, in their order
abbrev pub row_checks : State → ℕ → ℕ → ℕ → Prot → List Check
row_checks s pid first pages prot =
    (not (is_covered (attrs_of (s.views pid)) first pages), ENOMEM)
    ∷ (denies_stores s.files (s.views pid) first pages prot, EACCES)
    ∷ (nat_lt 256 (run_count s.mode (protected (attrs_of (s.views pid)) first pages (kept prot))), ENOMEM)
    ∷ []

-- a page without a copy of its own
abbrev pub uncopied : View → View
uncopied view = record view { own = None }

-- the pages of the row lose their own copies: each shows what stands behind it, so that a page of an object is as it was
abbrev pub without_own : (ℕ → Option View) → ℕ → ℕ → ℕ → Option View
without_own space first pages page = if in_row first pages page then option_map uncopied (space page) else space page

-- the state with such a row in one process; no file page changes
abbrev pub without_copies : State → ℕ → ℕ → ℕ → State
without_copies s pid first pages =
    record s { views = λ p. if p == pid then without_own (s.views pid) first pages else s.views p }

-- the check of a row of pages of which each has to be mapped
abbrev pub covered_checks : State → ℕ → ℕ → ℕ → List Check
covered_checks s pid first pages = (not (is_covered (attrs_of (s.views pid)) first pages), ENOMEM) ∷ []
