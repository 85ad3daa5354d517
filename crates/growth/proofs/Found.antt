-- Extents with a home of another one, among files and among changes.
use Rattle.std.proofs.Common.{ℕ, ◌≡◌, ◌<◌, ◌+◌, ⊎_elim, List, length, slice_get, sym, ap, refl, ◌∙◌, arith, Option, Some, None, true, false}
use Rattle.std.proofs.lemmas.Bool.{cases_eq, cases_lt, false≢true}
use Rattle.std.proofs.lemmas.List.{get_or_past}
use Rattle.std.proofs.lemmas.Option.{none-some}
use Rattle.directories.specs.Layouts.{entry_in, IsExtent, ShareHome}
use Rattle.directories.specs.declared.entry.Extent.{Extent}
use Rattle.directories.specs.declared.entry.Entry.{Entry}
use Rattle.std.specs.Prelude.{MatchOption, is_some}
use Rattle.growth.specs.Parts.{extents_of_file, IsApartFrom, IsMet, HasHomeOf}

-- the extents of a file of the directory
extent_there : (entry : Option Entry) (entries : List (Option Entry)) (f i : ℕ) (x : Extent) → entry_in entries f ≡ entry → slice_get (extents_of_file entry) i ≡ Some x → IsExtent entries f i x
extent_there None entries f i x file is = absurd (none-some x is)
extent_there (Some e) entries f i x file is = record { entry = e; file = file; extent = is }

pub is_extent : (entries : List (Option Entry)) (f i : ℕ) (x : Extent) → slice_get (extents_of_file (entry_in entries f)) i ≡ Some x → IsExtent entries f i x
is_extent entries f i x is = extent_there (entry_in entries f) entries f i x refl is

pub has_extent : (entries : List (Option Entry)) (f i : ℕ) (x : Extent) → IsExtent entries f i x → slice_get (extents_of_file (entry_in entries f)) i ≡ Some x
has_extent entries f i x is = ap (λ (e : Option Entry). slice_get (extents_of_file e) i) is.file ∙ is.extent

-- a file with an extent is in the list
pub in_list : (entries : List (Option Entry)) (f i : ℕ) (x : Extent) → IsExtent entries f i x → f < length entries
in_list entries f i x is = ⊎_elim (λ less. less) (λ past. absurd (none-some is.entry (sym (get_or_past entries f None past) ∙ is.file))) (cases_lt f (length entries))

-- one more file without a home of x
pub file_more : (entries : List (Option Entry)) (x : Extent) (n : ℕ) → ((g j : ℕ) (y : Extent) → g < n → IsExtent entries g j y → ShareHome x y → ⊥)
    → IsApartFrom (extents_of_file (entry_in entries n)) x → (g j : ℕ) (y : Extent) → g < n + 1 → IsExtent entries g j y → ShareHome x y → ⊥
file_more entries x n before here g j y less is shared = ⊎_elim
    (λ (same : g ≡ n). here j y (ap (λ (f : ℕ). slice_get (extents_of_file (entry_in entries f)) j) (sym same) ∙ has_extent entries g j y is) shared)
    (λ other. before g j y (omega (arith, less, other)) is shared)
    (cases_eq g n)

pub held_there : (entries : List (Option Entry)) (x y : Extent) (f : ℕ) → IsMet (extents_of_file (entry_in entries f)) x y → HasHomeOf entries x (record { file = f; extent = y })
held_there entries x y f met = record { place = met.place; is = is_extent entries f met.place y met.is; shared = met.shared }

-- none is found
pub none_met : (xs : List Extent) (x : Extent) (r : Option Extent) → MatchOption r (IsApartFrom xs x) (IsMet xs x) → false ≡ is_some r → IsApartFrom xs x
none_met xs x None found none = found
none_met xs x (Some y) found none = absurd (false≢true none)

pub one_met : (xs : List Extent) (x : Extent) (r : Option Extent) → MatchOption r (IsApartFrom xs x) (IsMet xs x) → true ≡ is_some r → (y : Extent) × IsMet xs x y
one_met xs x None found some = absurd (false≢true (sym some))
one_met xs x (Some y) found some = (y, found)
