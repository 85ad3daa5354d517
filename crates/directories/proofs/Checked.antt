-- A directory checked file by file, and as a whole.
use Rattle.std.proofs.Common.{ℕ, ◌≡◌, ◌<◌, ◌+◌, ◌⊎◌, ⊎_elim, List, length, get_or, slice_get, sym, ap, subst, ◌∙◌, arith, Option, Some, None, Result, Ok, Err, OnOk}
use Rattle.std.specs.Prelude.{IfErr}
use Rattle.std.proofs.lemmas.Bool.{cases_eq, cases_lt}
use Rattle.std.proofs.lemmas.List.{get_or_past}
use Rattle.std.proofs.lemmas.Option.{none-some, same_Some, slice_get-get_or, slice_get_within}
use Rattle.std.proofs.lemmas.Option.{get_or_from_slice_get}
use Rattle.directories.specs.Homes.{extents_of}
use Rattle.directories.specs.Layouts.{entry_in, IsGoodLayout, IsBadLayout, IsRefusal, LiesOutside, IsShort}
use Rattle.directories.specs.Checks.{LiesWithin, HasOutside, HasOutsideExtent, IsFileGood, AreFilesGood, HaveApart, HaveShared}
use Rattle.directories.specs.declared.entry.Extent.{Extent}
use Rattle.directories.specs.declared.entry.Entry.{Entry}
use Rattle.directories.specs.declared.faults.LayoutFault.{LayoutFault}
use Rattle.directories.specs.declared.faults.LayoutFault.TheVariants.{Outside, Short, Shared, Memory}
use Rattle.directories.proofs.Said.{no_extent}

-- the extents of one file
pub extents_outside : (pages homes i : ℕ) (e : Entry) → i < length (extents_of e) → ((d : Extent) → HasOutside pages homes (get_or (extents_of e) i d)) → HasOutsideExtent pages homes e
extents_outside pages homes i e inside outside = record {
  place = i;
  extent = get_or (extents_of e) i no_extent;
  is = slice_get-get_or (extents_of e) i no_extent inside;
  has = outside no_extent;
}

pub extents_within : (pages homes : ℕ) (e : Entry) → ((i : ℕ) (d : Extent) → i < length (extents_of e) → LiesWithin pages homes (get_or (extents_of e) i d))
    → (i : ℕ) (x : Extent) → slice_get (extents_of e) i ≡ Some x → LiesWithin pages homes x
extents_within pages homes e all i x is =
    subst (LiesWithin pages homes) (get_or_from_slice_get (extents_of e) i x no_extent is) (all i no_extent (slice_get_within (extents_of e) i x is))

-- one more file
pub files_more : (pages homes : ℕ) (entries : List (Option Entry)) (n : ℕ) → AreFilesGood pages homes entries n
    → ((e : Entry) → entry_in entries n ≡ Some e → IsFileGood pages homes e) → AreFilesGood pages homes entries (n + 1)
files_more pages homes entries n good here f e less is = ⊎_elim
    (λ same. here e (ap (entry_in entries) (sym same) ∙ is))
    (λ other. good f e (omega (arith, less, other)) is)
    (cases_eq f n)

pub file_more : (pages homes : ℕ) (entries : List (Option Entry)) (n : ℕ) (entry : Entry) → AreFilesGood pages homes entries n
    → entry_in entries n ≡ Some entry → IsFileGood pages homes entry → AreFilesGood pages homes entries (n + 1)
file_more pages homes entries n entry good is fine = files_more pages homes entries n good (λ e is'. subst (IsFileGood pages homes) (same_Some entry e (sym is ∙ is')) fine)

pub none_more : (pages homes : ℕ) (entries : List (Option Entry)) (n : ℕ) → AreFilesGood pages homes entries n → entry_in entries n ≡ None → AreFilesGood pages homes entries (n + 1)
none_more pages homes entries n good none = files_more pages homes entries n good (λ e is. absurd (none-some e (sym none ∙ is)))

-- all of them
in_list : (entries : List (Option Entry)) (f : ℕ) (e : Entry) → entry_in entries f ≡ Some e → f < length entries
in_list entries f e is = ⊎_elim (λ less. less) (λ past. absurd (none-some e (sym (get_or_past entries f None past) ∙ is))) (cases_lt f (length entries))

pub good_layout : (pages homes : ℕ) (entries : List (Option Entry)) → AreFilesGood pages homes entries (length entries) → HaveApart entries → IsGoodLayout pages homes entries
good_layout pages homes entries good apart = record {
  within = λ f i h x is has. (good f is.entry (in_list entries f is.entry is.file) is.file).within i x is.extent h has;
  apart = apart;
  enough = λ f e is. (good f e (in_list entries f e is) is).enough;
}

pub good_if_apart : (pages homes : ℕ) (entries : List (Option Entry)) (r : Result (Unit {0}) LayoutFault) → AreFilesGood pages homes entries (length entries) → OnOk r (HaveApart entries)
    → OnOk r (IsGoodLayout pages homes entries)
good_if_apart pages homes entries (Ok _) good apart = good_layout pages homes entries good apart
good_if_apart pages homes entries (Err _) good apart = tt

-- what is bad is not good
pub not_good : (pages homes : ℕ) (entries : List (Option Entry)) (fault : LayoutFault) → IsBadLayout pages homes entries fault → IsRefusal fault (IsGoodLayout pages homes entries → ⊥)
not_good pages homes entries (Outside f) bad = λ good.
    let within = good.within f bad.place bad.home bad.extent bad.is bad.has in
    ⊎_elim (λ low. omega (arith, low, within.0)) (λ high. omega (arith, high, within.1)) bad.outside
not_good pages homes entries (Short f) bad = λ good. let enough = good.enough f bad.entry bad.file in let short = bad.short in omega (arith, enough, short)
not_good pages homes entries (Shared f g) bad = λ good. bad.two (good.apart f bad.place g bad.other_place bad.extent bad.other bad.is bad.other_is bad.shared)
not_good pages homes entries Memory bad = tt

-- no file by itself is bad where each is good
none_bad : (pages homes : ℕ) (entries : List (Option Entry)) → AreFilesGood pages homes entries (length entries) → (f : ℕ) → LiesOutside pages homes entries f ⊎ IsShort entries f → ⊥
none_bad pages homes entries good f bad = ⊎_elim
    (λ (out : LiesOutside pages homes entries f).
    let is = out.is in
    let within = (good f is.entry (in_list entries f is.entry is.file) is.file).within out.place out.extent is.extent out.home out.has in
    ⊎_elim (λ low. omega (arith, low, within.0)) (λ high. omega (arith, high, within.1)) out.outside)
    (λ (short : IsShort entries f).
    let enough = (good f short.entry (in_list entries f short.entry short.file) short.file).enough in let less = short.short in omega (arith, enough, less))
    bad

shared_is_bad : (pages homes : ℕ) (entries : List (Option Entry)) (fault : LayoutFault) → AreFilesGood pages homes entries (length entries)
    → HaveShared entries fault → IsBadLayout pages homes entries fault
shared_is_bad pages homes entries (Outside f) good bad = absurd bad
shared_is_bad pages homes entries (Short f) good bad = absurd bad
shared_is_bad pages homes entries (Shared f g) good bad = bad
shared_is_bad pages homes entries Memory good bad = none_bad pages homes entries good

pub bad_if_shared : (pages homes : ℕ) (entries : List (Option Entry)) (r : Result (Unit {0}) LayoutFault) → AreFilesGood pages homes entries (length entries) → IfErr r (HaveShared entries)
    → IfErr r (IsBadLayout pages homes entries)
bad_if_shared pages homes entries (Ok _) good bad = tt
bad_if_shared pages homes entries (Err fault) good bad = shared_is_bad pages homes entries fault good bad

pub refused : (pages homes : ℕ) (entries : List (Option Entry)) (r : Result (Unit {0}) LayoutFault) → IfErr r (IsBadLayout pages homes entries)
    → IfErr r (λ fault. IsRefusal fault (IsGoodLayout pages homes entries → ⊥))
refused pages homes entries (Ok _) bad = tt
refused pages homes entries (Err fault) bad = not_good pages homes entries fault bad
