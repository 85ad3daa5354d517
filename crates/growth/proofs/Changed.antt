-- The entries after changes, and which of their extents are old.
use Rattle.std.proofs.Common.{ℕ, zero, suc, ◌≡◌, ◌<◌, ◌≤◌, ◌+◌, ◌-◌, ◌⊎◌, inl, inr, ⊎_elim, ◌∷◌, [], List, length, get_or, slice_get, eqb, refl, sym, ap, subst, ◌∙◌, arith, Option, Some, None}
use Rattle.std.proofs.lemmas.Bool.{cases_eq, cases_lt, cond-true, cond-false, eq-eqb, ne_eqb}
use Rattle.std.proofs.lemmas.List.FromFn.{length-map-range_with_len, get_or-map-range_with_len}
use Rattle.std.proofs.lemmas.Option.{none-some, same_Some, get_or_from_slice_get, slice_get-get_or, slice_get_within}
use Rattle.std.specs.List.{AllPairs}
use Rattle.directories.specs.Layouts.{entry_in, IsExtent}
use Rattle.directories.specs.declared.entry.Extent.{Extent}
use Rattle.directories.specs.declared.entry.Entry.{Entry}
use Rattle.growth.specs.Changes.{change_of, entry_then, entry_after, entries_after, AreChanges, IsOld}
use Rattle.growth.specs.Parts.{extents_of_file, kept_count, new_extents}
use Rattle.growth.specs.declared.changes.Change.{Change}
use Rattle.directories.proofs.Said.{no_extent}
use Rattle.growth.proofs.Listed.{no_change, get_dropped}
use Rattle.growth.proofs.Kept.{kept_same, kept_ends}
use Rattle.growth.proofs.Found.{is_extent, has_extent, in_list}

abbrev pub Rise : List Change → Type 0
Rise changes = AllPairs (λ c d. c.file < d.file) changes

pub rise_on : (changes : List Change) → ((j : ℕ) (d : Change) → j + 1 < length changes → (get_or changes j d).file < (get_or changes (j + 1) d).file) → Rise changes
rise_on changes next i zero d less inside = absurd (omega (arith, less))
rise_on changes next i (suc j) d less inside =
    let on : j + 1 ≡ suc j = omega arith in
    let step : (get_or changes j d).file < (get_or changes (suc j) d).file = subst (λ n. (get_or changes j d).file < (get_or changes n d).file) on (next j d (omega (arith, inside))) in
    ⊎_elim
    (λ (same : i ≡ j). subst (λ n. (get_or changes n d).file < (get_or changes (suc j) d).file) (sym same) step)
    (λ other. let before = rise_on changes next i j d (omega (arith, less, other)) (omega (arith, inside)) in omega (arith, before, step))
    (cases_eq i j)

-- as many as before
pub length_after : (entries : List (Option Entry)) (changes : List Change) → length (entries_after entries changes) ≡ length entries
unfolding entries_after
length_after entries changes = length-map-range_with_len (λ f. entry_after entries changes f) 0 (length entries)

pub entry_there : (entries : List (Option Entry)) (changes : List Change) (f : ℕ) → f < length entries → entry_in (entries_after entries changes) f ≡ entry_after entries changes f
unfolding entries_after
entry_there entries changes f inside = get_or-map-range_with_len (λ g. entry_after entries changes g) 0 (length entries) f f None inside (omega arith)

-- the change of a file
pub change_there : (changes : List Change) (i : ℕ) (c : Change) → Rise changes → slice_get changes i ≡ Some c → change_of changes c.file ≡ Some c
change_there [] i c rise is = absurd (none-some c is)
change_there (d ∷ ds) zero c rise is =
    let same : d ≡ c = same_Some d c is in
    cond-true (eqb d.file c.file) (Some d) (change_of ds c.file) (eq-eqb d.file c.file (ap (λ (e : Change). e.file) same)) ∙ is
change_there (d ∷ ds) (suc i) c rise is =
    let inside : i < length ds = slice_get_within ds i c is in
    let there : get_or ds i no_change ≡ c = get_or_from_slice_get ds i c no_change is in
    let less : d.file < (get_or ds i no_change).file = rise 0 (suc i) no_change (omega arith) (omega (arith, inside)) in
    let before : d.file < c.file = subst (λ (e : Change). d.file < e.file) there less in
    cond-false (eqb d.file c.file) (Some d) (change_of ds c.file) (ne_eqb d.file c.file (λ same. omega (arith, same, before)))
    ∙ change_there ds i c (λ j k e lt within. rise (suc j) (suc k) e (omega (arith, lt)) (omega (arith, within))) is

-- This change is of file f.
pub record HasChange (changes : List Change) (f : ℕ) (c : Change) : Type 0 where
  pub place : ℕ
  pub is : slice_get changes place ≡ Some c
  pub file : c.file ≡ f

change_found : (changes : List Change) (f : ℕ) (c : Change) → change_of changes f ≡ Some c → HasChange changes f c
change_found [] f c is = absurd (none-some c is)
change_found (d ∷ ds) f c is = ⊎_elim
    (λ (same : d.file ≡ f).
    let here : d ≡ c = same_Some d c (sym (cond-true (eqb d.file f) (Some d) (change_of ds f) (eq-eqb d.file f same)) ∙ is) in
    record { place = 0; is = ap Some here; file = ap (λ (e : Change). e.file) (sym here) ∙ same })
    (λ other.
    let rest = change_found ds f c (sym (cond-false (eqb d.file f) (Some d) (change_of ds f) (ne_eqb d.file f other)) ∙ is) in
    record { place = suc rest.place; is = rest.is; file = rest.file })
    (cases_eq d.file f)

-- A change gives file f its entry.
pub record IsChanged (before : List (Option Entry)) (changes : List Change) (f : ℕ) : Type 0 where
  pub change : Change
  pub has : HasChange changes f change
  pub entry : entry_in (entries_after before changes) f ≡ change.entry

-- a file is changed, or it is as it was
of_change : (before : List (Option Entry)) (changes : List Change) (f : ℕ) (r : Option Change) → change_of changes f ≡ r → entry_in (entries_after before changes) f ≡ entry_then r (entry_in before f)
    → IsChanged before changes f ⊎ (entry_in (entries_after before changes) f ≡ entry_in before f)
of_change before changes f None is after = inr after
of_change before changes f (Some c) is after = inl (record { change = c; has = change_found changes f c is; entry = after })

pub file_after : (before : List (Option Entry)) (changes : List Change) (f : ℕ) → f < length before → IsChanged before changes f ⊎ (entry_in (entries_after before changes) f ≡ entry_in before f)
file_after before changes f inside = of_change before changes f (change_of changes f) refl (entry_there before changes f inside)

pub entry_of_change : (before : List (Option Entry)) (changes : List Change) (i : ℕ) (c : Change) → AreChanges before changes → slice_get changes i ≡ Some c
    → entry_in (entries_after before changes) c.file ≡ c.entry
entry_of_change before changes i c are is =
    let inside : i < length changes = slice_get_within changes i c is in
    let file : c.file < length before = subst (λ (d : Change). d.file < length before) (get_or_from_slice_get changes i c no_change is) (are.inside i no_change inside) in
    entry_there before changes c.file file ∙ ap (λ (r : Option Change). entry_then r (entry_in before c.file)) (change_there changes i c are.rising is)

-- the extents of a change: how many are kept, and each new one
abbrev pub kept : List (Option Entry) → Change → ℕ
kept before c = kept_count (extents_of_file (entry_in before c.file)) (extents_of_file c.entry)

pub new_at : (before : List (Option Entry)) (c : Change) (k : ℕ) → slice_get (new_extents before c) k ≡ slice_get (extents_of_file c.entry) (kept before c + k)
unfolding new_extents
new_at before c k = get_dropped (extents_of_file c.entry) (kept before c) k

-- An extent is a new one of a change:
pub record IsNew (before : List (Option Entry)) (changes : List Change) (f i : ℕ) (x : Extent) : Type 0 where
  pub change : Change
  pub has : HasChange changes f change
  pub place : ℕ
  pub at : i ≡ kept before change + place
  pub new : slice_get (new_extents before change) place ≡ Some x

-- each extent is an old one, or a new one
old_if_same : (before after : List (Option Entry)) (f i : ℕ) → entry_in after f ≡ entry_in before f → IsOld before after f i
old_if_same before after f i same j x less is = is_extent before f j x (ap (λ (e : Option Entry). slice_get (extents_of_file e) j) (sym same) ∙ has_extent after f j x is)

changed_extent : (before : List (Option Entry)) (changes : List Change) (f i : ℕ) (x : Extent) → IsExtent (entries_after before changes) f i x → IsChanged before changes f
    → IsOld before (entries_after before changes) f i ⊎ IsNew before changes f i x
changed_extent before changes f i x is ch =
    let c = ch.change in
    let given : (j : ℕ) (y : Extent) → IsExtent (entries_after before changes) f j y → slice_get (extents_of_file c.entry) j ≡ Some y =
    λ j y there. ap (λ (e : Option Entry). slice_get (extents_of_file e) j) (sym ch.entry) ∙ has_extent (entries_after before changes) f j y there in
    ⊎_elim
    (λ (front : i < kept before c). inl (λ j y le there.
    is_extent before f j y (ap (λ g. slice_get (extents_of_file (entry_in before g)) j) (sym ch.has.file)
    ∙ kept_same (extents_of_file (entry_in before c.file)) (extents_of_file c.entry) j (omega (arith, front, le)) ∙ given j y there)))
    (λ (behind : kept before c ≤ i).
    let at : i ≡ kept before c + (i - kept before c) = omega (arith, behind) in
    inr (record {
      change = c;
      has = ch.has;
      place = i - kept before c;
      at = at;
      new = new_at before c (i - kept before c) ∙ ap (slice_get (extents_of_file c.entry)) (sym at) ∙ given i x is;
    }))
    (cases_lt i (kept before c))

pub old_or_new : (before : List (Option Entry)) (changes : List Change) (f i : ℕ) (x : Extent) → IsExtent (entries_after before changes) f i x
    → IsOld before (entries_after before changes) f i ⊎ IsNew before changes f i x
old_or_new before changes f i x is =
    let long = length_after before changes in
    let inside : f < length before = let within = in_list (entries_after before changes) f i x is in omega (arith, long, within) in
    ⊎_elim (changed_extent before changes f i x is) (λ same. inl (old_if_same before (entries_after before changes) f i same)) (file_after before changes f inside)

-- and no new one is old
pub new_is : (before : List (Option Entry)) (changes : List Change) (i k : ℕ) (c : Change) (x : Extent) → AreChanges before changes → slice_get changes i ≡ Some c
    → slice_get (new_extents before c) k ≡ Some x → IsExtent (entries_after before changes) c.file (kept before c + k) x
new_is before changes i k c x are is new = is_extent (entries_after before changes) c.file (kept before c + k) x
    (ap (λ (e : Option Entry). slice_get (extents_of_file e) (kept before c + k)) (entry_of_change before changes i c are is) ∙ sym (new_at before c k) ∙ new)

pub not_old : (before after : List (Option Entry)) (f i : ℕ) (news : List Extent) → extents_of_file (entry_in after f) ≡ news → kept_count (extents_of_file (entry_in before f)) news ≤ i → i < length news
    → IsOld before after f i → ⊥
not_old before after f i news list behind within old =
    let olds = extents_of_file (entry_in before f) in
    let n = kept_count olds news in
    let inside : n < length news = omega (arith, behind, within) in
    let y = get_or news n no_extent in
    let first : slice_get news n ≡ Some y = slice_get-get_or news n no_extent inside in
    let there : IsExtent after f n y = is_extent after f n y (ap (λ (xs : List Extent). slice_get xs n) list ∙ first) in
    kept_ends olds news inside (has_extent before f n y (old n y behind there) ∙ sym first)

pub new_is_not_old : (before : List (Option Entry)) (changes : List Change) (i k : ℕ) (c : Change) (x : Extent) → AreChanges before changes → slice_get changes i ≡ Some c
    → slice_get (new_extents before c) k ≡ Some x → IsOld before (entries_after before changes) c.file (kept before c + k) → ⊥
new_is_not_old before changes i k c x are is new = not_old before (entries_after before changes) c.file (kept before c + k) (extents_of_file c.entry)
    (ap extents_of_file (entry_of_change before changes i c are is)) (omega arith) (slice_get_within (extents_of_file c.entry) (kept before c + k) x (sym (new_at before c k) ∙ new))
