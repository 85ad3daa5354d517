-- Pages that keep their homes.
use Rattle.std.proofs.Common.{ℕ, suc, ◌≡◌, ◌<◌, ◌≤◌, ◌+◌, ◌-◌, ◌⊎◌, inl, inr, ⊎_elim, ◌∷◌, [], List, length, slice_get, refl, sym, ap, ◌∙◌, arith, Option, Some, None}
use Rattle.std.proofs.lemmas.Bool.{cases_lt}
use Rattle.std.proofs.lemmas.List.FromFn.{length-range_with_len}
use Rattle.std.proofs.lemmas.Option.{none-some, same_Some, slice_get_within}
use Rattle.std.specs.List.{range_with_len}
use Rattle.directories.specs.{Homes.{extents_of, homes_of, HasHome}, Layouts.{entry_in, IsHomeIn}}
use Rattle.directories.specs.declared.entry.Extent.{Extent}
use Rattle.directories.specs.declared.entry.Entry.{Entry}
use Rattle.directories.proofs.Places.{get_left, get_right, get_counted}
use Rattle.growth.specs.Changes.{TakesFreeHomes, PagesKeepHomes}
use Rattle.growth.specs.Parts.{extents_of_file, kept_count}
use Rattle.growth.proofs.{Kept.{told, kept_one, kept_none}, Changed.{not_old}}

-- A home is of an extent that is not among the first n.
record IsBehind (xs : List Extent) (n h : ℕ) : Type 0 where
  place : ℕ
  extent : Extent
  is : slice_get xs place ≡ Some extent
  has : IsHomeIn extent h
  past : n ≤ place

located : (xs : List Extent) (p h : ℕ) → slice_get (homes_of xs) p ≡ Some h → IsBehind xs 0 h
located [] p h is = absurd (none-some h is)
located (x ∷ xs) p h is =
    let own : List ℕ = range_with_len x.first x.count in
    let long : length own ≡ x.count = length-range_with_len x.first x.count in
    ⊎_elim
    (λ (less : p < x.count).
    let here : x.first + p ≡ h = same_Some (x.first + p) h (sym (get_left own (homes_of xs) p (omega (arith, long, less)) ∙ get_counted x.first x.count p less) ∙ is) in
    record { place = 0; extent = x; is = refl; has = record { low = omega (arith, here); high = omega (arith, here, less) }; past = omega arith })
    (λ (past : x.count ≤ p).
    let rest : IsBehind xs 0 h = located xs (p - length own) h (sym (get_right own (homes_of xs) p (omega (arith, long, past))) ∙ is) in
    record { place = suc rest.place; extent = rest.extent; is = rest.is; has = rest.has; past = omega arith })
    (cases_lt p x.count)

-- the home of a page stays, or is of an extent that is not kept
stays : (old new : List Extent) (p h : ℕ) → slice_get (homes_of new) p ≡ Some h → (slice_get (homes_of old) p ≡ Some h) ⊎ IsBehind new (kept_count old new) h
stays old [] p h is = absurd (none-some h is)
stays [] (y ∷ ys) p h is = inr (located (y ∷ ys) p h is)
stays (x ∷ xs) (y ∷ ys) p h is = ⊎_elim
    (λ t.
    let one = kept_one x y xs ys t.0 in
    let own : List ℕ = range_with_len y.first y.count in
    let first : slice_get (homes_of (x ∷ xs)) p ≡ slice_get (homes_of (y ∷ xs)) p = ap (λ (z : Extent). slice_get (homes_of (z ∷ xs)) p) t.0 in
    ⊎_elim
    (λ (less : p < length own). inl (first ∙ get_left own (homes_of xs) p less ∙ sym (get_left own (homes_of ys) p less) ∙ is))
    (λ (past : length own ≤ p). ⊎_elim
    (λ same. inl (first ∙ get_right own (homes_of xs) p past ∙ same))
    (λ (rest : IsBehind ys (kept_count xs ys) h).
    let le = rest.past in inr (record { place = suc rest.place; extent = rest.extent; is = rest.is; has = rest.has; past = omega (arith, one, le) }))
    (stays xs ys (p - length own) h (sym (get_right own (homes_of ys) p past) ∙ is)))
    (cases_lt p (length own)))
    (λ f.
    let none = kept_none x y xs ys f.0 in
    let there = located (y ∷ ys) p h is in
    inr (record { place = there.place; extent = there.extent; is = there.is; has = there.has; past = omega (arith, none) }))
    (told x y)

home_there : (entries : List (Option Entry)) (f p h : ℕ) (entry : Option Entry) → entry_in entries f ≡ entry → slice_get (homes_of (extents_of_file entry)) p ≡ Some h → HasHome entries f p h
home_there entries f p h None file home = absurd (none-some h home)
home_there entries f p h (Some e) file home = record { entry = e; file = file; home = home }

pub keep_homes : (before after : List (Option Entry)) → TakesFreeHomes before after → PagesKeepHomes before after
keep_homes before after free f p h has = ⊎_elim
    (λ same. inl (home_there before f p h (entry_in before f) refl same))
    (λ (new : IsBehind (extents_of has.entry) (kept_count (extents_of_file (entry_in before f)) (extents_of has.entry)) h). inr (λ g j y had at.
    let news = extents_of has.entry in
    free.free f new.place g j new.extent y (record { entry = has.entry; file = has.file; extent = new.is })
    (not_old before after f new.place news (ap extents_of_file has.file) new.past (slice_get_within news new.place new.extent new.is))
    had (record { home = h; one = new.has; other = at })))
    (stays (extents_of_file (entry_in before f)) (extents_of has.entry) p h has.home)
