-- Pages and their homes in a good directory.
use Rattle.std.proofs.Common.{ℕ, suc, ◌≡◌, ◌<◌, ◌≤◌, ◌+◌, ◌-◌, ⊎_elim, ◌∷◌, [], List, length, take, get_or, slice_get, refl, sym, ap, ◌∙◌, arith, Option, Some, length-append}
use Rattle.std.proofs.lemmas.Bool.{cases_lt}
use Rattle.std.proofs.lemmas.List.FromFn.{length-range_with_len}
use Rattle.std.proofs.lemmas.Option.{none-some, same_Some, slice_get-get_or}
use Rattle.std.specs.List.{range_with_len}
use Rattle.directories.specs.{Homes.{extents_of, homes_of, HasHome}, Layouts.{entry_in, IsExtent, IsHomeIn, IsGoodLayout}, Laws.{GivesHomes}}
use Rattle.directories.specs.declared.entry.Extent.{Extent}
use Rattle.directories.specs.declared.entry.Entry.{Entry}
use Rattle.directories.proofs.Places.{get_left, get_right, get_counted}

-- which extent a home is of, and how many homes are before it
record Located (xs : List Extent) (p h : ℕ) : Type 0 where
  place : ℕ
  extent : Extent
  is : slice_get xs place ≡ Some extent
  has : IsHomeIn extent h
  page : p ≡ length (homes_of (take place xs)) + (h - extent.first)

locate : (xs : List Extent) (p h : ℕ) → slice_get (homes_of xs) p ≡ Some h → Located xs p h
locate [] p h is = absurd (none-some h is)
locate (x ∷ xs) p h is =
    let own : List ℕ = range_with_len x.first x.count in
    let long : length own ≡ x.count = length-range_with_len x.first x.count in
    ⊎_elim
    (λ (less : p < x.count).
    let here : x.first + p ≡ h = same_Some (x.first + p) h (sym (get_left own (homes_of xs) p (omega (arith, long, less)) ∙ get_counted x.first x.count p less) ∙ is) in
    record { place = 0; extent = x; is = refl; has = record { low = omega (arith, here); high = omega (arith, here, less) }; page = omega (arith, here) })
    (λ (past : x.count ≤ p).
    let rest : Located xs (p - length own) h = locate xs (p - length own) h (sym (get_right own (homes_of xs) p (omega (arith, long, past))) ∙ is) in
    let before : length (homes_of (take (suc rest.place) (x ∷ xs))) ≡ length own + length (homes_of (take rest.place xs)) = length-append own (homes_of (take rest.place xs)) in
    let page = rest.page in
    record { place = suc rest.place; extent = rest.extent; is = rest.is; has = rest.has; page = omega (arith, before, page, long, past) })
    (cases_lt p x.count)

-- one home of one extent is of one page
one_page : (xs ys : List Extent) (p q h : ℕ) (a : Located xs p h) (b : Located ys q h) → xs ≡ ys → a.place ≡ b.place → p ≡ q
one_page xs ys p q h a b lists places =
    let extents : a.extent ≡ b.extent = same_Some a.extent b.extent (sym a.is ∙ ap (λ (zs : List Extent). slice_get zs a.place) lists ∙ ap (slice_get ys) places ∙ b.is) in
    a.page ∙ ap (λ (zs : List Extent). length (homes_of (take a.place zs)) + (h - a.extent.first)) lists
    ∙ ap (λ n. length (homes_of (take n ys)) + (h - a.extent.first)) places
    ∙ ap (λ (x : Extent). length (homes_of (take b.place ys)) + (h - x.first)) extents ∙ sym b.page

located : (entries : List (Option Entry)) (f p h : ℕ) (has : HasHome entries f p h) → Located (extents_of has.entry) p h
located entries f p h has = locate (extents_of has.entry) p h has.home

extent_is : (entries : List (Option Entry)) (f p h : ℕ) (has : HasHome entries f p h) → IsExtent entries f (located entries f p h has).place (located entries f p h has).extent
extent_is entries f p h has = record { entry = has.entry; file = has.file; extent = (located entries f p h has).is }

apart : (pages homes : ℕ) (entries : List (Option Entry)) → IsGoodLayout pages homes entries → (f p g q h : ℕ) → HasHome entries f p h → HasHome entries g q h → (f ≡ g) × (p ≡ q)
apart pages homes entries good f p g q h has also =
    let a = located entries f p h has in
    let b = located entries g q h also in
    let same = good.apart f a.place g b.place a.extent b.extent (extent_is entries f p h has) (extent_is entries g q h also) (record { home = h; one = a.has; other = b.has }) in
    let entry : has.entry ≡ also.entry = same_Some has.entry also.entry (sym has.file ∙ ap (entry_in entries) same.0 ∙ also.file) in
    (same.0, one_page (extents_of has.entry) (extents_of also.entry) p q h a b (ap (λ (e : Entry). extents_of e) entry) same.1)

pub gives_homes : (pages homes : ℕ) (entries : List (Option Entry)) → IsGoodLayout pages homes entries → GivesHomes pages homes entries
gives_homes pages homes entries good = record {
  within = λ f p h has. good.within f (located entries f p h has).place h (located entries f p h has).extent (extent_is entries f p h has) (located entries f p h has).has;
  apart = apart pages homes entries good;
  each = λ f p e is inside.
      let enough = good.enough f e is in
      (get_or (homes_of (extents_of e)) p 0, record { entry = e; file = is; home = slice_get-get_or (homes_of (extents_of e)) p 0 (omega (arith, inside, enough)) });
}
