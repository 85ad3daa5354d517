-- The pages of files that a commit of changes puts into slots, in the order of the homes that they have then.
use Rattle.std.proofs.Common.{◌≡◌, ◌<◌, ◌≤◌, ◌+◌, ◌-◌, ℕ, List, Option, Some, None, length, map, get_or, slice_get, refl, sym, ap, subst, ◌∙◌, ⊎_elim, arith}
use Rattle.std.proofs.lemmas.{Bool.{cases_lt, cond-true, cond-false, lt-ltb, le-ltb}, List.{ext_get_or}, List.FromFn.{length-map-range_with_len, get_or-map-range_with_len}, Option.{slice_get-get_or, slice_get_within}}
use Rattle.std.specs.{List.{range_with_len}, List.Sorted.{IsPermutation, IsNonDecreasingBy}, Prelude.{nat_lt}}
use Rattle.vm_types.specs.declared.{file.FileInfo.{FileInfo}, file.FilePage.{FilePage}}
use Rattle.directories.specs.{Homes.{HasHome}, declared.entry.Entry.{Entry}}
use Rattle.file_store.specs.Standing.{IsPageOf}
use Rattle.growth.{proofs.Changed.{length_after}, specs.declared.changes.Change.{Change}}
use Rattle.pool_growth.proofs.{Cut.{begins_inside, is_counted}, New.{entry_later, info_later}}
use Rattle.pool_growth.specs.{Asked.{entries_then, AreFileChanges, AreNewPages}, Files.{files_after, given_page, HasThen}, Late.{given_home, given_place, given_places, late_count}, Putting.{home_then}}
use Rattle.pool_journal.specs.Giving.{AreRising}
use Rattle.pool_store.proofs.Ordered.{ArePlaced, are_placed, has_home, no_page, no_place, place_listed, places_long}
use Rattle.pool_store.specs.{Places.{index_at, number_of, places_from}, Store.{home_by, home_of, info_by, IsDirectoryOn}}
use Rattle.pool_store.specs.declared.{directory.Directory.{Directory}, room.Place.{Place}}

-- Page k of those that a source gives is a new one, or one of the list.
module _ (fresh list : List FilePage) (k : ℕ) where
  pub given_new : k < length fresh → given_page fresh list k ≡ slice_get fresh k
  given_new below = cond-true (nat_lt k (length fresh)) (slice_get fresh k) (slice_get list (k - length fresh)) (lt-ltb k (length fresh) below)

  pub given_listed : length fresh ≤ k → given_page fresh list k ≡ slice_get list (k - length fresh)
  given_listed past = cond-false (nat_lt k (length fresh)) (slice_get fresh k) (slice_get list (k - length fresh)) (le-ltb k (length fresh) past)

-- its place, once its home is found
pub place_is : (directory : Directory) (changes : List Change) (fresh list : List FilePage) (put k : ℕ) (p : FilePage) (h : ℕ) → put ≤ k → given_page fresh list k ≡ Some p
    → home_then directory changes (Some p) ≡ Some h → ◌≡◌ {A = Place} (record { home = h; index = k - put }) (given_place directory changes fresh list put (k - put))
place_is directory changes fresh list put k p h from is home =
    let back : put + (k - put) ≡ k = omega (arith, from) in
    let at : given_home directory changes fresh list (put + (k - put)) ≡ h =
    ap (given_home directory changes fresh list) back ∙ ap (λ (o : Option FilePage). number_of (home_then directory changes o)) is ∙ ap number_of home in
    ap (λ (n : ℕ). record { home = n; index = k - put }) (sym at)

-- Places are those of pages that a source gives, but for the first `put`, by their homes after changes, which are these:
pub record ArePlacedThen (directory : Directory) (changes : List Change) (fresh list : List FilePage) (put : ℕ) (places : List Place) (homes : List ℕ) : Type 0 where
  pub size : length homes ≡ late_count fresh list put
  pub count : length places ≡ late_count fresh list put
  -- each has the page of its index and that one's home,
  pub inside : (j : ℕ) → j < length homes → index_at places j < late_count fresh list put
  pub each : (j : ℕ) → j < length homes → (p : FilePage) × (given_page fresh list (put + index_at places j) ≡ Some p)
      × HasHome (entries_then directory changes) p.file p.page (get_or homes j 0)
  -- every page has one,
  pub found : (i : ℕ) → i < late_count fresh list put → (j : ℕ) × (j < length homes) × (index_at places j ≡ i)
  -- and the homes rise.
  pub rising : AreRising homes

abbrev page_or : Option FilePage → FilePage
page_or None = no_page
page_or (Some p) = p

module _ (n : ℕ) (directory : Directory) (on : IsDirectoryOn n directory) (changes : List Change) (are : AreFileChanges n directory changes)
    (fresh : List FilePage) (given : AreNewPages (info_by directory) changes fresh) (list : List FilePage)
    (before_in : (i : ℕ) (p : FilePage) → slice_get list i ≡ Some p → IsPageOf (info_by directory) p.file p.page)
    (after_in : (i : ℕ) (p : FilePage) → slice_get list i ≡ Some p → IsPageOf (files_after (info_by directory) changes) p.file p.page)
    (distinct : (i j : ℕ) (p : FilePage) → i < j → slice_get list i ≡ Some p → slice_get list j ≡ Some p → ⊥) where
  abbrev files : ℕ → Option FileInfo
  files = info_by directory

  abbrev added : ℕ
  added = length fresh

  -- each page that a source gives is there,
  pub given_there : (k : ℕ) → k < length fresh + length list → (p : FilePage) × (given_page fresh list k ≡ Some p)
  given_there k below = ⊎_elim
      (λ new. (get_or fresh k no_page, given_new fresh list k new ∙ slice_get-get_or fresh k no_page new))
      (λ past. (get_or list (k - added) no_page, given_listed fresh list k past ∙ slice_get-get_or list (k - added) no_page (omega (arith, below, past))))
      (cases_lt k added)

  -- one of its file then,
  pub given_inside : (k : ℕ) (p : FilePage) → given_page fresh list k ≡ Some p → HasThen (info_by directory) changes p
  given_inside k p is = ⊎_elim
      (λ new. (given.new k p (sym (given_new fresh list k new) ∙ is)).1)
      (λ past. (let inside = after_in (k - added) p (sym (given_listed fresh list k past) ∙ is) in is_counted (files_after files changes p.file) inside.0 p.page inside.1 inside.2))
      (cases_lt k added)

  -- and none is there twice.
  given_once : (k l : ℕ) (p : FilePage) → k < l → given_page fresh list k ≡ Some p → given_page fresh list l ≡ Some p → ⊥
  given_once k l p less one two = ⊎_elim
      (λ first.
      let a : slice_get fresh k ≡ Some p = sym (given_new fresh list k first) ∙ one in
      ⊎_elim
      (λ second. given.distinct k l p less a (sym (given_new fresh list l second) ∙ two))
      (λ past.
      let behind = (given.new k p a).0 in
      let inside = before_in (l - added) p (sym (given_listed fresh list l past) ∙ two) in
      let there = is_counted (files p.file) inside.0 p.page inside.1 inside.2 in omega (arith, behind, there))
      (cases_lt l added))
      (λ past. distinct (k - added) (l - added) p (omega (arith, less, past)) (sym (given_listed fresh list k past) ∙ one)
      (sym (given_listed fresh list l (omega (arith, less, past))) ∙ two))
      (cases_lt k added)

  -- The directory after the changes
  abbrev directory_then : Directory
  directory_then =
      let v = directory.entries in
      record {
        pages = directory.pages;
        entries = record { ptr = v.ptr; len = v.len; cap = v.cap; alloc = v.alloc; items = entries_then directory changes; ok = (v.ok.0 ∙ sym (length_after v.items changes), v.ok.1); small = v.small };
        numbers = λ f e is. (are.may.bounded f e is).0;
        lengths = λ f e is. (are.may.bounded f e is).1;
      }

  on_then : IsDirectoryOn n directory_then
  on_then = record { sized = on.sized; inside = on.inside; may = are.may }

  -- has pages from one on,
  module _ (put : ℕ) where
    abbrev count : ℕ
    count = late_count fresh list put

    abbrev page_at : ℕ → FilePage
    page_at i = page_or (given_page fresh list (put + i))

    abbrev late : List FilePage
    late = map page_at (range_with_len 0 count)

    late_long : length late ≡ count
    late_long = length-map-range_with_len page_at 0 count

    page_listed : (i : ℕ) → i < count → slice_get late i ≡ given_page fresh list (put + i)
    page_listed i below =
        let there = given_there (put + i) (omega (arith, below)) in
        slice_get-get_or late i no_page (omega (arith, below, late_long))
        ∙ ap Some (get_or-map-range_with_len page_at 0 count i i no_page below (omega arith) ∙ ap page_or there.1) ∙ sym there.1

    late_is : (i : ℕ) (p : FilePage) → slice_get late i ≡ Some p → (i < count) × (given_page fresh list (put + i) ≡ Some p)
    late_is i p is = (let below : i < count = (let within = slice_get_within late i p is in omega (arith, within, late_long)) in (below, sym (page_listed i below) ∙ is))

    inside_then : (i : ℕ) (p : FilePage) → slice_get late i ≡ Some p → IsPageOf (info_by directory_then) p.file p.page
    inside_then i p is =
        let begins = begins_inside (files_after files changes p.file) p.page (given_inside (put + i) p (late_is i p is).1) in
        (begins.0, sym (info_later n directory changes are p.file) ∙ begins.1, begins.2)

    apart : (i j : ℕ) (p : FilePage) → i < j → slice_get late i ≡ Some p → slice_get late j ≡ Some p → ⊥
    apart i j p less one two = given_once (put + i) (put + j) p (omega (arith, less)) (late_is i p one).1 (late_is j p two).1

    -- which are the places that the source gives,
    same_places : given_places directory changes fresh list put ≡ places_from directory_then 0 late
    same_places =
        let long = length-map-range_with_len (given_place directory changes fresh list put) 0 count in
        ext_get_or no_place (given_places directory changes fresh list put) (places_from directory_then 0 late) (long ∙ sym (places_long directory_then 0 late ∙ late_long))
        (λ i inside.
        let below : i < count = omega (arith, inside, long) in
        let there = given_there (put + i) (omega (arith, below)) in
        let p = there.0 in
        let home : given_home directory changes fresh list (put + i) ≡ number_of (home_of directory_then p) =
        ap (λ (o : Option FilePage). number_of (home_then directory changes o)) there.1 ∙ ap (λ (e : Option Entry). number_of (home_by e p.page)) (sym (entry_later n directory on changes are p.file)) in
        get_or-map-range_with_len (given_place directory changes fresh list put) 0 count i i no_place below (omega arith)
        ∙ ap (λ (h : ℕ). record { home = h; index = i }) home
        ∙ sym (place_listed directory_then i late p no_place (page_listed i below ∙ there.1)))

    -- in the order of their homes.
    pub are_placed_then : (places : List Place) → IsPermutation (given_places directory changes fresh list put) places → IsNonDecreasingBy (λ (place : Place). place.home) places
        → ArePlacedThen directory changes fresh list put places (map (λ (place : Place). place.home) places)
    are_placed_then places same up =
        let homes : List ℕ = map (λ (place : Place). place.home) places in
        let placed : ArePlaced directory_then late places homes = are_placed n directory_then on_then late inside_then apart places homes
        (subst (λ (xs : List Place). IsPermutation xs places) same_places same) up refl in
        record {
          size = placed.size ∙ late_long;
          count = placed.count ∙ late_long;
          inside = λ j below. (let each = placed.each j below in (late_is (index_at places j) each.0 each.1).0);
          each = λ j below. (let each = placed.each j below in (each.0, (late_is (index_at places j) each.0 each.1).1, has_home directory_then each.0 (get_or homes j 0) each.2));
          found = λ i below. placed.found i (omega (arith, below, late_long));
          rising = placed.rising;
        }
