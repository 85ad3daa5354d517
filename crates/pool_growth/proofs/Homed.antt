-- The homes of new pages, by the changes that bring them.
use Rattle.std.proofs.Common.{ℕ, zero, suc, ◌≡◌, ◌<◌, ◌≤◌, ◌+◌, ◌-◌, ◌⊎◌, ◌∙◌, ◌∷◌, [], List, length, take, get_or, slice_get, eqb, Option, Some, None, refl, sym, ap, subst, inl, inr, ⊎_elim, arith, length-append}
use Rattle.std.proofs.lemmas.Bool.{cases_eq, cases_lt, cond-true, cond-false, eq-eqb, ne_eqb}
use Rattle.std.proofs.lemmas.List.FromFn.{length-range_with_len}
use Rattle.std.proofs.lemmas.Option.{none-some, same_Some, get_or_from_slice_get, slice_get_within}
use Rattle.std.specs.{List.{range_with_len}, Option.{option_map}, Prelude.{min}}
use Rattle.vm_types.specs.declared.{file.FilePage.{FilePage}}
use Rattle.directories.proofs.{Owned.{gives_homes}, Places.{get_left, get_right, get_counted}}
use Rattle.directories.specs.{Homes.{extents_of, homes_of, home_of_page, HasHome}, Laws.{GivesHomes}, Layouts.{entry_in}, declared.entry.Entry.{Entry}, declared.entry.Extent.{Extent}}
use Rattle.growth.proofs.{Changed.{change_there}, Listed.{no_change}}
use Rattle.growth.specs.{Changes.{change_of, entry_then}, declared.changes.Change.{Change}}
use Rattle.pool_growth.proofs.New.{entry_changed}
use Rattle.pool_growth.specs.Asked.{entries_then, AreFileChanges}
use Rattle.pool_growth.specs.Files.{files_after, file_page_count, info_then, IsNewPage}
use Rattle.pool_growth.specs.Putting.{home_then, IsHomeOfPages, IsHomeOfPart, IsNewHome, IsNewHomeOf}
use Rattle.pool_store.specs.{Files.{info_of}, Store.{home_by, info_by}, declared.directory.Directory.{Directory}}

-- A file is changed, or it has no change.
record IsChangedFile (changes : List Change) (f : ℕ) : Type 0 where
  place : ℕ
  change : Change
  is : slice_get changes place ≡ Some change
  file : change.file ≡ f
  found : change_of changes f ≡ Some change

is_changed_file : (changes : List Change) (f : ℕ) → IsChangedFile changes f ⊎ (change_of changes f ≡ None)
is_changed_file [] f = inr refl
is_changed_file (c ∷ cs) f = ⊎_elim
    (λ same. inl (record { place = 0; change = c; is = refl; file = same; found = cond-true (eqb c.file f) (Some c) (change_of cs f) (eq-eqb c.file f same) }))
    (λ other. let skips : change_of (c ∷ cs) f ≡ change_of cs f = cond-false (eqb c.file f) (Some c) (change_of cs f) (ne_eqb c.file f other) in
    ⊎_elim (λ of. inl (record { place = suc of.place; change = of.change; is = of.is; file = of.file; found = skips ∙ of.found })) (λ none. inr (skips ∙ none)) (is_changed_file cs f))
    (cases_eq c.file f)

-- a page that has a home is of an entry
by_entry : (entry : Option Entry) (k h : ℕ) → home_by entry k ≡ Some h → (e : Entry) × (entry ≡ Some e) × (home_of_page e k ≡ Some h)
by_entry None k h home = absurd (none-some h home)
by_entry (Some e) k h home = (e, refl, home)

-- Page k of extents is, past the homes of the first j, at its place in extent j.
pub home_at : (xs : List Extent) (j k : ℕ) (x : Extent) → slice_get xs j ≡ Some x → length (homes_of (take j xs)) ≤ k → k < length (homes_of (take j xs)) + x.count
    → slice_get (homes_of xs) k ≡ Some (x.first + (k - length (homes_of (take j xs))))
home_at [] j k x is low high = absurd (none-some x is)
home_at (y ∷ ys) zero k x is low high =
    let same : y ≡ x = same_Some y x is in
    let counts : y.count ≡ x.count = ap (λ (z : Extent). z.count) same in
    let firsts : y.first ≡ x.first = ap (λ (z : Extent). z.first) same in
    let none : length (homes_of (take 0 (y ∷ ys))) ≡ 0 = refl in
    let long = length-range_with_len y.first y.count in
    let at : y.first + k ≡ x.first + (k - length (homes_of (take 0 (y ∷ ys)))) = omega (arith, firsts, none) in
    get_left (range_with_len y.first y.count) (homes_of ys) k (omega (arith, long, counts, high, none))
    ∙ get_counted y.first y.count k (omega (arith, counts, high, none)) ∙ ap Some at
home_at (y ∷ ys) (suc j) k x is low high =
    let own = range_with_len y.first y.count in
    let before : length (homes_of (take (suc j) (y ∷ ys))) ≡ length own + length (homes_of (take j ys)) = length-append own (homes_of (take j ys)) in
    let at : x.first + (k - length own - length (homes_of (take j ys))) ≡ x.first + (k - length (homes_of (take (suc j) (y ∷ ys)))) = omega (arith, before) in
    get_right own (homes_of ys) k (omega (arith, before, low))
    ∙ home_at ys j (k - length own) x is (omega (arith, before, low)) (omega (arith, before, low, high)) ∙ ap Some at

-- more pages
pub more_pages : (entry : Option Entry) (low high from to : ℕ) → from ≤ low → high ≤ to → (h : ℕ) → IsHomeOfPages entry low high h → IsHomeOfPages entry from to h
more_pages entry low high from to less more h of = (of.0, omega (arith, of.1, less), omega (arith, of.2, more), of.3)

-- The pages of an entry that have their homes in extent j, from one place of it up to another, where those up to `before` are not looked for:
module _ (entry : Option Entry) (e : Entry) (some : entry ≡ Some e) (items : List Extent) (are : items ≡ extents_of e) (j : ℕ) (x : Extent) (is : slice_get items j ≡ Some x)
    (before pages passed low high : ℕ) (passed_is : passed ≡ length (homes_of (take j items))) (low_is : low ≡ before - passed) (high_is : high ≡ min (pages - passed) x.count) where
  at_place : (k : ℕ) → passed ≤ k → k < passed + x.count → home_by entry k ≡ Some (x.first + (k - passed))
  at_place k from to = ap (λ o. home_by o k) some ∙ ap (λ xs. slice_get (homes_of xs) k) (sym are)
      ∙ home_at items j k x is (omega (arith, passed_is, from)) (omega (arith, passed_is, to))
      ∙ ap (λ n. Some (x.first + (k - n))) (sym passed_is)

  at_home : (h : ℕ) → IsHomeOfPart x low high h → home_by entry (passed + (h - x.first)) ≡ Some h
  at_home h part =
      let same : x.first + (passed + (h - x.first) - passed) ≡ h = omega (arith, part.0) in
      at_place (passed + (h - x.first)) (omega arith) (omega (arith, part.0, part.1, high_is)) ∙ ap Some same

  -- each of them is one of the pages up to the end of that extent,
  pub part_pages : (h : ℕ) → IsHomeOfPart x low high h → IsHomeOfPages entry before (min pages (passed + x.count)) h
  part_pages h part = (passed + (h - x.first), omega (arith, part.0, low_is), omega (arith, part.0, part.1, high_is), at_home h part)

  -- as are those before it,
  pub front_pages : (h : ℕ) → IsHomeOfPages entry before (min pages passed) h → IsHomeOfPages entry before (min pages (passed + x.count)) h
  front_pages = more_pages entry before (min pages passed) before (min pages (passed + x.count)) (omega arith) (omega arith)

  -- and no other is.
  pub each_page : (h : ℕ) → IsHomeOfPages entry before (min pages (passed + x.count)) h → IsHomeOfPages entry before (min pages passed) h ⊎ IsHomeOfPart x low high h
  each_page h all = ⊎_elim
      (λ less. inl (all.0, all.1, omega (arith, all.2, less), all.3))
      (λ from. (let same : x.first + (all.0 - passed) ≡ h = same_Some (x.first + (all.0 - passed)) h (sym (at_place all.0 from (omega (arith, all.2))) ∙ all.3) in
      inr (omega (arith, same, low_is, all.1, from), omega (arith, same, high_is, all.2, from))))
      (cases_lt all.0 passed)

  -- No home is of both.
  pub two_parts : ((k l h : ℕ) → home_by entry k ≡ Some h → home_by entry l ≡ Some h → k ≡ l) → (h : ℕ) → IsHomeOfPages entry before (min pages passed) h → IsHomeOfPart x low high h → ⊥
  two_parts one h front part = (let page = one front.0 (passed + (h - x.first)) h front.3 (at_home h part) in omega (arith, front.2, page))

-- a home of a new page of the first so many changes
abbrev pub IsHomeOfFirst : Directory → List Change → ℕ → ℕ → Type 0
IsHomeOfFirst directory changes count h = (i : ℕ) × (c : Change) × (i < count) × (slice_get changes i ≡ Some c) × IsNewHomeOf directory c h

-- Changes of a store with n homes:
module _ (n : ℕ) (directory : Directory) (changes : List Change) (are : AreFileChanges n directory changes) where
  homes : GivesHomes directory.pages n (entries_then directory changes)
  homes = gives_homes directory.pages n (entries_then directory changes) are.may.good

  -- A change of them gives its file
  module _ (i : ℕ) (c : Change) (is : slice_get changes i ≡ Some c) where
    found : change_of changes c.file ≡ Some c
    found = change_there changes i c are.changes.rising is

    entry_is : entry_in (entries_then directory changes) c.file ≡ c.entry
    entry_is = entry_changed n directory changes are i c is

    -- pages with homes,
    has_home : (k h : ℕ) → home_by c.entry k ≡ Some h → HasHome (entries_then directory changes) c.file k h
    has_home k h home = (let of = by_entry c.entry k h home in record { entry = of.0; file = entry_is ∙ of.1; home = of.2 })

    -- no two pages with one,
    pub one_page : (k l h : ℕ) → home_by c.entry k ≡ Some h → home_by c.entry l ≡ Some h → k ≡ l
    one_page k l h one two = (homes.apart c.file k c.file l h (has_home k h one) (has_home l h two)).1

    -- enough extents,
    pub homes_enough : (e : Entry) → c.entry ≡ Some e → file_page_count (option_map info_of c.entry) ≤ length (homes_of (extents_of e))
    homes_enough e some = subst (λ o. file_page_count (option_map info_of o) ≤ length (homes_of (extents_of e))) (sym some) (are.may.good.enough c.file e (entry_is ∙ some))

    -- and these lie on the device.
    pub extent_inside : (e : Entry) (j high : ℕ) (x : Extent) → c.entry ≡ Some e → slice_get (extents_of e) j ≡ Some x → high ≤ x.count → 0 < high → x.first + high ≤ n
    extent_inside e j high x some at most least =
        let below = (are.may.good.within c.file j (x.first + (high - 1)) x (record { entry = e; file = entry_is ∙ some; extent = at }) (record { low = omega arith; high = omega (arith, most, least) })).1 in
        omega (arith, below, least)

  -- The pages of two of them have homes apart.
  pub one_file : (i j k l h : ℕ) (c d : Change) → slice_get changes i ≡ Some c → slice_get changes j ≡ Some d → home_by c.entry k ≡ Some h → home_by d.entry l ≡ Some h → c.file ≡ d.file
  one_file i j k l h c d is also one two = (homes.apart c.file k d.file l h (has_home i c is k h one) (has_home j d also l h two)).0

  -- What a file is that has a change:
  pages_then : (f : ℕ) (of : IsChangedFile changes f) → file_page_count (files_after (info_by directory) changes f) ≡ file_page_count (option_map info_of of.change.entry)
  pages_then f of = ap (λ r. file_page_count (info_then r (info_by directory f))) of.found

  home_then_is : (p : FilePage) (of : IsChangedFile changes p.file) → home_then directory changes (Some p) ≡ home_by of.change.entry p.page
  home_then_is p of = ap (λ r. home_by (entry_then r (entry_in directory.entries.items p.file)) p.page) of.found

  -- each file with a new page has one.
  new_of : (f k : ℕ) → IsNewPage (info_by directory) changes f k → IsChangedFile changes f
  new_of f k new = ⊎_elim (λ of. of)
      (λ none. let same : file_page_count (files_after (info_by directory) changes f) ≡ file_page_count (info_by directory f) = ap (λ r. file_page_count (info_then r (info_by directory f))) none in
      absurd (omega (arith, same, new.0, new.1)))
      (is_changed_file changes f)

  -- So a home of a new page is one of its change's new pages,
  pub new_home_of : (h : ℕ) → IsNewHome directory changes h → (i : ℕ) × (c : Change) × (slice_get changes i ≡ Some c) × IsNewHomeOf directory c h
  new_home_of h new =
      let p = new.0 in
      let of = new_of p.file p.page new.1 in
      let had : file_page_count (info_by directory of.change.file) ≡ file_page_count (info_by directory p.file) = ap (λ f. file_page_count (info_by directory f)) of.file in
      (of.place, of.change, of.is, (p.page, omega (arith, had, new.1.0), omega (arith, pages_then p.file of, new.1.1), sym (home_then_is p of) ∙ new.2))

  -- and each of these is one.
  pub new_by_change : (i : ℕ) (c : Change) → slice_get changes i ≡ Some c → (h : ℕ) → IsNewHomeOf directory c h → IsNewHome directory changes h
  new_by_change i c is h of =
      let changed : IsChangedFile changes c.file = record { place = i; change = c; is = is; file = refl; found = found i c is } in
      let p : FilePage = record { file = c.file; page = of.0 } in
      (p, (of.1, omega (arith, pages_then c.file changed, of.2)), home_then_is p changed ∙ of.3)

  -- Homes of the new pages of the first changes are homes of new pages:
  pub first_new : (count h : ℕ) → IsHomeOfFirst directory changes count h → IsNewHome directory changes h
  first_new count h of = new_by_change of.0 of.1 of.3 h of.4

  -- those of all changes are all of these,
  pub new_first : (h : ℕ) → IsNewHome directory changes h → IsHomeOfFirst directory changes (length changes) h
  new_first h new = (let of = new_home_of h new in (of.0, of.1, slice_get_within changes of.0 of.1 of.2, of.2, of.3))

  -- and those of one more change are others.
  module _ (count : ℕ) (c : Change) (is : slice_get changes count ≡ Some c) where
    pub front_first : (h : ℕ) → IsHomeOfFirst directory changes count h → IsHomeOfFirst directory changes (count + 1) h
    front_first h of = (of.0, of.1, omega (arith, of.2), of.3, of.4)

    pub next_first : (h : ℕ) → IsNewHomeOf directory c h → IsHomeOfFirst directory changes (count + 1) h
    next_first h of = (count, c, omega arith, is, of)

    pub each_first : (h : ℕ) → IsHomeOfFirst directory changes (count + 1) h → IsHomeOfFirst directory changes count h ⊎ IsNewHomeOf directory c h
    each_first h of = ⊎_elim
        (λ less. inl (of.0, of.1, less, of.3, of.4))
        (λ past. (let last : of.0 ≡ count = omega (arith, past, of.2) in
        let same : of.1 ≡ c = same_Some of.1 c (sym of.3 ∙ ap (slice_get changes) last ∙ is) in inr (subst (λ (d : Change). IsNewHomeOf directory d h) same of.4)))
        (cases_lt of.0 count)

    pub apart_first : (h : ℕ) → IsHomeOfFirst directory changes count h → IsNewHomeOf directory c h → ⊥
    apart_first h of also =
        let same = one_file of.0 count of.4.0 also.0 h of.1 c of.3 is of.4.3 also.3 in
        let one : get_or changes of.0 no_change ≡ of.1 = get_or_from_slice_get changes of.0 of.1 no_change of.3 in
        let two : get_or changes count no_change ≡ c = get_or_from_slice_get changes count c no_change is in
        let less = are.changes.rising of.0 count no_change of.2 (slice_get_within changes count c is) in
        let first = ap (λ (d : Change). d.file) one in
        let second = ap (λ (d : Change). d.file) two in
        omega (arith, same, less, first, second)
