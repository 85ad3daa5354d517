-- The new pages of changes, and their homes.
use Rattle.std.proofs.Common.{ℕ, suc, ◌≡◌, ◌<◌, ◌≤◌, ◌+◌, ◌-◌, ◌*◌, ◌^◌, ⊎_elim, ◌∷◌, [], List, length, get_or, slice_get, eqb, refl, sym, ap, subst, ◌∙◌, arith, Bor, Option, Some, None}
use Rattle.std.proofs.lemmas.Bool.{cases_lt, cond-false, ne_eqb}
use Rattle.std.proofs.lemmas.List.{get_or_past}
use Rattle.std.proofs.lemmas.List.FromFn.{length-range_with_len}
use Rattle.std.proofs.lemmas.Option.{none-some, same_Some, get_or_from_slice_get, slice_get-get_or, slice_get_within}
use Rattle.std.specs.{List.{range_with_len}, Option.{option_copied, option_map}}
use Rattle.vm_types.specs.declared.{file.FileInfo.{FileInfo}, file.FilePage.{FilePage}}
use Rattle.directories.specs.{Homes.{extents_of, homes_of, home_of_page, HasHome}, Layouts.{entry_in, IsHomeIn}, declared.entry.Entry.{Entry}, declared.entry.Extent.{Extent}}
use Rattle.directories.proofs.{Owned.{gives_homes}, Places.{get_left, get_right, get_counted}}
use Rattle.growth.specs.{Changes.{change_of, entry_after, entry_then, IsFreeHome}, declared.changes.Change.{Change}}
use Rattle.growth.proofs.{Changed.{Rise, length_after, entry_there, entry_of_change}, Lasting.{keep_homes}, Listed.{no_change}}
use Rattle.pool_growth.proofs.Numbered.{few_apart}
use Rattle.pool_growth.specs.{Asked.{AreFileChanges, AreNewPages, entries_then}, Files.{added, added_count, files_after, info_then, file_page_count, HasThen}, Putting.{home_then, new_home, IsNewHome}}
use Rattle.pool_store.proofs.Ordered.{no_page, page_is}
use Rattle.pool_store.specs.{Files.{info_of}, Places.{number_of}, Store.{home_by, info_by, IsDirectoryOn}, declared.directory.Directory.{Directory}}

-- files rise: those of the rest do, from beyond the first on
rest_rise : (c : Change) (cs : List Change) → Rise (c ∷ cs) → Rise cs
rest_rise c cs rise j k d less inside = rise (suc j) (suc k) d (omega (arith, less)) (omega (arith, inside))

first_least : (c : Change) (cs : List Change) (i : ℕ) (d : Change) → Rise (c ∷ cs) → slice_get cs i ≡ Some d → c.file < d.file
first_least c cs i d rise is =
    let inside : i < length cs = slice_get_within cs i d is in
    let less : c.file < (get_or cs i no_change).file = rise 0 (suc i) no_change (omega arith) (omega (arith, inside)) in
    subst (λ (e : Change). c.file < e.file) (get_or_from_slice_get cs i d no_change is) less

-- Entries of files whose numbers are below 4,096, and whose lengths are 2 ^ 42 at most: they add few pages.
abbrev IsSmall : ℕ → Option Entry → Type 0
IsSmall f entry = (e : Entry) → entry ≡ Some e → (f < 4096) × (e.length ≤ 2 ^ 42)

entry_small : (f : ℕ) (entry : Option Entry) → IsSmall f entry → (file_page_count (option_map info_of entry) ≤ 2 ^ 30) × (0 < file_page_count (option_map info_of entry) → f < 4096)
entry_small f None small = (omega arith, λ some. absurd (omega (arith, some)))
entry_small f (Some e) small =
    let length = (small e refl).1 in
    (omega (arith, length), λ _. (small e refl).0)

count_small : (files : ℕ → Option FileInfo) (changes : List Change) (b : ℕ) → Rise changes → ((i : ℕ) (c : Change) → slice_get changes i ≡ Some c → (b ≤ c.file) × IsSmall c.file c.entry)
    → added_count files changes ≤ 2 ^ 30 * (4096 - b)
count_small files [] b rise small = omega arith
count_small files (c ∷ cs) b rise small =
    let own = small 0 c refl in
    let low = own.0 in
    let one = entry_small c.file c.entry own.1 in
    let most = one.0 in
    let rest : added_count files cs ≤ 2 ^ 30 * (4096 - (b + 1)) = count_small files cs (b + 1) (rest_rise c cs rise)
    (λ i d is. let less = first_least c cs i d rise is in (omega (arith, less, low), (small (suc i) d is).1)) in
    ⊎_elim
    (λ (some : 0 < added files c). let file = one.1 (omega (arith, some)) in omega (arith, file, low, most, rest))
    (λ none. omega (arith, none, rest))
    (cases_lt 0 (added files c))

-- a home is of an extent
record IsOfExtent (xs : List Extent) (h : ℕ) : Type 0 where
  place : ℕ
  extent : Extent
  is : slice_get xs place ≡ Some extent
  has : IsHomeIn extent h

of_extent : (xs : List Extent) (p h : ℕ) → slice_get (homes_of xs) p ≡ Some h → IsOfExtent xs h
of_extent [] p h is = absurd (none-some h is)
of_extent (x ∷ xs) p h is =
    let own : List ℕ = range_with_len x.first x.count in
    let long : length own ≡ x.count = length-range_with_len x.first x.count in
    ⊎_elim
    (λ (less : p < x.count).
    let here : x.first + p ≡ h = same_Some (x.first + p) h (sym (get_left own (homes_of xs) p (omega (arith, long, less)) ∙ get_counted x.first x.count p less) ∙ is) in
    record { place = 0; extent = x; is = refl; has = record { low = omega (arith, here); high = omega (arith, here, less) } })
    (λ (past : x.count ≤ p).
    let rest = of_extent xs (p - length own) h (sym (get_right own (homes_of xs) p (omega (arith, long, past))) ∙ is) in
    record { place = suc rest.place; extent = rest.extent; is = rest.is; has = rest.has })
    (cases_lt p x.count)

not_free : (entries : List (Option Entry)) (f p h : ℕ) → IsFreeHome entries h → HasHome entries f p h → ⊥
not_free entries f p h free home =
    let at = of_extent (extents_of home.entry) p h home.home in
    free f at.place at.extent (record { entry = home.entry; file = home.file; extent = at.is }) at.has

-- no change is of a file that has no place
unchanged : (changes : List Change) (f n : ℕ) → ((i : ℕ) (c : Change) → slice_get changes i ≡ Some c → c.file < n) → n ≤ f → change_of changes f ≡ None
unchanged [] f n inside past = refl
unchanged (c ∷ cs) f n inside past =
    let less = inside 0 c refl in
    cond-false (eqb c.file f) (Some c) (change_of cs f) (ne_eqb c.file f (λ same. omega (arith, less, past, same)))
    ∙ unchanged cs f n (λ i d is. inside (suc i) d is) past

-- what is fixed of a file by the entry that it has then
info_same : (change : Option Change) (was : Option Entry) → option_map info_of (entry_then change was) ≡ info_then change (option_map info_of was)
info_same None was = refl
info_same (Some c) was = refl

some_pages : (entry : Option Entry) (k : ℕ) → k < file_page_count (option_map info_of entry) → (e : Entry) × (entry ≡ Some e) × (k < file_page_count (Some (info_of e)))
some_pages None k less = absurd (omega (arith, less))
some_pages (Some e) k less = (e, refl, less)

-- Files after changes:
module _ (n : ℕ) (directory : Directory) (changes : List Change) (are : AreFileChanges n directory changes) where
  -- what stands at a place of the entries,
  entry_found : (f : ℕ) → entry_in (entries_then directory changes) f ≡ entry_after directory.entries.items changes f
  entry_found f =
      let entries = directory.entries.items in
      let long = length_after entries changes in
      ⊎_elim
      (λ (inside : f < length entries). entry_there entries changes f inside)
      (λ (past : length entries ≤ f).
      let none = unchanged changes f (length entries) (λ i c is. subst (λ (d : Change). d.file < length entries) (get_or_from_slice_get changes i c no_change is)
      (are.changes.inside i no_change (slice_get_within changes i c is))) past in
      get_or_past (entries_then directory changes) f None (omega (arith, long, past)) ∙ sym (get_or_past entries f None past)
      ∙ ap (λ (r : Option Change). entry_then r (entry_in entries f)) (sym none))
      (cases_lt f (length entries))

  -- and what is fixed of its file;
  pub info_later : (f : ℕ) → files_after (info_by directory) changes f ≡ option_map info_of (entry_in (entries_then directory changes) f)
  info_later f = sym (ap (option_map info_of) (entry_found f) ∙ info_same (change_of changes f) (entry_in directory.entries.items f))

  -- where there is a change, what it gives,
  pub entry_changed : (i : ℕ) (c : Change) → slice_get changes i ≡ Some c → entry_in (entries_then directory changes) c.file ≡ c.entry
  entry_changed i c is = entry_of_change directory.entries.items changes i c are.changes is

  -- a file of a number below 4,096, and a length of 2 ^ 42 at most.
  pub change_small : (i : ℕ) (c : Change) (e : Entry) → slice_get changes i ≡ Some c → c.entry ≡ Some e → (c.file < 4096) × (e.length ≤ 2 ^ 42)
  change_small i c e is some = let bound = are.may.bounded c.file e (entry_changed i c is ∙ some) in (bound.0, bound.1)

  -- So new pages can be counted.
  pub added_few : added_count (info_by directory) changes ≤ 2 ^ 42
  added_few =
      let most = count_small (info_by directory) changes 0 are.changes.rising (λ i c is. (omega arith, λ e some. change_small i c e is some)) in
      omega (arith, most)

  -- A page of a file has a home,
  pub later_homed : (f k : ℕ) → k < file_page_count (files_after (info_by directory) changes f) → (h : ℕ) × HasHome (entries_then directory changes) f k h
  later_homed f k below =
      let some = some_pages (entry_in (entries_then directory changes) f) k (subst (λ o. k < file_page_count o) (info_later f) below) in
      (gives_homes directory.pages n (entries_then directory changes) are.may.good).each f k some.0 some.1 some.2

  -- which is the one that is found.
  pub home_is : (p : FilePage) (h : ℕ) → HasHome (entries_then directory changes) p.file p.page h → home_then directory changes (Some p) ≡ Some h
  home_is p h has = ap (λ e. home_by e p.page) (sym (entry_found p.file) ∙ has.file) ∙ has.home

  -- The home of a page of a file is found,
  pub home_found : (p : FilePage) (found : Option Entry) (f : ℕ) → HasThen (info_by directory) changes p → f ≡ p.file → found ≡ entry_after directory.entries.items changes f
      → (h : ℕ) × (home_by found p.page ≡ Some h) × (h < n)
  home_found p found f there file is =
      let home = later_homed p.file p.page there in (
        home.0,
        ap (λ (o : Option Entry). home_by o p.page) (is ∙ ap (entry_after directory.entries.items changes) file) ∙ home_is p home.0 home.1,
        ((gives_homes directory.pages n (entries_then directory changes) are.may.good).within p.file p.page home.0 home.1).1,
      )

  -- where its entry is
  pub home_by_entry : (p : FilePage) (found : Option (Bor Entry)) (e : Bor Entry) (f k : ℕ) (home : Option ℕ) → HasThen (info_by directory) changes p → f ≡ p.file
      → option_copied found ≡ entry_after directory.entries.items changes f → found ≡ Some e → k ≡ p.page → home ≡ home_of_page e.now k → (h : ℕ) × (home ≡ Some h) × (h < n)
  home_by_entry p found e f k home there file is some page at =
      let has = home_found p (option_copied found) f there file is in
      (has.0, at ∙ ap (home_of_page e.now) page ∙ sym (ap (λ o. home_by (option_copied o) p.page) some) ∙ has.1, has.2)

  pub home_below : (p : FilePage) (found : Option (Bor Entry)) (e : Bor Entry) (f k : ℕ) (home : Option ℕ) (h : ℕ) → HasThen (info_by directory) changes p → f ≡ p.file
      → option_copied found ≡ entry_after directory.entries.items changes f → found ≡ Some e → k ≡ p.page → home ≡ home_of_page e.now k → home ≡ Some h → h < n
  home_below p found e f k home h there file is some page at this =
      let has = home_by_entry p found e f k home there file is some page at in
      subst (λ g. g < n) (same_Some has.0 h (sym has.1 ∙ this)) has.2

  -- A home of a new page is its home then,
  pub home_of_new : (h : ℕ) (new : IsNewHome directory changes h) → HasHome (entries_then directory changes) new.0.file new.0.page h
  home_of_new h new =
      let p = new.0 in
      let home = later_homed p.file p.page new.1.1 in
      subst (λ g. HasHome (entries_then directory changes) p.file p.page g) (same_Some home.0 h (sym (home_is p home.0 home.1) ∙ new.2)) home.1

  -- of the device and not of the directory.
  pub new_inside : (h : ℕ) → IsNewHome directory changes h → (directory.pages ≤ h) × (h < n)
  new_inside h new = (gives_homes directory.pages n (entries_then directory changes) are.may.good).within new.0.file new.0.page h (home_of_new h new)

  -- New pages that are given:
  module _ (fresh : List FilePage) (given : AreNewPages (info_by directory) changes fresh) where
    abbrev home : ℕ → ℕ
    home = new_home directory changes fresh

    -- each has a home,
    pub new_homed : (i : ℕ) → i < length fresh → (p : FilePage) × (slice_get fresh i ≡ Some p) × HasHome (entries_then directory changes) p.file p.page (new_home directory changes fresh i)
    new_homed i below =
        let p = get_or fresh i no_page in
        let is = slice_get-get_or fresh i no_page below in
        let at = later_homed p.file p.page (given.new i p is).1 in
        let same : home i ≡ at.0 = ap (λ q. number_of (home_then directory changes q)) is ∙ ap number_of (home_is p at.0 at.1) in
        (p, is, subst (λ h. HasHome (entries_then directory changes) p.file p.page h) (sym same) at.1)

    -- which is one of a new page,
    pub new_is_new : (i : ℕ) → i < length fresh → IsNewHome directory changes (new_home directory changes fresh i)
    new_is_new i below = (let has = new_homed i below in (has.0, given.new i has.0 has.1, home_is has.0 (home i) has.2))

    pub new_within : (i : ℕ) → i < length fresh → (directory.pages ≤ new_home directory changes fresh i) × (new_home directory changes fresh i < n)
    new_within i below = new_inside (home i) (new_is_new i below)

    -- and no other has then.
    pub new_own : (i f k : ℕ) → i < length fresh → HasHome (entries_then directory changes) f k (new_home directory changes fresh i) → slice_get fresh i ≡ Some (record { file = f; page = k })
    new_own i f k below at =
        let has = new_homed i below in
        let same = (gives_homes directory.pages n (entries_then directory changes) are.may.good).apart has.0.file has.0.page f k (home i) has.2 at in
        has.1 ∙ ap Some (page_is has.0 f k same.0 same.1)

    new_two : (i j : ℕ) → i < j → j < length fresh → home i ≡ home j → ⊥
    new_two i j less below same =
        let other = new_homed j below in
        given.distinct i j other.0 less (new_own i other.0.file other.0.page (omega (arith, less, below)) (subst (λ h. HasHome (entries_then directory changes) other.0.file other.0.page h) (sym same) other.2)) other.1

    -- of its own,
    pub new_apart : (i j : ℕ) → i < length fresh → j < length fresh → new_home directory changes fresh i ≡ new_home directory changes fresh j → i ≡ j
    new_apart i j one two same = ⊎_elim (λ less. absurd (new_two i j less two same))
        (λ from. ⊎_elim (λ less. absurd (new_two j i less one (sym same))) (λ from'. omega (arith, from, from')) (cases_lt j i))
        (cases_lt i j)

    -- so that they are no more than the device's homes.
    pub fresh_few : length fresh ≤ n
    fresh_few = few_apart n (length fresh) home (λ i below. (new_within i below).1) new_two

-- Changes of a directory:
module _ (n : ℕ) (directory : Directory) (on : IsDirectoryOn n directory) (changes : List Change) (are : AreFileChanges n directory changes) where
  -- what stands at a place of the entries after them
  pub entry_later : (f : ℕ) → entry_in (entries_then directory changes) f ≡ entry_after directory.entries.items changes f
  entry_later f = entry_found n directory changes are f

  -- a home that a page had is none of a new one
  pub old_not_new : (f k h : ℕ) → k < file_page_count (info_by directory f) → HasHome directory.entries.items f k h → IsNewHome directory changes h → ⊥
  old_not_new f k h there home new =
      let p = new.0 in
      let behind = new.1.0 in
      ⊎_elim
      (λ (was : HasHome directory.entries.items p.file p.page h).
      let same = (gives_homes directory.pages n directory.entries.items on.good).apart p.file p.page f k h was home in
      let pages : file_page_count (info_by directory p.file) ≡ file_page_count (info_by directory f) = ap (λ g. file_page_count (info_by directory g)) same.0 in
      let page = same.1 in
      omega (arith, behind, there, pages, page))
      (λ free. not_free directory.entries.items f k h free home)
      (keep_homes directory.entries.items (entries_then directory changes) are.free p.file p.page h (home_of_new n directory changes are h new))

  -- nor is one of the directory's
  pub front_not_new : (h : ℕ) → h < directory.pages → IsNewHome directory changes h → ⊥
  front_not_new h below new = (let within = (new_inside n directory changes are h new).0 in omega (arith, below, within))
