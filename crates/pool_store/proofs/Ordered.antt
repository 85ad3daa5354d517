-- The pages of a commit in the order of their homes.
use Rattle.std.proofs.Common.{ℕ, zero, suc, ◌≡◌, ◌<◌, ◌≤◌, ◌+◌, ⊎_elim, List, [], ◌∷◌, length, map, get_or, take, slice_get, eqb, Bool, false, refl, sym, ap, subst, ◌∙◌, arith, Option, Some, None}
use Rattle.std.proofs.lemmas.{Bool.{cases_eq, cases_lt, eq-eqb, ne_eqb, false≢true}, Map.Keys.{IsDistinct-IsPermutation, IsDistinct-from_apart, apart_from_distinct}}
use Rattle.std.proofs.lemmas.List.{get_or_default, get_or-map, length-map, Sorted.{All-permutation, Contains-permutation, length_permutation}, Elements.{Contains-get_or}}
use Rattle.std.proofs.lemmas.Option.{none-some, same_Some, slice_get-get_or}
use Rattle.std.specs.{List.{All, Contains}, List.Sorted.{IsPermutation, IsNonDecreasingBy}}
use Rattle.vm_types.specs.declared.file.FilePage.{FilePage}
use Rattle.pool_journal.specs.Giving.{AreRising}
use Rattle.directories.{specs.{Homes.{HasHome}, declared.entry.Entry.{Entry}}, proofs.Owned.{gives_homes}}
use Rattle.file_store.specs.Standing.{IsPageOf}
use Rattle.pool_store.proofs.Homes.{page_home}
use Rattle.pool_store.specs.{Places.{number_of, places_from, index_at, PutsInOrder}, Store.{entry_of, info_by, home_by, home_of, IsDirectoryOn}}
use Rattle.pool_store.specs.declared.{directory.Directory.{Directory}, room.Place.{Place}}

-- a page by its file and its number
pub page_is : (p : FilePage) (f k : ℕ) → p.file ≡ f → p.page ≡ k → p ≡ record { file = f; page = k }
page_is p f k file page =
    let one : p ≡ record { file = f; page = p.page } = ap (λ x. record { file = x; page = p.page }) file in
    let two : record { file = f; page = p.page } ≡ record { file = f; page = k } = ap (λ x. record { file = f; page = x }) page in
    one ∙ two

-- a page that has a home
pub has_home : (directory : Directory) (p : FilePage) (h : ℕ) → home_of directory p ≡ Some h → HasHome directory.entries.items p.file p.page h
has_home directory p h = from (entry_of directory p.file) refl
  where
    from : (o : Option Entry) → entry_of directory p.file ≡ o → home_by o p.page ≡ Some h → HasHome directory.entries.items p.file p.page h
    from None at is = absurd (none-some h is)
    from (Some e) at is = record { entry = e; file = at; home = is }

-- no other page has it, nor the directory
pub one_page : (n : ℕ) (directory : Directory) → IsDirectoryOn n directory → (p q : FilePage) (h : ℕ) → home_of directory p ≡ Some h → home_of directory q ≡ Some h → p ≡ q
one_page n directory on p q h one two =
    let same = (gives_homes directory.pages n directory.entries.items on.good).apart p.file p.page q.file q.page h (has_home directory p h one) (has_home directory q h two) in
    page_is p q.file q.page same.0 same.1

pub home_behind : (n : ℕ) (directory : Directory) → IsDirectoryOn n directory → (p : FilePage) (h : ℕ) → home_of directory p ≡ Some h → (directory.pages ≤ h) × (h < n)
home_behind n directory on p h is = (gives_homes directory.pages n directory.entries.items on.good).within p.file p.page h (has_home directory p h is)

-- the place of the page at an index
abbrev place_of : Directory → ℕ → FilePage → Place
place_of directory i p = record { home = number_of (home_of directory p); index = i }

place_from : (directory : Directory) (i k : ℕ) (pages : List FilePage) (p : FilePage) (d : Place) → slice_get pages k ≡ Some p
    → get_or (places_from directory i pages) k d ≡ record { home = number_of (home_of directory p); index = i + k }
place_from directory i k [] p d at = absurd (none-some p at)
place_from directory i zero (q ∷ pages) p d at =
    let index : i ≡ i + 0 = omega arith in ap (place_of directory i) (same_Some q p at) ∙ ap (λ n. place_of directory n p) index
place_from directory i (suc k) (q ∷ pages) p d at =
    let index : i + 1 + k ≡ i + suc k = omega arith in place_from directory (i + 1) k pages p d at ∙ ap (λ n. place_of directory n p) index

-- which is counted from the front
pub place_listed : (directory : Directory) (k : ℕ) (pages : List FilePage) (p : FilePage) (d : Place) → slice_get pages k ≡ Some p
    → get_or (places_from directory 0 pages) k d ≡ record { home = number_of (home_of directory p); index = k }
place_listed directory k pages p d at = let index : 0 + k ≡ k = omega arith in place_from directory 0 k pages p d at ∙ ap (λ n. place_of directory n p) index

pub places_long : (directory : Directory) (i : ℕ) (pages : List FilePage) → length (places_from directory i pages) ≡ length pages
places_long directory i [] = refl
places_long directory i (p ∷ pages) = ap suc (places_long directory (i + 1) pages)

abbrev pub no_page : FilePage
no_page = record { file = 0; page = 0 }

abbrev pub no_place : Place
no_place = record { home = 0; index = 0 }

-- Places are those of the pages of a list, by their homes, which are these:
pub record ArePlaced (directory : Directory) (list : List FilePage) (places : List Place) (homes : List ℕ) : Type 0 where
  pub size : length homes ≡ length list
  pub count : length places ≡ length list
  -- each has the page of its index and that one's home,
  pub each : (i : ℕ) → i < length homes → (p : FilePage) × (slice_get list (index_at places i) ≡ Some p) × (home_of directory p ≡ Some (get_or homes i 0))
  -- every page has one,
  pub found : (k : ℕ) → k < length list → (i : ℕ) × (i < length homes) × (index_at places i ≡ k)
  -- and the homes rise.
  pub rising : AreRising homes

abbrev IsPlaceOf : Directory → List FilePage → Place → Type 0
IsPlaceOf directory list place = (p : FilePage) × (slice_get list place.index ≡ Some p) × (home_of directory p ≡ Some place.home)

abbrev same_index : Place → Place → Bool
same_index a b = eqb a.index b.index

flips : (a b : Place) → same_index a b ≡ same_index b a
flips a b = ⊎_elim (λ e. eq-eqb a.index b.index e ∙ sym (eq-eqb b.index a.index (sym e)))
    (λ ne. ne_eqb a.index b.index ne ∙ sym (ne_eqb b.index a.index (λ e. ne (sym e)))) (cases_eq a.index b.index)

module _ (n : ℕ) (directory : Directory) (on : IsDirectoryOn n directory) (list : List FilePage)
    (inside : (i : ℕ) (p : FilePage) → slice_get list i ≡ Some p → IsPageOf (info_by directory) p.file p.page) where
  abbrev listed : List Place
  listed = places_from directory 0 list

  -- in the order of the list
  place_at : (k : ℕ) (d : Place) → k < length list → get_or listed k d ≡ place_of directory k (get_or list k no_page)
  place_at k d below = place_listed directory k list (get_or list k no_page) d (slice_get-get_or list k no_page below)

  within : (k : ℕ) → k < length listed → k < length list
  within k below = omega (arith, below, places_long directory 0 list)

  are_places : All (IsPlaceOf directory list) listed
  are_places k d below =
      let p = get_or list k no_page in
      let at : slice_get list k ≡ Some p = slice_get-get_or list k no_page (within k below) in
      let home = page_home n directory p on (inside k p at) in
      subst (IsPlaceOf directory list) (sym (place_at k d (within k below))) (p, at, home.1 ∙ ap Some (sym (ap number_of home.1)))

  indexes_differ : (i j : ℕ) (d : Place) → i < j → j < length listed → same_index (get_or listed i d) (get_or listed j d) ≡ false
  indexes_differ i j d less below =
      let one : (get_or listed i d).index ≡ i = ap (λ (a : Place). a.index) (place_at i d (within i (omega (arith, less, below)))) in
      let two : (get_or listed j d).index ≡ j = ap (λ (a : Place). a.index) (place_at j d (within j below)) in
      ne_eqb (get_or listed i d).index (get_or listed j d).index (λ e. omega (arith, less, one, two, e))

  -- and in that of the homes
  module _ (distinct : (i j : ℕ) (p : FilePage) → i < j → slice_get list i ≡ Some p → slice_get list j ≡ Some p → ⊥) (places : List Place) (homes : List ℕ)
      (same : IsPermutation listed places) (up : IsNonDecreasingBy (λ (a : Place). a.home) places) (are : homes ≡ map (λ (a : Place). a.home) places) where
    long : length homes ≡ length places
    long = ap length are ∙ length-map places (λ (a : Place). a.home)

    size : length homes ≡ length list
    size = long ∙ length_permutation listed places same ∙ places_long directory 0 list

    home_at : (i : ℕ) → i < length homes → get_or homes i 0 ≡ (get_or places i no_place).home
    home_at i below = ap (λ (xs : List ℕ). get_or xs i 0) are ∙ get_or-map (λ (a : Place). a.home) places i no_place 0 (omega (arith, below, long))

    each : (i : ℕ) → i < length homes → (p : FilePage) × (slice_get list (index_at places i) ≡ Some p) × (home_of directory p ≡ Some (get_or homes i 0))
    each i below =
        let place = All-permutation (IsPlaceOf directory list) listed places same are_places i no_place (omega (arith, below, long)) in
        (place.0, place.1, place.2 ∙ ap Some (sym (home_at i below)))

    found : (k : ℕ) → k < length list → (i : ℕ) × (i < length homes) × (index_at places i ≡ k)
    found k below =
        let there : k < length listed = omega (arith, below, places_long directory 0 list) in
        let place : Place = get_or listed k no_place in
        let has : Contains places place = Contains-permutation listed places place same (Contains-get_or listed k no_place there) in
        (has.0, omega (arith, has.1, long), ap (λ (a : Place). a.index) (get_or_default places has.0 no_place place has.1 ∙ has.2 ∙ place_at k no_place below))

    apart : (i j : ℕ) → i < j → j < length homes → index_at places i ≡ index_at places j → ⊥
    apart i j less below e =
        let differ : same_index (get_or places i no_place) (get_or places j no_place) ≡ false = apart_from_distinct same_index places i j no_place
        (IsDistinct-IsPermutation same_index flips listed places same (IsDistinct-from_apart same_index listed indexes_differ)) less (omega (arith, below, long)) in
        false≢true (sym differ ∙ eq-eqb (index_at places i) (index_at places j) e)

    -- two homes are those of two pages
    differ : (i j : ℕ) → i < j → j < length homes → get_or homes i 0 ≡ get_or homes j 0 → ⊥
    differ i j less below e =
        let one = each i (omega (arith, less, below)) in
        let two = each j below in
        let page : one.0 ≡ two.0 = one_page n directory on one.0 two.0 (get_or homes i 0) one.2 (two.2 ∙ ap Some (sym e)) in
        let here : slice_get list (index_at places i) ≡ Some two.0 = one.1 ∙ ap Some page in
        ⊎_elim (λ same. apart i j less below same)
        (λ other. ⊎_elim (λ lower. distinct (index_at places i) (index_at places j) two.0 lower here two.1)
        (λ higher. distinct (index_at places j) (index_at places i) two.0 (omega (arith, other, higher)) two.1 here) (cases_lt (index_at places i) (index_at places j)))
        (cases_eq (index_at places i) (index_at places j))

    rising : AreRising homes
    rising i j less below =
        let low : (get_or places i no_place).home ≤ (get_or places j no_place).home = up i j no_place (omega (arith, less)) (omega (arith, below, long)) in
        ⊎_elim (λ e. absurd (differ i j less below e)) (λ ne. omega (arith, low, ne, home_at i (omega (arith, less, below)), home_at j below)) (cases_eq (get_or homes i 0) (get_or homes j 0))

    pub are_placed : ArePlaced directory list places homes
    are_placed = record { size = size; count = sym long ∙ size; each = each; found = found; rising = rising }

  -- as they stand in front of two lists
  pub are_ordered : ((i j : ℕ) (p : FilePage) → i < j → slice_get list i ≡ Some p → slice_get list j ≡ Some p → ⊥) → (firsts : List Place) (numbers : List ℕ) → PutsInOrder directory list firsts numbers
      → (places : List Place) (homes : List ℕ) → places ≡ firsts → homes ≡ numbers → ArePlaced directory list (take (length list) places) (take (length list) homes)
  are_ordered distinct firsts numbers order places homes is also =
      subst (λ (xs : List Place). ArePlaced directory list (take (length list) xs) (take (length list) homes)) (sym is)
      (subst (λ (xs : List ℕ). ArePlaced directory list (take (length list) firsts) (take (length list) xs)) (sym also)
      (are_placed distinct (take (length list) firsts) (take (length list) numbers) order.same order.rising order.listed))
