-- Pages whose homes are of extents in front that are the same before and after.
use Rattle.std.proofs.Common.{ℕ, zero, suc, ◌≡◌, ◌<◌, ◌≤◌, ◌+◌, ◌-◌, ◌∷◌, [], List, length, take, drop, get_or, slice_get, ⊎_elim, refl, sym, ap, ◌∙◌, arith, Option, Some, None, length-append, drop-cons, add-one}
use Rattle.std.proofs.lemmas.Bool.{cases_lt}
use Rattle.std.proofs.lemmas.List.FromFn.{length-range_with_len}
use Rattle.std.proofs.lemmas.Option.{none-some, same_Some, slice_get_within}
use Rattle.std.specs.{List.{range_with_len}, Option.{option_map}}
use Rattle.directories.specs.{Homes.{extents_of, homes_of, HasHome}, Layouts.{entry_in, IsGoodLayout, IsHomeIn}, declared.entry.Entry.{Entry}, declared.entry.Extent.{Extent}}
use Rattle.directories.proofs.{Owned.{gives_homes}, Places.{get_left, get_right, get_counted}, Said.{no_extent}}
use Rattle.growth.specs.Parts.{extents_of_file, kept_count}
use Rattle.growth.proofs.{Changed.{not_old}, Kept.{told, kept_one, kept_none}}
use Rattle.growth.specs.Changes.{TakesFreeHomes}
use Rattle.pool_growth.specs.{Checks.{pages_kept, HasKeptHomes, MovesPage}, Files.{file_page_count}}
use Rattle.pool_store.specs.Files.{info_of}

-- how many homes the extents in front have that are the same in two lists
abbrev pub front_homes : List Extent → List Extent → ℕ
front_homes xs ys = length (homes_of (take (kept_count xs ys) ys))

pub front_one : (x y : Extent) (xs ys : List Extent) → x ≡ y → front_homes (x ∷ xs) (y ∷ ys) ≡ y.count + front_homes xs ys
front_one x y xs ys same =
    let kept : kept_count (x ∷ xs) (y ∷ ys) ≡ suc (kept_count xs ys) = kept_one x y xs ys same ∙ add-one (kept_count xs ys) in
    ap (λ n. length (homes_of (take n (y ∷ ys)))) kept
    ∙ length-append (range_with_len y.first y.count) (homes_of (take (kept_count xs ys) ys))
    ∙ ap (λ n. n + front_homes xs ys) (length-range_with_len y.first y.count)

pub front_none : (x y : Extent) (xs ys : List Extent) → (x ≡ y → ⊥) → front_homes (x ∷ xs) (y ∷ ys) ≡ 0
front_none x y xs ys differ = ap (λ n. length (homes_of (take n (y ∷ ys)))) (kept_none x y xs ys differ)

-- a page of these has the same home in both
pub same_home : (xs ys : List Extent) (k : ℕ) → k < front_homes xs ys → slice_get (homes_of xs) k ≡ slice_get (homes_of ys) k
same_home [] ys k less = absurd (omega (arith, less))
same_home (x ∷ xs) [] k less = absurd (omega (arith, less))
same_home (x ∷ xs) (y ∷ ys) k less = ⊎_elim
    (λ t.
    let own : List ℕ = range_with_len y.first y.count in
    let long : length own ≡ y.count = length-range_with_len y.first y.count in
    let front = front_one x y xs ys t.0 in
    let first : slice_get (homes_of (x ∷ xs)) k ≡ slice_get (homes_of (y ∷ xs)) k = ap (λ (z : Extent). slice_get (homes_of (z ∷ xs)) k) t.0 in
    ⊎_elim
    (λ (here : k < length own). first ∙ get_left own (homes_of xs) k here ∙ sym (get_left own (homes_of ys) k here))
    (λ (past : length own ≤ k).
    first ∙ get_right own (homes_of xs) k past ∙ same_home xs ys (k - length own) (omega (arith, less, front, long, past)) ∙ sym (get_right own (homes_of ys) k past))
    (cases_lt k (length own)))
    (λ f. let none = front_none x y xs ys f.0 in absurd (omega (arith, none, less)))
    (told x y)

-- A home is of an extent that is not among the first n.
record IsBehindFirst (xs : List Extent) (n h : ℕ) : Type 0 where
  place : ℕ
  extent : Extent
  is : slice_get xs place ≡ Some extent
  has : IsHomeIn extent h
  past : n ≤ place

-- the home of a page past those of the first n
located : (xs : List Extent) (n k h : ℕ) → length (homes_of (take n xs)) ≤ k → slice_get (homes_of xs) k ≡ Some h → IsBehindFirst xs n h
located [] n k h past is = absurd (none-some h is)
located (x ∷ xs) zero k h past is =
    let own : List ℕ = range_with_len x.first x.count in
    let long : length own ≡ x.count = length-range_with_len x.first x.count in
    ⊎_elim
    (λ (less : k < x.count).
    let here : x.first + k ≡ h = same_Some (x.first + k) h (sym (get_left own (homes_of xs) k (omega (arith, long, less)) ∙ get_counted x.first x.count k less) ∙ is) in
    record { place = 0; extent = x; is = refl; has = record { low = omega (arith, here); high = omega (arith, here, less) }; past = omega arith })
    (λ (behind : x.count ≤ k).
    let rest = located xs 0 (k - length own) h (omega arith) (sym (get_right own (homes_of xs) k (omega (arith, long, behind))) ∙ is) in
    record { place = suc rest.place; extent = rest.extent; is = rest.is; has = rest.has; past = omega arith })
    (cases_lt k x.count)
located (x ∷ xs) (suc n) k h past is =
    let own : List ℕ = range_with_len x.first x.count in
    let split : length (homes_of (take (suc n) (x ∷ xs))) ≡ length own + length (homes_of (take n xs)) = length-append own (homes_of (take n xs)) in
    let behind : length own ≤ k = omega (arith, split, past) in
    let rest = located xs n (k - length own) h (omega (arith, split, past)) (sym (get_right own (homes_of xs) k behind) ∙ is) in
    let le = rest.past in
    record { place = suc rest.place; extent = rest.extent; is = rest.is; has = rest.has; past = omega (arith, le) }

-- a page that a file of this entry has
pub entry_of_page : (entry : Option Entry) (k : ℕ) → k < file_page_count (option_map info_of entry) → (e : Entry) × (entry ≡ Some e) × (k < file_page_count (Some (info_of e)))
entry_of_page None k less = absurd (omega (arith, less))
entry_of_page (Some e) k less = (e, refl, less)

home_of_file : (entries : List (Option Entry)) (f k h : ℕ) (entry : Option Entry) → entry_in entries f ≡ entry → slice_get (homes_of (extents_of_file entry)) k ≡ Some h → HasHome entries f k h
home_of_file entries f k h None file home = absurd (none-some h home)
home_of_file entries f k h (Some e) file home = record { entry = e; file = file; home = home }

-- A file before and after:
module _ (before after : List (Option Entry)) (f : ℕ) where
  abbrev was : Option Entry
  was = entry_in before f

  abbrev now' : Option Entry
  now' = entry_in after f

  -- where the extents in front have homes for all pages that it keeps, these keep theirs,
  pub keeps_there : HasKeptHomes was now' → (k h : ℕ) → k < file_page_count (option_map info_of was) → k < file_page_count (option_map info_of now') → HasHome before f k h → HasHome after f k h
  keeps_there kept k h one two has =
      let front : k < front_homes (extents_of_file was) (extents_of_file now') = omega (arith, kept, one, two) in
      home_of_file after f k h now' refl
      (sym (same_home (extents_of_file was) (extents_of_file now') k front) ∙ ap (λ (e : Option Entry). slice_get (homes_of (extents_of_file e)) k) has.file ∙ has.home)

  -- where they have not, and new extents take free homes, a page gets another one,
  pub moves_page : (pages homes : ℕ) → IsGoodLayout pages homes before → TakesFreeHomes before after → (HasKeptHomes was now' → ⊥) → MovesPage before after f
  moves_page pages homes good free short =
      let k : ℕ = front_homes (extents_of_file was) (extents_of_file now') in
      let less : k < pages_kept was now' = ⊎_elim (λ (under : k < pages_kept was now'). under) (λ (enough : pages_kept was now' ≤ k). absurd (short enough)) (cases_lt k (pages_kept was now')) in
      let some = entry_of_page was k (omega (arith, less)) in
      let home = (gives_homes pages homes before good).each f k some.0 some.1 some.2 in
      let h = home.0 in
      record {
        page = k;
        home = h;
        was = omega (arith, less);
        stays = omega (arith, less);
        had = home.1;
        lost = λ then'.
            let list : extents_of_file now' ≡ extents_of then'.entry = ap extents_of_file then'.file in
            let old = located (extents_of home.1.entry) 0 k h (omega arith) home.1.home in
            let new = located (extents_of_file now') (kept_count (extents_of_file was) (extents_of_file now')) k h (omega arith) (ap (λ (xs : List Extent). slice_get (homes_of xs) k) list ∙ then'.home) in
            free.free f new.place f old.place new.extent old.extent (record { entry = then'.entry; file = then'.file; extent = ap (λ (xs : List Extent). slice_get xs new.place) (sym list) ∙ new.is })
            (not_old before after f new.place (extents_of_file now') refl new.past (slice_get_within (extents_of_file now') new.place new.extent new.is))
            (record { entry = home.1.entry; file = home.1.file; extent = old.is }) (record { home = h; one = new.has; other = old.has });
      }

  -- so that where pages keep theirs the extents in front have them
  pub has_kept : (pages homes : ℕ) → IsGoodLayout pages homes before → TakesFreeHomes before after
      → ((k h : ℕ) → k < file_page_count (option_map info_of was) → k < file_page_count (option_map info_of now') → HasHome before f k h → HasHome after f k h) → HasKeptHomes was now'
  has_kept pages homes good free keeps = ⊎_elim
      (λ (less : front_homes (extents_of_file was) (extents_of_file now') < pages_kept was now').
      let moved = moves_page pages homes good free (λ enough. omega (arith, less, enough)) in
      absurd (moved.lost (keeps moved.page moved.home moved.was moved.stays moved.had)))
      (λ enough. enough)
      (cases_lt (front_homes (extents_of_file was) (extents_of_file now')) (pages_kept was now'))

-- counting from place i on
pub front_more : (xs ys : List Extent) (i : ℕ) → i < length xs → i < length ys → get_or xs i no_extent ≡ get_or ys i no_extent
    → front_homes (drop i xs) (drop i ys) ≡ (get_or ys i no_extent).count + front_homes (drop (i + 1) xs) (drop (i + 1) ys)
front_more xs ys i left right same =
    ap (λ (zs : List Extent). front_homes zs (drop i ys)) (drop-cons xs i no_extent left)
    ∙ ap (λ (zs : List Extent). front_homes (get_or xs i no_extent ∷ drop (suc i) xs) zs) (drop-cons ys i no_extent right)
    ∙ front_one (get_or xs i no_extent) (get_or ys i no_extent) (drop (suc i) xs) (drop (suc i) ys) same
    ∙ ap (λ n. (get_or ys i no_extent).count + front_homes (drop n xs) (drop n ys)) (sym (add-one i))

pub front_ends : (xs ys : List Extent) (i : ℕ) → i < length xs → i < length ys → (get_or xs i no_extent ≡ get_or ys i no_extent → ⊥) → front_homes (drop i xs) (drop i ys) ≡ 0
front_ends xs ys i left right differ =
    ap (λ (zs : List Extent). front_homes zs (drop i ys)) (drop-cons xs i no_extent left)
    ∙ ap (λ (zs : List Extent). front_homes (get_or xs i no_extent ∷ drop (suc i) xs) zs) (drop-cons ys i no_extent right)
    ∙ front_none (get_or xs i no_extent) (get_or ys i no_extent) (drop (suc i) xs) (drop (suc i) ys) differ
