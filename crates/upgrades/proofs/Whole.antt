-- What an image of an upgraded store stands for.
use Rattle.upgrades.proofs.Names.{◌≡◌, ◌≤◌, ◌<◌, ◌+◌, ◌-◌, ◌*◌, ◌/◌, ◌^◌, ◌∙◌, ℕ, zero, suc, true, false, List, length, replicate, slice_get, Option, Some, None, refl, sym, ap, subst, ⊎_elim, arith, cases_eq, cases_lt, cond-true, cond-false, nat_tests, none-some, same_Some, append-nil, get_or_past, take_at, option_map, Image, joined-same, joined_parts, part_of}
use Rattle.std.specs.{Prelude.{nat_lt, map}, List.{range_with_len}}
use Rattle.std.proofs.lemmas.List.FromFn.{get_or-map-range_with_len, length-map-range_with_len, length-range_with_len}
use Rattle.vm_types.specs.declared.file.FileInfo.{FileInfo}
use Rattle.directories.{proofs.{Places.{get_counted}, Said.{said}}, specs.{Entries.{SaysEntry, entry_said}, Homes.{extents_of, homes_of, home_of_page}, Layouts.{IsExtent, IsGoodLayout, IsHomeIn, entry_in}, declared.entry.{Entry.{Entry}, Extent.{Extent}}}}
use Rattle.pool_journal.specs.Pools.{pool_home, pool_home_count, pool_standing}
use Rattle.file_store.{proofs.Pieces.{length-trimmed}, specs.{Layout.{bytes_inside, padded_page, pages_of_length}, Standing.{IsPageOf}}}
use Rattle.pool_store.{proofs.{Held.{entry_moves, stands_home}, Made.{counted}}, specs.{Files.{info_in, info_of, page_at, page_in, page_of}, Format.{extents_made, extents_room, home_part, new_pages, no_extent}, Pools.{AreEntries, IsBadPool, IsBadPool.{Unmarked, OtherKind, TooSmall, NoDirectory}, entry_by, entry_standing, pool_mark}, Resume.{pool_on}}}
use Rattle.upgrades.proofs.Counting.{files_before}
use Rattle.upgrades.specs.NewPool.{HasRoomFor, IsUnmarkedUpgrade, entry_kept, entry_made, first_of, pages_of}

-- the homes of one extent
homes_made : (first n : ℕ) → homes_of (extents_made first n) ≡ range_with_len first n
unfolding extents_made
homes_made first zero = refl
homes_made first (suc n) = append-nil (range_with_len first (suc n))

-- which is the only one
record IsOnly (first n i : ℕ) (x : Extent) : Type 0 where
  place : i ≡ 0
  first_is : x.first ≡ first
  count_is : x.count ≡ n

only_extent : (first n i : ℕ) (x : Extent) → slice_get (extents_made first n) i ≡ Some x → IsOnly first n i x
unfolding extents_made
only_extent first zero i x is = absurd (none-some x is)
only_extent first (suc n) zero x is =
    let one : Extent = record { first = first; count = suc n } in
    let same : one ≡ x = same_Some one x is in
    record { place = refl; first_is = sym (ap (λ (y : Extent). y.first) same); count_is = sym (ap (λ (y : Extent). y.count) same) }
only_extent first (suc n) (suc i) x is = absurd (none-some x is)

extents_are : (first : ℕ) (info : FileInfo) → extents_of (entry_made first info) ≡ extents_made first (pages_of_length info.length)
unfolding extents_room
extents_are first info =
    let made = extents_made first (pages_of_length info.length) in
    take_at made (replicate (30 - length made) no_extent) (length made) refl

homes_are : (first : ℕ) (info : FileInfo) → homes_of (extents_of (entry_made first info)) ≡ range_with_len first (pages_of_length info.length)
homes_are first info = ap homes_of (extents_are first info) ∙ homes_made first (pages_of_length info.length)

home_made : (first k : ℕ) (info : FileInfo) → k < pages_of_length info.length → home_of_page (entry_made first info) k ≡ Some (first + k)
home_made first k info below = ap (λ (homes : List ℕ). slice_get homes k) (homes_are first info) ∙ get_counted first (pages_of_length info.length) k below

-- what is known of the files: their numbers and lengths are in their bounds, and their pages have zeros past their ends
pub record AreFiles (files : ℕ → Option FileInfo) (pages : ℕ → ℕ → List ℕ) : Type 0 where
  pub bounded : (f : ℕ) (info : FileInfo) → files f ≡ Some info → (f < 64) × (info.length < 2 ^ 32)
  pub cut : (f k : ℕ) (info : FileInfo) → files f ≡ Some info → padded_page (bytes_inside info.length k) (pages f k) ≡ pages f k

module _ (files : ℕ → Option FileInfo) (pages : ℕ → ℕ → List ℕ) (are : AreFiles files pages) where
  -- what an entry comes from
  record ComesFrom (f : ℕ) (e : Entry) : Type 0 where
    info : FileInfo
    at : files f ≡ Some info
    is : entry_made (first_of files f) info ≡ e

  comes_from_some : (f : ℕ) (e : Entry) (o : Option FileInfo) → files f ≡ o → option_map (entry_made (first_of files f)) o ≡ Some e → ComesFrom f e
  comes_from_some f e None at is = absurd (none-some e is)
  comes_from_some f e (Some info) at is = record { info = info; at = at; is = same_Some (entry_made (first_of files f) info) e is }

  comes_from : (f : ℕ) (e : Entry) → entry_kept files f ≡ Some e → ComesFrom f e
  comes_from f e is = comes_from_some f e (files f) refl is

  -- there is no file past the last number
  past_none : (f : ℕ) → 64 ≤ f → files f ≡ None
  past_none f past = here (files f) refl
    where
      here : (o : Option FileInfo) → files f ≡ o → files f ≡ None
      here None is = is
      here (Some info) is = absurd (let bound = are.bounded f info is in omega (arith, bound.0, past))

  kept_past : (f : ℕ) → 64 ≤ f → entry_kept files f ≡ None
  kept_past f past = ap (option_map (entry_made (first_of files f))) (past_none f past)

  -- what an entry says of its file
  same_info : (first : ℕ) (o : Option FileInfo) → option_map info_of (option_map (entry_made first) o) ≡ o
  same_info first None = refl
  same_info first (Some info) = refl

  -- the list of them
  abbrev kept : List (Option Entry)
  kept = map (entry_kept files) (range_with_len 0 64)

  long : length kept ≡ 64
  long = length-map-range_with_len (entry_kept files) 0 64

  listed : (f : ℕ) → entry_in kept f ≡ entry_kept files f
  listed f = ⊎_elim
      (λ below. get_or-map-range_with_len (entry_kept files) 0 64 f f None below (omega arith))
      (λ past. get_or_past kept f None (let all = long in omega (arith, past, all)) ∙ sym (kept_past f past))
      (cases_lt f 64)

  record IsPlaced (f i : ℕ) (x : Extent) : Type 0 where
    info : FileInfo
    at : files f ≡ Some info
    only : IsOnly (first_of files f) (pages_of_length info.length) i x

  placed : (f i : ℕ) (x : Extent) → IsExtent kept f i x → IsPlaced f i x
  placed f i x is =
      let from = comes_from f is.entry (sym (listed f) ∙ is.file) in
      record {
        info = from.info;
        at = from.at;
        only = only_extent (first_of files f) (pages_of_length from.info.length) i x (ap (λ (xs : List Extent). slice_get xs i) (sym (extents_are (first_of files f) from.info) ∙ ap extents_of from.is) ∙ is.extent);
      }

  -- a home of a file lies before those of a later one
  before : (f i g j h : ℕ) (x y : Extent) → IsPlaced f i x → IsPlaced g j y → IsHomeIn x h → IsHomeIn y h → f < g → ⊥
  before f i g j h x y a b one other less =
      let order = files_before files f g less in let size = ap pages_of a.at in
      omega (arith, order, size, a.only.first_is, a.only.count_is, b.only.first_is, one.high, other.low)

  good_entries : (n : ℕ) → first_of files 64 ≤ n → IsGoodLayout new_pages n kept
  good_entries n fit = record {
    within = λ f i h x is inside.
        let at = placed f i x is in let bound = are.bounded f at.info at.at in let fits = files_before files f 64 bound.0 in let size = ap pages_of at.at in
        (omega (arith, at.only.first_is, inside.low), omega (arith, at.only.first_is, at.only.count_is, inside.high, fits, size, fit));
    apart = λ f i g j x y is also shared.
        let a = placed f i x is in
        let b = placed g j y also in (
          ⊎_elim (λ same. same)
              (λ differ. ⊎_elim (λ less. absurd (before f i g j shared.home x y a b shared.one shared.other less))
              (λ from. absurd (before g j f i shared.home y x b a shared.other shared.one (omega (arith, differ, from)))) (cases_lt f g))
              (cases_eq f g),
          a.only.place ∙ sym b.only.place,
        );
    enough = λ f e is.
        let from = comes_from f e (sym (listed f) ∙ is) in
        let homes = ap (λ (x : Entry). length (homes_of (extents_of x))) (sym from.is) ∙ ap (λ (homes : List ℕ). length homes) (homes_are (first_of files f) from.info)
        ∙ length-range_with_len (first_of files f) (pages_of_length from.info.length) in
        let size = ap (λ (x : Entry). pages_of_length x.length) from.is in
        omega (arith, homes, size);
  }

  may_be : (n : ℕ) → first_of files 64 ≤ n → AreEntries new_pages n kept
  may_be n fit = record {
    size = long;
    bounded = λ f e is.
        let from = comes_from f e (sym (listed f) ∙ is) in let bound = are.bounded f from.info from.at in let size = ap (λ (x : Entry). x.length) from.is in
        let count = ap (λ (x : Entry). x.extent_count) from.is in let one = counted (first_of files f) (pages_of_length from.info.length) in
        (omega (arith, bound.0), omega (arith, bound.1, size), omega (arith, count, one));
    good = good_entries n fit;
  }

  module _ (m sectors : ℕ) (room : HasRoomFor m sectors files) (image : Image) (all : IsUnmarkedUpgrade m files pages image) where
    abbrev homes : ℕ
    homes = pool_home_count m sectors

    abbrev stands : ℕ → ℕ → List ℕ
    stands = pool_standing m homes image

    -- the directory stands
    says : (f : ℕ) → f < 64 → SaysEntry (entry_standing stands f) (entry_kept files f)
    says f below = subst (λ (bytes : List ℕ). SaysEntry bytes (entry_kept files f)) (sym (entry_moves f stands (home_part m image) (λ i inside. stands_home m homes image all.empty (f / 16) i))) (all.directory f below)

    entry_is : (f : ℕ) → entry_by new_pages stands f ≡ entry_kept files f
    entry_is f = ⊎_elim
        (λ below. cond-true (nat_lt f 64) (entry_said (entry_standing stands f)) None (let is : nat_lt f 64 ≡ true = grind (arith, nat_tests) in is) ∙ said (entry_standing stands f) (entry_kept files f) (says f below))
        (λ past. cond-false (nat_lt f 64) (entry_said (entry_standing stands f)) None (let is : nat_lt f 64 ≡ false = grind (arith, nat_tests) in is) ∙ sym (kept_past f past))
        (cases_lt f 64)

    is_good : image 0 ≡ pool_mark → IsBadPool m new_pages homes sectors image → ⊥
    is_good marked (Unmarked other) = other marked
    is_good marked (OtherKind other) = other all.kind
    is_good marked (TooSmall small) = let front = room.front in omega (arith, front, small)
    is_good marked (NoDirectory none) = none kept (record {
      may = may_be homes room.homes;
      said = λ f below. subst (λ (e : Option Entry). SaysEntry (entry_standing stands f) e) (sym (listed f)) (says f below);
    })

    pub good : image 0 ≡ pool_mark → (pool_on m new_pages sectors).IsBad sectors image → ⊥
    good marked bad = is_good marked bad

    pub facts : (f : ℕ) → info_in (pool_on m new_pages sectors) image f ≡ files f
    facts f = ap (λ (e : Option Entry). option_map info_of e) (entry_is f) ∙ same_info (first_of files f) (files f)

    -- a page of a file stands
    pub page_stands : (f k : ℕ) → IsPageOf files f k → page_in (pool_on m new_pages sectors) image f k ≡ pages f k
    page_stands f k inside_file =
        let info = inside_file.0 in let at = inside_file.1 in let less = inside_file.2 in
        let first = first_of files f in
        let inside = bytes_inside info.length k in
        let small : bytes_inside info.length k ≤ 4096 = omega arith in
        let cut = are.cut f k info at in
        let size : length (pages f k) ≡ 4096 = ap (λ (p : List ℕ). length p) (sym cut) ∙ length-trimmed inside (pages f k) small in
        let below : k < pages_of_length info.length = omega (arith, less) in
        let count = ap pages_of at in
        let bound = are.bounded f info at in
        ap (λ (e : Option Entry). page_of stands k e) (entry_is f ∙ ap (option_map (entry_made first)) at)
        ∙ ap (λ (h : Option ℕ). page_at stands inside h) (home_made first k info below)
        ∙ ap (padded_page inside) (joined-same 8 (stands (first + k)) (part_of (pages f k)) (λ i lt. stands_home m homes image all.empty (first + k) i
        ∙ ap image (let e : pool_home m (first + k) + i ≡ pool_home m first + 8 * k + i = omega arith in e) ∙ all.held f bound.0 k i (omega (arith, below, count)) lt) ∙ joined_parts (pages f k) size)
        ∙ cut
