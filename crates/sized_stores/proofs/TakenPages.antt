-- The pages that are listed for a commit of lengths are such as a commit of changes takes.
use Rattle.std.proofs.Common.{ℕ, zero, suc, ◌+◌, ◌*◌, ◌/◌, ◌%◌, ◌<◌, ◌≤◌, ◌≡◌, ◌⊎◌, Bool, true, false, List, [], ◌∷◌, ◌++◌, length, map, get_or, slice_get, Option, Some, None, inl, inr, ⊎_elim, refl, sym, ap, subst, ◌∙◌, arith, if◌then◌else◌}
use Rattle.std.proofs.lemmas.{Bool.{cases_Bool, cases_lt, leb-false, leb-true, lt-leb}, Option.{none-some, slice_get-get_or, slice_get_within}}
use Rattle.vm_types.specs.declared.{file.FileInfo.{FileInfo}, file.FilePage.{FilePage}}
use Rattle.disk_model.specs.declared.sector_disk.SectorDisk.{Ghosts}
use Rattle.file_store.specs.Standing.{IsPageOf}
use Rattle.growth.specs.declared.changes.Change.{Change}
use Rattle.pool_growth.proofs.{Cut.{begins_inside, is_counted}, Listed.{changed_few}, Numbered.{stands_or}}
use Rattle.pool_growth.specs.{Asked.{AreKeptPages, AreNewPages}, Files.{files_after, file_page_count, StandsInList}, Sizes.{SaySizes}}
use Rattle.pool_store.specs.Store.{info_by}
use Rattle.pool_store.specs.declared.store.PoolStore.{PoolStore}
use Rattle.stores.specs.declared.store.Store.TheVariants.{Pool}
use Rattle.sized_stores.proofs.{Possible.{page_inside}, TakenLengths.{has_been, has_size, one_of, one_there, sized_then, unresized}}
use Rattle.sized_stores.specs.{Commit.{is_one_of, size_asked, AreResized, ArePagesNow, HasRoom}, Listing.{is_new_in, AreDistinct, ListsPages, PicksPages}, Store.{files_of, length_of, IsReadySized}}
use Rattle.sized_stores.specs.declared.{room.PageList.{PageList}, store.SizedStore.{SizedStore}}

-- an element of two lists behind each other is one of the first, or of the second
pub of_both : (xs ys : List FilePage) (i : ℕ) (p : FilePage) → slice_get (xs ++ ys) i ≡ Some p → (slice_get xs i ≡ Some p) ⊎ ((j : ℕ) × (i ≡ length xs + j) × (slice_get ys j ≡ Some p))
of_both [] ys i p is = inr (i, (omega arith), is)
of_both (x ∷ xs) ys zero p is = inl is
of_both (x ∷ xs) ys (suc i) p is = ⊎_elim (λ front. inl front) (λ behind. inr (behind.0, (let at = behind.1 in omega (arith, at)), behind.2)) (of_both xs ys i p is)

pub at_front : (xs ys : List FilePage) (i : ℕ) (p : FilePage) → slice_get xs i ≡ Some p → slice_get (xs ++ ys) i ≡ Some p
at_front [] ys i p is = absurd (none-some p is)
at_front (x ∷ xs) ys zero p is = is
at_front (x ∷ xs) ys (suc i) p is = at_front xs ys i p is

pub at_behind : (xs ys : List FilePage) (j : ℕ) (p : FilePage) → slice_get ys j ≡ Some p → slice_get (xs ++ ys) (length xs + j) ≡ Some p
at_behind [] ys j p is = (let same : 0 + j ≡ j = omega arith in ap (slice_get ys) same ∙ is)
at_behind (x ∷ xs) ys j p is = (let same : suc (length xs) + j ≡ suc (length xs + j) = omega arith in ap (slice_get (x ∷ (xs ++ ys))) same ∙ at_behind xs ys j p is)

pub stands_front : (xs ys : List FilePage) (f k : ℕ) → StandsInList xs f k → StandsInList (xs ++ ys) f k
stands_front xs ys f k at = (at.0, at.1, at_front xs ys at.0 at.1 at.2, at.3, at.4)

pub stands_behind : (xs ys : List FilePage) (f k : ℕ) → StandsInList ys f k → StandsInList (xs ++ ys) f k
stands_behind xs ys f k at = (length xs + at.0, at.1, at_behind xs ys at.0 at.1 at.2, at.3, at.4)

-- a page that begins inside its file
pub from_length : (files : ℕ → Option FileInfo) (f k : ℕ) → 4096 * k < length_of (files f) → IsPageOf files f k
from_length files f k inside = from (files f) refl
  where
    from : (o : Option FileInfo) → files f ≡ o → IsPageOf files f k
    from None is = absurd (let none = ap length_of is in omega (arith, inside, none))
    from (Some info) is = (info, is, (let same = ap length_of is in omega (arith, inside, same)))

-- Pages picked of a list
module _ (files : ℕ → Option FileInfo) (new : Bool) (list pages : List FilePage) (places : List ℕ) (picks : PicksPages files new list pages places) where
  -- stand in it, none twice,
  pub picked_once : AreDistinct list → AreDistinct pages
  picked_once apart i j p less first second =
      let inside = slice_get_within pages j p second in
      let long = picks.long in
      apart (get_or places i 0) (get_or places j 0) p (picks.rise i j less (omega (arith, inside, long))) (picks.each i p first).0 (picks.each j p second).0

  pub picked_stands : (f k : ℕ) → StandsInList pages f k → StandsInList list f k
  picked_stands f k at = (get_or places at.0 0, at.1, (picks.each at.0 at.1 at.2).0, at.3, at.4)

  -- and all that are to be picked are.
  pub picked_all : (i : ℕ) (p : FilePage) → slice_get list i ≡ Some p → is_new_in files p ≡ new → (j : ℕ) × (slice_get pages j ≡ Some p) × (slice_get places j ≡ Some i)
  picked_all i p is same =
      let at = picks.all i p is same in
      let long = picks.long in
      let inside : at.0 < length pages = (let below = at.1 in omega (arith, below, long)) in
      let here : slice_get pages at.0 ≡ Some (get_or pages at.0 p) = slice_get-get_or pages at.0 p inside in
      (at.0, here ∙ sym (picks.each at.0 (get_or pages at.0 p) here).0 ∙ ap (slice_get list) at.2 ∙ is, slice_get-get_or places at.0 0 at.1 ∙ ap Some at.2)

module _ {D : Type 0} (g : Ghosts D) (s : SizedStore D) (store : PoolStore D) (ready : IsReadySized g (record s { store = Pool store })) (files : List ℕ) (list : List FilePage)
    (are : AreResized (record s { store = Pool store }) files) (now : ArePagesNow (record s { store = Pool store }) files list)
    (changes : List Change) (says : SaySizes (info_by store.directory) (map (size_asked s.sizes.items) files) changes) where
  abbrev old : SizedStore D
  old = record s { store = Pool store }

  abbrev was : ℕ → Option FileInfo
  was = info_by store.directory

  abbrev later : ℕ → Option FileInfo
  later = files_after was changes

  -- What a file has now it has after the changes, where it is one of those whose lengths are committed, or has a page of the list.
  pub one_then : (f : ℕ) → is_one_of files f ≡ true → files_of (record s { store = Pool store }) f ≡ files_after (info_by store.directory) changes f
  one_then f one = sym (sized_then s store ready files are changes says f ∙ ap (λ b. if b then files_of old f else was f) one)

  pub none_then : (f : ℕ) → is_one_of files f ≡ false → info_by store.directory f ≡ files_after (info_by store.directory) changes f
  none_then f none = sym (sized_then s store ready files are changes says f ∙ ap (λ b. if b then files_of old f else was f) none)

  pub page_then : (i : ℕ) (p : FilePage) → slice_get list i ≡ Some p → files_of (record s { store = Pool store }) p.file ≡ files_after (info_by store.directory) changes p.file
  page_then i p is = ⊎_elim (one_then p.file) (λ none. unresized s store ready p.file (now.durable i p is none) ∙ none_then p.file none) (cases_Bool (is_one_of files p.file))

  inside_then : (i : ℕ) (p : FilePage) → slice_get list i ≡ Some p → IsPageOf later p.file p.page
  inside_then i p is = let at = now.inside i p is in (at.0, sym (page_then i p is) ∙ at.1, at.2)

  module _ (limit : ℕ) (fresh kept : PageList) (lists : ListsPages store.directory s.sizes.items files list limit fresh kept) where
    -- New pages of the list are new ones of the changes,
    pub are_new : AreNewPages (info_by store.directory) changes fresh.pages.items
    are_new = record {
      new = λ i p is.
          let at = lists.new.each i p is in
          (leb-true (file_page_count (was p.file)) p.page at.1, page_inside later p.file p.page (inside_then (get_or fresh.places.items i 0) p at.0));
      distinct = picked_once was true list fresh.pages.items fresh.places.items lists.new now.distinct;
    }

    -- and the others are pages before and after:
    abbrev front : List FilePage
    front = lists.front

    abbrev zeros : List FilePage
    zeros = lists.zeros

    listed_before : (i : ℕ) (p : FilePage) → slice_get front i ≡ Some p → IsPageOf was p.file p.page
    listed_before i p is = begins_inside (was p.file) p.page (leb-false (file_page_count (was p.file)) p.page (lists.old.each i p is).1)

    zero_before : (j : ℕ) (p : FilePage) → slice_get zeros j ≡ Some p → IsPageOf was p.file p.page
    zero_before j p is = from_length was p.file p.page (lists.each j p is).1.had

    zero_after : (j : ℕ) (p : FilePage) → slice_get zeros j ≡ Some p → IsPageOf later p.file p.page
    zero_after j p is =
        let zero = lists.each j p is in
        let at : IsPageOf (files_of old) p.file p.page = from_length (files_of old) p.file p.page zero.1.has in
        (at.0, sym (one_then p.file (one_of files zero.0.0 p.file zero.0.1)) ∙ at.1, at.2)

    both_once : AreDistinct (front ++ zeros)
    both_once i j p less first second = ⊎_elim
        (λ (one : slice_get front i ≡ Some p). ⊎_elim
        (λ two. picked_once was false list front kept.places.items lists.old now.distinct i j p less one two)
        (λ behind. (lists.each behind.0 p behind.2).1.unlisted (picked_stands was false list front kept.places.items lists.old p.file p.page (i, p, one, refl, refl)))
        (of_both front zeros j p second))
        (λ behind. ⊎_elim
        (λ two. (lists.each behind.0 p behind.2).1.unlisted (picked_stands was false list front kept.places.items lists.old p.file p.page (j, p, two, refl, refl)))
        (λ other. lists.distinct behind.0 other.0 p (let one = behind.1 in let two = other.1 in omega (arith, one, two, less)) behind.2 other.2)
        (of_both front zeros j p second))
        (of_both front zeros i p first)

    -- the last one of a file that gets longer from within it is one of them,
    old_listed : (f k : ℕ) → k < file_page_count (was f) → StandsInList list f k → StandsInList front f k
    old_listed f k inside at =
        let same : is_new_in was at.1 ≡ false = lt-leb (file_page_count (was at.1.file)) at.1.page (subst (λ n. n < file_page_count (was at.1.file)) (sym at.4) (subst (λ h. k < file_page_count (was h)) (sym at.3) inside)) in
        let there = picked_all was false list front kept.places.items lists.old at.0 at.1 at.2 same in
        (there.0, at.1, there.1, at.3, at.4)

    end_listed : (f : ℕ) (before after : FileInfo) → was f ≡ Some before → later f ≡ Some after → before.length < after.length → (before.length % 4096 ≡ 0 → ⊥)
        → StandsInList (front ++ zeros) f (before.length / 4096)
    end_listed f before after is now_is longer part = ⊎_elim of_one of_none (cases_Bool (is_one_of files f))
      where
        k : ℕ
        k = before.length / 4096

        of_none : is_one_of files f ≡ false → StandsInList (front ++ zeros) f (before.length / 4096)
        of_none none = absurd (let same : before.length ≡ after.length = ap length_of (sym is ∙ none_then f none ∙ now_is) in omega (arith, same, longer))

        of_one : is_one_of files f ≡ true → StandsInList (front ++ zeros) f (before.length / 4096)
        of_one one =
            let place = one_there files f one in
            let has = has_size s store ready f before is in
            let been = has_been s store ready f before is has in
            let short = has.is.was in
            let length : length_of (files_of old f) ≡ after.length = ap length_of (one_then f one ∙ now_is) in
            let begins : 4096 * (before.length / 4096) < before.length = omega (arith, part) in
            ⊎_elim
            (λ at. stands_front front zeros f (before.length / 4096) (old_listed f (before.length / 4096) (is_counted (was f) before (before.length / 4096) is begins) at))
            (λ unlisted. ⊎_elim
            (λ (less : 4096 * (before.length / 4096) < has.size.shortest). absurd (unlisted
            (subst (λ n. StandsInList list f n) (let same : has.size.shortest / 4096 ≡ before.length / 4096 = omega (arith, less, short) in same)
            (subst (λ n. StandsInList list f (n / 4096)) been
            (now.ends f one (omega (arith, been, short, longer, length)) (λ whole. omega (arith, whole, been, less, short)))))))
            (λ (lost : has.size.shortest ≤ 4096 * (before.length / 4096)). stands_behind front zeros f (before.length / 4096) (lists.all f (before.length / 4096) (
              place,
              record {
                lost = omega (arith, lost, been);
                had = (let same = ap length_of is in omega (arith, same, begins));
                has = omega (arith, length, longer, begins);
                unlisted = unlisted;
              },
            )))
            (cases_lt (4096 * (before.length / 4096)) has.size.shortest))
            (stands_or list f (before.length / 4096))

    -- and slots are free for them.
    pub are_kept : HasRoom (record s { store = Pool store }) → limit + store.directory.pages ≤ 504 * store.journal.sizes.blocks → AreKeptPages store changes kept.pages.items
    are_kept room most = subst (λ (pages : List FilePage). AreKeptPages store changes pages) (sym lists.is) (record {
      few = (
          let long = ap length lists.is in
          let few = lists.few in
          let changed = changed_few changes store.directory.pages in
          omega (arith, long, few, changed, most, room));
      before = λ i p is. ⊎_elim (listed_before i p) (λ behind. zero_before behind.0 p behind.2) (of_both front zeros i p is);
      after = λ i p is. ⊎_elim (λ at. inside_then (get_or kept.places.items i 0) p (lists.old.each i p at).0) (λ behind. zero_after behind.0 p behind.2) (of_both front zeros i p is);
      distinct = both_once;
      ends = end_listed;
    })
