-- The pages of a commit: those of the list that are picked, and those that are zeros, one file after the other.
use Rattle.std.proofs.Common.{ℕ, ◌≡◌, ◌<◌, ◌≤◌, ◌+◌, ◌*◌, ◌⊎◌, inl, inr, ⊎_elim, Bool, true, false, List, [], ◌∷◌, ◌++◌, length, get_or, slice_get, Option, Some, None, refl, sym, ap, subst, ◌∙◌, arith}
use Rattle.std.proofs.lemmas.{Bool.{cases_eq, lt-leb, true≢false}, List.{append_assoc, length-append, length_push}, Option.{same_Some, slice_get_within, slice_get-get_or, get_or_from_slice_get}}
use Rattle.std.specs.Vec.{vec_capacity}
use Rattle.vm_types.specs.declared.file.{FileInfo.{FileInfo}, FilePage.{FilePage}}
use Rattle.pool_growth.specs.Files.{file_page_count, StandsInList}
use Rattle.pool_store.specs.Store.{info_by}
use Rattle.pool_store.specs.declared.directory.Directory.{Directory}
use Rattle.sized_stores.specs.Listing.{is_new_in, AreDistinct, AreTooMany, AreTooManyPicked, IsZeroIn, IsZeroPage, KeepsListRoom, KeepsRoom, ListsPages, ListsZeros, PicksPages}
use Rattle.sized_stores.specs.Store.{length_of}
use Rattle.sized_stores.specs.declared.{room.{PageList.{PageList}, SizeRoom.{SizeRoom}}, sizes.Size.{Size}}
use Rattle.sized_stores.proofs.Rows.{get_left, get_right, joined, pushed}
use Rattle.sized_stores.proofs.Zeroed.{distinct_more}

-- what stands in either of two lists stands in both
stands_left : (xs ys : List FilePage) (f k : ℕ) → StandsInList xs f k → StandsInList (xs ++ ys) f k
stands_left xs ys f k there = (there.0, there.1, get_left xs ys there.0 (slice_get_within xs there.0 there.1 there.2) ∙ there.2, there.3, there.4)

stands_right : (xs ys : List FilePage) (f k : ℕ) → StandsInList ys f k → StandsInList (xs ++ ys) f k
stands_right xs ys f k there = (length xs + there.0, there.1, get_right xs ys there.0 ∙ there.2, there.3, there.4)

stands_either : (xs ys : List FilePage) (f k : ℕ) → StandsInList (xs ++ ys) f k → StandsInList xs f k ⊎ StandsInList ys f k
stands_either xs ys f k there = ⊎_elim
    (λ (before : slice_get xs there.0 ≡ Some there.1). inl (there.0, there.1, before, there.3, there.4))
    (λ behind. inr (behind.0, there.1, behind.2, there.3, there.4))
    (joined xs ys there.0 there.1 there.2)

-- two lists that have no page in common
distinct_joined : (xs ys : List FilePage) → AreDistinct xs → AreDistinct ys → ((i j : ℕ) (p : FilePage) → slice_get xs i ≡ Some p → slice_get ys j ≡ Some p → ⊥) → AreDistinct (xs ++ ys)
distinct_joined xs ys first second apart i j p less at_i at_j = ⊎_elim
    (λ (left : slice_get xs j ≡ Some p).
    let inside : i < length xs = (let within = slice_get_within xs j p left in omega (arith, less, within)) in
    first i j p less (sym (get_left xs ys i inside) ∙ at_i) left)
    (λ right. ⊎_elim
    (λ (left : slice_get xs i ≡ Some p). apart i right.0 p left right.2)
    (λ both. second both.0 right.0 p (omega (arith, less, both.1, right.1)) both.2 right.2)
    (joined xs ys i p at_i))
    (joined xs ys j p at_j)

-- pages of a list that has none twice, picked in its order
distinct_picked : (list pages : List FilePage) (places : List ℕ) → AreDistinct list → length pages ≡ length places → ((i j : ℕ) → i < j → j < length places → get_or places i 0 < get_or places j 0)
    → ((i : ℕ) (p : FilePage) → slice_get pages i ≡ Some p → slice_get list (get_or places i 0) ≡ Some p) → AreDistinct pages
distinct_picked list pages places distinct long rise each i j p less at_i at_j =
    let inside : j < length places = (let within = slice_get_within pages j p at_j in omega (arith, within, long)) in
    distinct (get_or places i 0) (get_or places j 0) p (rise i j less inside) (each i p at_i) (each j p at_j)

module _ (files : ℕ → Option FileInfo) (sizes : List Size) (list_of : List ℕ) (list : List FilePage) where
  -- The pages of the first n files that are zeros stand behind others:
  pub record GathersZeros (limit n : ℕ) (front kept : List FilePage) : Type 0 where
    pub zeros : List FilePage
    pub is : kept ≡ front ++ zeros
    pub each : (i : ℕ) (p : FilePage) → slice_get zeros i ≡ Some p → ((j : ℕ) × (j < n) × (slice_get list_of j ≡ Some p.file)) × IsZeroPage files sizes list p.file p.page
    pub distinct : AreDistinct zeros
    pub all : (j f k : ℕ) → j < n → slice_get list_of j ≡ Some f → IsZeroPage files sizes list f k → StandsInList zeros f k
    pub few : length kept ≤ limit

  -- Pages that are picked: there are more of them than that
  pub picked_too_many : (new : Bool) (limit : ℕ) → AreDistinct list → AreTooManyPicked files new list limit → AreTooMany files sizes list_of list limit
  picked_too_many new limit distinct many = record {
    pages = many.0;
    many = many.2;
    distinct = distinct_picked list many.0 many.1 distinct many.3 many.4 (λ i p is. (many.5 i p is).0);
    each = λ i p is. inl (get_or many.1 i 0, p, (many.5 i p is).0, refl, refl);
  }

  -- there are more than that which are no new ones
  abbrev pub AreTooManyOthers : ℕ → Type 0
  AreTooManyOthers limit = (many : AreTooMany files sizes list_of list limit) × ((i : ℕ) (p : FilePage) → slice_get many.pages i ≡ Some p → is_new_in files p ≡ false)

  pub others_too_many : (limit : ℕ) → AreDistinct list → AreTooManyPicked files false list limit → AreTooManyOthers limit
  unfolding picked_too_many
  others_too_many limit distinct many = (picked_too_many false limit distinct many, λ i p is. (many.5 i p is).1)

  -- a page that is zeros is no new one
  pub zero_old : (p : FilePage) → IsZeroPage files sizes list p.file p.page → is_new_in files p ≡ false
  zero_old p is_zero = lt-leb (file_page_count (files p.file)) p.page (had (files p.file) is_zero.had)
    where
      had : (o : Option FileInfo) → 4096 * p.page < length_of o → p.page < file_page_count o
      had None inside = absurd (omega (arith, inside))
      had (Some info) inside = omega (arith, inside)

  -- With new pages that are picked they are more than the limit, of which these leave so much.
  pub with_new : (limit rest : ℕ) (fresh : List FilePage) (places : List ℕ) → limit ≡ length fresh + rest → AreDistinct list → PicksPages files true list fresh places → AreTooManyOthers rest
      → AreTooMany files sizes list_of list limit
  with_new limit rest fresh places are distinct new others = record {
    pages = fresh ++ others.0.pages;
    many = (let more = others.0.many in omega (arith, length-append fresh others.0.pages, are, more));
    distinct = distinct_joined fresh others.0.pages (distinct_picked list fresh places distinct new.long new.rise (λ i p is. (new.each i p is).0)) others.0.distinct
        (λ i j p at_i at_j. true≢false (sym (new.each i p at_i).1 ∙ others.1 j p at_j));
    each = λ i p is. ⊎_elim
        (λ (before : slice_get fresh i ≡ Some p). inl (get_or places i 0, p, (new.each i p before).0, refl, refl))
        (λ behind. others.0.each behind.0 p behind.2)
        (joined fresh others.0.pages i p is);
  }

module _ (directory : Directory) (sizes : List Size) (list_of : List ℕ) (list : List FilePage) (rising : (i j : ℕ) → i < j → j < length list_of → get_or list_of i 0 < get_or list_of j 0) where
  -- none of the files before file n is that
  earlier : (n j f : ℕ) → n < length list_of → j < n → slice_get list_of j ≡ Some f → f ≡ get_or list_of n 0 → ⊥
  earlier n j f inside less at same =
      let lower = rising j n less inside in
      let here : get_or list_of j 0 ≡ f = get_or_from_slice_get list_of j f 0 at in omega (arith, lower, here, same)

  -- pages of the next file are none of those before
  apart_next : (limit n : ℕ) (front kept then : List FilePage) (result : Bool) → n < length list_of → (gathers : GathersZeros (info_by directory) sizes list_of list limit n front kept)
      → (lists : ListsZeros directory sizes (get_or list_of n 0) list limit kept then result)
      → (i j : ℕ) (p : FilePage) → slice_get gathers.zeros i ≡ Some p → slice_get lists.zeros j ≡ Some p → ⊥
  apart_next limit n front kept then result inside gathers lists i j p at_i at_j =
      let before = (gathers.each i p at_i).0 in
      earlier n before.0 p.file inside before.1 before.2 (lists.each j p at_j).0

  each_next : (limit n : ℕ) (front kept then : List FilePage) (result : Bool) → n < length list_of → (gathers : GathersZeros (info_by directory) sizes list_of list limit n front kept)
      → (lists : ListsZeros directory sizes (get_or list_of n 0) list limit kept then result) → (i : ℕ) (p : FilePage) → slice_get (gathers.zeros ++ lists.zeros) i ≡ Some p
      → ((j : ℕ) × (j < n + 1) × (slice_get list_of j ≡ Some p.file)) × IsZeroPage (info_by directory) sizes list p.file p.page
  each_next limit n front kept then result inside gathers lists i p is = ⊎_elim
      (λ (before : slice_get gathers.zeros i ≡ Some p).
      let each = gathers.each i p before in ((each.0.0, (let less = each.0.1 in omega (arith, less)), each.0.2), each.1))
      (λ behind.
      let each = lists.each behind.0 p behind.2 in ((n, omega arith, slice_get-get_or list_of n 0 inside ∙ ap Some (sym each.0)), each.1))
      (joined gathers.zeros lists.zeros i p is)

  pub gathers_next : (limit n : ℕ) (front kept then : List FilePage) → n < length list_of → GathersZeros (info_by directory) sizes list_of list limit n front kept
      → ListsZeros directory sizes (get_or list_of n 0) list limit kept then true → GathersZeros (info_by directory) sizes list_of list limit (n + 1) front then
  gathers_next limit n front kept then inside gathers lists = record {
    zeros = gathers.zeros ++ lists.zeros;
    is = lists.behind ∙ ap (λ (l : List FilePage). l ++ lists.zeros) gathers.is ∙ append_assoc front gathers.zeros lists.zeros;
    each = each_next limit n front kept then true inside gathers lists;
    distinct = distinct_joined gathers.zeros lists.zeros gathers.distinct lists.distinct (apart_next limit n front kept then true inside gathers lists);
    all = λ j f k less at is. ⊎_elim
        (λ (last : j ≡ n).
        let here : f ≡ get_or list_of n 0 = same_Some f (get_or list_of n 0) (sym at ∙ ap (slice_get list_of) last ∙ slice_get-get_or list_of n 0 inside) in
        stands_right gathers.zeros lists.zeros f k (subst (λ (g : ℕ). StandsInList lists.zeros g k) (sym here)
        (lists.all refl k (subst (λ (g : ℕ). IsZeroPage (info_by directory) sizes list g k) here is))))
        (λ other. stands_left gathers.zeros lists.zeros f k (gathers.all j f k (omega (arith, less, other)) at is))
        (cases_eq j n);
    few = lists.few;
  }

  pub gathers_all : (limit rest n : ℕ) (fresh kept : PageList) (front : List FilePage) → length list_of ≤ n → limit ≡ length fresh.pages.items + rest
      → PicksPages (info_by directory) true list fresh.pages.items fresh.places.items → PicksPages (info_by directory) false list front kept.places.items
      → GathersZeros (info_by directory) sizes list_of list rest n front kept.pages.items → ListsPages directory sizes list_of list limit fresh kept
  gathers_all limit rest n fresh kept front whole are new old gathers = record {
    new = new;
    front = front;
    zeros = gathers.zeros;
    is = gathers.is;
    old = old;
    each = λ i p is. (let each = gathers.each i p is in ((each.0.0, each.0.2), each.1));
    distinct = gathers.distinct;
    all = λ f k zero. gathers.all zero.0.0 f k (let inside = slice_get_within list_of zero.0.0 f zero.0.1 in omega (arith, inside, whole)) zero.0.1 zero.1;
    few = (let few = gathers.few in omega (arith, few, are));
  }

  -- the pages of a list that are picked, with zeros behind them
  module _ (limit n : ℕ) (front kept then : List FilePage) (places : List ℕ) (inside : n < length list_of) (distinct : AreDistinct list)
      (old : PicksPages (info_by directory) false list front places) (gathers : GathersZeros (info_by directory) sizes list_of list limit n front kept)
      (lists : ListsZeros directory sizes (get_or list_of n 0) list limit kept then false) where
    listed_as : then ≡ front ++ (gathers.zeros ++ lists.zeros)
    listed_as = lists.behind ∙ ap (λ (l : List FilePage). l ++ lists.zeros) gathers.is ∙ append_assoc front gathers.zeros lists.zeros

    distinct_listed : AreDistinct (front ++ (gathers.zeros ++ lists.zeros))
    distinct_listed = distinct_joined front (gathers.zeros ++ lists.zeros) (distinct_picked list front places distinct old.long old.rise (λ i p is. (old.each i p is).0))
        (distinct_joined gathers.zeros lists.zeros gathers.distinct lists.distinct (apart_next limit n front kept then false inside gathers lists))
        (λ i j p at_i at_j. (each_next limit n front kept then false inside gathers lists j p at_j).1.unlisted (get_or places i 0, p, (old.each i p at_i).0, refl, refl))

    each_listed : (i : ℕ) (p : FilePage) → slice_get (front ++ (gathers.zeros ++ lists.zeros)) i ≡ Some p
        → StandsInList list p.file p.page ⊎ IsZeroIn (info_by directory) sizes list_of list p.file p.page
    each_listed i p is = ⊎_elim
        (λ (before : slice_get front i ≡ Some p). inl (get_or places i 0, p, (old.each i p before).0, refl, refl))
        (λ behind. (let each = each_next limit n front kept then false inside gathers lists behind.0 p behind.2 in inr ((each.0.0, each.0.2), each.1)))
        (joined front (gathers.zeros ++ lists.zeros) i p is)

    each_old : (i : ℕ) (p : FilePage) → slice_get (front ++ (gathers.zeros ++ lists.zeros)) i ≡ Some p → is_new_in (info_by directory) p ≡ false
    each_old i p is = ⊎_elim
        (λ (before : slice_get front i ≡ Some p). (old.each i p before).1)
        (λ behind. zero_old (info_by directory) sizes list_of list p (each_next limit n front kept then false inside gathers lists behind.0 p behind.2).1)
        (joined front (gathers.zeros ++ lists.zeros) i p is)

    -- and one more that is zeros, which is none of those
    more_page : (k : ℕ) → IsZeroPage (info_by directory) sizes list (get_or list_of n 0) k → (StandsInList lists.zeros (get_or list_of n 0) k → ⊥)
        → StandsInList (front ++ (gathers.zeros ++ lists.zeros)) (get_or list_of n 0) k → ⊥
    more_page k is other there = ⊎_elim
        (λ (before : StandsInList front (get_or list_of n 0) k).
        let each = (old.each before.0 before.1 before.2).0 in
        is.unlisted (get_or places before.0 0, before.1, each, before.3, before.4))
        (λ behind. ⊎_elim
        (λ (early : StandsInList gathers.zeros (get_or list_of n 0) k).
        let from = (gathers.each early.0 early.1 early.2).0 in
        earlier n from.0 early.1.file inside from.1 from.2 early.3)
        other
        (stands_either gathers.zeros lists.zeros (get_or list_of n 0) k behind))
        (stands_either front (gathers.zeros ++ lists.zeros) (get_or list_of n 0) k there)

    pub gathers_too_many : AreTooManyOthers (info_by directory) sizes list_of list limit
    gathers_too_many =
        let more = lists.more refl in
        let p : FilePage = record { file = get_or list_of n 0; page = more.1.0 } in
        let pages : List FilePage = front ++ (gathers.zeros ++ lists.zeros) in (
          record {
            pages = pages ++ p ∷ [];
            many = (let full = more.0 in omega (arith, length_push pages p, ap length listed_as, full));
            distinct = distinct_more pages p (more_page more.1.0 more.1.1 more.1.2) distinct_listed;
            each = λ i q is. ⊎_elim
                (λ (before : slice_get pages i ≡ Some q). each_listed i q before)
                (λ last. inr (subst (λ (r : FilePage). IsZeroIn (info_by directory) sizes list_of list r.file r.page) last.1 ((n, slice_get-get_or list_of n 0 inside), more.1.1)))
                (pushed pages p q i is);
          },
          λ i q is. ⊎_elim
              (λ (before : slice_get pages i ≡ Some q). each_old i q before)
              (λ last. subst (λ (r : FilePage). is_new_in (info_by directory) r ≡ false) last.1 (zero_old (info_by directory) sizes list_of list p more.1.1))
              (pushed pages p q i is),
        )

-- Of a room only pages get behind the others, and there is as much room for them:
pub record KeepsBeside (old new : SizeRoom) : Type 0 where
  pub sizes : new.sizes ≡ old.sizes
  pub changes : new.changes ≡ old.changes
  pub fresh : new.fresh ≡ old.fresh
  pub places : new.kept.places ≡ old.kept.places
  pub slots : new.slots ≡ old.slots
  pub pages : vec_capacity new.kept.pages ≡ vec_capacity old.kept.pages

pub keeps_beside : (old new : SizeRoom) (kept : PageList) → kept.places ≡ new.kept.places → vec_capacity kept.pages ≡ vec_capacity new.kept.pages → KeepsBeside old new
    → KeepsBeside old (record new { kept = kept })
keeps_beside old new kept places pages keeps = record {
  sizes = keeps.sizes;
  changes = keeps.changes;
  fresh = keeps.fresh;
  places = places ∙ keeps.places;
  slots = keeps.slots;
  pages = pages ∙ keeps.pages;
}

-- lists of pages with as much room as before
pub keeps_room : (old picked new : SizeRoom) → picked.sizes ≡ old.sizes → picked.changes ≡ old.changes → picked.slots ≡ old.slots → KeepsListRoom old.fresh picked.fresh
    → KeepsListRoom old.kept picked.kept → KeepsBeside picked new → KeepsRoom old new
keeps_room old picked new sizes changes slots fresh kept keeps = record {
  fresh = (ap (λ (l : PageList). vec_capacity l.pages) keeps.fresh ∙ fresh.0, ap (λ (l : PageList). vec_capacity l.places) keeps.fresh ∙ fresh.1);
  kept = (keeps.pages ∙ kept.0, ap vec_capacity keeps.places ∙ kept.1);
  sizes = keeps.sizes ∙ sizes;
  changes = keeps.changes ∙ changes;
  slots = keeps.slots ∙ slots;
}
