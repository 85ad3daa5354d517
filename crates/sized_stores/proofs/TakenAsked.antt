-- What a commit of lengths asks of the lists and of the source.
use Rattle.std.proofs.Common.{ℕ, ◌-◌, ◌<◌, ◌≡◌, Bool, true, false, List, [], length, get_or, slice_get, nat_lt, Option, Some, inr, ⊎_elim, refl, sym, ap, subst, ◌∙◌, arith}
use Rattle.std.proofs.lemmas.{Bool.{cases_lt, cond-false, cond-true, false≢true, le-ltb, lt-ltb}, Option.{get_or_from_slice_get, slice_get-get_or, slice_get_within}}
use Rattle.vm_types.specs.declared.{file.FileInfo.{FileInfo}, file.FilePage.{FilePage}}
use Rattle.disk_model.specs.declared.sector_disk.SectorDisk.{Ghosts}
use Rattle.file_store.specs.declared.store.FileStore.{FileStore}
use Rattle.pool_growth.proofs.Listed.{changed_few}
use Rattle.pool_store.specs.Store.{info_by}
use Rattle.pool_store.specs.declared.{directory.Directory.{Directory}, store.PoolStore.{PoolStore}}
use Rattle.stores.specs.Store.{kept_of}
use Rattle.stores.specs.declared.store.Store.TheVariants.{Journal, Pool}
use Rattle.sized_stores.proofs.{TakenLengths.{has_place, has_size}, TakenPages.{are_kept, are_new}}
use Rattle.sized_stores.specs.{Commit.{AreResized, ArePagesNow, HasRoom}, Listed.{AreAskedOf, GivesListed, ListsCommit, MayCommit}, Listing.{no_size, AreSized, ListsPages, PicksPages}, Store.{is_resized_in, HaveSizes, IsReadySized}}
use Rattle.sized_stores.specs.declared.{room.SizeRoom.{SizeRoom}, sizes.Size.{Size}, store.SizedStore.{SizedStore}}

-- No file of a store of layout 2 has got another length.
none_resized : (sizes : List Size) (f : ℕ) → sizes ≡ [] → is_resized_in sizes f ≡ true → ⊥
none_resized sizes f none is = false≢true (sym (ap (λ (xs : List Size). is_resized_in xs f) none) ∙ is)

pub not_journal : {D : Type 0} (g : Ghosts D) (s : SizedStore D) (files : List ℕ) → IsReadySized g s → AreResized s files → (store : FileStore D) → s.store ≡ Journal store → ⊥
not_journal g s files ready are store is =
    let first = get_or files 0 0 in
    let at : slice_get files 0 ≡ Some first = slice_get-get_or files 0 0 (let some = are.some in omega (arith, some)) in
    none_resized s.sizes.items first (subst (λ x. HaveSizes (kept_of x) s.sizes.items) is ready.have) (are.resized 0 first at)

-- each place of picked pages is one of the list
picked_place : (files : ℕ → Option FileInfo) (new : Bool) (list pages : List FilePage) (places : List ℕ) → PicksPages files new list pages places
    → (j place : ℕ) → slice_get places j ≡ Some place → place < length list
picked_place files new list pages places picks j place at =
    let inside = slice_get_within places j place at in
    let long = picks.long in
    let within : j < length pages = omega (arith, inside, long) in
    let first : FilePage = record { file = 0; page = 0 } in
    let here : slice_get pages j ≡ Some (get_or pages j first) = slice_get-get_or pages j first within in
    let same : get_or places j 0 ≡ place = get_or_from_slice_get places j place 0 at in
    let low = slice_get_within list (get_or places j 0) (get_or pages j first) (picks.each j (get_or pages j first) here).0 in
    omega (arith, low, same)

-- A source that gives all pages of a list gives those of it that are listed.
pub gives_listed : (directory : Directory) (sizes : List Size) (files : List ℕ) (list : List FilePage) (limit : ℕ) (room : SizeRoom) → ListsPages directory sizes files list limit room.fresh room.kept
    → (Gives : ℕ → Type 0) → ((i : ℕ) → i < length list → Gives i) → GivesListed room Gives
gives_listed directory sizes files list limit room lists Gives gives k below place is = ⊎_elim
    (λ (front : k < length fresh). gives place (picked_place (info_by directory) true list room.fresh.pages.items fresh lists.new k place
    (sym (cond-true (nat_lt k (length fresh)) (slice_get fresh k) (slice_get kept (k - length fresh)) (lt-ltb k (length fresh) front)) ∙ is)))
    (λ past. gives place (picked_place (info_by directory) false list lists.front kept lists.old (k - length fresh) place
    (sym (cond-false (nat_lt k (length fresh)) (slice_get fresh k) (slice_get kept (k - length fresh)) (le-ltb k (length fresh) past)) ∙ is)))
    (cases_lt k (length fresh))
  where
    fresh : List ℕ
    fresh = room.fresh.places.items

    kept : List ℕ
    kept = room.kept.places.items

module _ {D : Type 0} (g : Ghosts D) (s : SizedStore D) (store : PoolStore D) (ready : IsReadySized g (record s { store = Pool store })) (files : List ℕ) (list : List FilePage)
    (are : AreResized (record s { store = Pool store }) files) (now : ArePagesNow (record s { store = Pool store }) files list) where
  -- Each file has its place, and a length.
  file_at : (i : ℕ) → i < length files → (info : FileInfo) × (info_by store.directory (get_or files i 0) ≡ Some info)
  file_at i below = are.there i (get_or files i 0) (slice_get-get_or files i 0 below)

  pub file_placed : (i : ℕ) → i < length files → get_or files i 0 < length s.sizes.items
  file_placed i below =
      let there = file_at i below in
      let inside = has_place s store (get_or files i 0) there.0 there.1 in
      let have = ready.have in
      omega (arith, inside, have)

  are_sized : AreSized s.sizes.items files
  are_sized = record {
    places = file_placed;
    rising = are.rising;
    short = λ i below.
        let f = get_or files i 0 in
        let there = file_at i below in
        let has = has_size s store ready f there.0 there.1 in
        let most = has.is.most in
        let low = has.is.is in
        let same = get_or_from_slice_get s.sizes.items f has.size no_size has.at in
        let length = ap (λ (size : Size). size.length) same in
        let shortest = ap (λ (size : Size). size.shortest) same in
        (omega (arith, most, length), omega (arith, most, low, shortest));
  }

  -- So they may be asked of the store,
  pub are_asked : (sizes : List Size) → sizes ≡ s.sizes.items → AreAskedOf store sizes files list
  are_asked sizes same = subst (λ (xs : List Size). AreAskedOf store xs files list) (sym same) (record { all = ready.have; sized = are_sized; few = now.few; distinct = now.distinct })

  -- and what is listed may be committed.
  pub may_commit : HasRoom (record s { store = Pool store }) → (room : SizeRoom) → ListsCommit store s.sizes.items files list room → MayCommit store room
  may_commit roomy room lists = record {
    are = lists.changes.good;
    new_ones = are_new g s store ready files list are now room.changes.items lists.changes.says lists.limit room.fresh room.kept lists.pages;
    kept = are_kept g s store ready files list are now room.changes.items lists.changes.says lists.limit room.fresh room.kept lists.pages roomy lists.most;
    may = inr (
      refl,
      (
          let few = lists.pages.few in
          let changed = changed_few room.changes.items store.directory.pages in
          let most = lists.most in
          omega (arith, few, changed, most, roomy)),
    );
  }
