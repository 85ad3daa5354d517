-- Lengths that are asked of a store, and pages, are listed, or lack room.
use Rattle.std.proofs.Common.{ℕ, zero, suc, ◌+◌, ◌*◌, ◌<◌, ◌≤◌, ◌≡◌, false, true, List, length, map, get_or, vec_capacity, Result, Ok, Err, IfErr, OnOk, IsErrOf, is_err, refl, sym, ap, subst, arith}
use Rattle.std.proofs.lemmas.{Bool.{false≢true}, List.{get_or-map, length-map}}
use Rattle.vm_types.specs.declared.file.FilePage.{FilePage}
use Rattle.disk_model.specs.declared.sector_disk.SectorDisk.{Ghosts}
use Rattle.growth.specs.declared.changes.Change.{Change}
use Rattle.pool_growth.specs.Front.{HasChangeRoom}
use Rattle.pool_growth.specs.Sizes.{AreSizes, AreSizesRefused, IsSizeFor, ProposesChanges}
use Rattle.pool_growth.specs.declared.{faults.{BadSizes.{BadSizes}, BadSizes.TheVariants.{Form, NoHomes, Memory}}, sizes.FileSize.{FileSize}}
use Rattle.pool_store.specs.Store.{info_by, IsReadyPool}
use Rattle.pool_store.specs.declared.store.PoolStore.{PoolStore}
use Rattle.stores.specs.Store.{StoreKept.{OfPool}}
use Rattle.sized_stores.specs.{Commit.{size_asked, LacksRoomIn, LacksRoomIn.{Homes, Slots}}, Listed.{AreAskedOf, ListsCommit}, Listing.{AreTooMany, KeepsRoom, ListsPages}, Room.{HasListRoom, HasSizeRoom}}
use Rattle.sized_stores.specs.declared.{room.SizeRoom.{SizeRoom}, sizes.Size.{Size}}

-- numbers that rise are no fewer than their places, so no more are below a bound
at_least : (xs : List ℕ) → ((i j : ℕ) → i < j → j < length xs → get_or xs i 0 < get_or xs j 0) → (i : ℕ) → i < length xs → i ≤ get_or xs i 0
at_least xs rise zero inside = omega arith
at_least xs rise (suc i) inside =
    let before = at_least xs rise i (omega (arith, inside)) in
    let more = rise i (suc i) (omega arith) inside in
    omega (arith, before, more)

pub few_below : (xs : List ℕ) (n : ℕ) → ((i j : ℕ) → i < j → j < length xs → get_or xs i 0 < get_or xs j 0) → ((i : ℕ) → i < length xs → get_or xs i 0 < n) → length xs ≤ n
few_below xs n rise below = from (length xs) refl
  where
    from : (k : ℕ) → length xs ≡ k → length xs ≤ n
    from zero long = omega (arith, long)
    from (suc k) long =
        let inside : k < length xs = omega (arith, long) in
        let low = at_least xs rise k inside in
        let high = below k inside in
        omega (arith, long, low, high)

module _ {D : Type 0} (g : Ghosts D) (store : PoolStore D) (ready : IsReadyPool g store) (sizes : List Size) (files : List ℕ) (list : List FilePage) (are : AreAskedOf store sizes files list) where
  abbrev all : List FileSize
  all = map (size_asked sizes) files

  -- They are no more than the directory has places,
  pub files_few : length files ≤ 16 * store.directory.pages
  files_few =
      let few = few_below files (length sizes) are.sized.rising are.sized.places in
      let same = are.all in
      let places = ready.is_directory.size in
      omega (arith, few, same, places)

  -- and may be asked of it.
  asked_at : (k : ℕ) (d : FileSize) → k < length all → get_or all k d ≡ size_asked sizes (get_or files k 0)
  asked_at k d below = get_or-map (size_asked sizes) files k 0 d (let long = length-map files (size_asked sizes) in omega (arith, below, long))

  listed : (k : ℕ) → k < length all → k < length files
  listed k below = let long = length-map files (size_asked sizes) in omega (arith, below, long)

  pub are_sizes : AreSizes (length store.directory.entries.items) (map (size_asked sizes) files)
  are_sizes = record {
    rising = λ i j d less below.
        let one = asked_at i d (omega (arith, less, below)) in
        let two = asked_at j d below in
        let rise = are.sized.rising i j less (listed j below) in
        subst (λ (t : FileSize). (get_or all i d).file < t.file) (sym two) (subst (λ (t : FileSize). t.file < get_or files j 0) (sym one) rise);
    inside = λ k d below. subst (IsSizeFor (length store.directory.entries.items)) (sym (asked_at k d below)) (
        let place = are.sized.places k (listed k below) in
        let same = are.all in
        let places = ready.is_directory.size in
        let pages = ready.is_directory.sized.1 in
        record {
          place = omega (arith, place, same);
          number = omega (arith, place, same, places, pages);
          short = λ _. (are.sized.short k (listed k below)).0;
        });
  }

  -- So where they are refused a file lacks homes,
  lacks_for : (fault : BadSizes) → AreSizesRefused store.journal.sizes.homes store.directory (map (size_asked sizes) files) fault → (fault ≡ Memory → ⊥)
      → LacksRoomIn (OfPool store.directory store.journal) sizes files list
  lacks_for Form refused other = absurd (refused are_sizes)
  lacks_for (NoHomes f) refused other = Homes f refused
  lacks_for Memory refused other = absurd (other refl)

  pub lacks_homes : (result : Result (Unit {0}) BadSizes) → is_err result ≡ true
      → IfErr result (AreSizesRefused store.journal.sizes.homes store.directory (map (size_asked sizes) files)) → (IsErrOf result Memory → ⊥)
      → LacksRoomIn (OfPool store.directory store.journal) sizes files list
  lacks_homes (Ok done) is refused other = absurd (false≢true is)
  lacks_homes (Err fault) is refused other = lacks_for fault refused (λ memory. other (ap Err memory))

  -- and otherwise their changes are listed, with pages,
  pub lists_all : (result : Result (Unit {0}) BadSizes) → is_err result ≡ false → (changes : List Change)
      → OnOk result (ProposesChanges store.journal.sizes.homes store.directory (map (size_asked sizes) files) changes)
      → (room : SizeRoom) → room.changes.items ≡ changes → (limit : ℕ) → limit + store.directory.pages ≤ 504 * store.journal.sizes.blocks
      → ListsPages store.directory sizes files list limit room.fresh room.kept → ListsCommit store sizes files list room
  lists_all (Err fault) is changes proposes room same limit most lists = absurd (false≢true (sym is))
  lists_all (Ok done) is changes proposes room same limit most lists = record {
    changes = subst (λ (cs : List Change). ProposesChanges store.journal.sizes.homes store.directory all cs) (sym same) proposes;
    limit = limit;
    most = most;
    pages = lists;
  }

  -- or these lack slots.
  pub lacks_slots : (limit : ℕ) → 504 * store.journal.sizes.blocks < suc limit + store.directory.pages
      → AreTooMany (info_by store.directory) sizes files list limit → LacksRoomIn (OfPool store.directory store.journal) sizes files list
  lacks_slots limit over many = Slots limit over many

-- A room has as much room as another with the same lists.
pub room_stays : (m d : ℕ) (old new : SizeRoom) → HasSizeRoom m d old → vec_capacity new.sizes ≡ vec_capacity old.sizes → vec_capacity new.changes ≡ vec_capacity old.changes
    → new.fresh ≡ old.fresh → new.kept ≡ old.kept → new.slots ≡ old.slots → HasSizeRoom m d new
room_stays m d old new has sizes changes fresh kept slots = record {
  sizes = (let was = has.sizes in omega (arith, was, sizes));
  changes = (let was = has.changes in omega (arith, was, changes));
  fresh = subst (λ list. HasListRoom (504 * m) list) (sym fresh) has.fresh;
  kept = subst (λ list. HasListRoom (504 * m) list) (sym kept) has.kept;
  slots = subst (λ room. HasChangeRoom m d room) (sym slots) has.slots;
}

pub room_kept : (m d : ℕ) (old new : SizeRoom) → HasSizeRoom m d old → KeepsRoom old new → HasSizeRoom m d new
room_kept m d old new has keeps = record {
  sizes = subst (λ v. 16 * d ≤ vec_capacity v) (sym keeps.sizes) has.sizes;
  changes = subst (λ v. 16 * d ≤ vec_capacity v) (sym keeps.changes) has.changes;
  fresh = (let was = has.fresh in let same = keeps.fresh in (omega (arith, was.0, same.0), omega (arith, was.1, same.1)));
  kept = (let was = has.kept in let same = keeps.kept in (omega (arith, was.0, same.0), omega (arith, was.1, same.1)));
  slots = subst (λ room. HasChangeRoom m d room) (sym keeps.slots) has.slots;
}
