-- What a commit of listed changes and pages does to a store, in the words of stores.
use Rattle.std.proofs.Common.{ℕ, ◌+◌, ◌*◌, ◌<◌, ◌≤◌, ◌≡◌, ◌⊎◌, Bool, not, List, length, Option, Some, Result, OnOk, IsErrOf, inl, inr, ⊎_elim, ◌∙◌, arith}
use Rattle.std.proofs.lemmas.{Bool.{cases_lt}, Result.{on_ok_weaker}}
use Rattle.vm_types.specs.declared.{file.FileInfo.{FileInfo}, file.FilePage.{FilePage}}
use Rattle.disk_model.{proofs.Moments.{asks_wider, weaker}, specs.{Moments.{AsksOnly, LeavesNow, LeavesOnly}, Stop.{Image, MayLeave}, declared.sector_disk.SectorDisk.{Ghosts}}}
use Rattle.growth.specs.declared.changes.Change.{Change}
use Rattle.pool_growth.proofs.{Listed.{changed_few}, Owning.{own_not_gate, own_place}}
use Rattle.pool_growth.specs.{Commit.{CommitsInSlots, IsChangeAsked, IsChangedSector}, Files.{files_after, ChangesFiles}, Late.{slot_count}, Putting.{new_home, IsNewSector}}
use Rattle.pool_journal.proofs.Loose.{loose_high, map_high, stands_from}
use Rattle.pool_journal.specs.{Commit.{thinned, IsMoved}, Committing.{IsPoolStaged}, Maps.{entries_of}, Pools.{pool_gate, pool_slot}}
use Rattle.pool_store.specs.{Files.{StoreLayout, StandsFor as StandsInPool}, Pools.{files_in_pool}, Store.{info_by}}
use Rattle.pool_store.specs.declared.store.PoolStore.{PoolStore}
use Rattle.stores.{proofs.{Front.{most_stays}, Says.{front_synced, from_pool, left_of_pool, to_pool}}, specs.{Images.{SaysMostOf, StandsFor}, declared.store.Store.TheVariants.{Pool}}}
use Rattle.sync_journal.specs.{Layout.{IsPageSector}, declared.{faults.CommitFault.{CommitFault, TheVariants.{Source}}, source.PageSource.{Ghosts as SourceGhosts}}}
use Rattle.sized_stores.proofs.{Possible.{some_pages}, TakenAsked.{may_commit}, TakenBytes.{agree, stand_cut}, TakenLengths.{sized_then}}
use Rattle.sized_stores.specs.{Commit.{files_then, AreResized, ArePagesNow, HasRoom, StandsForOneOf, TakesSizes}, Given.{given_page}, Listed.{listed_in, ListsCommit}, Store.{IsReadySized}}
use Rattle.sized_stores.specs.declared.{room.SizeRoom.{SizeRoom}, store.SizedStore.{SizedStore}}

-- No sector before the gate is asked for,
slot_high : (m : ℕ) (body : Bool) (r k : ℕ) → IsPageSector (pool_slot m body r) k → k < pool_gate → ⊥
slot_high m body r k slot low = let from = stands_from m 0 0 (Some (body, r)) in omega (arith, from, slot.0, low)

moved_high : (m : ℕ) (entries : Bool → ℕ → ℕ) (k : ℕ) → IsMoved m entries k → k < pool_gate → ⊥
moved_high m entries k moved low = ⊎_elim (λ live. slot_high m live.0 live.1 k live.4 low) (λ home. omega (arith, home.3.0, low)) moved

staged_high : (m : ℕ) (second : Bool) (was : Bool → ℕ → ℕ) (homes : List ℕ) (k : ℕ) → IsPoolStaged m second was homes k → k < pool_gate → ⊥
staged_high m second was homes k staged low = ⊎_elim
    (⊎_elim (λ dropped. moved_high m (thinned homes was) k dropped.1 low) (λ free. slot_high m free.0 free.1 k free.4 low))
    (λ map. map_high m (not second) k map (omega (arith, low)))
    staged

module _ {D : Type 0} (store : PoolStore D) (changes : List Change) where
  abbrev m : ℕ
  m = store.journal.sizes.blocks

  abbrev entries : Bool → ℕ → ℕ
  entries = entries_of store.journal.map

  new_high : (k : ℕ) → IsNewSector store.journal store.directory changes k → k < pool_gate → ⊥
  new_high k new low = own_not_gate m entries new.0 k new.2 (omega (arith, low))

  -- nor written.
  pub changed_high : (k : ℕ) → IsChangedSector store changes k → k < pool_gate → ⊥
  changed_high k changed low = ⊎_elim (λ new. new_high k new low)
      (⊎_elim (λ gate. omega (arith, gate, low)) (λ loose. loose_high m store.journal.second entries k loose (omega (arith, low)))) changed

  pub asked_high : (fresh list : List FilePage) (put k : ℕ) → IsChangeAsked store changes fresh list put k → pool_gate ≤ k
  asked_high fresh list put k asked = ⊎_elim (λ low. absurd (too_low low)) (λ high. high) (cases_lt k pool_gate)
    where
      too_low : k < pool_gate → ⊥
      too_low low = ⊎_elim
          (⊎_elim (λ sparse. new_high k sparse.1 low)
          (λ put. own_not_gate m entries (new_home store.directory changes fresh put.0) k (own_place m entries (new_home store.directory changes fresh put.0) k put.2) (omega (arith, low))))
          (⊎_elim (λ gate. omega (arith, gate, low)) (λ staged. staged_high m store.journal.second entries _ k staged low))
          asked

  -- All goes into slots, and is no more than the pages and the directory's.
  pub slots_few : (fresh list : List FilePage) (limit : ℕ) → length fresh + length list ≤ limit → limit + store.directory.pages ≤ 504 * store.journal.sizes.blocks
      → slot_count store.directory changes fresh list 0 ≤ 504 * store.journal.sizes.blocks
  slots_few fresh list limit few most = (let changed = changed_few changes store.directory.pages in omega (arith, changed, few, most))

-- A store that is ready, of which lengths and pages are listed, and committed:
module _ {D S : Type 0} (g : Ghosts D) (s : SourceGhosts S) (only_now : (d : D) (image : Image) → g.keeps_model d → g.left_since d (g.moment d) image → MayLeave (g.content d) (g.unsynced d) image)
    (sized : SizedStore D) (store : PoolStore D) (ready : IsReadySized g (record sized { store = Pool store })) (roomy : HasRoom (record sized { store = Pool store })) (files : List ℕ) (list : List FilePage)
    (are : AreResized (record sized { store = Pool store }) files) (now : ArePagesNow (record sized { store = Pool store }) files list)
    (room : SizeRoom) (lists : ListsCommit store sized.sizes.items files list room) (new : PoolStore D) (from left : S) (outcome : Result (Unit {0}) CommitFault)
    (e : CommitsInSlots g (listed_in room s) store new room.changes.items room.fresh.pages.items room.kept.pages.items from left outcome) where
  abbrev old : SizedStore D
  old = record sized { store = Pool store }

  abbrev was : ℕ → Option FileInfo
  was = info_by store.directory

  abbrev later : ℕ → Option FileInfo
  later = files_after was room.changes.items

  abbrev sectors : ℕ
  sectors = g.sector_count store.disk

  abbrev layout : StoreLayout (Bool × (Bool → ℕ → ℕ))
  layout = files_in_pool store.journal.sizes.blocks store.directory.pages store.journal.sizes.homes

  -- the files are those that lengths ask for,
  pub same_files : (f : ℕ) → files_after (info_by store.directory) room.changes.items f ≡ files_then (record sized { store = Pool store }) files f
  same_files = sized_then sized store ready files are room.changes.items lists.changes.says

  -- what it stands for it stands for by the words of its layout,
  in_pool : g.keeps_model new.disk → (before : ℕ → ℕ → List ℕ) → LeavesNow g store.disk (StandsFor sectors was before) → LeavesNow g store.disk (StandsInPool layout sectors was before)
  in_pool keeps before stands image may = to_pool store.journal.sizes.blocks store.directory.pages store.journal.sizes.homes sectors ready.ready.pool.homes was before image
      (left_of_pool g store ready.ready (e.kept keeps) image may) (stands image may)

  of_pool : (pages : ℕ → ℕ → List ℕ) (image : Image) → StandsInPool layout sectors was pages image → StandsFor sectors was pages image
  of_pool = from_pool store.journal.sizes.blocks store.directory.pages store.journal.sizes.homes sectors ready.ready.pool.homes was

  -- and the bytes become what lengths make of them.
  module _ (keeps : g.keeps_model new.disk) (gives : s.keeps_model left) (before after : ℕ → ℕ → List ℕ) (stands : LeavesNow g store.disk (StandsFor sectors was before))
      (takes : TakesSizes (record sized { store = Pool store }) files list (s.pages from) before after) where
    made : (pages : ℕ → ℕ → List ℕ) × ChangesFiles was room.changes.items room.fresh.pages.items room.kept.pages.items (given_page room.fresh.places.items room.kept.places.items (s.pages from)) before pages
    made =
        let may = may_commit g sized store ready files list are now roomy room lists in
        some_pages was room.changes.items room.fresh.pages.items may.new_ones room.kept.pages.items may.kept.before may.kept.distinct (given_page room.fresh.places.items room.kept.places.items (s.pages from)) before

    as_after : (image : Image) → StandsInPool layout sectors later made.0 image → StandsFor sectors (files_then old files) after image
    as_after image is =
        let all = from_pool store.journal.sizes.blocks store.directory.pages store.journal.sizes.homes sectors ready.ready.pool.homes later made.0 image is in
        record {
          layout = all.layout;
          journal = all.journal;
          facts = λ f. all.facts f ∙ same_files f;
          same = λ f k at. all.same f k (at.0, same_files f ∙ at.1, at.2) ∙ agree g sized store ready files list are now room.changes.items lists.changes.says lists.limit room.fresh room.kept lists.pages
              (s.pages from) before after made.0 takes made.1 (stand_cut g store ready.ready (e.kept keeps) before stands) f k at;
        }

    pub then_taken : OnOk outcome (LeavesNow g new.disk (StandsFor (g.sector_count store.disk) (files_then (record sized { store = Pool store }) files) after))
    then_taken = on_ok_weaker outcome (λ is image may. as_after image (is image may)) (e.ok keeps gives was before made.0 (in_pool keeps before stands) made.1)

    pub while_taken : LeavesOnly g store.disk new.disk (StandsForOneOf (g.sector_count store.disk) (info_by store.directory) before (files_then (record sized { store = Pool store }) files) after)
    while_taken = weaker g store.disk new.disk (λ image. StandsInPool layout sectors was before image ⊎ StandsInPool layout sectors later made.0 image)
        (StandsForOneOf sectors was before (files_then old files) after)
        (λ image. ⊎_elim (λ is. inl (of_pool before image is)) (λ is. inr (as_after image is)))
        (e.any_moment keeps gives was before made.0 (in_pool keeps before stands) made.1)

  -- Where the source failed they stay.
  module _ (keeps : g.keeps_model new.disk) (told : IsErrOf outcome Source) (before : ℕ → ℕ → List ℕ) (stands : LeavesNow g store.disk (StandsFor (g.sector_count store.disk) (info_by store.directory) before)) where
    pub while_failed : LeavesOnly g store.disk new.disk (StandsFor (g.sector_count store.disk) (info_by store.directory) before)
    while_failed = weaker g store.disk new.disk (StandsInPool layout sectors was before) (StandsFor sectors was before) (of_pool before) (e.source keeps told was before (in_pool keeps before stands))

    pub then_failed : LeavesNow g new.disk (StandsFor (g.sector_count store.disk) (info_by store.directory) before)
    then_failed image may = of_pool before image (e.source_now keeps told was before (in_pool keeps before stands) image may)

  -- Every image says how many pages every commit may take.
  pub most_taken : g.keeps_model new.disk → LeavesOnly g store.disk new.disk (SaysMostOf (g.sector_count store.disk) (g.content store.disk))
  most_taken keeps = most_stays g (IsChangedSector store room.changes.items) store.disk new.disk (λ image since. only_now store.disk image (e.kept keeps) since)
      (front_synced g (Pool store) ready.ready (e.kept keeps)) (λ k low changed. changed_high store room.changes.items k changed (omega (arith, low))) (e.touches keeps)

  pub asks_high : AsksOnly g (λ k. pool_gate ≤ k) store.disk new.disk
  asks_high = asks_wider g (IsChangeAsked store room.changes.items room.fresh.pages.items room.kept.pages.items 0) (λ k. pool_gate ≤ k) store.disk new.disk
      (asked_high store room.changes.items room.fresh.pages.items room.kept.pages.items 0) e.asks_device

  pub few_slots : slot_count store.directory room.changes.items room.fresh.pages.items room.kept.pages.items 0 ≤ 504 * store.journal.sizes.blocks
  few_slots = slots_few store room.changes.items room.fresh.pages.items room.kept.pages.items lists.limit lists.pages.few lists.most
