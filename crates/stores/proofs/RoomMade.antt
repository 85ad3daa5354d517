-- Room made for the next commit: nothing is done, or the store is tidied.
use Rattle.stores.proofs.Names.{ℕ, ◌≤◌, ◌<◌, ◌≡◌, ◌*◌, Bool, List, [], ◌∷◌, Option, Result, Ok, inl, refl, ap, arith}
use Rattle.stores.proofs.Names.{Ghosts, Image, MayLeave, LeavesNow, LeavesOnly, Nothing, stays, started}
use Rattle.std.proofs.lemmas.Result.{on_ok_weaker}
use Rattle.disk_model.{proofs.Moments.{asks_none, holds_now}, specs.declared.sector_disk.DiskFault.{DiskFault}}
use Rattle.sync_journal.proofs.{Layouts.{same_stands}, Phases.{while_staging}, Sectors.{while_read}, Shared.{none_are}}
use Rattle.sync_journal.specs.{Commit.{one_journal, IsAtRest}, Journal.{live_homes}, Layout.{home_count, IsJournalSector}, Layouts.{HomesStandAs, KeepsHomes}}
use Rattle.vm_types.specs.declared.file.FileInfo.{FileInfo}
use Rattle.pool_journal.{proofs.Phases.{loose_blocks, while_writing}, specs.{Commit.{IsWritten}, Maps.{entries_of}, Pools.{pool, IsPoolRest}}}
use Rattle.file_store.proofs.Reading.{has_content}
use Rattle.pool_store.proofs.{Ready.{in_blocks_weaker}, Standing.{stands_kept}}
use Rattle.stores.proofs.{Front.{most_committed}, Says.{as_pool, head_of}}
use Rattle.stores.specs.{Commit.{AsksOnceIn, CommitsInBlocksIn, KeepsHomesIn}, Images.{StandsFor}, Rooms.{FreesSlots, IsTidiedIn, MakesRoomFor, TidiesStore}}
use Rattle.stores.specs.Store.{StoreKept, StoreKept.{OfJournal, OfPool}, directory_in, disk_of, kept_of, free_of, always_free_in, capacity_in, IsCommittedIn, IsReadyStore, IsUsedIn}
use Rattle.stores.specs.declared.store.Store.{Store}
use Rattle.stores.specs.declared.store.Store.TheVariants.{Journal, Pool}

-- a store has as many slots as it had
same_capacity : (new old : StoreKept) → directory_in new ≡ directory_in old → always_free_in new ≡ always_free_in old → capacity_in new ≡ capacity_in old
same_capacity (OfJournal _ _) (OfJournal _ _) files most = refl
same_capacity (OfJournal _ _) (OfPool _ _) files most = cc
same_capacity (OfPool _ _) (OfJournal _ _) files most = cc
same_capacity (OfPool _ _) (OfPool _ _) files most = ap (λ n. 2 * n) most

module _ {D : Type 0} (g : Ghosts D) where
  -- A device at rest, of which every stop leaves homes that stand as they do:
  module _ (d : D) (only_now : (image : Image) → g.left_since d (g.moment d) image → MayLeave (g.content d) (g.unsynced d) image) where
    -- under a journal of one commit,
    one_homes : (live : List ℕ) → IsAtRest g live d → KeepsHomes one_journal g d d
    one_homes [] quiet = while_staging g [] (λ j. []) d d only_now (none_are (home_count (g.sector_count d))) quiet (stays g IsJournalSector d)
    one_homes (home ∷ homes) live = while_read g d d (stays g Nothing d) (HomesStandAs one_journal (g.sector_count d) (g.content d))
        (same_stands one_journal (g.sector_count d) (g.content d) (g.content d) refl) only_now live.synced

    -- or under that of a pool
    slots_stay : (m n : ℕ) (second : Bool) (entries : Bool → ℕ → ℕ) → IsPoolRest g m n second entries d → IsWritten g m n second entries d d
    slots_stay m n second entries rest = record { only_now = only_now; rest = rest; run = stays g _ d }

  -- as a store that is ready has it
  rest_homes : (store : Store D) → IsReadyStore g store → g.keeps_model (disk_of store)
      → ((image : Image) → g.left_since (disk_of store) (g.moment (disk_of store)) image → MayLeave (g.content (disk_of store)) (g.unsynced (disk_of store)) image)
      → LeavesOnly g (disk_of store) (disk_of store) (KeepsHomesIn (kept_of store) (g.sector_count (disk_of store)) (g.content (disk_of store)))
  rest_homes (Journal store) ready keeps only_now = one_homes store.disk only_now (live_homes store.journal) (ready.0.at_rest keeps).journal
  rest_homes (Pool store) ready keeps only_now = while_writing g _ _ _ _ store.disk store.disk (slots_stay store.disk only_now _ _ _ _ (ready.at_rest keeps).rest)

  -- even if a stop spoils whole blocks
  rest_blocks : (store : Store D) → IsReadyStore g store → g.keeps_model (disk_of store)
      → ((image : Image) → g.left_since (disk_of store) (g.moment (disk_of store)) image → MayLeave (g.content (disk_of store)) (g.unsynced (disk_of store)) image)
      → CommitsInBlocksIn g (kept_of store) (KeepsHomesIn (kept_of store) (g.sector_count (disk_of store)) (g.content (disk_of store))) (disk_of store) (disk_of store)
  rest_blocks (Journal store) ready keeps only_now = tt
  rest_blocks (Pool store) ready keeps only_now = inl (loose_blocks g _ _ _ _ store.disk store.disk (slots_stay store.disk only_now _ _ _ _ (ready.at_rest keeps).rest))

  -- With the homes the files stand as they did.
  pub files_in_blocks : (store : Store D) (new : D) → IsReadyStore g store → g.keeps_model (disk_of store)
      → CommitsInBlocksIn g (kept_of store) (KeepsHomesIn (kept_of store) (g.sector_count (disk_of store)) (g.content (disk_of store))) (disk_of store) new
      → (files : ℕ → Option FileInfo) (pages : ℕ → ℕ → List ℕ) → LeavesNow g (disk_of store) (StandsFor (g.sector_count (disk_of store)) files pages)
      → CommitsInBlocksIn g (kept_of store) (StandsFor (g.sector_count (disk_of store)) files pages) (disk_of store) new
  files_in_blocks (Journal store) new ready keeps homes files pages left = tt
  files_in_blocks (Pool store) new ready keeps homes files pages left =
      let m = store.journal.sizes.blocks in
      let d = store.directory.pages in
      let n = store.journal.sizes.homes in
      let sectors = g.sector_count store.disk in
      let image = g.content store.disk in
      in_blocks_weaker g m store.journal.second (entries_of store.journal.map) (HomesStandAs (pool m n) sectors image) (StandsFor sectors files pages) store.disk new
      (λ spoilt kept. as_pool m d n sectors ready.pool.homes image spoilt (head_of g store ready keeps) (stands_kept m d n sectors image spoilt kept) files pages
      (has_content g store.disk (StandsFor sectors files pages) left)) homes

  -- no call asks for a sector
  none_asked : (kept : StoreKept) (d : D) → AsksOnceIn g kept [] d d
  none_asked (OfJournal directory journal) d = record { between = g.asked d; copies = record { each = λ k. inl refl }; opens = record { each = λ k. inl refl } }
  none_asked (OfPool directory journal) d = λ single. record { each = λ k. inl refl }

  module _ (counts_now : (d : D) (t : ℕ) (c : Image) → g.keeps_model d → t ≤ g.moment d → MayLeave (g.content d) (g.unsynced d) c → g.left_since d t c) where
    -- what holds at every moment holds now
    pub now_too : (old new : D) (P : Image → Type 0) → g.keeps_model new → LeavesOnly g old new P → LeavesNow g new P
    now_too old new P keeps = holds_now g old new P (λ t c le may. counts_now new t c keeps le may)

    -- Where nothing is done
    module _ (only_now : (d : D) (c : Image) → g.keeps_model d → g.left_since d (g.moment d) c → MayLeave (g.content d) (g.unsynced d) c)
        (store : Store D) (ready : IsReadyStore g store) where
      abbrev d : D
      d = disk_of store

      rest_moment : g.keeps_model d → LeavesOnly g d d (KeepsHomesIn (kept_of store) (g.sector_count d) (g.content d))
      rest_moment keeps = rest_homes store ready keeps (λ image left. only_now d image keeps left)

      -- all is kept that stays where slots are freed,
      pub none_freed : FreesSlots g store store (Ok (tt {0}))
      none_freed = record {
        ready = ready;
        stands = λ keeps files pages left. left;
        any_moment = λ keeps files pages left. started g d (StandsFor (g.sector_count d) files pages) (λ c since. only_now d c keeps since) left;
        blocks = λ keeps. files_in_blocks store d ready keeps (rest_blocks store ready keeps (λ image left. only_now d image keeps left));
        homes = λ keeps. now_too d d (KeepsHomesIn (kept_of store) (g.sector_count d) (g.content d)) keeps (rest_moment keeps);
        homes_moment = rest_moment;
        homes_blocks = λ keeps. rest_blocks store ready keeps (λ image left. only_now d image keeps left);
        most_moment = λ keeps. most_committed g store d only_now ready keeps (stays g (IsCommittedIn (kept_of store)) d);
        always = refl;
        files = refl;
        size = refl;
        kept = λ keeps. keeps;
        single = λ one. one;
        asks = asks_none g (IsUsedIn (kept_of store)) d d (λ k. refl);
        asks_tidied = asks_none g (IsTidiedIn (kept_of store)) d d (λ k. refl);
        once = none_asked (kept_of store) d;
        touches = λ keeps. stays g (IsCommittedIn (kept_of store)) d;
        cause = record { later = omega arith; failed = λ err. cc; calm = refl };
      }

      -- as where room is enough.
      pub left_alone : (count : ℕ) → count ≤ free_of store → MakesRoomFor g count store store (Ok (tt {0}))
      left_alone count enough = record { frees = none_freed; room = enough; idle = λ free. refl }

  -- Where it is short the store is tidied.
  pub made : (count : ℕ) (old new : Store D) (result : Result (Unit {0}) DiskFault) → count ≤ capacity_in (kept_of old) → free_of old < count → TidiesStore g old new result
      → MakesRoomFor g count old new result
  made count old new result most short e = record {
    frees = e.frees;
    room = on_ok_weaker result (λ tidy. (let same = same_capacity (kept_of new) (kept_of old) e.frees.files e.frees.always in omega (arith, tidy, same, most))) e.tidy;
    idle = λ enough. absurd (omega (arith, enough, short));
  }
