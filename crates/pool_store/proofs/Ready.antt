-- A store that a commit has left.
use Rattle.std.proofs.Common.{◌≡◌, ℕ, ◌<◌, ◌≤◌, ◌⊎◌, ⊎_elim, Bool, inl, inr, not, List, None, Result, Ok, Err, OnOk, sym, ap, subst, ◌∙◌, arith}
use Rattle.disk_model.specs.{Stop.{Image}, declared.sector_disk.{DiskFault.{DiskFault}, SectorDisk.{Ghosts}}}
use Rattle.sync_journal.{proofs.Shared.{blocks_weaker}, specs.Map.{home_rank}}
use Rattle.pool_journal.specs.{Committing.{PoolCommitsInBlocks}, Gates.{IsPoolGate}, Journal.{IsPoolJournal}, Maps.{entries_of}, Pools.{pool_gate, pool_home, pool_home_count, pool_standing, IsLoose, IsPoolRest}, Sizes.{HasPool}, Tidying.{TidiesPool}}
use Rattle.pool_journal.specs.declared.{pool.PoolJournal.{PoolJournal}, sizes.PoolSizes.{PoolSizes}}
use Rattle.directories.specs.Kinds.{IsKind}
use Rattle.pool_store.proofs.Standing.{AreAlike, said_same}
use Rattle.pool_store.specs.{Pools.{AreSaid}, Store.{IsDirectoryOn, HasCommitRoom, IsReadyPool}}
use Rattle.pool_store.specs.declared.{room.CommitRoom.{CommitRoom}, store.PoolStore.{PoolStore}}

-- where a stop may spoil whole blocks
pub in_blocks_weaker : {D : Type 0} (g : Ghosts D) (m : ℕ) (second : Bool) (was : Bool → ℕ → ℕ) (P Q : Image → Type 0) (old new : D) → ((image : Image) → P image → Q image)
    → PoolCommitsInBlocks g m second was P old new → PoolCommitsInBlocks g m second was Q old new
in_blocks_weaker g m second was P Q old new more = ⊎_elim
    (λ staged. inl (blocks_weaker g (IsLoose m second was) P Q old new more staged))
    (λ named. inr (named.0, blocks_weaker g (IsLoose m second was) P Q old named.0 more named.1, blocks_weaker g IsPoolGate P Q named.0 new more named.2))

-- The store is ready:
module _ {D : Type 0} (g : Ghosts D) (store : PoolStore D) (disk : D) (journal : PoolJournal) (room : CommitRoom) where
  abbrev m : ℕ
  m = store.journal.sizes.blocks

  abbrev n : ℕ
  n = store.journal.sizes.homes

  abbrev d : ℕ
  d = store.directory.pages

  abbrev IsOutside : ℕ → Type 0
  IsOutside k = (k < pool_gate) ⊎ (pool_home m n ≤ k)

  -- its directory stands as it did, and so do mark and kind
  pub ready_with : IsReadyPool g store → IsPoolJournal journal → journal.sizes ≡ store.journal.sizes → g.sector_count disk ≡ g.sector_count store.disk
      → (g.keeps_model disk → g.keeps_model store.disk) → HasCommitRoom m room → (g.keeps_model disk → IsPoolRest g m n journal.second (entries_of journal.map) disk)
      → (g.keeps_model disk → (k : ℕ) → IsOutside k → g.content disk k ≡ g.content store.disk k)
      → (g.keeps_model disk → (h : ℕ) → h < d → AreAlike (pool_standing m n (g.content store.disk)) (pool_standing m n (g.content disk)) h)
      → IsReadyPool g (record { disk = disk; journal = journal; directory = store.directory; room = room })
  ready_with ready is same size kept has rest outside alike = record {
    is = record {
      is_journal = is;
      pool = subst (λ (sizes : PoolSizes). HasPool g sizes disk) (sym same) (record {
        sized = ready.pool.sized;
        room = subst (λ count. pool_home m 0 ≤ count) (sym size) ready.pool.room;
        homes = ready.pool.homes ∙ ap (pool_home_count m) (sym size);
      });
      is_directory = subst (λ (sizes : PoolSizes). IsDirectoryOn sizes.homes store.directory) (sym same) ready.is_directory;
      at_rest = λ keeps. (let was = ready.at_rest (kept keeps) in record {
        rest = subst (λ (sizes : PoolSizes). IsPoolRest g sizes.blocks sizes.homes journal.second (entries_of journal.map) disk) (sym same) (rest keeps);
        mark = outside keeps 0 (inl (omega arith)) ∙ was.mark;
        kind = subst (λ (sizes : PoolSizes). IsKind sizes.blocks d (g.content disk 1)) (sym same)
            (subst (λ (sector : List ℕ). IsKind m d sector) (sym (outside keeps 1 (inl (omega arith)))) was.kind);
        said = subst (λ (sizes : PoolSizes). AreSaid d (pool_standing sizes.blocks sizes.homes (g.content disk)) store.directory.entries.items) (sym same)
            (said_same d (pool_standing m n (g.content store.disk)) (pool_standing m n (g.content disk)) (alike keeps) store.directory.entries.items was.said);
      });
    };
    room = subst (λ (sizes : PoolSizes). HasCommitRoom sizes.blocks room) (sym same) has;
  }

  -- after a commit, in which the directory is not
  pub ready_again : {T E : Type 0} (result : Result T E) (homes : List ℕ) → IsReadyPool g store → IsPoolJournal journal → journal.sizes ≡ store.journal.sizes → g.sector_count disk ≡ g.sector_count store.disk
      → (g.keeps_model disk → g.keeps_model store.disk) → HasCommitRoom m room → OnOk result (journal.second ≡ not store.journal.second)
      → (g.keeps_model disk → OnOk result (IsPoolRest g m n (not store.journal.second) (entries_of journal.map) disk))
      → (g.keeps_model disk → OnOk result ((k : ℕ) → IsOutside k → g.content disk k ≡ g.content store.disk k)) → ((h : ℕ) → h < d → home_rank homes h ≡ None)
      → (g.keeps_model disk → OnOk result ((h i : ℕ) → home_rank homes h ≡ None → i < 8 → pool_standing m n (g.content disk) h i ≡ pool_standing m n (g.content store.disk) h i))
      → OnOk result (IsReadyPool g (record { disk = disk; journal = journal; directory = store.directory; room = room }))
  ready_again (Err e) homes ready is same size kept has second rest outside none others = tt
  ready_again (Ok x) homes ready is same size kept has second rest outside none others = ready_with ready is same size kept has
      (λ keeps. subst (λ b. IsPoolRest g m n b (entries_of journal.map) disk) (sym second) (rest keeps)) outside
      (λ keeps h below i small. others keeps h i (none h below) small)

-- and after all its pages were brought home
pub ready_tidied : {D : Type 0} (g : Ghosts D) (store : PoolStore D) (disk : D) (journal : PoolJournal) (result : Result (Unit {0}) DiskFault) → IsReadyPool g store → TidiesPool g store.journal journal store.disk disk result
    → OnOk result (IsReadyPool g (record { disk = disk; journal = journal; directory = store.directory; room = store.room }))
ready_tidied g store disk journal (Err fault) ready tidies = tt
ready_tidied g store disk journal (Ok done) ready tidies = ready_with g store disk journal store.room ready tidies.is tidies.sizes tidies.size tidies.kept ready.room
    (λ keeps. (tidies.settled keeps).rest) (λ keeps. (tidies.settled keeps).outside) (λ keeps h below i small. (tidies.settled keeps).stands.each h i small)
