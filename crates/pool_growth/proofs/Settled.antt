-- A store after a source's fault.
use Rattle.std.proofs.Common.{◌≡◌, List, Result, Ok, Err, IsErr, IsErrOf, refl}
use Rattle.disk_model.specs.declared.sector_disk.SectorDisk.{Ghosts}
use Rattle.growth.specs.declared.changes.Change.{Change}
use Rattle.pool_growth.proofs.New.{front_not_new}
use Rattle.pool_growth.specs.{Asked.{AreFileChanges}, Putting.{IsNewHome, LeavesOtherHomes}, Settling.{once_synced, IsReadyOnceSynced}}
use Rattle.pool_journal.specs.{Maps.{entries_of}, Pools.{IsPoolRest}}
use Rattle.pool_store.{proofs.Ready.{ready_with}, specs.Store.{IsReadyPool}, specs.declared.store.PoolStore.{PoolStore}}
use Rattle.sync_journal.specs.declared.faults.CommitFault.{CommitFault, TheVariants.{Source}}

-- a source's fault is an error
pub is_error_of : (result : Result (Unit {0}) CommitFault) → IsErrOf result Source → IsErr result
is_error_of (Ok done) told = cc
is_error_of (Err fault) told = refl

-- what is ready is ready once it is synced
pub ready_once_synced : {D : Type 0} (g : Ghosts D) (store : PoolStore D) → IsReadyPool g store → IsReadyOnceSynced g store
ready_once_synced g store ready = record {
  is = record {
    is_journal = ready.is_journal;
    pool = record { sized = ready.pool.sized; room = ready.pool.room; homes = ready.pool.homes };
    is_directory = ready.is_directory;
    at_rest = λ keeps. (let was = ready.at_rest keeps in record {
      rest = record { gate = was.rest.gate; map = was.rest.map; synced = λ k u. absurd u };
      mark = was.mark;
      kind = was.kind;
      said = was.said;
    });
  };
  room = ready.room;
}

-- Over a device of which homes of new pages alone stand otherwise:
module _ {D : Type 0} (g : Ghosts D) (store : PoolStore D) (ready : IsReadyPool g store) (changes : List Change) (are : AreFileChanges store.journal.sizes.homes store.directory changes) (mid : D)
    (size : g.sector_count mid ≡ g.sector_count store.disk) (kept : g.keeps_model mid → g.keeps_model store.disk)
    (others : g.keeps_model mid → LeavesOtherHomes store.journal.sizes.blocks store.journal.sizes.homes (IsNewHome store.directory changes) (g.content store.disk) (g.content mid)) where
  -- where gate and map are the same, the store is ready once it is synced
  pub settles : (g.keeps_model mid → IsPoolRest (once_synced g) store.journal.sizes.blocks store.journal.sizes.homes store.journal.second (entries_of store.journal.map) mid)
      → IsReadyOnceSynced g (record { disk = mid; journal = store.journal; directory = store.directory; room = store.room })
  settles rest = ready_with (once_synced g) store mid store.journal store.room (ready_once_synced g store ready) ready.is_journal refl size kept ready.room rest (λ keeps. (others keeps).outside)
      (λ keeps h below i small. (others keeps).stands h i (front_not_new store.journal.sizes.homes store.directory ready.is_directory changes are h below) small)
