-- Files of a store with a pool change, with pages of theirs, all at once.
use Rattle.std.specs.Prelude.{ℕ, ◌*◌, ◌≤◌, ◌≡◌, ◌⊎◌, List, Option, Result, OnOk, IsErr, IsErrOf}
use Rattle.vm_types.specs.declared.{file.FileInfo.{FileInfo}, file.FilePage.{FilePage}}
use Rattle.disk_model.specs.{Moments.{Touches, AsksOnly, LeavesOnly, LeavesNow}, Stop.{Image}}
use Rattle.disk_model.specs.declared.sector_disk.SectorDisk.{Ghosts}
use Rattle.growth.specs.declared.changes.Change.{Change}
use Rattle.pool_growth.specs.{Asked.{entries_then}, Files.{files_after, ChangesFiles}, Late.{given_homes, put_count, slot_count}, Putting.{IsBroughtSector, IsNewSector}, Settling.{IsReadyOnceSynced}}
use Rattle.pool_journal.specs.{Committing.{IsPoolStaged, PoolCommitsInBlocks}, Gates.{IsPoolGate}, Journal.{free_count}, Maps.{entries_of}, Pools.{IsLoose}}
use Rattle.pool_store.specs.{Files.{StoreLayout, StandsFor}, Store.{layout_of, IsReadyPool}}
use Rattle.pool_store.specs.declared.store.PoolStore.{PoolStore}
use Rattle.sync_journal.specs.{Blocks.{LeavesInBlocks}, Source.{HasCauses, Asks}}
use Rattle.sync_journal.specs.declared.faults.CommitFault.{CommitFault}
use Rattle.sync_journal.specs.declared.faults.CommitFault.TheVariants.{Source}
use Rattle.sync_journal.specs.declared.source.PageSource.{Ghosts as SourceGhosts}

-- the image stands for these files with these pages, or for those files with those
abbrev pub StandsForOneOf : {S : Type 0} → StoreLayout S → ℕ → (ℕ → Option FileInfo) → (ℕ → ℕ → List ℕ) → (ℕ → Option FileInfo) → (ℕ → ℕ → List ℕ) → Image → Type 0
StandsForOneOf layout sectors files before then after image = StandsFor layout sectors files before image ⊎ StandsFor layout sectors then after image

-- what changes of files write: where new pages stand, the gate, and what is loose
abbrev pub IsChangedSector : {D : Type 0} → PoolStore D → List Change → ℕ → Type 0
IsChangedSector store changes k = IsNewSector store.journal store.directory changes k
    ⊎ (IsPoolGate k ⊎ IsLoose store.journal.sizes.blocks store.journal.second (entries_of store.journal.map) k)

-- what they ask for, where the first `put` new pages are put where they are to stand: where these stand, and those that are zeros, the gate, and what a commit of the
-- pages that go into slots asks for before it
abbrev pub IsChangeAsked : {D : Type 0} → PoolStore D → List Change → List FilePage → List FilePage → ℕ → ℕ → Type 0
IsChangeAsked store changes fresh list put k = IsBroughtSector store.journal store.directory changes fresh put k
    ⊎ (IsPoolGate k ⊎ IsPoolStaged store.journal.sizes.blocks store.journal.second (entries_of store.journal.map) (given_homes store.directory changes fresh list put) k)

module _ {D : Type 0} (g : Ghosts D) where
  -- Changes of files up to the sync of their new pages, or beyond that: then a commit. After whatever part of that a stop may spoil whole blocks.
  abbrev pub ChangesInBlocks : PoolStore D → List Change → (Image → Type 0) → D → D → Type 0
  ChangesInBlocks store changes P old new = LeavesInBlocks g (IsNewSector store.journal store.directory changes) P old new
      ⊎ ((mid : D) × LeavesInBlocks g (IsNewSector store.journal store.directory changes) P old mid
      × PoolCommitsInBlocks g store.journal.sizes.blocks store.journal.second (entries_of store.journal.map) P mid new)

module _ {D S : Type 0} (g : Ghosts D) (s : SourceGhosts S) where
  -- Files change, and pages of theirs, all at once, as the source gives them. The first `put` of the new pages are put where they are to stand, and all others that are
  -- given go into slots:
  pub record CommitsPutting (put : ℕ) (old new : PoolStore D) (changes : List Change) (fresh list : List FilePage) (given given' : S) (result : Result (Unit {0}) CommitFault) : Type 0 where
    -- after Ok every image of a stop from now on stands for the files after, as long as the source keeps its model;
    pub ok : g.keeps_model new.disk → s.keeps_model given'
        → (files : ℕ → Option FileInfo) (before after : ℕ → ℕ → List ℕ) → LeavesNow g old.disk (StandsFor (layout_of old) (g.sector_count old.disk) files before)
        → ChangesFiles files changes fresh list (s.pages given) before after
        → OnOk result (LeavesNow g new.disk (StandsFor (layout_of old) (g.sector_count old.disk) (files_after files changes) after))
    -- whatever the source gives, nothing is unsynced then, the store is ready, and its directory is that after the changes,
    pub synced : g.keeps_model new.disk → OnOk result ((k : ℕ) → g.unsynced new.disk k → ⊥)
    pub ready : OnOk result (IsReadyPool g new)
    pub files : OnOk result (new.directory.entries.items ≡ entries_then old.directory changes)
    -- and as many slots are free as a body has, where what went into slots took no more.
    pub room : OnOk result (slot_count old.directory changes fresh list put ≤ 504 * old.journal.sizes.blocks
        → 504 * old.journal.sizes.blocks ≤ free_count old.journal.sizes.blocks (entries_of new.journal.map))
    -- Every image of a stop at any moment of the call stands for the files before or after, even one that spoils whole blocks of 4,096 bytes,
    pub any_moment : g.keeps_model new.disk → s.keeps_model given'
        → (files : ℕ → Option FileInfo) (before after : ℕ → ℕ → List ℕ) → LeavesNow g old.disk (StandsFor (layout_of old) (g.sector_count old.disk) files before)
        → ChangesFiles files changes fresh list (s.pages given) before after
        → LeavesOnly g old.disk new.disk (StandsForOneOf (layout_of old) (g.sector_count old.disk) files before (files_after files changes) after)
    pub blocks : g.keeps_model new.disk → s.keeps_model given'
        → (files : ℕ → Option FileInfo) (before after : ℕ → ℕ → List ℕ) → LeavesNow g old.disk (StandsFor (layout_of old) (g.sector_count old.disk) files before)
        → ChangesFiles files changes fresh list (s.pages given) before after
        → ChangesInBlocks g old changes (StandsForOneOf (layout_of old) (g.sector_count old.disk) files before (files_after files changes) after) old.disk new.disk
    -- and where the source failed, for those before, then and from now on. As many slots are free as were, and the store is ready once it is synced, or as it is where no
    -- new page was to be put where it is to stand. After any other error it is taken up anew.
    pub source : g.keeps_model new.disk → IsErrOf result Source
        → (files : ℕ → Option FileInfo) (before : ℕ → ℕ → List ℕ) → LeavesNow g old.disk (StandsFor (layout_of old) (g.sector_count old.disk) files before)
        → LeavesOnly g old.disk new.disk (StandsFor (layout_of old) (g.sector_count old.disk) files before)
    pub source_now : g.keeps_model new.disk → IsErrOf result Source
        → (files : ℕ → Option FileInfo) (before : ℕ → ℕ → List ℕ) → LeavesNow g old.disk (StandsFor (layout_of old) (g.sector_count old.disk) files before)
        → LeavesNow g new.disk (StandsFor (layout_of old) (g.sector_count old.disk) files before)
    pub room_after_source : IsErrOf result Source → free_count old.journal.sizes.blocks (entries_of new.journal.map) ≡ free_count old.journal.sizes.blocks (entries_of old.journal.map)
    pub settles_after_source : IsErrOf result Source → IsReadyOnceSynced g new
    pub ready_after_source : IsErrOf result Source → put ≡ 0 → IsReadyPool g new
    pub files_after_error : IsErr result → new.directory ≡ old.directory
    -- Sizes are kept.
    pub sizes : new.journal.sizes ≡ old.journal.sizes
    pub pages : new.directory.pages ≡ old.directory.pages
    pub size : g.sector_count new.disk ≡ g.sector_count old.disk
    pub kept : g.keeps_model new.disk → g.keeps_model old.disk
    -- No sector is asked for but those of new pages that take no slots, or are zeros, the gate, free slots, the other map and, where slots run out, pages of others with
    -- their homes;
    -- and none is written but those in which new pages stand, the gate and what is loose.
    pub asks : Asks s given given'
    pub asks_device : AsksOnly g (IsChangeAsked old changes fresh list put) old.disk new.disk
    pub touches : g.keeps_model new.disk → Touches g (IsChangedSector old changes) old.disk new.disk
    -- A fault is told exactly where the one that it names failed.
    pub causes : HasCauses (g.failures old.disk) (g.failures new.disk) (s.failures given) (s.failures given') result

  -- all new pages that are given go into slots where they are few, and slots are free for all pages of the commit; otherwise all are put where they are to stand
  abbrev pub CommitsChanges : PoolStore D → PoolStore D → List Change → List FilePage → List FilePage → S → S → Result (Unit {0}) CommitFault → Type 0
  CommitsChanges old new changes fresh list given given' result = CommitsPutting (put_count old changes fresh list) old new changes fresh list given given' result

  -- all go into slots, however many they are
  abbrev pub CommitsInSlots : PoolStore D → PoolStore D → List Change → List FilePage → List FilePage → S → S → Result (Unit {0}) CommitFault → Type 0
  CommitsInSlots old new changes fresh list given given' result = CommitsPutting 0 old new changes fresh list given given' result
