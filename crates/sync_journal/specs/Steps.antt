-- What the steps of a commit and of a recovery come to on a device.
use Rattle.std.specs.Prelude.{ℕ, List, [], length, ◌+◌, ◌<◌, ◌≤◌, ◌≡◌, Result, OnOk, IsErr, IsErrOf}
use Rattle.disk_model.specs.Sectors.{joined}
use Rattle.disk_model.specs.Stop.{HasCause, Names, NamesOnce}
use Rattle.disk_model.specs.Moments.{Nothing}
use Rattle.disk_model.specs.declared.sector_disk.DiskFault.{DiskFault}
use Rattle.disk_model.specs.declared.sector_disk.SectorDisk.{Ghosts}
use Rattle.sync_journal.specs.declared.faults.CommitFault.{CommitFault}
use Rattle.sync_journal.specs.declared.faults.RecoverFault.{RecoverFault}
use Rattle.sync_journal.specs.declared.faults.RecoverFault.TheVariants.{Device, BadJournal}
use Rattle.sync_journal.specs.declared.source.PageSource as Source
use Rattle.sync_journal.specs.Layout.{page_limit, first_home_sector, IsPageSector, IsJournalSector, IsStaged}
use Rattle.sync_journal.specs.Map.{map_bytes, home_rank}
use Rattle.sync_journal.specs.Standing.{place_or_home, map_of, standing_single, HoldsPages}
use Rattle.sync_journal.specs.Commit.{IsAtRest, one_journal}
use Rattle.sync_journal.specs.Runs.{RunsOnDevice}
use Rattle.sync_journal.specs.Source.{Asks, HasCauses}
use Rattle.sync_journal.specs.Layouts.{IsSettled, KeepsHomes}

module _ {D : Type 0} (g : Ghosts D) where
  -- A device is read:
  pub record ReadsOnly {T E : Type 0} (old new : D) (result : Result T E) : Type 0 where
    -- nothing is written,
    pub run : RunsOnDevice g Nothing old new
    pub open run use *
    -- and a fault comes only where the device failed.
    pub cause : HasCause (g.failures old) (g.failures new) result

  -- A page is read:
  pub record ReadsSectors (first : ℕ) (old new : D) (to : List ℕ) (result : Result (Unit {0}) DiskFault) : Type 0 where
    -- it is what the eight sectors from the first on hold,
    pub read : g.keeps_model new → OnOk result (to ≡ joined (λ i. g.content old (first + i)) 8)
    -- and the device is read alone, each of them once.
    pub reads : ReadsOnly old new result
    pub open reads use *
    pub asks : Names (IsPageSector first) (g.asked old) (g.asked new)

  -- A page is read:
  pub record SeesPage (bytes : List ℕ) (first : ℕ) (Rest : Type 0) (old new : D) (to : List ℕ) (result : Result (Unit {0}) DiskFault) : Type 0 where
    -- it is that page,
    pub page : g.keeps_model new → OnOk result (to ≡ bytes)
    -- the journal stands as it did,
    pub rest : g.keeps_model new → Rest
    -- and the device is read alone, each sector in which that page stands once.
    pub reads : ReadsOnly old new result
    pub open reads use *
    pub asks : Names (IsPageSector first) (g.asked old) (g.asked new)

  -- The page that stands for a home, under a journal with these live homes:
  abbrev pub SeesHome : List ℕ → ℕ → D → D → List ℕ → Result (Unit {0}) DiskFault → Type 0
  SeesHome live home old new to result = SeesPage (joined (standing_single (g.content old) home) 8) (place_or_home home (home_rank live home)) (IsAtRest g live new) old new to result

  -- Sectors are written:
  pub record WritesInto {T E : Type 0} (Written Asked : ℕ → Type 0) (After : Type 0) (old new : D) (result : Result T E) : Type 0 where
    -- what was to be done is done,
    pub done : g.keeps_model new → OnOk result After
    -- no other sector is written,
    pub run : RunsOnDevice g Written old new
    pub open run use *
    -- and none is asked for twice, nor any but those that it takes;
    pub once : NamesOnce Asked (g.asked old) (g.asked new)
    -- or the device failed.
    pub failed : IsErr result → g.failures old < g.failures new
    pub calm : OnOk result (g.failures new ≡ g.failures old)

  -- Sectors are written and synced:
  pub record SyncsInto {T E : Type 0} (Written Asked : ℕ → Type 0) (After : Type 0) (old new : D) (result : Result T E) : Type 0 where
    pub writes : WritesInto Written Asked After old new result
    pub open writes use *
    -- nothing is unsynced then.
    pub synced : g.keeps_model new → OnOk result ((k : ℕ) → g.unsynced new k → ⊥)

  -- What stands in the journal alone is copied home:
  pub record MovesHome {T E : Type 0} (Written Asked : ℕ → Type 0) (old new : D) (result : Result T E) : Type 0 where
    -- the device is at rest with no live page and homes in which all of it stands, or the device failed;
    pub writes : WritesInto Written Asked (IsSettled one_journal g (g.sector_count old) (g.content old) [] new (standing_single (g.content old))) old new result
    pub open writes use *
    -- and every image of a stop at any moment of the call stands for the same pages.
    pub any_moment : g.keeps_model new → KeepsHomes one_journal g old new

  -- A fault of a recovery has its cause:
  pub record BlamesJournal {T : Type 0} (old new : D) (result : Result T RecoverFault) : Type 0 where
    -- `Device` comes only where the device failed,
    pub device : IsErrOf result Device → g.failures old < g.failures new
    -- and it didn't fail with `BadJournal` or with no fault.
    pub calm : OnOk result (g.failures new ≡ g.failures old)
    pub still : IsErrOf result BadJournal → g.failures new ≡ g.failures old

  -- The device has a store's sectors, and none of it is unsynced.
  pub record IsSyncedStore (disk : D) : Type 0 where
    pub room : first_home_sector ≤ g.sector_count disk
    pub synced : g.keeps_model disk → (k : ℕ) → g.unsynced disk k → ⊥

  -- A journal is looked at:
  pub record LooksOnly {T : Type 0} (old new : D) (result : Result T RecoverFault) : Type 0 where
    -- nothing is written,
    pub run : RunsOnDevice g Nothing old new
    pub open run use *
    -- and a fault has its cause.
    pub blames : BlamesJournal old new result
    pub open blames use *

module _ {D S : Type 0} (g : Ghosts D) (s : Source.Ghosts S) where
  -- Pages are asked of a source, to be written:
  pub record TakesPages (Written : ℕ → Type 0) (old new : D) (from left : S) (result : Result (Unit {0}) CommitFault) : Type 0 where
    -- no other sector is written,
    pub run : RunsOnDevice g Written old new
    pub open run use *
    -- of the source nothing but pages is asked,
    pub asks : Asks s from left
    -- and each fault has its cause.
    pub causes : HasCauses (g.failures old) (g.failures new) (s.failures from) (s.failures left) result

  -- The journal may be filled: the device has it, it has room for so many pages, and a source gives these.
  pub record MayFill (count : ℕ) (disk : D) (source : S) : Type 0 where
    pub room : first_home_sector ≤ g.sector_count disk
    pub few : count ≤ page_limit
    pub gives : (i : ℕ) → i < count → s.gives source i

  -- The pages that a source gives are written to a journal's body:
  pub record FillsBody (Written Asked : ℕ → Type 0) (After : Type 0) (old new : D) (from left : S) (result : Result (Unit {0}) CommitFault) : Type 0 where
    -- it holds them,
    pub body : g.keeps_model new → s.keeps_model left → OnOk result After
    -- no sector is asked for twice, nor any but those that they take,
    pub once : NamesOnce Asked (g.asked old) (g.asked new)
    -- and nothing else is done.
    pub takes : TakesPages Written old new from left result
    pub open takes use *

  -- The pages that a source gives are written to the journal, with the homes that they are of:
  pub record FillsJournal (homes : List ℕ) (old new : D) (from left : S) (result : Result (Unit {0}) CommitFault) : Type 0 where
    pub fills : FillsBody IsJournalSector (IsStaged (length homes)) (HoldsPages (length homes) (s.pages from) (g.content new)) old new from left result
    pub open fills use *
    -- its map names these.
    pub map : g.keeps_model new → OnOk result (map_of (g.content new) ≡ map_bytes homes)

  -- and all of that is synced:
  pub record SyncsJournal (homes : List ℕ) (old new : D) (from left : S) (result : Result (Unit {0}) CommitFault) : Type 0 where
    pub fills : FillsJournal homes old new from left result
    pub open fills use *
    -- nothing is unsynced then.
    pub synced : g.keeps_model new → OnOk result ((k : ℕ) → g.unsynced new k → ⊥)
