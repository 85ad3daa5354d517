-- What is read of a store that is opened.
use Rattle.std.specs.Prelude.{ℕ, ◌+◌, ◌*◌, ◌<◌, ◌≡◌, List, length, Option, Vec, Result, OnOk, OnErr, IfOk, IsErrOf}
use Rattle.std.specs.Global.{Global}
use Rattle.disk_model.specs.{Moments.{Nothing}, Stop.{Image, NamesOnce}}
use Rattle.disk_model.specs.declared.sector_disk.SectorDisk.{Ghosts}
use Rattle.sync_journal.specs.{Layout.{IsPageSector}, Runs.{RunsOnDevice}}
use Rattle.directories.specs.{Entries.{SaysEntry, entry_bytes}, Layouts.{entry_in}}
use Rattle.directories.specs.declared.entry.Entry.{Entry}
use Rattle.pool_journal.specs.Pools.{pool, pool_standing}
use Rattle.pool_journal.specs.Recovering.{state_of}
use Rattle.pool_journal.specs.declared.pool.PoolJournal.{PoolJournal}
use Rattle.pool_store.specs.Pools.{AreSaid, IsDirectory}
use Rattle.pool_store.specs.Store.{IsDirectoryOn}
use Rattle.pool_store.specs.declared.directory.Directory.{Directory}
use Rattle.pool_store.specs.declared.faults.OpenFault.{OpenFault}
use Rattle.pool_store.specs.declared.faults.OpenFault.TheVariants.{Device, BadLayout}

-- a sector of those in which the first d homes stand under a journal
abbrev pub IsDirectorySector : PoolJournal → ℕ → ℕ → Type 0
IsDirectorySector journal d k = (h : ℕ) × (h < d) × IsPageSector ((pool journal.sizes.blocks journal.sizes.homes).stands_at (state_of journal) h) k

-- The first n entries of a page are appended to others:
pub record AppendsPage (page : List ℕ) (n : ℕ) (old new : List (Option Entry)) : Type 0 where
  -- behind those that were there,
  pub size : length new ≡ length old + n
  pub before : (f : ℕ) → f < length old → entry_in new f ≡ entry_in old f
  -- as the page says.
  pub said : (i : ℕ) → i < n → SaysEntry (entry_bytes page i) (entry_in new (length old + i))

-- a page of the directory has 16 entries, of which one is none
abbrev pub HasNoEntry : List ℕ → Type 0
HasNoEntry page = (i : ℕ) × (i < 16) × ((e : Option Entry) → SaysEntry (entry_bytes page i) e → ⊥)

-- what stands for the homes under a journal, in this image
abbrev pub standing_under : PoolJournal → Image → ℕ → ℕ → List ℕ
standing_under journal image = pool_standing journal.sizes.blocks journal.sizes.homes image

module _ {D : Type 0} (g : Ghosts D) where
  module _ {T : Type 0} where
    -- A device is looked at:
    pub record LooksAt (old new : D) (result : Result T OpenFault) : Type 0 where
      -- nothing is written to it,
      pub run : RunsOnDevice g Nothing old new
      -- it did not fail where anything is told,
      pub calm : OnOk result (g.failures new ≡ g.failures old)
      -- `Device` comes only where it failed,
      pub device : IsErrOf result Device → g.failures old < g.failures new
      -- and any other fault only where it did not.
      pub still : OnErr result ((IsErrOf result Device → ⊥) → g.failures new ≡ g.failures old)

    -- A layout is looked for on a device:
    pub record LooksFor (Bad : Type 0) (old new : D) (result : Result T OpenFault) : Type 0 where
      -- it is only looked at,
      pub looks : LooksAt old new result
      pub open looks use *
      -- and `BadLayout` comes only where the layout is bad.
      pub bad : g.keeps_model new → IsErrOf result BadLayout → Bad

  -- The entries of a directory of d pages are read, as they stand under a journal:
  pub record ReadsEntries (journal : PoolJournal) (d : ℕ) (old new : D) (result : Result (Vec (Option Entry) Global) OpenFault) : Type 0 where
    -- all that these have room for,
    pub size : IfOk result (λ entries. length entries.items ≡ 16 * d)
    -- as what stands for the first homes says, and it is bad only where it says none;
    pub said : g.keeps_model new → IfOk result (λ entries. AreSaid d (standing_under journal (g.content old)) entries.items)
    pub looks : LooksFor ((entries : List (Option Entry)) → AreSaid d (standing_under journal (g.content old)) entries → ⊥) old new result
    pub open looks use *
    -- and no sector is asked for but those in which these homes stand, each of them once at most.
    pub once : NamesOnce (IsDirectorySector journal d) (g.asked old) (g.asked new)

  -- The directory of d pages is read, as it stands under a journal:
  pub record ReadsDirectory (journal : PoolJournal) (d : ℕ) (old new : D) (result : Result Directory OpenFault) : Type 0 where
    -- a store with so many homes may have it, and it has so many pages,
    pub directory : IfOk result (IsDirectoryOn journal.sizes.homes)
    pub pages : IfOk result (λ directory. directory.pages ≡ d)
    -- it is what stands for the first homes, and bad only where no entries are that;
    pub said : g.keeps_model new → IfOk result (λ directory. AreSaid d (standing_under journal (g.content old)) directory.entries.items)
    pub looks : LooksFor ((entries : List (Option Entry)) → IsDirectory d journal.sizes.homes (standing_under journal (g.content old)) entries → ⊥)
        old new result
    pub open looks use *
    -- and no sector is asked for but those in which these stand, each of them once at most.
    pub once : NamesOnce (IsDirectorySector journal d) (g.asked old) (g.asked new)
