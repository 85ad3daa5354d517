-- Pages of files, changed all at once: failure-atomic msync (Park, Kelly and Shen, EuroSys 2013).
use Rattle.std.specs.Prelude.{ℕ, ◌<◌, ◌≤◌, ◌≡◌, ◌⊎◌, List, length, slice_get, Option, Some, None, Result, OnOk, IsErrOf}
use Rattle.sync_journal.specs.Layout.{page_limit, IsCommitted}
use Rattle.disk_model.specs.Stop.{Image}
use Rattle.disk_model.specs.Moments.{Touches, AsksOnly, LeavesOnly, LeavesNow}
use Rattle.disk_model.specs.declared.sector_disk.SectorDisk.{Ghosts}
use Rattle.sync_journal.specs.declared.faults.CommitFault.{CommitFault}
use Rattle.sync_journal.specs.declared.faults.CommitFault.TheVariants.{Source}
use Rattle.sync_journal.specs.declared.source.PageSource.{Ghosts as SourceGhosts}
use Rattle.sync_journal.specs.Commit.{one_journal}
use Rattle.sync_journal.specs.Journal.{live_homes}
use Rattle.sync_journal.specs.Source.{HasCauses, Asks}
use Rattle.sync_journal.specs.Layouts.{HomesStandAs}
use Rattle.vm_types.specs.declared.file.FileInfo.{FileInfo}
use Rattle.vm_types.specs.declared.file.FilePage.{FilePage}
use Rattle.file_store.specs.declared.store.FileStore.{FileStore}
use Rattle.file_store.specs.Layout.{bytes_inside, padded_page}
use Rattle.file_store.specs.Standing.{IsPageOf, StandsFor}
use Rattle.file_store.specs.Store.{homes_of_pages, IsReadyStore, PutsHomes, PutsHomesOrNone}

-- page k of a file, with zeros past the file's end
abbrev pub cut_page : Option FileInfo → ℕ → List ℕ → List ℕ
cut_page None k page = page
cut_page (Some info) k page = padded_page (bytes_inside info.length k) page

-- 1 to 1,023 pages inside their files, none twice
pub record ArePages (files : ℕ → Option FileInfo) (list : List FilePage) : Type 0 where
  pub some : 0 < length list
  pub few : length list ≤ page_limit
  pub inside : (i : ℕ) (p : FilePage) → slice_get list i ≡ Some p → IsPageOf files p.file p.page
  pub distinct : (i j : ℕ) (p : FilePage) → i < j → slice_get list i ≡ Some p → slice_get list j ≡ Some p → ⊥

-- What these pages make of the files' bytes: each page of the list is as given, with zeros past its file's end, and
-- each other one is as it was.
pub record Changes (files : ℕ → Option FileInfo) (list : List FilePage) (given : ℕ → List ℕ) (before after : ℕ → ℕ → List ℕ) : Type 0 where
  pub listed : (i : ℕ) (p : FilePage) → slice_get list i ≡ Some p → after p.file p.page ≡ cut_page (files p.file) p.page (given i)
  pub others : (f k : ℕ) → ((i : ℕ) (p : FilePage) → slice_get list i ≡ Some p → p.file ≡ f → p.page ≡ k → ⊥) → after f k ≡ before f k

-- the files with the pages of before, or with those of after
abbrev pub StandsForEither : ℕ → (ℕ → Option FileInfo) → (ℕ → ℕ → List ℕ) → (ℕ → ℕ → List ℕ) → Image → Type 0
StandsForEither sectors files before after image = StandsFor sectors files before image ⊎ StandsFor sectors files after image

module _ {D S : Type 0} (g : Ghosts D) (s : SourceGhosts S) where
  -- These pages become durable all at once, as the source gives them:
  pub record CommitsPages (old new : FileStore D) (list : List FilePage) (given given' : S) (result : Result (Unit {0}) CommitFault) : Type 0 where
    -- after Ok every image of a stop from now on stands for the files after, nothing is unsynced, and the store is ready;
    pub ok : g.keeps_model new.disk → s.keeps_model given'
        → (files : ℕ → Option FileInfo) (before after : ℕ → ℕ → List ℕ) → LeavesNow g old.disk (StandsFor (g.sector_count old.disk) files before)
        → Changes files list (s.pages given) before after
        → OnOk result (LeavesNow g new.disk (StandsFor (g.sector_count old.disk) files after))
    pub synced : g.keeps_model new.disk → OnOk result ((k : ℕ) → g.unsynced new.disk k → ⊥)
    pub ready : OnOk result (IsReadyStore g new)
    -- every image of a stop at any moment of the call stands for the files before or after.
    pub any_moment : g.keeps_model new.disk → s.keeps_model given'
        → (files : ℕ → Option FileInfo) (before after : ℕ → ℕ → List ℕ) → LeavesNow g old.disk (StandsFor (g.sector_count old.disk) files before)
        → Changes files list (s.pages given) before after
        → LeavesOnly g old.disk new.disk (StandsForEither (g.sector_count old.disk) files before after)
    -- What stands for the homes, then and meanwhile: the pages, with zeros past their files' ends, and for every other home what stood for it.
    pub homes : g.keeps_model new.disk → s.keeps_model given'
        → OnOk result (LeavesNow g new.disk (PutsHomes (g.sector_count old.disk) old.directory list (s.pages given) (g.content old.disk)))
    pub homes_moment : g.keeps_model new.disk → s.keeps_model given'
        → LeavesOnly g old.disk new.disk (PutsHomesOrNone (g.sector_count old.disk) old.directory list (s.pages given) (g.content old.disk))
    -- After a source's fault they stand for the files before, as at every moment of the call, and the store is ready.
    pub source_homes : g.keeps_model new.disk → IsErrOf result Source → LeavesNow g new.disk (HomesStandAs one_journal (g.sector_count old.disk) (g.content old.disk))
    pub source : g.keeps_model new.disk → IsErrOf result Source
        → (files : ℕ → Option FileInfo) (before : ℕ → ℕ → List ℕ) → LeavesNow g old.disk (StandsFor (g.sector_count old.disk) files before)
        → LeavesOnly g old.disk new.disk (StandsFor (g.sector_count old.disk) files before)
    pub source_now : g.keeps_model new.disk → IsErrOf result Source
        → (files : ℕ → Option FileInfo) (before : ℕ → ℕ → List ℕ) → LeavesNow g old.disk (StandsFor (g.sector_count old.disk) files before)
        → LeavesNow g new.disk (StandsFor (g.sector_count old.disk) files before)
    pub ready_after_source : IsErrOf result Source → IsReadyStore g new
    -- Directory and size are kept.
    pub files : new.directory ≡ old.directory
    pub size : g.sector_count new.disk ≡ g.sector_count old.disk
    pub kept : g.keeps_model new.disk → g.keeps_model old.disk
    -- The device is asked for the gate, the journals, and the homes of the commit before alone, and for no sector more often than it takes; no other
    -- is written.
    pub asks : Asks s given given'
    pub asks_device : AsksOnly g (IsCommitted (live_homes old.journal)) old.disk new.disk
    pub once : one_journal.AsksOnce g (live_homes old.journal) (homes_of_pages old.directory list) old.disk new.disk
    pub touches : g.keeps_model new.disk → Touches g (IsCommitted (live_homes old.journal)) old.disk new.disk
    -- A fault is told exactly where the one that it names failed.
    pub causes : HasCauses (g.failures old.disk) (g.failures new.disk) (s.failures given) (s.failures given') result
