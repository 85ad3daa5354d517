-- A commit to the store, of pages, and of lengths of files where there are any.
use Rattle.std.specs.Prelude.{ℕ, ◌+◌, ◌<◌, ◌≡◌, true, List, length, slice_get, get_or, Some, Result, OnOk, IsErr, IsErrOf}
use Rattle.vm_types.specs.declared.file.{FileInfo.{FileInfo}, FilePage.{FilePage}}
use Rattle.disk_model.specs.Moments.{AsksOnly, LeavesOnly, LeavesNow}
use Rattle.disk_model.specs.declared.sector_disk.SectorDisk.{Ghosts}
use Rattle.stores.specs.{Images.{StandsFor, SaysMostOf}, Store.{always_free_in, HasRoom}}
use Rattle.sync_journal.specs.Source.{Asks}
use Rattle.sync_journal.specs.declared.source.PageSource.{Ghosts as SourceGhosts}
use Rattle.sized_stores.specs.Commit.{files_then, ArePagesNow, AreSettled, HasSizeCauses, LacksRoom, StandsForOneOf, TakesSizes}
use Rattle.sized_stores.specs.Store.{can_resize, directory_of, disk_of, durable_files_of, files_of, is_resized_in, kept_of, IsReadySized}
use Rattle.sized_stores.specs.declared.{faults.SizeFault.{SizeFault, TheVariants.{Source, NoRoom}}, store.SizedStore.{SizedStore}}
use Rattle.msync.specs.Asking.{IsAskedFor, are_some}

-- Pages, and lengths of files, may be committed:
pub record MayCommit {D : Type 0} (s : SizedStore D) (files : List ℕ) (list : List FilePage) : Type 0 where
  -- the next commit may take as many pages as every commit;
  pub room : HasRoom (kept_of s)
  -- there is one page or one file at least;
  pub some : 0 < length list + length files
  -- the files' numbers rise, each is there durably, and has got another length,
  pub rising : (i j : ℕ) → i < j → j < length files → get_or files i 0 < get_or files j 0
  pub there : (i f : ℕ) → slice_get files i ≡ Some f → (info : FileInfo) × (durable_files_of s f ≡ Some info)
  pub resized : (i f : ℕ) → slice_get files i ≡ Some f → is_resized_in s.sizes.items f ≡ true
  -- and the pages go with them.
  pub pages : ArePagesNow s files list

module _ {D S : Type 0} (g : Ghosts D) (s : SourceGhosts S) where
  -- Pages, and lengths of files, become durable all at once, as the source gives them:
  pub record CommitsTaken (old new : SizedStore D) (lengths : List ℕ) (list : List FilePage) (given given' : S) (result : Result (Unit {0}) SizeFault) : Type 0 where
    -- after Ok every image of a stop from now on stands for the files after,
    pub ok : g.keeps_model (disk_of new) → s.keeps_model given'
        → (before after : ℕ → ℕ → List ℕ) → LeavesNow g (disk_of old) (StandsFor (g.sector_count (disk_of old)) (durable_files_of old) before)
        → TakesSizes old lengths list (s.pages given) before after
        → OnOk result (LeavesNow g (disk_of new) (StandsFor (g.sector_count (disk_of old)) (files_then old lengths) after))
    -- these are durable, with the lengths that they had, and the store is ready, with as much room.
    pub durable : OnOk result ((f : ℕ) → durable_files_of new f ≡ files_then old lengths f)
    pub settled : OnOk result (AreSettled lengths old.sizes.items new.sizes.items)
    pub ready : OnOk result (IsReadySized g new)
    pub room : OnOk result (HasRoom (kept_of new))
    -- Every image of a stop at any moment of the call stands for the files before or after.
    pub any_moment : g.keeps_model (disk_of new) → s.keeps_model given'
        → (before after : ℕ → ℕ → List ℕ) → LeavesNow g (disk_of old) (StandsFor (g.sector_count (disk_of old)) (durable_files_of old) before)
        → TakesSizes old lengths list (s.pages given) before after
        → LeavesOnly g (disk_of old) (disk_of new) (StandsForOneOf (g.sector_count (disk_of old)) (durable_files_of old) before (files_then old lengths) after)
    -- After a source's fault, and at every moment up to it, it stands for the files before, and the store is ready, with as much room.
    pub source : g.keeps_model (disk_of new) → IsErrOf result Source
        → (before : ℕ → ℕ → List ℕ) → LeavesNow g (disk_of old) (StandsFor (g.sector_count (disk_of old)) (durable_files_of old) before)
        → LeavesOnly g (disk_of old) (disk_of new) (StandsFor (g.sector_count (disk_of old)) (durable_files_of old) before)
    pub source_now : g.keeps_model (disk_of new) → IsErrOf result Source
        → (before : ℕ → ℕ → List ℕ) → LeavesNow g (disk_of old) (StandsFor (g.sector_count (disk_of old)) (durable_files_of old) before)
        → LeavesNow g (disk_of new) (StandsFor (g.sector_count (disk_of old)) (durable_files_of old) before)
    pub ready_after_source : IsErrOf result Source → IsReadySized g new
    pub room_after_source : IsErrOf result Source → HasRoom (kept_of new)
    -- Room is lacking for lengths alone, and then nothing is done, and the store is ready.
    pub some : IsErrOf result NoRoom → are_some lengths ≡ true
    pub lacks : IsErrOf result NoRoom → LacksRoom old lengths list
    pub undone : IsErrOf result NoRoom → (new.store ≡ old.store) × (given' ≡ given)
    pub ready_still : IsErrOf result NoRoom → IsReadySized g new
    -- After an error files and lengths are what they were. Whatever comes of it, every file is as long as it was, and as many may get other lengths.
    pub after_error : IsErr result → directory_of new ≡ directory_of old
    pub files : (f : ℕ) → files_of new f ≡ files_of old f
    pub resizes : can_resize new ≡ can_resize old
    pub places : length new.sizes.items ≡ length old.sizes.items
    -- Every commit may take as many pages as before, as every image at any moment says; and the size is kept.
    pub most_moment : g.keeps_model (disk_of new) → LeavesOnly g (disk_of old) (disk_of new) (SaysMostOf (g.sector_count (disk_of old)) (g.content (disk_of old)))
    pub always : always_free_in (kept_of new) ≡ always_free_in (kept_of old)
    pub size : g.sector_count (disk_of new) ≡ g.sector_count (disk_of old)
    pub kept : g.keeps_model (disk_of new) → g.keeps_model (disk_of old)
    -- Pages are asked of the source, and of the device the sectors that such a commit may ask for,
    pub asks : Asks s given given'
    pub asks_device : AsksOnly g (IsAskedFor (kept_of old) (are_some lengths)) (disk_of old) (disk_of new)
    -- and a fault is told exactly where the one that it names failed.
    pub causes : HasSizeCauses (g.failures (disk_of old)) (g.failures (disk_of new)) (s.failures given) (s.failures given') result
