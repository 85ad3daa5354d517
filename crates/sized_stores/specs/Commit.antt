-- Lengths of files, and pages with them, committed all at once.
use Rattle.std.specs.Prelude.{ℕ, suc, ◌+◌, ◌*◌, ◌/◌, ◌%◌, ◌<◌, ◌≤◌, ◌≡◌, ◌⊎◌, ◌==◌, Bool, true, false, List, [], ◌∷◌, length, get_or, map, slice_get, Option, Some, Result, OnOk, IsErr, IsErrOf, if◌then◌else◌}
use Rattle.std.specs.Option.{option_map}
use Rattle.vm_types.specs.declared.file.{FileInfo.{FileInfo}, FilePage.{FilePage}}
use Rattle.disk_model.specs.{Moments.{AsksOnly, LeavesOnly, LeavesNow}, Stop.{Image}}
use Rattle.disk_model.specs.declared.sector_disk.SectorDisk.{Ghosts}
use Rattle.file_store.specs.{Commit.{cut_page}, Standing.{IsPageOf}}
use Rattle.pool_growth.specs.{Files.{StandsInList}, Sizes.{room_behind, LacksHomes}, declared.sizes.FileSize.{FileSize}}
use Rattle.pool_journal.specs.Pools.{pool_gate}
use Rattle.stores.specs.{Images.{StandsFor, SaysMostOf}, Store.{StoreKept, always_free_in, directory_in, free_in}}
use Rattle.stores.specs.Store as Durable
use Rattle.sync_journal.specs.Source.{Asks}
use Rattle.sync_journal.specs.declared.source.PageSource.{Ghosts as SourceGhosts}
use Rattle.sized_stores.specs.Listing.{no_size, AreDistinct, AreTooMany}
use Rattle.sized_stores.specs.Reading.{left_page}
use Rattle.sized_stores.specs.Store.{directory_of, disk_of, durable_files_of, files_of, is_resized_in, kept_of, length_of, shortest_in, IsReadySized}
use Rattle.sized_stores.specs.declared.{faults.SizeFault.{SizeFault}, sizes.Size.{Size}, store.SizedStore.{SizedStore}}
use Rattle.sized_stores.specs.declared.faults.SizeFault.TheVariants.{Device, Source, NoRoom}

-- a number is one of these
abbrev pub is_one_of : List ℕ → ℕ → Bool
is_one_of [] f = false
is_one_of (x ∷ xs) f = if x == f then true else is_one_of xs f

-- the length that a file has now, as it is asked of a store
abbrev pub size_asked : List Size → ℕ → FileSize
size_asked sizes f = record { file = f; is_there = 1; length = (get_or sizes f no_size).length }

module _ {D : Type 0} where
  -- the files after a commit of these lengths
  abbrev pub files_then : SizedStore D → List ℕ → ℕ → Option FileInfo
  files_then s files f = if is_one_of files f then files_of s f else durable_files_of s f

  -- Lengths of these files may be committed:
  pub record AreResized (s : SizedStore D) (files : List ℕ) : Type 0 where
    -- there is one at least, they rise,
    pub some : 1 ≤ length files
    pub rising : (i j : ℕ) → i < j → j < length files → get_or files i 0 < get_or files j 0
    -- and each is there, and has got another length.
    pub there : (i f : ℕ) → slice_get files i ≡ Some f → (info : FileInfo) × (durable_files_of s f ≡ Some info)
    pub resized : (i f : ℕ) → slice_get files i ≡ Some f → is_resized_in s.sizes.items f ≡ true

  -- Pages may be committed with them:
  pub record ArePagesNow (s : SizedStore D) (files : List ℕ) (list : List FilePage) : Type 0 where
    -- they are as many as every commit may take, at most, none stands there twice,
    pub few : length list ≤ always_free_in (kept_of s)
    pub distinct : AreDistinct list
    -- each is a page of its file as it is now, which is one of these, or has the length that it has durably;
    pub inside : (i : ℕ) (p : FilePage) → slice_get list i ≡ Some p → IsPageOf (files_of s) p.file p.page
    pub durable : (i : ℕ) (p : FilePage) → slice_get list i ≡ Some p → is_one_of files p.file ≡ false → is_resized_in s.sizes.items p.file ≡ false
    -- and where a file of these has got longer again from within a page, that page is one of them.
    pub ends : (f : ℕ) → is_one_of files f ≡ true → shortest_in (directory_of s) f < length_of (files_of s f) → (shortest_in (directory_of s) f % 4096 ≡ 0 → ⊥)
        → StandsInList list f (shortest_in (directory_of s) f / 4096)

  -- the next commit may take as many pages as every commit
  abbrev pub HasRoom : SizedStore D → Type 0
  HasRoom s = always_free_in (kept_of s) ≤ free_in (kept_of s)

  -- What a commit of lengths and pages makes of the files' bytes:
  pub record TakesSizes (s : SizedStore D) (files : List ℕ) (list : List FilePage) (given : ℕ → List ℕ) (before after : ℕ → ℕ → List ℕ) : Type 0 where
    -- the pages of the list are as given, with zeros past their files' ends,
    pub listed : (i : ℕ) (p : FilePage) → slice_get list i ≡ Some p → after p.file p.page ≡ cut_page (files_of s p.file) p.page (given i)
    -- other pages of these files are as they were, with zeros from where the file was cut off,
    pub left : (f k : ℕ) → is_one_of files f ≡ true → (StandsInList list f k → ⊥) → after f k ≡ left_page (shortest_in (directory_of s) f) k (before f k)
    -- and those of other files are as they were.
    pub others : (f k : ℕ) → is_one_of files f ≡ false → (StandsInList list f k → ⊥) → after f k ≡ before f k

-- so many pages are more than such a commit takes: as many as every commit may, less the directory's
abbrev pub IsOverLimit : StoreKept → ℕ → Type 0
IsOverLimit (StoreKept.OfJournal directory journal) n = Unit {0}
IsOverLimit (StoreKept.OfPool directory journal) n = 504 * journal.sizes.blocks < n + directory.pages

-- the image stands for the files before, or for those after
abbrev pub StandsForOneOf : ℕ → (ℕ → Option FileInfo) → (ℕ → ℕ → List ℕ) → (ℕ → Option FileInfo) → (ℕ → ℕ → List ℕ) → Image → Type 0
StandsForOneOf sectors files before then_files after image = StandsFor sectors files before image ⊎ StandsFor sectors then_files after image

-- A fault is told exactly where the one that it names failed, and none where there is no room:
pub record HasSizeCauses (device_before device_now source_before source_now : ℕ) (result : Result (Unit {0}) SizeFault) : Type 0 where
  pub device_later : device_before ≤ device_now
  pub source_later : source_before ≤ source_now
  pub device : IsErrOf result Device → device_before < device_now
  pub source : IsErrOf result Source → source_before < source_now
  pub device_calm : OnOk result (device_now ≡ device_before)
  pub device_still : IsErrOf result Source → device_now ≡ device_before
  pub source_calm : OnOk result (source_now ≡ source_before)
  pub source_still : IsErrOf result Device → source_now ≡ source_before

-- the store has no homes for a file that gets one of these lengths, beside those before it
abbrev pub LacksHomesIn : StoreKept → List FileSize → ℕ → Type 0
LacksHomesIn (StoreKept.OfJournal directory journal) sizes f = Unit {0}
LacksHomesIn (StoreKept.OfPool directory journal) sizes f = LacksHomes directory.entries.items (room_behind directory journal.sizes.homes) sizes f

-- A store has no room for these lengths with these pages:
pub data LacksRoomIn (kept : StoreKept) (sizes : List Size) (files : List ℕ) (list : List FilePage) : Type 0 where
  -- no homes for a file,
  Homes : (f : ℕ) → LacksHomesIn kept (map (size_asked sizes) files) f → LacksRoomIn kept sizes files list
  -- or no slots for pages that are given, or zeros.
  Slots : (limit : ℕ) → IsOverLimit kept (suc limit) → AreTooMany (Durable.files_in (directory_in kept)) sizes files list limit → LacksRoomIn kept sizes files list

abbrev pub LacksRoom : {D : Type 0} → SizedStore D → List ℕ → List FilePage → Type 0
LacksRoom s files list = LacksRoomIn (kept_of s) s.sizes.items files list

-- what is known of a length once it is durable
abbrev pub settled : Size → Size
settled size = record { length = size.length; shortest = size.length; resized = false }

-- The lengths that these files have are durable:
pub record AreSettled (files : List ℕ) (old new : List Size) : Type 0 where
  pub long : length new ≡ length old
  pub these : (f : ℕ) → is_one_of files f ≡ true → slice_get new f ≡ option_map settled (slice_get old f)
  -- and of the other files nothing else is known.
  pub others : (f : ℕ) → is_one_of files f ≡ false → slice_get new f ≡ slice_get old f

module _ {D S : Type 0} (g : Ghosts D) (s : SourceGhosts S) where
  -- Lengths of files, and pages with them, become durable all at once, as the source gives them:
  pub record CommitsSizes (old new : SizedStore D) (files : List ℕ) (list : List FilePage) (given given' : S) (result : Result (Unit {0}) SizeFault) : Type 0 where
    -- after Ok every image of a stop from now on stands for the files after,
    pub ok : g.keeps_model (disk_of new) → s.keeps_model given'
        → (before after : ℕ → ℕ → List ℕ) → LeavesNow g (disk_of old) (StandsFor (g.sector_count (disk_of old)) (durable_files_of old) before)
        → TakesSizes old files list (s.pages given) before after
        → OnOk result (LeavesNow g (disk_of new) (StandsFor (g.sector_count (disk_of old)) (files_then old files) after))
    -- these are durable, with the lengths that they had, and the store is ready, with as much room.
    pub durable : OnOk result ((f : ℕ) → durable_files_of new f ≡ files_then old files f)
    pub settled : OnOk result (AreSettled files old.sizes.items new.sizes.items)
    pub ready : OnOk result (IsReadySized g new)
    pub room : OnOk result (HasRoom new)
    -- Every image of a stop at any moment of the call stands for the files before or after.
    pub any_moment : g.keeps_model (disk_of new) → s.keeps_model given'
        → (before after : ℕ → ℕ → List ℕ) → LeavesNow g (disk_of old) (StandsFor (g.sector_count (disk_of old)) (durable_files_of old) before)
        → TakesSizes old files list (s.pages given) before after
        → LeavesOnly g (disk_of old) (disk_of new) (StandsForOneOf (g.sector_count (disk_of old)) (durable_files_of old) before (files_then old files) after)
    -- After a source's fault, and at every moment up to it, it stands for the files before, and the store is ready, with as much room.
    pub source : g.keeps_model (disk_of new) → IsErrOf result Source
        → (before : ℕ → ℕ → List ℕ) → LeavesNow g (disk_of old) (StandsFor (g.sector_count (disk_of old)) (durable_files_of old) before)
        → LeavesOnly g (disk_of old) (disk_of new) (StandsFor (g.sector_count (disk_of old)) (durable_files_of old) before)
    pub source_now : g.keeps_model (disk_of new) → IsErrOf result Source
        → (before : ℕ → ℕ → List ℕ) → LeavesNow g (disk_of old) (StandsFor (g.sector_count (disk_of old)) (durable_files_of old) before)
        → LeavesNow g (disk_of new) (StandsFor (g.sector_count (disk_of old)) (durable_files_of old) before)
    pub ready_after_source : IsErrOf result Source → IsReadySized g new
    pub room_after_source : IsErrOf result Source → HasRoom new
    -- Where there is no room, it lacks, and nothing is done, nor is the source asked.
    pub refused : IsErrOf result NoRoom → LacksRoom old files list × (new.store ≡ old.store) × IsReadySized g new
    pub unasked : IsErrOf result NoRoom → given' ≡ given
    -- After an error files and lengths are what they were.
    pub after_error : IsErr result → directory_of new ≡ directory_of old
    -- Every commit may take as many pages as before, as every image at any moment says; and the size is kept.
    pub most_moment : g.keeps_model (disk_of new) → LeavesOnly g (disk_of old) (disk_of new) (SaysMostOf (g.sector_count (disk_of old)) (g.content (disk_of old)))
    pub always : always_free_in (kept_of new) ≡ always_free_in (kept_of old)
    pub size : g.sector_count (disk_of new) ≡ g.sector_count (disk_of old)
    pub kept : g.keeps_model (disk_of new) → g.keeps_model (disk_of old)
    -- Pages are asked of the source, and of the device no sector before the gate,
    pub asks : Asks s given given'
    pub asks_device : AsksOnly g (λ k. pool_gate ≤ k) (disk_of old) (disk_of new)
    -- and a fault is told exactly where the one that it names failed.
    pub causes : HasSizeCauses (g.failures (disk_of old)) (g.failures (disk_of new)) (s.failures given) (s.failures given') result
