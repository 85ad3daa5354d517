-- Files that get other lengths, come or go, with pages of theirs, of a store with a pool.
use Rattle.std.specs.Prelude.{ℕ, ◌+◌, ◌*◌, ◌<◌, ◌≤◌, ◌≡◌, ◌⊎◌, true, List, Option, Some, Result, IfErr, OnOk, length, slice_get}
use Rattle.std.specs.List.{All, AllPairs}
use Rattle.vm_types.specs.declared.file.{FileInfo.{FileInfo}, FilePage.{FilePage}}
use Rattle.disk_model.specs.declared.sector_disk.{DiskFault.{DiskFault}, SectorDisk.{Ghosts}}
use Rattle.disk_model.specs.{Moments.{LeavesOnly, LeavesNow}, Stop.{Image}}
use Rattle.growth.specs.declared.changes.Change.{Change}
use Rattle.pool_growth.specs.{Asked.{changed_pages, AreKeptPages, AreNewPages}, Checks.{BeginsInside, ListsEnd, PrecedesPage, AreAllKept, AreAllNew, HasAllEnds}, Files.{files_after, ChangesFiles, IsNewPage}}
use Rattle.pool_growth.specs.Sizes.{changes_to, files_sized, room_behind, AreSizes, LacksHomes, SizesFiles}
use Rattle.pool_growth.specs.declared.sizes.FileSize.{FileSize}
use Rattle.pool_journal.specs.Pools.{pool_home_count, pool_standing}
use Rattle.pool_store.specs.{Pools.{IsDirectory}, Resume.{HasPoolHead, IsNoPool}, Store.{files_of, IsReadyPool}}
use Rattle.pool_store.specs.declared.{directory.Directory.{Directory}, store.PoolStore.{PoolStore}}
use Rattle.stores.specs.{Images.{is_pool, capacity_pages, directory_pages, file_info, map_blocks, StandsFor}, Rooms.{FreesSlots}}
use Rattle.stores.specs.declared.store.Store.TheVariants.{Pool}
use Rattle.sync_plans.specs.{Pages.{lent_page}, Planned.{IsPlan}, Plans.{row, image_after, StopLeaves}, Requests.{IsStore, HasLayout, KeepsOutside}}
use Rattle.sync_plans.specs.declared.{call.Call.{Call}, lent_pages.PageBytes.{PageBytes}, resizing.ResizeRefusal.{ResizeRefusal}}
use Rattle.sync_plans.specs.declared.resizing.ResizeRefusal.TheVariants.{Device, NoPool, Memory, BadPages, ReadOnly, NoHomes}

-- the files with the pages of before, or those after these sizes with theirs
abbrev pub StandsForSized : ℕ → List FileSize → (ℕ → Option FileInfo) → (ℕ → ℕ → List ℕ) → (ℕ → ℕ → List ℕ) → Image → Type 0
StandsForSized sectors sizes files before after image = StandsFor sectors files before image ⊎ StandsFor sectors (files_sized files sizes) after image

-- the files with the pages of before, or those after these changes with theirs
abbrev pub StandsForChanged : ℕ → List Change → (ℕ → Option FileInfo) → (ℕ → ℕ → List ℕ) → (ℕ → ℕ → List ℕ) → Image → Type 0
StandsForChanged sectors changes files before after image = StandsFor sectors files before image ⊎ StandsFor sectors (files_after files changes) after image

-- file f may only be read
abbrev pub IsReadOnlyIn : (ℕ → Option FileInfo) → ℕ → Type 0
IsReadOnlyIn files f = (info : FileInfo) × (files f ≡ Some info) × (info.read_only ≡ true)

-- one of these sizes, or of these pages, is of such a file
abbrev pub HasReadOnlySize : (ℕ → Option FileInfo) → List FileSize → Type 0
HasReadOnlySize files sizes = (i : ℕ) × (s : FileSize) × (slice_get sizes i ≡ Some s) × IsReadOnlyIn files s.file

abbrev pub HasReadOnlyPage : (ℕ → Option FileInfo) → List FilePage → Type 0
HasReadOnlyPage files list = (i : ℕ) × (p : FilePage) × (slice_get list i ≡ Some p) × IsReadOnlyIn files p.file

-- no file of these sizes, or of these pages, may only be read
abbrev pub AreAllWritable : (ℕ → Option FileInfo) → List FileSize → List FilePage → Type 0
AreAllWritable files sizes list = HasReadOnlySize files sizes ⊎ HasReadOnlyPage files list → ⊥

-- So many bytes of pages may be brought with changes of a store whose maps have m blocks:
pub record AreBrought (m : ℕ) (directory : Directory) (changes : List Change) (fresh list : List FilePage) (count : ℕ) : Type 0 where
  -- those that are given of the new pages rise, and are new;
  pub fresh_rise : AllPairs PrecedesPage fresh
  pub new : AreAllNew directory changes fresh
  -- the others rise,
  pub rising : AllPairs PrecedesPage list
  -- each is a page of its file before and after,
  pub kept : AreAllKept directory changes list
  -- and where a file gets longer whose last page was not full, that page is one of them;
  pub ends : HasAllEnds directory changes list
  -- with the changed pages of the directory they are no more than the pool has slots,
  pub few : length list + length (changed_pages changes directory.pages) ≤ 2 * (504 * m)
  -- and there are as many bytes as new pages that are given and these.
  pub all : count ≡ length fresh + length list

-- Of an image files may get these sizes, with so many bytes of pages:
pub record AreResizable (sectors : ℕ) (image : Image) (sizes : List FileSize) (fresh list : List FilePage) (count : ℕ) : Type 0 where
  -- the sizes are such as its directory may be asked,
  pub may : AreSizes (16 * directory_pages image) sizes
  -- those that are given of the new pages rise, and are new;
  pub fresh_rise : AllPairs PrecedesPage fresh
  pub new : All (λ p. IsNewPage (file_info sectors image) (changes_to (file_info sectors image) sizes) p.file p.page) fresh
  -- the others rise,
  pub rising : AllPairs PrecedesPage list
  -- each is a page of its file before and after,
  pub before : All (λ p. BeginsInside (file_info sectors image p.file) p.page) list
  pub after : All (λ p. BeginsInside (files_sized (file_info sectors image) sizes p.file) p.page) list
  -- and where a file gets longer whose last page was not full, that page is one of them;
  pub ends : (f : ℕ) → ListsEnd list f (file_info sectors image f) (files_sized (file_info sectors image) sizes f)
  -- with the changed pages of the directory they are no more than the pool has slots,
  pub few : length list + length (changed_pages (changes_to (file_info sectors image) sizes) (directory_pages image)) ≤ capacity_pages sectors image
  -- and there are as many bytes as new pages that are given and these.
  pub all : count ≡ length fresh + length list

-- An image has no homes for what a file is to get:
pub record LacksHomesIn (sectors : ℕ) (image : Image) (sizes : List FileSize) : Type 0 where
  -- by the directory that stands there
  pub directory : Directory
  pub pages : directory.pages ≡ directory_pages image
  pub stands : IsDirectory (directory_pages image) (pool_home_count (map_blocks image) sectors)
      (pool_standing (map_blocks image) (pool_home_count (map_blocks image) sectors) image) directory.entries.items
  -- there are none for this file.
  pub file : ℕ
  pub lacks : LacksHomes directory.entries.items (room_behind directory (pool_home_count (map_blocks image) sectors)) sizes file

-- Sizes are refused of an image:
pub record RefusesSizesOf (sectors : ℕ) (image : Image) (sizes : List FileSize) (fresh list : List FilePage) (count : ℕ) (refusal : ResizeRefusal) : Type 0 where
  -- with `NoPool` only where it is of no store with a pool,
  pub none : refusal ≡ NoPool → IsNoPool sectors image
  -- with `Memory` only where mark and kind are those of one,
  pub memory : refusal ≡ Memory → HasPoolHead sectors image
  -- with `BadPages` only where no commit takes them with these pages,
  pub pages : refusal ≡ BadPages → AreResizable sectors image sizes fresh list count → ⊥
  -- with `ReadOnly` only where one of their files may only be read, or that of a page,
  pub read_only : refusal ≡ ReadOnly → HasReadOnlySize (file_info sectors image) sizes ⊎ HasReadOnlyPage (file_info sectors image) list
  -- and with `NoHomes` only where there are none for a file.
  pub homes : refusal ≡ NoHomes → LacksHomesIn sectors image sizes

module _ {D : Type 0} (g : Ghosts D) where
  -- Files get these sizes, and pages of theirs become durable with them, of which so many bytes are lent, all at once:
  pub record ResizesStore (old new : D) (sizes : List FileSize) (fresh list : List FilePage) (count : ℕ) (given : ℕ → List ℕ) : Type 0 where
    -- the image was one of a store with a pool, of which none of these files may only be read and all of them may get these sizes with so many bytes;
    pub store : IsStore (g.sector_count old) (g.content old)
    pub pool : is_pool (g.content old) ≡ true
    pub writable : AreAllWritable (file_info (g.sector_count old) (g.content old)) sizes list
    pub resizable : AreResizable (g.sector_count old) (g.content old) sizes fresh list count
    -- every image of a stop from now on stands for the files after, and nothing is unsynced,
    pub ok : (files : ℕ → Option FileInfo) (before after : ℕ → ℕ → List ℕ) → LeavesNow g old (StandsFor (g.sector_count old) files before) → SizesFiles files sizes fresh list given before after
        → LeavesNow g new (StandsFor (g.sector_count old) (files_sized files sizes) after)
    pub synced : (k : ℕ) → g.unsynced new k → ⊥
    -- every image of a stop at any moment of the call stands for the files before or after,
    pub any_moment : (files : ℕ → Option FileInfo) (before after : ℕ → ℕ → List ℕ) → LeavesNow g old (StandsFor (g.sector_count old) files before) → SizesFiles files sizes fresh list given before after
        → LeavesOnly g old new (StandsForSized (g.sector_count old) sizes files before after)
    -- and what lies outside of gate, journal, pool and homes is as it was.
    pub outside : KeepsOutside (g.sector_count old) (g.content old) (g.content new)

  -- Sizes are refused of the store on a device:
  pub record RefusesSizes (old new : D) (sizes : List FileSize) (fresh list : List FilePage) (count : ℕ) (refusal : ResizeRefusal) : Type 0 where
    -- with `Device` only where the device failed,
    pub cause : refusal ≡ Device → g.failures old < g.failures new
    -- and else as they are of its image.
    pub image : g.keeps_model new → RefusesSizesOf (g.sector_count old) (g.content old) sizes fresh list count refusal

  -- Changes are refused of an open store:
  pub record RefusesChanges (old : PoolStore D) (new : D) (changes : List Change) (fresh list : List FilePage) (count : ℕ) (refusal : ResizeRefusal) : Type 0 where
    -- with `Device` only where the device failed,
    pub cause : refusal ≡ Device → g.failures old.disk < g.failures new
    -- with `BadPages` only where they don't go with these pages;
    pub pages : refusal ≡ BadPages → AreBrought old.journal.sizes.blocks old.directory changes fresh list count → ⊥
    -- and else with `Memory`.
    pub else : (refusal ≡ Device) ⊎ ((refusal ≡ BadPages) ⊎ (refusal ≡ Memory))

  -- Slots of a store are made free for pages that come with changes:
  pub record MakesSlotsFree (old new : PoolStore D) (changes : List Change) (fresh list : List FilePage) (result : Result (Unit {0}) ResizeRefusal) : Type 0 where
    -- pages go home, or none do;
    pub outcome : Result (Unit {0}) DiskFault
    pub frees : FreesSlots g (Pool old) (Pool new) outcome
    -- directory and sizes are kept;
    pub directory : new.directory ≡ old.directory
    pub sizes : new.journal.sizes ≡ old.journal.sizes
    -- after Ok a commit takes these pages,
    pub ready : OnOk result (IsReadyPool g new)
    pub are_new : OnOk result (AreNewPages (files_of new) changes fresh)
    pub good : OnOk result (AreKeptPages new changes list)
    pub rising : OnOk result (AllPairs PrecedesPage fresh × AllPairs PrecedesPage list)
    -- and otherwise they are refused.
    pub refused : (count : ℕ) → IfErr result (RefusesChanges old new.disk changes fresh list count)

  -- Whatever comes of what is asked of an open store,
  pub record StaysOpen (old new : D) : Type 0 where
    -- the device keeps its size, and where its image is one of a store, every image of a stop at any moment of the call has the layout of a store.
    pub size : g.sector_count new ≡ g.sector_count old
    pub kept : g.keeps_model new → g.keeps_model old
    pub layout_moment : g.keeps_model new → IsStore (g.sector_count old) (g.content old) → LeavesOnly g old new (HasLayout (g.sector_count old))

  -- Files of an open store of which nothing is unsynced change, and pages of theirs, of which so many bytes are lent, become durable with that, all at once:
  pub record ChangesStore (old : PoolStore D) (new : D) (changes : List Change) (fresh list : List FilePage) (count : ℕ) (given : ℕ → List ℕ) : Type 0 where
    pub store : IsStore (g.sector_count old.disk) (g.content old.disk)
    pub pool : is_pool (g.content old.disk) ≡ true
    pub brought : AreBrought old.journal.sizes.blocks old.directory changes fresh list count
    pub ok : (files : ℕ → Option FileInfo) (before after : ℕ → ℕ → List ℕ) → LeavesNow g old.disk (StandsFor (g.sector_count old.disk) files before)
        → ChangesFiles files changes fresh list given before after → LeavesNow g new (StandsFor (g.sector_count old.disk) (files_after files changes) after)
    pub synced : (k : ℕ) → g.unsynced new k → ⊥
    pub any_moment : (files : ℕ → Option FileInfo) (before after : ℕ → ℕ → List ℕ) → LeavesNow g old.disk (StandsFor (g.sector_count old.disk) files before)
        → ChangesFiles files changes fresh list given before after → LeavesOnly g old.disk new (StandsForChanged (g.sector_count old.disk) changes files before after)
    pub outside : KeepsOutside (g.sector_count old.disk) (g.content old.disk) (g.content new)

  -- They are to:
  pub record ChangesOpenStore (old : PoolStore D) (new : D) (changes : List Change) (fresh list : List FilePage) (bytes : List PageBytes) (result : Result (Unit {0}) ResizeRefusal) : Type 0 where
    -- the device stays one of a store;
    pub stays : StaysOpen old.disk new
    pub open stays use *
    -- after Ok they did so,
    pub changed : g.keeps_model new → IsStore (g.sector_count old.disk) (g.content old.disk) → OnOk result (ChangesStore old new changes fresh list (length bytes) (lent_page bytes))
    -- and otherwise they are refused.
    pub refused : IfErr result (RefusesChanges old new changes fresh list (length bytes))

  -- Files of an open store of which nothing is unsynced are to get these sizes, with pages of theirs:
  pub record ResizesOpenStore (old : PoolStore D) (new : D) (sizes : List FileSize) (fresh list : List FilePage) (bytes : List PageBytes) (result : Result (Unit {0}) ResizeRefusal) : Type 0 where
    -- the device stays one of a store;
    pub stays : StaysOpen old.disk new
    pub open stays use *
    -- after Ok they got them,
    pub resized : g.keeps_model new → IsStore (g.sector_count old.disk) (g.content old.disk) → OnOk result (ResizesStore old.disk new sizes fresh list (length bytes) (lent_page bytes))
    -- and otherwise they are refused of the image, or the device failed.
    pub refused : g.keeps_model new → IsStore (g.sector_count old.disk) (g.content old.disk) → IfErr result (RefusesSizesOf (g.sector_count old.disk) (g.content old.disk) sizes fresh list (length bytes))
    pub cause : IfErr result (λ refusal. refusal ≡ Device → g.failures old.disk < g.failures new)

-- A plan gives files these sizes, with pages of theirs, of which so many bytes are lent, all at once:
pub record PlansResizing (image : List (List ℕ)) (room : ℕ) (sizes : List FileSize) (fresh list : List FilePage) (count : ℕ) (pages : ℕ → List ℕ) (calls : List Call) (rows : List (List ℕ)) (used : ℕ) : Type 0 where
  -- the image is one of a store with a pool, of which none of these files may only be read and all of them may get these sizes with so many bytes;
  pub store : IsStore (length image) (row image)
  pub pool : is_pool (row image) ≡ true
  pub writable : AreAllWritable (file_info (length image) (row image)) sizes list
  pub resizable : AreResizable (length image) (row image) sizes fresh list count
  -- its device can make the calls,
  pub plan : IsPlan (length image) room pages calls used
  pub open plan use *
  -- every stop within them leaves the files before or after,
  pub any_moment : (files : ℕ → Option FileInfo) (before after : ℕ → ℕ → List ℕ) → StandsFor (length image) files before (row image) → SizesFiles files sizes fresh list pages before after
      → (left : Image) → StopLeaves calls rows pages (row image) used left → StandsForSized (length image) sizes files before after left
  -- and all of them together leave the files after, and what lies outside of gate, journal, pool and homes as it was.
  pub ok : (files : ℕ → Option FileInfo) (before after : ℕ → ℕ → List ℕ) → StandsFor (length image) files before (row image) → SizesFiles files sizes fresh list pages before after
      → StandsFor (length image) (files_sized files sizes) after (image_after calls rows pages (row image) used)
  pub outside : KeepsOutside (length image) (row image) (image_after calls rows pages (row image) used)
