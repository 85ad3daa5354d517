-- A store, and the lengths that its files have now.
use Rattle.std.specs.Prelude.{ℕ, ◌<◌, ◌≤◌, ◌≡◌, Bool, true, false, List, [], length, slice_get, Option, Some, None}
use Rattle.vm_types.specs.{Limits.{longest_file}, declared.file.{FileInfo.{FileInfo}, FilePage.{FilePage}}}
use Rattle.disk_model.specs.declared.sector_disk.SectorDisk.{Ghosts}
use Rattle.stores.specs.Store as Durable
use Rattle.stores.specs.Store.{StoreKept, AnyDirectory}
use Rattle.pool_store.specs.Store.{info_by}
use Rattle.stores.specs.declared.store.Store.{Store}
use Rattle.stores.specs.declared.store.Store.TheVariants.{Journal, Pool}
use Rattle.sized_stores.specs.Room.{IsRoomFor}
use Rattle.sized_stores.specs.declared.{room.SizeRoom.{SizeRoom}, sizes.Size.{Size}, store.SizedStore.{SizedStore}}

-- what is fixed of a file, with the length that it has now
abbrev pub with_length : Option FileInfo → Option Size → Option FileInfo
with_length None size = None
with_length (Some info) None = Some info
with_length (Some info) (Some size) = Some (record { length = size.length; read_only = info.read_only })

-- the length of a file
abbrev pub length_of : Option FileInfo → ℕ
length_of None = 0
length_of (Some info) = info.length

-- how short a file has been since its length was made durable: as long as it is durably, where it can't get another one
abbrev pub shortest_of : Option FileInfo → Option Size → ℕ
shortest_of info None = length_of info
shortest_of info (Some size) = size.shortest

-- a file has got another length since
abbrev pub is_resized : Option Size → Bool
is_resized None = false
is_resized (Some size) = size.resized

abbrev pub is_resized_in : List Size → ℕ → Bool
is_resized_in sizes f = is_resized (slice_get sizes f)

-- What an open store keeps in memory of its files: of those that are durable, and of their lengths now.
pub record SizedDirectory : Type 0 where
  pub durable : AnyDirectory
  pub sizes : List Size

abbrev pub directory_in : StoreKept → List Size → SizedDirectory
directory_in kept sizes = record { durable = Durable.directory_in kept; sizes = sizes }

-- what is fixed of file f durably, and now
abbrev pub durable_in : SizedDirectory → ℕ → Option FileInfo
durable_in d f = Durable.files_in d.durable f

abbrev pub files_in : SizedDirectory → ℕ → Option FileInfo
files_in d f = with_length (durable_in d f) (slice_get d.sizes f)

-- and how short it has been since
abbrev pub shortest_in : SizedDirectory → ℕ → ℕ
shortest_in d f = shortest_of (durable_in d f) (slice_get d.sizes f)

-- files may get other lengths: those of layout 4 may
abbrev pub can_resize_in : StoreKept → Bool
can_resize_in (StoreKept.OfJournal directory journal) = false
can_resize_in (StoreKept.OfPool directory journal) = true

module _ {D : Type 0} where
  -- a store's device, and what it keeps
  abbrev pub disk_of : SizedStore D → D
  disk_of s = Durable.disk_of s.store

  abbrev pub kept_of : SizedStore D → StoreKept
  kept_of s = Durable.kept_of s.store

  abbrev pub directory_of : SizedStore D → SizedDirectory
  directory_of s = directory_in (kept_of s) s.sizes.items

  -- what is fixed of file f now, and durably
  abbrev pub files_of : SizedStore D → ℕ → Option FileInfo
  files_of s f = files_in (directory_of s) f

  abbrev pub durable_files_of : SizedStore D → ℕ → Option FileInfo
  durable_files_of s f = Durable.files_of s.store f

  -- one of the eight sectors in which this page stands
  abbrev pub IsSectorOf : SizedStore D → FilePage → ℕ → Type 0
  IsSectorOf s p k = Durable.IsSectorOf s.store p k

  abbrev pub can_resize : SizedStore D → Bool
  can_resize s = can_resize_in (kept_of s)

-- The length of a file:
pub record IsSizeOf (info : FileInfo) (size : Size) : Type 0 where
  -- it is one that a file may have,
  pub most : size.length ≤ longest_file
  -- and the file has been as short as it is, and as it is durably, or shorter;
  pub is : size.shortest ≤ size.length
  pub was : size.shortest ≤ info.length
  -- where it hasn't got another length, it is as long as it is durably, and has not been shorter.
  pub same : size.resized ≡ false → (size.length ≡ info.length) × (size.shortest ≡ info.length)

-- the lengths of files: of layout 2 they are those that are durable, and of layout 4 there is one for each place of the directory
abbrev pub HaveSizes : StoreKept → List Size → Type 0
HaveSizes (StoreKept.OfJournal directory journal) sizes = sizes ≡ []
HaveSizes (StoreKept.OfPool directory journal) sizes = length sizes ≡ length directory.entries.items

-- all places of a directory have the lengths that files have durably
pub record AreDurable (files : ℕ → Option FileInfo) (places : ℕ) (sizes : List Size) : Type 0 where
  pub long : length sizes ≡ places
  pub each : (f : ℕ) → f < places → slice_get sizes f ≡ Some (record { length = length_of (files f); shortest = length_of (files f); resized = false })

module _ {D : Type 0} where
  -- the lengths of the files of a store as they are durably, and room for commits of them
  abbrev pub AreParts : Store D → List Size → Option SizeRoom → Type 0
  AreParts (Journal store) sizes room = sizes ≡ []
  AreParts (Pool store) sizes room = AreDurable (info_by store.directory) (length store.directory.entries.items) sizes × IsRoomFor (Durable.kept_of (Pool store)) room

module _ {D : Type 0} (g : Ghosts D) where
  -- A store may be read and committed to:
  pub record IsReadySized (s : SizedStore D) : Type 0 where
    -- what is durable may,
    pub ready : Durable.IsReadyStore g s.store
    -- the files have lengths,
    pub have : HaveSizes (kept_of s) s.sizes.items
    pub each : (f : ℕ) (info : FileInfo) (size : Size) → durable_files_of s f ≡ Some info → slice_get s.sizes.items f ≡ Some size → IsSizeOf info size
    -- and there is room for a commit of them.
    pub space : IsRoomFor (kept_of s) s.room

  -- A store is opened with the lengths that its files have durably:
  pub record StartsSized (store : Store D) (s : SizedStore D) : Type 0 where
    pub same : s.store ≡ store
    pub is_ready : IsReadySized s
    pub files : (f : ℕ) → files_of s f ≡ durable_files_of s f
    pub none : (f : ℕ) → is_resized_in s.sizes.items f ≡ false
