-- Files that get lengths, come or go, as a caller says it who leaves their extents open.
use Rattle.std.specs.Prelude.{ℕ, ◌<◌, ◌≤◌, ◌≡◌, ◌≢◌, ◌==◌, Bool, false, List, [], length, map, replicate, take, slice_get, Option, Some, None, if◌then◌else◌}
use Rattle.std.specs.{List.{All, AllPairs}, Option.{option_map}}
use Rattle.vm_types.specs.{Limits.{file_limit, longest_file}, declared.file.{FileInfo.{FileInfo}, FilePage.{FilePage}}}
use Rattle.directories.specs.{Homes.{pages_of_length}, Layouts.{entry_in}, declared.entry.Entry.{Entry}}
use Rattle.growth.specs.{Resizing.{IsResized, StaysHome}, Room.{HasNoRoom}}
use Rattle.growth.specs.declared.{changes.Change.{Change}, room.Homes.{Homes}}
use Rattle.pool_growth.specs.{Asked.{AreFileChanges}, Files.{files_after, ChangesFiles}}
use Rattle.pool_growth.specs.declared.{faults.BadSizes.{BadSizes}, faults.BadSizes.TheVariants.{Form, NoHomes, Memory}, sizes.FileSize.{FileSize}}
use Rattle.pool_store.specs.{Files.{info_of}, Store.{info_by}}
use Rattle.pool_store.specs.declared.directory.Directory.{Directory}

-- whether a file may only be read; one that is not there may be written
abbrev pub is_read_only : Option FileInfo → Bool
is_read_only None = false
is_read_only (Some info) = info.read_only

-- what is fixed of a file from then on
abbrev pub info_to : FileSize → Option FileInfo → Option FileInfo
info_to s was = if s.is_there == 0 then None else Some (record { length = s.length; read_only = is_read_only was })

-- an entry that says so, of no extents
abbrev pub bare : FileInfo → Entry
bare info = record { read_only = info.read_only; length = info.length; extent_count = 0; extents = [] }

-- the changes that say so of files, whatever their extents
abbrev pub changes_to : (ℕ → Option FileInfo) → List FileSize → List Change
changes_to files sizes = map (λ s. record { file = s.file; entry = option_map bare (info_to s (files s.file)) }) sizes

-- the files after these sizes
abbrev pub files_sized : (ℕ → Option FileInfo) → List FileSize → ℕ → Option FileInfo
files_sized files sizes = files_after files (changes_to files sizes)

-- what a commit of them with pages makes of the files' bytes
abbrev pub SizesFiles : (ℕ → Option FileInfo) → List FileSize → List FilePage → List FilePage → (ℕ → List ℕ) → (ℕ → ℕ → List ℕ) → (ℕ → ℕ → List ℕ) → Type 0
SizesFiles files sizes fresh list given before after = ChangesFiles files (changes_to files sizes) fresh list given before after

-- A size may be asked of a directory with so many entries: its file has its place in it, and a number below 4,096, and is no longer than a file may be, unless it goes.
pub record IsSizeFor (entries : ℕ) (s : FileSize) : Type 0 where
  pub place : s.file < entries
  pub number : s.file < file_limit
  pub short : s.is_there ≢ 0 → s.length ≤ longest_file

-- Sizes may be asked of it:
pub record AreSizes (entries : ℕ) (sizes : List FileSize) : Type 0 where
  -- their files rise,
  pub rising : AllPairs (λ s t. s.file < t.file) sizes
  -- and each of them may.
  pub inside : All (IsSizeFor entries) sizes

-- the entry of a file, or of one that is not there one of no extents
abbrev pub entry_or_empty : Option Entry → Entry
entry_or_empty None = record { read_only = false; length = 0; extent_count = 0; extents = replicate 30 (record { first = 0; count = 0 }) }
entry_or_empty (Some e) = e

-- This is the change for a size, where those before it are `done`:
pub record IsProposed (entries : List (Option Entry)) (room : Homes) (done : List Change) (s : FileSize) (c : Change) : Type 0 where
  -- it is of its file,
  pub file : c.file ≡ s.file
  -- which goes,
  pub gone : s.is_there ≡ 0 → c.entry ≡ None
  -- or gets the length, with room that neither any file had nor those changes give; and a page that it keeps keeps its home.
  pub there : s.is_there ≢ 0 → (now : Entry) × (c.entry ≡ Some now) × (now.length ≤ longest_file)
      × IsResized entries done (entry_or_empty (entry_in entries s.file)) s.length room now × StaysHome (entry_or_empty (entry_in entries s.file)) now

-- These are the changes for the first of these sizes, as many as they are.
pub record AreProposed (entries : List (Option Entry)) (room : Homes) (sizes : List FileSize) (changes : List Change) : Type 0 where
  pub few : length changes ≤ length sizes
  pub each : (i : ℕ) (s : FileSize) (c : Change) → slice_get sizes i ≡ Some s → slice_get changes i ≡ Some c → IsProposed entries room (take i changes) s c

-- There is no room for what a size makes of file f:
pub record LacksHomes (entries : List (Option Entry)) (room : Homes) (sizes : List FileSize) (f : ℕ) : Type 0 where
  pub place : ℕ
  pub size : FileSize
  -- it is one of these,
  pub is : slice_get sizes place ≡ Some size
  pub file : size.file ≡ f
  -- by which the file is there,
  pub there : size.is_there ≢ 0
  -- after the changes for those before it
  pub done : List Change
  pub before : AreProposed entries room sizes done
  pub count : length done ≡ place
  -- its file has 30 extents, or all runs of as many homes as it lacks are in use.
  pub none : HasNoRoom entries done (entry_or_empty (entry_in entries f)) (pages_of_length size.length) room

-- the homes that files may have: those behind the directory's, up to the last of n
abbrev pub room_behind : Directory → ℕ → Homes
room_behind directory n = record { first = directory.pages; end = n }

-- why no changes are proposed
abbrev pub AreSizesRefused : ℕ → Directory → List FileSize → BadSizes → Type 0
AreSizesRefused n directory sizes Form = AreSizes (length directory.entries.items) sizes → ⊥
AreSizesRefused n directory sizes (NoHomes f) = LacksHomes directory.entries.items (room_behind directory n) sizes f
AreSizesRefused n directory sizes Memory = Unit {0}

-- Changes say what sizes ask for, whatever the extents:
pub record SaySizes (files : ℕ → Option FileInfo) (sizes : List FileSize) (changes : List Change) : Type 0 where
  -- there is one for each,
  pub all : length changes ≡ length sizes
  -- of its file, and says so of it.
  pub file : (i : ℕ) (s : FileSize) (c : Change) → slice_get sizes i ≡ Some s → slice_get changes i ≡ Some c → c.file ≡ s.file
  pub info : (i : ℕ) (s : FileSize) (c : Change) → slice_get sizes i ≡ Some s → slice_get changes i ≡ Some c → option_map info_of c.entry ≡ info_to s (files s.file)

-- Changes for all of these sizes are found:
pub record ProposesChanges (n : ℕ) (directory : Directory) (sizes : List FileSize) (changes : List Change) : Type 0 where
  -- the directory may be asked these,
  pub asked : AreSizes (length directory.entries.items) sizes
  -- each change has the room that its file needs, beside those before it,
  pub proposed : AreProposed directory.entries.items (room_behind directory n) sizes changes
  -- a commit takes them all,
  pub good : AreFileChanges n directory changes
  -- and they say what the sizes do.
  pub says : SaySizes (info_by directory) sizes changes
