-- What a commit may be asked to change of a store with a pool.
use Rattle.std.specs.Prelude.{ℕ, zero, suc, ◌+◌, ◌/◌, ◌%◌, ◌<◌, ◌≤◌, ◌≡◌, ◌==◌, Bool, true, false, List, [], ◌∷◌, ◌++◌, length, slice_get, Option, Some, if◌then◌else◌}
use Rattle.vm_types.specs.declared.{file.FileInfo.{FileInfo}, file.FilePage.{FilePage}}
use Rattle.directories.specs.{Homes.{HasHome}}
use Rattle.directories.specs.declared.entry.Entry.{Entry}
use Rattle.file_store.specs.Standing.{IsPageOf}
use Rattle.growth.specs.Changes.{entries_after, AreChanges, TakesFreeHomes}
use Rattle.growth.specs.declared.changes.Change.{Change}
use Rattle.pool_growth.specs.Files.{files_after, file_page_count, IsNewPage, StandsInList}
use Rattle.pool_journal.specs.{Journal.{free_count}, Maps.{entries_of}}
use Rattle.pool_store.specs.{Pools.{AreEntries}, Store.{files_of, info_by}}
use Rattle.pool_store.specs.declared.{directory.Directory.{Directory}, store.PoolStore.{PoolStore}}

-- a page of the directory has the entry of a file that is changed
abbrev pub is_changed : List Change → ℕ → Bool
is_changed [] q = false
is_changed (c ∷ cs) q = if c.file / 16 == q then true else is_changed cs q

-- those of the first n pages of the directory that have
unfoldable pub changed_pages : List Change → ℕ → List ℕ
changed_pages changes zero = []
changed_pages changes (suc n) = changed_pages changes n ++ (if is_changed changes n then n ∷ [] else [])

-- the entries of a directory after changes
abbrev pub entries_then : Directory → List Change → List (Option Entry)
entries_then directory changes = entries_after directory.entries.items changes

-- A store with n homes may be changed so:
pub record AreFileChanges (n : ℕ) (directory : Directory) (list : List Change) : Type 0 where
  -- these are changes of its directory,
  pub changes : AreChanges directory.entries.items list
  -- which it may have afterwards,
  pub may : AreEntries directory.pages n (entries_then directory list)
  -- new extents take homes that no extent had,
  pub free : TakesFreeHomes directory.entries.items (entries_then directory list)
  -- and each page that a file has before and after keeps its home.
  pub keeps : (f k h : ℕ) → k < file_page_count (info_by directory f) → k < file_page_count (files_after (info_by directory) list f)
      → HasHome directory.entries.items f k h → HasHome (entries_then directory list) f k h

-- New pages may be committed with changes:
pub record AreNewPages (files : ℕ → Option FileInfo) (changes : List Change) (fresh : List FilePage) : Type 0 where
  -- each is a new one,
  pub new : (i : ℕ) (p : FilePage) → slice_get fresh i ≡ Some p → IsNewPage files changes p.file p.page
  -- and none stands in the list twice.
  pub distinct : (i j : ℕ) (p : FilePage) → i < j → slice_get fresh i ≡ Some p → slice_get fresh j ≡ Some p → ⊥

-- Pages that were pages before may be committed with changes:
pub record AreKeptPages {D : Type 0} (store : PoolStore D) (changes : List Change) (list : List FilePage) : Type 0 where
  -- as many slots are free as they and the changed pages of the directory take,
  pub few : length list + length (changed_pages changes store.directory.pages) ≤ free_count store.journal.sizes.blocks (entries_of store.journal.map)
  -- each is a page of its file before and after,
  pub before : (i : ℕ) (p : FilePage) → slice_get list i ≡ Some p → IsPageOf (files_of store) p.file p.page
  pub after : (i : ℕ) (p : FilePage) → slice_get list i ≡ Some p → IsPageOf (files_after (files_of store) changes) p.file p.page
  -- none stands in the list twice,
  pub distinct : (i j : ℕ) (p : FilePage) → i < j → slice_get list i ≡ Some p → slice_get list j ≡ Some p → ⊥
  -- and where a file gets longer whose last page was not full, that page is one of them.
  pub ends : (f : ℕ) (was now : FileInfo) → files_of store f ≡ Some was → files_after (files_of store) changes f ≡ Some now → was.length < now.length
      → (was.length % 4096 ≡ 0 → ⊥) → StandsInList list f (was.length / 4096)
