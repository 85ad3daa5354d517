-- What is found of changes and pages one by one.
use Rattle.std.specs.Prelude.{ℕ, ◌+◌, ◌*◌, ◌/◌, ◌%◌, ◌<◌, ◌≤◌, ◌≡◌, ◌⊎◌, List, length, slice_get, Option, Some, IfSome, min, take}
use Rattle.std.specs.List.{All, AllPairs}
use Rattle.std.specs.Option.{option_map}
use Rattle.vm_types.specs.Limits.{file_limit, longest_file}
use Rattle.vm_types.specs.declared.{file.FileInfo.{FileInfo}, file.FilePage.{FilePage}}
use Rattle.directories.specs.{Homes.{homes_of, HasHome}, Layouts.{entry_in}}
use Rattle.directories.specs.declared.entry.Entry.{Entry}
use Rattle.growth.specs.{Changes.{AreChanges}, Parts.{extents_of_file, kept_count}, Refusals.{IsChangeRefused}}
use Rattle.growth.specs.declared.changes.Change.{Change}
use Rattle.pool_growth.specs.Asked.{changed_pages, entries_then}
use Rattle.pool_growth.specs.Files.{files_after, file_page_count, IsNewPage, StandsInList}
use Rattle.pool_growth.specs.declared.faults.{BadChanges.{BadChanges}, BadPages.{BadPages}}
use Rattle.pool_growth.specs.declared.faults.BadChanges.TheVariants.{Form, Large, Homes, Moved}
use Rattle.pool_growth.specs.declared.faults.BadPages.TheVariants.{Order, NotNew, Outside, End, TooMany}
use Rattle.pool_journal.specs.{Journal.{free_count}, Maps.{entries_of}}
use Rattle.pool_store.specs.{Files.{info_of}, Store.{entry_of, info_by}}
use Rattle.pool_store.specs.declared.{directory.Directory.{Directory}, store.PoolStore.{PoolStore}}

-- a file that a change gives has a number below 4,096, and 2 ^ 42 bytes at most
abbrev pub IsSmallChange : Change → Type 0
IsSmallChange c = IfSome c.entry (λ e. (c.file < file_limit) × (e.length ≤ longest_file))

-- the homes of the extents in front that are the same before and after
abbrev pub kept_home_count : Option Entry → Option Entry → ℕ
kept_home_count was now = length (homes_of (take (kept_count (extents_of_file was) (extents_of_file now)) (extents_of_file now)))

-- how many pages a file keeps
abbrev pub pages_kept : Option Entry → Option Entry → ℕ
pages_kept was now = min (file_page_count (option_map info_of was)) (file_page_count (option_map info_of now))

-- those extents have a home for each page that a file keeps
abbrev pub HasKeptHomes : Option Entry → Option Entry → Type 0
HasKeptHomes was now = pages_kept was now ≤ kept_home_count was now

-- and so it is of each changed file
abbrev pub AllKeepHomes : Directory → List Change → Type 0
AllKeepHomes directory changes = All (λ c. HasKeptHomes (entry_of directory c.file) c.entry) changes

-- a change of file f is bad
abbrev pub HasBadChange : (Change → Type 0) → List Change → ℕ → Type 0
HasBadChange Is_good changes f = (i : ℕ) × (c : Change) × (slice_get changes i ≡ Some c) × (c.file ≡ f) × (Is_good c → ⊥)

-- File f keeps a page that gets another home:
pub record MovesPage (before after : List (Option Entry)) (f : ℕ) : Type 0 where
  pub page : ℕ
  pub home : ℕ
  -- it is one before and after,
  pub was : page < file_page_count (option_map info_of (entry_in before f))
  pub stays : page < file_page_count (option_map info_of (entry_in after f))
  -- had this home,
  pub had : HasHome before f page home
  -- and hasn't it then.
  pub lost : HasHome after f page home → ⊥

-- why changes are refused
abbrev pub AreChangesRefused : ℕ → Directory → List Change → BadChanges → Type 0
AreChangesRefused n directory changes Form = AreChanges directory.entries.items changes → ⊥
AreChangesRefused n directory changes (Large f) = HasBadChange IsSmallChange changes f
AreChangesRefused n directory changes (Homes fault) = IsChangeRefused directory.pages n directory.entries.items (entries_then directory changes) fault
AreChangesRefused n directory changes (Moved f) = MovesPage directory.entries.items (entries_then directory changes) f

-- one page comes before another, by file and then by page
abbrev pub PrecedesPage : FilePage → FilePage → Type 0
PrecedesPage p q = (p.file < q.file) ⊎ ((p.file ≡ q.file) × (p.page < q.page))

-- page k begins inside a file
abbrev pub BeginsInside : Option FileInfo → ℕ → Type 0
BeginsInside file k = (info : FileInfo) × (file ≡ Some info) × (4096 * k < info.length)

-- a page begins inside its file before changes and after them
abbrev pub IsKeptPage : Directory → List Change → FilePage → Type 0
IsKeptPage directory changes p = BeginsInside (info_by directory p.file) p.page × BeginsInside (files_after (info_by directory) changes p.file) p.page

abbrev pub AreAllKept : Directory → List Change → List FilePage → Type 0
AreAllKept directory changes list = All (IsKeptPage directory changes) list

-- this page of the list does not
abbrev pub IsNotKept : Directory → List Change → List FilePage → FilePage → Type 0
IsNotKept directory changes list p = (i : ℕ) × (slice_get list i ≡ Some p) × (IsKeptPage directory changes p → ⊥)

-- where file f gets longer and its last page was not full, that page is one of the list
abbrev pub ListsEnd : List FilePage → ℕ → Option FileInfo → Option FileInfo → Type 0
ListsEnd list f before after = (was now : FileInfo) → before ≡ Some was → after ≡ Some now → was.length < now.length → (was.length % 4096 ≡ 0 → ⊥)
    → StandsInList list f (was.length / 4096)

abbrev pub HasEnd : Directory → List Change → List FilePage → ℕ → Type 0
HasEnd directory changes list f = ListsEnd list f (info_by directory f) (files_after (info_by directory) changes f)

-- and so it is of each file
abbrev pub HasAllEnds : Directory → List Change → List FilePage → Type 0
HasAllEnds directory changes list = (f : ℕ) → HasEnd directory changes list f

-- each of these pages is a new one
abbrev pub AreAllNew : Directory → List Change → List FilePage → Type 0
AreAllNew directory changes fresh = All (λ p. IsNewPage (info_by directory) changes p.file p.page) fresh

-- this one of the list is not
abbrev pub IsNotNew : Directory → List Change → List FilePage → FilePage → Type 0
IsNotNew directory changes fresh p = (i : ℕ) × (slice_get fresh i ≡ Some p) × (IsNewPage (info_by directory) changes p.file p.page → ⊥)

-- why pages are refused: new ones or others don't rise; or this one is no new page; or this one no page of its file before and after; or none is the last one of this
-- file, which gets longer; or these are more, with the changed pages of the directory, than slots are free
abbrev pub ArePagesRefused : {D : Type 0} → PoolStore D → List Change → List FilePage → List FilePage → BadPages → Type 0
ArePagesRefused store changes fresh list Order = AllPairs PrecedesPage fresh × AllPairs PrecedesPage list → ⊥
ArePagesRefused store changes fresh list (NotNew p) = IsNotNew store.directory changes fresh p
ArePagesRefused store changes fresh list (Outside p) = IsNotKept store.directory changes list p
ArePagesRefused store changes fresh list (End f) = HasEnd store.directory changes list f → ⊥
ArePagesRefused store changes fresh list TooMany = free_count store.journal.sizes.blocks (entries_of store.journal.map) < length list + length (changed_pages changes store.directory.pages)
