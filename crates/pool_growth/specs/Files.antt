-- What changes make of the files of a store.
use Rattle.std.specs.Prelude.{ℕ, ◌+◌, ◌-◌, ◌<◌, ◌≤◌, ◌≡◌, List, [], ◌∷◌, length, slice_get, Option, Some, None, nat_lt, if◌then◌else◌}
use Rattle.std.specs.Option.{option_map}
use Rattle.vm_types.specs.{View.{zero_page}, declared.{file.FileInfo.{FileInfo}, file.FilePage.{FilePage}}}
use Rattle.file_store.specs.{Commit.{cut_page}, Layout.{pages_of_length}}
use Rattle.growth.specs.Changes.{change_of}
use Rattle.growth.specs.declared.changes.Change.{Change}
use Rattle.pool_store.specs.Files.{info_of}

-- what is fixed of a file after a change of it, if there is one
abbrev pub info_then : Option Change → Option FileInfo → Option FileInfo
info_then None was = was
info_then (Some c) was = option_map info_of c.entry

-- the files after these changes
abbrev pub files_after : (ℕ → Option FileInfo) → List Change → ℕ → Option FileInfo
files_after files changes f = info_then (change_of changes f) (files f)

-- how many pages a file has
abbrev pub file_page_count : Option FileInfo → ℕ
file_page_count None = 0
file_page_count (Some info) = pages_of_length info.length

-- how many new pages a change brings: those behind the last one that its file had
abbrev pub added : (ℕ → Option FileInfo) → Change → ℕ
added files c = file_page_count (option_map info_of c.entry) - file_page_count (files c.file)

-- and how many all of them bring
abbrev pub added_count : (ℕ → Option FileInfo) → List Change → ℕ
added_count files [] = 0
added_count files (c ∷ cs) = added files c + added_count files cs

-- page k of those that a source gives: the new ones of a list, and then those of another
abbrev pub given_page : List FilePage → List FilePage → ℕ → Option FilePage
given_page fresh list k = if nat_lt k (length fresh) then slice_get fresh k else slice_get list (k - length fresh)

-- its file has this page after changes
abbrev pub HasThen : (ℕ → Option FileInfo) → List Change → FilePage → Type 0
HasThen files changes p = p.page < file_page_count (files_after files changes p.file)

-- page k of file f is a new one: its file has it after changes, and hadn't it before
abbrev pub IsNewPage : (ℕ → Option FileInfo) → List Change → ℕ → ℕ → Type 0
IsNewPage files changes f k = (file_page_count (files f) ≤ k) × (k < file_page_count (files_after files changes f))

-- this page is one of a list
abbrev pub StandsInList : List FilePage → ℕ → ℕ → Type 0
StandsInList list f k = (i : ℕ) × (p : FilePage) × (slice_get list i ≡ Some p) × (p.file ≡ f) × (p.page ≡ k)

-- What a commit of changes of files, of new pages and of pages that were pages before makes of the files' bytes:
pub record ChangesFiles (files : ℕ → Option FileInfo) (changes : List Change) (fresh list : List FilePage) (given : ℕ → List ℕ) (before after : ℕ → ℕ → List ℕ) : Type 0 where
  -- these new pages are as given, with zeros past their files' ends,
  pub added : (i : ℕ) (p : FilePage) → slice_get fresh i ≡ Some p → after p.file p.page ≡ cut_page (files_after files changes p.file) p.page (given i)
  -- each other new one is zeros,
  pub blank : (f k : ℕ) → IsNewPage files changes f k → (StandsInList fresh f k → ⊥) → after f k ≡ zero_page
  -- those of the list are as given behind the new ones, with zeros past their files' new ends,
  pub listed : (i : ℕ) (p : FilePage) → slice_get list i ≡ Some p → after p.file p.page ≡ cut_page (files_after files changes p.file) p.page (given (length fresh + i))
  -- and each other one is what it was, up to its file's new end.
  pub others : (f k : ℕ) → (IsNewPage files changes f k → ⊥) → (StandsInList list f k → ⊥) → after f k ≡ cut_page (files_after files changes f) k (before f k)
