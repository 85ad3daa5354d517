-- What an msync is judged by, and the lists that what it takes is gathered in.
use Rattle.vm_types.specs.declared.mode.Levels as Levels
use Rattle.std.specs.Prelude.{ℕ, ◌+◌, ◌-◌, ◌<◌, ◌≤◌, ◌^◌, ◌≡◌, ◌||◌, ◌&&◌, Bool, true, length, Option}
use Rattle.vm_types.specs.Limits.{file_limit, file_page_limit}
use Rattle.vm_types.specs.declared.file.FilePage.{FilePage}
use Rattle.vm_types.specs.declared.region.{Attr.{Attr}, Backing.{Backing, TheVariants.{Shared}}}
use Rattle.frames.specs.FrameTable.{frame_count}
use Rattle.swap.specs.Slots.{slots_of}
use Rattle.page_cache.specs.CacheTable.{cache_frames, slot_count, is_touched}
use Rattle.page_cache.specs.Gathering.{IsInRow}
use Rattle.page_cache.specs.declared.gathering.FileRow.{FileRow}
use Rattle.residency.specs.declared.kernel.Core.{Core}
use Rattle.residency.specs.Parts.{IsFit}
use Rattle.residency.specs.Picture.{picture_of}
use Rattle.sized_stores.specs.Store.{directory_of, is_resized_in}
use Rattle.msync.specs.Choice.{of_files, in_file_row, shows_behind, is_taken_behind, is_whole, is_chosen, IsNextFile, MayBeChosen}
use Rattle.msync.specs.Shows.{MarksEnds}
use Rattle.msync.specs.declared.{chosen.PageRow.{PageRow}, room.TakenLists.{TakenLists}}

module _ {M : Type 0} {m : Levels.Ghosts M} {D E : Type 0} where
  -- which files have got other lengths
  abbrev pub is_resized_by : Core D E M m → ℕ → Bool
  is_resized_by c file = is_resized_in c.store.sizes.items file

  -- whether an msync of a row of these pages takes a file page
  abbrev pub is_chosen_by : Core D E M m → (ℕ → Option Attr) → PageRow → FilePage → Bool
  is_chosen_by c map row page = is_chosen (of_files (is_touched c.cache)) (is_resized_by c) map row.first (row.end - row.first) page

  -- and whether it takes a file whole
  abbrev pub is_whole_by : Core D E M m → (ℕ → Option Attr) → PageRow → ℕ → Bool
  is_whole_by c map row file = is_whole (is_resized_by c) map row.first (row.end - row.first) file

  -- whether it takes a file page behind count pages, the first of which has this backing
  abbrev pub is_taken_by : Core D E M m → Backing → ℕ → FilePage → Bool
  is_taken_by c first count page = is_taken_behind (of_files (is_touched c.cache)) (is_resized_by c) first count page

  -- An msync may be judged:
  pub record MayJudge (c : Core D E M m) (lists : TakenLists) : Type 0 where
    -- memory is fit, and files that have got other lengths are there, touched where they had been cut off and have got longer again;
    pub fit : IsFit (picture_of c)
    pub ends : MarksEnds (directory_of c.store) (picture_of c).touched
    -- there is a rank for each frame and each slot, and a place for each file.
    pub ranks : frame_count c.frames + (slots_of c.swap).total ≤ length lists.ranks.items
    pub files : length c.store.sizes.items ≤ length lists.files.items

  -- each file that has got another length has a number that a file can have
  abbrev pub AreNumbered : Core D E M m → Type 0
  AreNumbered c = (file : ℕ) → is_resized_by c file ≡ true → file < file_limit

  -- What it takes of a row may be chosen:
  pub record MayChoose (c : Core D E M m) (map : ℕ → Option Attr) (row : PageRow) (lists : TakenLists) : Type 0 where
    -- the row is one of user pages, no touched page is one that no file is long enough for, and files of other lengths have numbers of files;
    pub order : row.first ≤ row.end
    pub pages : MayBeChosen m.mode map (of_files (is_touched c.cache))
    pub numbers : AreNumbered c
    -- there is a rank for each frame and each slot, and a place for each file.
    pub ranks : cache_frames c.cache + slot_count c.cache ≤ length lists.ranks.items
    pub files : length c.store.sizes.items ≤ length lists.files.items

-- A row of a file's pages is what is looked through for those behind count shared pages, the first of which shows this one:
pub record CoversPages (resized : ℕ → Bool) (first : FilePage) (count : ℕ) (row : FileRow) : Type 0 where
  -- its pages have numbers under 2^32,
  pub fits : row.first.page + row.count ≤ 2 ^ 32
  -- each of them stands behind those, or is of the same file, and that has got another length,
  pub within : (page : FilePage) → IsInRow row.first.file row.first.page row.count page
      → (in_file_row first count page || (resized page.file && shows_behind (Shared first) count page.file)) ≡ true
  -- and all such pages that a file is long enough for are in it.
  pub reaches : (page : FilePage) → page.page < file_page_limit → (in_file_row first count page || (resized page.file && shows_behind (Shared first) count page.file)) ≡ true
      → IsInRow row.first.file row.first.page row.count page

-- The lesser of two files, if there are such: where the first is the next one from some number on that passes, this is the next one that passes or
-- that is behind these pages and has got another length.
abbrev pub IsLesser : (ℕ → Bool) → Backing → ℕ → ℕ → Option ℕ → Option ℕ → Type 0
IsLesser resized first count from least lesser = (passes : ℕ → Bool) → IsNextFile passes from least → IsNextFile (λ file. passes file || (resized file && shows_behind first count file)) from lesser
