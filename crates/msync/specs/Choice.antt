-- What an msync takes of memory: pages, and the whole of each file of another length that it shows.
use Rattle.std.specs.Prelude.{ℕ, ◌+◌, ◌/◌, ◌<◌, ◌≤◌, ◌≡◌, ◌≢◌, ◌==◌, ◌&&◌, ◌||◌, nat_lt, Bool, true, false, List, [], length, take, get_or, Option, Some, None}
use Rattle.vm_types.specs.Limits.{file_limit, file_page_limit}
use Rattle.vm_types.specs.declared.command.MsyncMode.{MsyncMode}
use Rattle.vm_types.specs.declared.file.FilePage.{FilePage}
use Rattle.vm_types.specs.declared.object.PageKey.{PageKey}
use Rattle.vm_types.specs.declared.object.PageKey.TheVariants.{File}
use Rattle.vm_types.specs.declared.number.SlotNo.{SlotNo}
use Rattle.vm_types.specs.declared.refusal.Errno.TheVariants.{ENOSPC, EIO}
use Rattle.vm_types.specs.declared.region.Attr.{Attr}
use Rattle.vm_types.specs.declared.region.Backing.{Backing}
use Rattle.vm_types.specs.declared.region.Backing.TheVariants.{Anon, Private, Shared, Common}
use Rattle.vm_types.specs.Checks.{page_count}
use Rattle.vm_types.specs.Counting.{any_below}
use Rattle.vm_types.specs.Msync.{msync_ruling, touched_in, resized_in, is_shared_page, is_shared_of}
use Rattle.vm_types.specs.Msync as Flat
use Rattle.vm_types.specs.Rows.{IsUserMap, in_row}
use Rattle.vm_types.specs.State.{State}
use Rattle.page_cache.specs.declared.place.Place.TheVariants.{Slot}
use Rattle.residency.specs.Picture.{Picture}
use Rattle.sized_stores.specs.Commit.{is_one_of}
use Rattle.sized_stores.specs.Store.{is_resized_in}
use Rattle.sized_stores.specs.declared.sizes.Size.{Size}
use Rattle.msync.specs.declared.chosen.{Ruling.{Ruling}, Taken.{Taken}}
use Rattle.msync.specs.declared.chosen.Ruling.TheVariants.{Refuses, Passes, Takes}

-- The first pages of a list, and the numbers of files.
pub record Chosen : Type 0 where
  pub list : List FilePage
  pub count : ℕ
  pub files : List ℕ

abbrev pub chosen_of : List FilePage → ℕ → List ℕ → Chosen
chosen_of list count files = record { list = list; count = count; files = files }

-- as many pages and files of two lists as are taken
abbrev pub chosen_in : List FilePage → List ℕ → Taken → Chosen
chosen_in list files taken = chosen_of list taken.pages (take taken.files files)

-- page 0 of file 0
abbrev pub first_page : FilePage
first_page = record { file = 0; page = 0 }

-- the page at a place of a list
abbrev pub chosen_page : List FilePage → ℕ → FilePage
chosen_page list i = get_or list i first_page

-- whether a file page is one of the count pages of a file from first on
abbrev pub in_file_row : FilePage → ℕ → FilePage → Bool
in_file_row first count page = page.file == first.file && in_row first.page count page.page

-- whether a file page stands behind one of count shared pages, the first of which has this backing
abbrev pub stands_behind : Backing → ℕ → FilePage → Bool
stands_behind Anon count page = false
stands_behind (Private first) count page = false
stands_behind (Shared first) count page = in_file_row first count page
stands_behind (Common first) count page = false

-- whether any of them is a shared page of a file, past its end or not
abbrev pub shows_behind : Backing → ℕ → ℕ → Bool
shows_behind first count file = nat_lt 0 count && is_shared_of first file

-- of pages of files and objects those of files
abbrev pub of_files : (PageKey → Bool) → FilePage → Bool
of_files touched page = touched (File page)

-- of pages of files none that no file is long enough for
abbrev pub AreInFiles : (FilePage → Bool) → Type 0
AreInFiles touched = (page : FilePage) → touched page ≡ true → page.page < file_page_limit

-- Pages may be chosen among these: a process has user pages alone, and no touched page is one that no file is long enough for.
module _ (mode : ℕ) where
  pub record MayBeChosen (map : ℕ → Option Attr) (touched : FilePage → Bool) : Type 0 where
    pub user : IsUserMap mode map
    pub inside : AreInFiles touched

-- whether a page is touched, and stands behind one of these or is of a file that has got another length and of which one of these is a shared page
abbrev pub is_taken_behind : (FilePage → Bool) → (ℕ → Bool) → Backing → ℕ → FilePage → Bool
is_taken_behind touched resized first count page = touched page && (stands_behind first count page || (resized page.file && shows_behind first count page.file))

-- whether a page with this attribute, if any, shares the file page
abbrev pub shares_page : Option Attr → FilePage → Bool
shares_page None page = false
shares_page (Some attr) page = is_shared_page attr.backing page.file page.page

-- or is a shared page of the file
abbrev pub shares_file : Option Attr → ℕ → Bool
shares_file None file = false
shares_file (Some attr) file = is_shared_of attr.backing file

-- whether a page of the row of count pages from first on shares a file page
abbrev pub is_shared_in : (ℕ → Option Attr) → ℕ → ℕ → FilePage → Bool
is_shared_in map first count page = any_below (λ i. shares_page (map (first + i)) page) count

-- whether a file has got another length, and a page of the row is a shared page of it: an msync of the row takes it whole
abbrev pub is_whole : (ℕ → Bool) → (ℕ → Option Attr) → ℕ → ℕ → ℕ → Bool
is_whole resized map first count file = resized file && any_below (λ i. shares_file (map (first + i)) file) count

-- whether a file page is touched and shared by the row, or of a file that is taken whole: what an msync of the row takes
abbrev pub is_chosen : (FilePage → Bool) → (ℕ → Bool) → (ℕ → Option Attr) → ℕ → ℕ → FilePage → Bool
is_chosen touched resized map first count page = touched page && (is_shared_in map first count page || is_whole resized map first count page.file)

-- After the first used places of a list, which is as long as it was, stand the file pages that pass and aren't among those, each once.
pub record Appends (passes : FilePage → Bool) (old new : List FilePage) (used now : ℕ) : Type 0 where
  pub size : length new ≡ length old
  pub order : used ≤ now
  pub few : now ≤ length old
  pub kept : (i : ℕ) → i < used → chosen_page new i ≡ chosen_page old i
  pub each : (i : ℕ) → used ≤ i → i < now → passes (chosen_page new i) ≡ true
  pub once : (i j : ℕ) → i < j → used ≤ j → j < now → chosen_page new i ≢ chosen_page new j
  pub all : (page : FilePage) → passes page ≡ true → (i : ℕ) × (i < now) × (chosen_page new i ≡ page)

-- That would be more than the list has places: here is one such page more, those of the first used places included.
pub record OverflowsRow (passes : FilePage → Bool) (old : List FilePage) (used : ℕ) : Type 0 where
  pub at : ℕ → FilePage
  pub kept : (i : ℕ) → i < used → at i ≡ chosen_page old i
  pub each : (i : ℕ) → used ≤ i → i ≤ length old → passes (at i) ≡ true
  pub once : (i j : ℕ) → i < j → used ≤ j → j ≤ length old → at i ≢ at j

-- The file pages in the list are those that pass, each once.
pub record ListsTouched (passes : FilePage → Bool) (list : List FilePage) (count : ℕ) : Type 0 where
  pub each : (i : ℕ) → i < count → passes (chosen_page list i) ≡ true
  pub once : (i j : ℕ) → i < j → j < count → chosen_page list i ≢ chosen_page list j
  pub all : (page : FilePage) → passes page ≡ true → (i : ℕ) × (i < count) × (chosen_page list i ≡ page)

-- The first files of the list are those that pass, by rising numbers.
pub record ListsFiles (passes : ℕ → Bool) (list : List ℕ) (count : ℕ) : Type 0 where
  pub each : (i : ℕ) → i < count → passes (get_or list i 0) ≡ true
  pub rising : (i j : ℕ) → i < j → j < count → get_or list i 0 < get_or list j 0
  pub all : (file : ℕ) → passes file ≡ true → (i : ℕ) × (i < count) × (get_or list i 0 ≡ file)

-- this is the least file from some number on that passes, or none does
abbrev pub IsNextFile : (ℕ → Bool) → ℕ → Option ℕ → Type 0
IsNextFile passes from None = (file : ℕ) → from ≤ file → passes file ≡ false
IsNextFile passes from (Some next) = (from ≤ next) × (passes next ≡ true) × ((file : ℕ) → from ≤ file → file < next → passes file ≡ false)

-- What a row takes, the pages and the files that pass, stands at the front of two lists: one page or one file at least.
pub record ListsTaken (passes : FilePage → Bool) (whole : ℕ → Bool) (list : List FilePage) (files : List ℕ) (taken : Taken) : Type 0 where
  pub some : 0 < taken.pages + taken.files
  pub few : taken.pages ≤ length list
  pub short : taken.files ≤ length files
  pub pages : ListsTouched passes list taken.pages
  pub lengths : ListsFiles whole files taken.files

-- what is found of a row: more pages that pass than the list has places; neither pages nor files; or all that pass, in the lists
abbrev pub IsRulingOn : (FilePage → Bool) → (ℕ → Bool) → List FilePage → List ℕ → Ruling → Type 0
IsRulingOn passes whole list files (Refuses errno) = (errno ≡ ENOSPC) × OverflowsRow passes list 0
IsRulingOn passes whole list files Passes = ListsTouched passes [] 0 × ((file : ℕ) → whole file ≡ false)
IsRulingOn passes whole list files (Takes taken) = ListsTaken passes whole list files taken

-- what is taken is what the flat model takes
pub record TakesSame (s : State) (pid addr len : ℕ) (mode : MsyncMode) (chosen : Chosen) : Type 0 where
  pub first : ℕ
  pub count : ℕ
  pub ruling : msync_ruling s pid addr len mode ≡ Flat.Takes pid first count
  pub lists : ListsTouched (λ page. touched_in s pid first count page.file page.page) chosen.list chosen.count
  pub files : (file : ℕ) → is_one_of chosen.files file ≡ resized_in s pid first count file

-- the ruling of the flat model
abbrev pub RulesSame : State → ℕ → ℕ → ℕ → MsyncMode → List FilePage → List ℕ → Ruling → Type 0
RulesSame s pid addr len mode list files (Refuses errno) = msync_ruling s pid addr len mode ≡ Flat.Refuses errno
RulesSame s pid addr len mode list files Passes = msync_ruling s pid addr len mode ≡ Flat.Passes
RulesSame s pid addr len mode list files (Takes taken) = TakesSame s pid addr len mode (chosen_in list files taken)

-- What a commit may take of memory: one page or one file at least;
module _ {mode : ℕ} where
  pub record IsListed (c : Picture mode) (resized : ℕ → Bool) (chosen : Chosen) : Type 0 where
    pub some : 0 < chosen.count + length chosen.files
    -- the pages are touched, and each stands in the list once,
    pub few : chosen.count ≤ length chosen.list
    pub touched : (i : ℕ) → i < chosen.count → c.touched (File (chosen_page chosen.list i)) ≡ true
    pub once : (i j : ℕ) → i < j → j < chosen.count → chosen_page chosen.list i ≢ chosen_page chosen.list j
    -- the files have got other lengths, and their numbers rise,
    pub lengths : (i : ℕ) → i < length chosen.files → resized (get_or chosen.files i 0) ≡ true
    pub rising : (i j : ℕ) → i < j → j < length chosen.files → get_or chosen.files i 0 < get_or chosen.files j 0
    -- each touched page of these is in the list, and none of a further file that has got another length.
    pub whole : (page : FilePage) → is_one_of chosen.files page.file ≡ true → c.touched (File page) ≡ true → (i : ℕ) × (i < chosen.count) × (chosen_page chosen.list i ≡ page)
    pub others : (i : ℕ) → i < chosen.count → is_one_of chosen.files (chosen_page chosen.list i).file ≡ false → resized (chosen_page chosen.list i).file ≡ false

-- what is taken stands in the lists
module _ {mode : ℕ} where
  abbrev pub AreListed : Picture mode → (ℕ → Bool) → List FilePage → List ℕ → Ruling → Type 0
  AreListed c resized list files (Refuses errno) = Unit {0}
  AreListed c resized list files Passes = Unit {0}
  AreListed c resized list files (Takes taken) = (taken.files ≤ length files) × IsListed c resized (chosen_in list files taken)

-- a refusal that doesn't come from the store's device
abbrev pub IsNoDeviceFault : Ruling → Type 0
IsNoDeviceFault (Refuses errno) = errno ≢ EIO
IsNoDeviceFault Passes = Unit {0}
IsNoDeviceFault (Takes taken) = Unit {0}

module _ {mode : ℕ} where
  -- whether an msync of these bytes takes the file whole: it has got another length, and one of their pages is a shared page of it
  abbrev pub takes_file : Picture mode → List Size → ℕ → ℕ → ℕ → ℕ → Bool
  takes_file c sizes pid addr len file = is_whole (is_resized_in sizes) (c.at pid) (addr / 4096) (page_count len) file

  -- whether it takes some file so
  abbrev pub takes_files : Picture mode → List Size → ℕ → ℕ → ℕ → Bool
  takes_files c sizes pid addr len = any_below (takes_file c sizes pid addr len) file_limit

  -- whether it takes the file page: it is touched, and stands behind a shared page of them, or is of a file that is taken whole
  abbrev pub takes_page : Picture mode → List Size → ℕ → ℕ → ℕ → FilePage → Bool
  takes_page c sizes pid addr len page = is_chosen (of_files c.touched) (is_resized_in sizes) (c.at pid) (addr / 4096) (page_count len) page

  -- Pages and files are those that an msync of these bytes takes: each page once, and the files by rising numbers.
  pub record AreThoseTaken (c : Picture mode) (sizes : List Size) (pid addr len : ℕ) (chosen : Chosen) : Type 0 where
    pub pages : ListsTouched (takes_page c sizes pid addr len) chosen.list chosen.count
    pub files : (file : ℕ) → is_one_of chosen.files file ≡ takes_file c sizes pid addr len file
    pub rising : (i j : ℕ) → i < j → j < length chosen.files → get_or chosen.files i 0 < get_or chosen.files j 0

  abbrev pub AreTaken : Picture mode → List Size → ℕ → ℕ → ℕ → List FilePage → List ℕ → Ruling → Type 0
  AreTaken c sizes pid addr len list files (Refuses errno) = Unit {0}
  AreTaken c sizes pid addr len list files Passes = Unit {0}
  AreTaken c sizes pid addr len list files (Takes taken) = AreThoseTaken c sizes pid addr len (chosen_in list files taken)

  -- a page that it takes lies in a slot
  pub record TakesAway (c : Picture mode) (sizes : List Size) (pid addr len : ℕ) : Type 0 where
    pub page : FilePage
    pub slot : SlotNo
    pub taken : takes_page c sizes pid addr len page ≡ true
    pub placed : c.place (File page) ≡ Slot slot

-- a page of the commit lies in a slot
module _ {mode : ℕ} where
  pub record IsAway (c : Picture mode) (chosen : Chosen) : Type 0 where
    pub number : ℕ
    pub below : number < chosen.count
    pub slot : SlotNo
    pub placed : c.place (File (chosen_page chosen.list number)) ≡ Slot slot
