-- msync: what it is asked for, when it is refused, and what it makes durable, all at once.
-- msync(2); Park, Kelly and Shen, Failure-Atomic msync, EuroSys 2013.
use Rattle.std.specs.Prelude.{ℕ, ◌+◌, ◌/◌, ◌%◌, Bool, false, not, ◌==◌, ◌&&◌, ◌||◌, nat_lt, if◌then◌else◌, [], ◌∷◌, Option, Some, None}
use Rattle.vm_types.specs.Limits.{file_limit, file_page_limit}
use Rattle.vm_types.specs.declared.command.MsyncMode.{MsyncMode}
use Rattle.vm_types.specs.declared.command.MsyncMode.TheVariants.{Sync, Async}
use Rattle.vm_types.specs.declared.refusal.Errno.{Errno}
use Rattle.vm_types.specs.declared.refusal.Errno.TheVariants.{ESRCH, ENOMEM, EINVAL, ENOSPC}
use Rattle.vm_types.specs.declared.region.Backing.{Backing}
use Rattle.vm_types.specs.declared.region.Backing.TheVariants.{Anon, Private, Shared, Common}
use Rattle.vm_types.specs.Checks.{first_of, pages_from}
use Rattle.vm_types.specs.Counting.{any_below, count_below, sum_below}
use Rattle.vm_types.specs.Files.{Files, trimmed, Contents}
use Rattle.vm_types.specs.Rows.{is_covered}
use Rattle.vm_types.specs.State.{State}
use Rattle.vm_types.specs.Truncation.{length_in}
use Rattle.vm_types.specs.View.{Pages, View, attrs_of}

-- whether that is this shared file page
abbrev pub is_shared_page : Backing → ℕ → ℕ → Bool
is_shared_page (Shared p) file page = p.file == file && p.page == page
is_shared_page (Private p) file page = false
is_shared_page Anon file page = false
is_shared_page (Common p) file page = false

-- whether that is a shared page of that file, past its end or not
abbrev pub is_shared_of : Backing → ℕ → Bool
is_shared_of (Shared p) file = p.file == file
is_shared_of (Private p) file = false
is_shared_of Anon file = false
is_shared_of (Common p) file = false

-- whether a page of a process is a shared page of that file page
abbrev pub shares : Option View → ℕ → ℕ → Bool
shares None file page = false
shares (Some view) file page = is_shared_page view.attr.backing file page

-- whether a page of a process is a shared page of that file
abbrev pub shows_file : Option View → ℕ → Bool
shows_file None file = false
shows_file (Some view) file = is_shared_of view.attr.backing file

-- whether a file has got another length, and one of these pages of a process is a shared page of it
abbrev pub resized_in : State → ℕ → ℕ → ℕ → ℕ → Bool
resized_in s pid first count file = s.resized file && any_below (λ i. shows_file (s.views pid (first + i)) file) count

-- whether that is so of some file
unfoldable pub shows_resized : State → ℕ → ℕ → ℕ → Bool
shows_resized s pid first count = any_below (resized_in s pid first count) file_limit

-- whether a file page is touched, and stands behind a shared page of these pages of a process, or is of a file of another length that they show
abbrev pub touched_in : State → ℕ → ℕ → ℕ → ℕ → ℕ → Bool
touched_in s pid first count file page =
    s.touched file page && (any_below (λ i. shares (s.views pid (first + i)) file page) count || resized_in s pid first count file)

-- how many file pages those are, of all files that there may be
unfoldable pub touched_count : State → ℕ → ℕ → ℕ → ℕ
touched_count s pid first count = sum_below (λ file. count_below (touched_in s pid first count file) file_page_limit) file_limit

-- How an msync is judged: refused, done without making anything durable, or taking the touched pages of a row, and the whole of each file of another
-- length that the row shows.
pub data Ruling : Type 0 where
  Refuses : Errno → Ruling
  Passes : Ruling
  Takes : ℕ → ℕ → ℕ → Ruling

-- refused by this check, or else judged further
abbrev pub or_else : Option Errno → Ruling → Ruling
or_else (Some errno) rest = Refuses errno
or_else None rest = rest

-- a row whose pages are all mapped
abbrev pub row_ruling : State → ℕ → ℕ → ℕ → MsyncMode → Ruling
row_ruling s pid first count Async = Passes
row_ruling s pid first count Sync =
    let n = touched_count s pid first count in
    if nat_lt s.most n then Refuses ENOSPC else (if n == 0 && not (shows_resized s pid first count) then Passes else Takes pid first count)

-- the checks in their order
abbrev pub msync_ruling : State → ℕ → ℕ → ℕ → MsyncMode → Ruling
msync_ruling s pid addr len mode =
    or_else (first_of ((not (s.live pid), ESRCH) ∷ (not (addr % 4096 == 0), EINVAL) ∷ []))
    (if len == 0 then Passes
    else (let count = pages_from addr len in
    or_else (first_of ((not (is_covered (attrs_of (s.views pid)) (addr / 4096) count), ENOMEM) ∷ []))
    (row_ruling s pid (addr / 4096) count mode)))

-- whether a row makes a file page durable: it is a touched one that the row takes, or any one of a file of another length that the row shows
abbrev pub is_taken : State → ℕ → ℕ → ℕ → ℕ → ℕ → Bool
is_taken s pid first count file page = touched_in s pid first count file page || resized_in s pid first count file

-- pages as they were, but those that a row makes durable as the mappings see them, with zeros past the end of a file
abbrev pub committed_pages : State → ℕ → ℕ → ℕ → Pages → Pages
committed_pages s pid first count before =
    λ file page. if is_taken s pid first count file page then trimmed s.files file page (s.volatile file page) else before file page

-- files as they were, but those of another length that a row shows as they are now
abbrev pub committed_files : State → ℕ → ℕ → ℕ → Files → Files
committed_files s pid first count before = λ file. if resized_in s pid first count file then s.files file else before file

-- files and pages together
abbrev pub committed : State → ℕ → ℕ → ℕ → Contents → Contents
committed s pid first count before = record { files = committed_files s pid first count before.files; pages = committed_pages s pid first count before.pages }

-- the pages as the mappings see them, those touched that a row takes with zeros past the end of a file
abbrev pub trimmed_pages : State → ℕ → ℕ → ℕ → Pages
trimmed_pages s pid first count =
    λ file page. if touched_in s pid first count file page then trimmed s.files file page (s.volatile file page) else s.volatile file page

-- the state after a row was made durable
abbrev pub synced : State → ℕ → ℕ → ℕ → State
synced s pid first count = record s {
  durable = committed s pid first count s.durable;
  volatile = trimmed_pages s pid first count;
  touched = λ file page. s.touched file page && not (touched_in s pid first count file page);
  resized = λ file. s.resized file && not (resized_in s pid first count file);
  shortest = λ file. if resized_in s pid first count file then length_in (s.files file) else s.shortest file;
}
