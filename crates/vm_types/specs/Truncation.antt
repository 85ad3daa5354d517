-- truncate: when it is refused, and the files and pages that it leaves. truncate(2): "If the file previously was larger than this size, the extra
-- data is lost. If the file previously was shorter, it is extended, and the extended part reads as null bytes"; the order of the checks is our
-- choice. Lengths are in bytes.
use Rattle.std.specs.Prelude.{ℕ, ◌*◌, ◌/◌, ◌%◌, min, Bool, false, not, ◌==◌, ◌&&◌, ◌||◌, nat_le, nat_lt, if◌then◌else◌, List, [], ◌∷◌, Option, Some, None, is_none, option_map}
use Rattle.vm_types.specs.declared.file.FileInfo.{FileInfo}
use Rattle.vm_types.specs.declared.refusal.Errno.TheVariants.{EBADF, EACCES, EINVAL, EFBIG}
use Rattle.vm_types.specs.declared.region.Backing.{Backing}
use Rattle.vm_types.specs.declared.region.Backing.TheVariants.{Anon, Private, Shared, Common}
use Rattle.vm_types.specs.Checks.{Check}
use Rattle.vm_types.specs.Files.{Files, bytes_inside, cut, is_unwritable}
use Rattle.vm_types.specs.Limits.{longest_file}
use Rattle.vm_types.specs.Ranges.{uncopied}
use Rattle.vm_types.specs.State.{State}
use Rattle.vm_types.specs.View.{Pages, View}

-- the checks of truncate in their order: the file is there, it may be written, files may get other lengths, and it isn't to be longer than a file can
-- be, 2^42 bytes
abbrev pub truncate_checks : State → ℕ → ℕ → List Check
truncate_checks s file length =
    (is_none (s.files file), EBADF)
    ∷ (is_unwritable (s.files file), EACCES)
    ∷ (not s.resizes, EINVAL)
    ∷ (nat_lt longest_file length, EFBIG)
    ∷ []

-- how many bytes a file has, none where there is none
abbrev pub length_in : Option FileInfo → ℕ
length_in None = 0
length_in (Some info) = info.length

-- a file with that length
abbrev pub with_length : ℕ → FileInfo → FileInfo
with_length length info = record { length = length; read_only = info.read_only }

-- the files, one of which has that length
abbrev pub resized_files : Files → ℕ → ℕ → Files
resized_files files file length = λ f. if f == file then option_map (with_length length) (files f) else files f

-- the pages of all files, one of which has zeros from that byte on
abbrev pub cut_from : Pages → ℕ → ℕ → Pages
cut_from pages file end = λ f k. if f == file then cut (bytes_inside end k) (pages f k) else pages f k

-- whether a file of so many bytes ends within that page, and not at its start or end
abbrev pub is_end_page : ℕ → ℕ → Bool
is_end_page length k = not (length % 4096 == 0) && k == length / 4096

-- which pages are touched of a file that had so many bytes and has so many now: those that were and begin before its end, and where it is longer now,
-- the page within which it ended
abbrev pub touched_still : (ℕ → Bool) → ℕ → ℕ → ℕ → Bool
touched_still touched was length k = (touched k && nat_lt (4096 * k) length) || (nat_lt was length && is_end_page was k)

-- whether that is a private page of that file that begins at or past so many bytes
abbrev pub is_cut_off : ℕ → ℕ → Backing → Bool
is_cut_off file length (Private p) = p.file == file && nat_le length (4096 * p.page)
is_cut_off file length (Shared p) = false
is_cut_off file length Anon = false
is_cut_off file length (Common p) = false

-- a page of a process after that: where it is such a page, it has no copy of its own any more
abbrev pub cut_view : ℕ → ℕ → View → View
cut_view file length view = if is_cut_off file length view.attr.backing then uncopied view else view

-- The state in which a file has another length. mmap(2): "The effect of changing the size of the underlying file of a mapping on the pages that
-- correspond to added or removed regions of the file is unspecified". Ours is Linux's: the bytes past the shorter of the two lengths are zeros when
-- they are seen again, and own copies of pages past the new end are gone.
abbrev pub truncated : State → ℕ → ℕ → State
truncated s file length = let was = length_in (s.files file) in record s {
  files = resized_files s.files file length;
  volatile = cut_from s.volatile file (min was length);
  touched = λ f k. if f == file then touched_still (s.touched f) was length k else s.touched f k;
  views = λ pid page. option_map (cut_view file length) (s.views pid page);
  resized = λ f. f == file || s.resized f;
  shortest = λ f. if f == file then min (s.shortest f) length else s.shortest f;
}
