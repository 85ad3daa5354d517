-- Which pages of a file begin at or past a length. truncate(2): what lies past it is lost.
use Rattle.std.specs.Prelude.{ℕ, ◌*◌, Bool, false, ◌==◌, ◌&&◌, nat_le, if◌then◌else◌, Option, Some, None}
use Rattle.vm_types.specs.Ranges.{uncopied}
use Rattle.vm_types.specs.View.{View}
use Rattle.vm_types.specs.declared.file.FilePage.{FilePage}
use Rattle.vm_types.specs.declared.object.PageKey.{PageKey}
use Rattle.vm_types.specs.declared.object.PageKey.TheVariants.{File, Object}
use Rattle.vm_types.specs.declared.region.Attr.{Attr}
use Rattle.vm_types.specs.declared.region.Backing.{Backing}
use Rattle.vm_types.specs.declared.region.Backing.TheVariants.{Anon, Private, Shared, Common}

-- whether a page of a file is one of this file, and begins at or past so many bytes
abbrev pub is_past : ℕ → ℕ → FilePage → Bool
is_past file length p = p.file == file && nat_le length (4096 * p.page)

-- whether a page of a file or an object is such a page of the file
abbrev pub is_past_key : ℕ → ℕ → PageKey → Bool
is_past_key file length (File p) = is_past file length p
is_past_key file length (Object p) = false

-- whether such a page of the file stands behind a page of a process, be it private or shared
abbrev pub stands_past : ℕ → ℕ → Backing → Bool
stands_past file length Anon = false
stands_past file length (Private p) = is_past file length p
stands_past file length (Shared p) = is_past file length p
stands_past file length (Common p) = false

-- whether a page is mapped, and over such a page of the file
abbrev pub is_mapped_past : ℕ → ℕ → Option Attr → Bool
is_mapped_past file length None = false
is_mapped_past file length (Some attr) = stands_past file length attr.backing

-- whether a page of a process is a private one of this file that begins at or past so many bytes
abbrev pub is_cut_off : ℕ → ℕ → Backing → Bool
is_cut_off file length Anon = false
is_cut_off file length (Private p) = p.file == file && nat_le length (4096 * p.page)
is_cut_off file length (Shared p) = false
is_cut_off file length (Common p) = false

-- a page, without its own copy where it is such a page
abbrev pub cut_view : ℕ → ℕ → View → View
cut_view file length view = if is_cut_off file length view.attr.backing then uncopied view else view
