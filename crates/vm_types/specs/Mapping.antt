-- mmap: its checks in their order, and the pages that it leaves. mmap(2): MAP_FIXED, MAP_FIXED_NOREPLACE.
use Rattle.std.specs.Prelude.{ℕ, ◌≡◌, refl, ◌+◌, ◌-◌, ◌/◌, ◌%◌, ◌^◌, Bool, true, false, not, ◌==◌, ◌&&◌, nat_lt, if◌then◌else◌, List, [], ◌∷◌, Option, Some, None, is_none}
use Rattle.vm_types.specs.declared.command.MapSource.{MapSource}
use Rattle.vm_types.specs.declared.command.MapSource.TheVariants.{Anon, Private, Shared, Common}
use Rattle.vm_types.specs.declared.command.Placing.{Placing}
use Rattle.vm_types.specs.declared.command.Placing.TheVariants.{Hint, Fixed, NoReplace}
use Rattle.vm_types.specs.declared.permission.Prot.{Prot}
use Rattle.vm_types.specs.declared.refusal.Errno.{Errno}
use Rattle.vm_types.specs.declared.refusal.Errno.TheVariants.{ESRCH, EBADF, ENOMEM, EACCES, EEXIST, EINVAL, EOVERFLOW}
use Rattle.vm_types.specs.declared.region.Attr.{Attr}
use Rattle.vm_types.specs.declared.region.Backing.{Backing}
use Rattle.vm_types.specs.declared.region.Backing.TheVariants as Backings
use Rattle.vm_types.specs.Attributes.{attr_after}
use Rattle.vm_types.specs.Checks.{Check, first_of, page_count}
pub use Rattle.vm_types.specs.Files.{is_unwritable}
use Rattle.vm_types.specs.Files.{Files}
use Rattle.vm_types.specs.Permission.{can_write, kept, with_bits}
use Rattle.vm_types.specs.Objects.{maps_of, free_object}
use Rattle.vm_types.specs.Placement.{placed, fixed_place, is_free}
use Rattle.vm_types.specs.Ranges.{without_row}
use Rattle.vm_types.specs.Rows.{in_row, replaced}
use Rattle.vm_types.specs.Runs.{run_count}
use Rattle.vm_types.specs.State.{State}
use Rattle.vm_types.specs.View.{View, attrs_of}

-- whether the address is one that the mapping must have
abbrev pub is_exact : Placing → Bool
is_exact Hint = false
is_exact Fixed = true
is_exact NoReplace = true

-- an address that the mapping must have is no multiple of the page size
abbrev pub is_odd_address : Placing → ℕ → Bool
is_odd_address placing addr = is_exact placing && not (addr % 4096 == 0)

-- the offset in the file is no multiple of the page size
abbrev pub is_odd_offset : MapSource → Bool
is_odd_offset Anon = false
is_odd_offset Common = false
is_odd_offset (Private file offset) = not (offset % 4096 == 0)
is_odd_offset (Shared file offset) = not (offset % 4096 == 0)

-- there is no such file
abbrev pub lacks_file : Files → MapSource → Bool
lacks_file files Anon = false
lacks_file files Common = false
lacks_file files (Private file offset) = is_none (files file)
lacks_file files (Shared file offset) = is_none (files file)

-- stores to a file that may only be read are asked for; a private mapping's stores never reach its file
abbrev pub denies_write : Files → MapSource → Prot → Bool
denies_write files Anon prot = false
denies_write files Common prot = false
denies_write files (Private file offset) prot = false
denies_write files (Shared file offset) prot = can_write prot && is_unwritable (files file)

-- the mapping would pass the last page that a file can have
abbrev pub passes_end : MapSource → ℕ → Bool
passes_end Anon pages = false
passes_end Common pages = false
passes_end (Private file offset) pages = nat_lt (2 ^ 32) (offset / 4096 + pages)
passes_end (Shared file offset) pages = nat_lt (2 ^ 32) (offset / 4096 + pages)

-- what stands behind the first page of the mapping, where the new object would have that number
abbrev pub first_backing : MapSource → ℕ → Backing
first_backing Anon object = Backings.Anon
first_backing (Private file offset) object = Backings.Private (record { file = file; page = offset / 4096 })
first_backing (Shared file offset) object = Backings.Shared (record { file = file; page = offset / 4096 })
first_backing Common object = Backings.Common (record { object = object; page = 0 })

-- the first page of the mapping
abbrev pub first_attr : MapSource → Prot → ℕ → Attr
first_attr source prot object = record { prot = kept prot; backing = first_backing source object }

-- the number of a new object for a mapping there: the least that no page names once the row is taken out
abbrev pub new_object : State → ℕ → ℕ → ℕ → ℕ
new_object s pid first pages = free_object (maps_of (without_row s pid first pages).views)

abbrev pub attr_for : State → ℕ → ℕ → ℕ → MapSource → Prot → Attr
attr_for s pid first pages source prot = first_attr source prot (new_object s pid first pages)

-- a page of the place is mapped, and may not be replaced
abbrev pub is_taken : Placing → (ℕ → Option View) → ℕ → Option ℕ → Bool
is_taken Hint space pages place = false
is_taken Fixed space pages place = false
is_taken NoReplace space pages None = false
is_taken NoReplace space pages (Some first) = not (is_free (attrs_of space) first pages)

-- more than 256 runs would result
abbrev pub has_too_many_runs : State → ℕ → ℕ → MapSource → Prot → Option ℕ → Bool
has_too_many_runs s pid pages source prot None = false
has_too_many_runs s pid pages source prot (Some first) =
    nat_lt 256 (run_count s.mode (replaced (attrs_of (s.views pid)) first pages (attr_for s pid first pages source prot)))

-- the checks in their order
abbrev pub mmap_checks : State → ℕ → ℕ → ℕ → Prot → MapSource → Placing → Option ℕ → List Check
mmap_checks s pid addr len prot source placing place =
    (not (s.live pid), ESRCH)
    ∷ (len == 0, EINVAL)
    ∷ (is_odd_address placing addr, EINVAL)
    ∷ (is_odd_offset source, EINVAL)
    ∷ (lacks_file s.files source, EBADF)
    ∷ (denies_write s.files source prot, EACCES)
    ∷ (passes_end source (page_count len), EOVERFLOW)
    ∷ (is_none place, ENOMEM)
    ∷ (is_taken placing (s.views pid) (page_count len) place, EEXIST)
    ∷ (has_too_many_runs s pid (page_count len) source prot place, ENOMEM)
    ∷ []

-- where a mapping of so many pages goes
abbrev pub place_for : ℕ → Placing → (ℕ → Option View) → ℕ → ℕ → Option ℕ
place_for mode Hint space addr pages = placed mode (attrs_of space) addr pages
place_for mode Fixed space addr pages = fixed_place mode addr pages
place_for mode NoReplace space addr pages = fixed_place mode addr pages

abbrev pub mmap_place : State → ℕ → ℕ → ℕ → Placing → Option ℕ
mmap_place s pid addr len placing = place_for s.mode placing (s.views pid) addr (page_count len)

-- why an mmap is refused, if it is
abbrev pub mmap_errno : State → ℕ → ℕ → ℕ → Prot → MapSource → Placing → Option Errno
mmap_errno s pid addr len prot source placing =
    first_of (mmap_checks s pid addr len prot source placing (mmap_place s pid addr len placing))

-- the pages of the row are new ones without own copies, the pages of the file or object rising from the first one's
abbrev pub mapped : (ℕ → Option View) → ℕ → ℕ → Attr → ℕ → Option View
mapped space first pages attr page =
    if in_row first pages page then Some (record { attr = attr_after attr (page - first); own = None }) else space page

-- the state with such a row in one process, once what was there is taken out, objects that no page names any more with it
abbrev pub with_mapping : State → ℕ → ℕ → ℕ → Attr → State
with_mapping s pid first pages attr = record (without_row s pid first pages) {
  views = λ p. if p == pid then mapped (s.views pid) first pages attr else s.views p;
}

-- the last page that a file can have is number 2 ^ 32 - 1, whoever sees the stores
pub private_past_the_end : passes_end (Private 0 0x100000000000) 1 ≡ true
private_past_the_end = refl

pub last_page_of_a_file : passes_end (Private 0 0xffffffff000) 1 ≡ false
last_page_of_a_file = refl

-- a file that may only be read, to be written: refused where the stores would reach it
pub shared_of_a_read_only_file : denies_write (λ f. Some (record { length = 4096; read_only = true })) (Shared 0 0) (with_bits 3) ≡ true
shared_of_a_read_only_file = refl

pub private_of_a_read_only_file : denies_write (λ f. Some (record { length = 4096; read_only = true })) (Private 0 0) (with_bits 3) ≡ false
private_of_a_read_only_file = refl
