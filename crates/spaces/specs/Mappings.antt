-- The checks of an mmap, by what they ask: the numbers and files first, then the pages of the process.
use Rattle.std.specs.Prelude.{ℕ, false, ◌+◌, ◌/◌, ◌%◌, ◌<◌, ◌≤◌, ◌≡◌, ◌^◌, ◌==◌, ◌&&◌, not, nat_lt, Bool, List, [], ◌∷◌, Option, Some, None, is_none}
use Rattle.vm_types.specs.Limits.{user_end}
use Rattle.regions.specs.declared.run.Run.{Run}
use Rattle.regions.specs.RunList.{attr_at}
use Rattle.residency.specs.Parts.{IsFit}
use Rattle.residency.specs.Picture.{Picture}
use Rattle.vm_types.specs.declared.command.MapSource.{MapSource}
use Rattle.vm_types.specs.declared.command.MapSource.TheVariants.{Anon, Private, Shared, Common}
use Rattle.vm_types.specs.declared.command.Placing.{Placing}
use Rattle.vm_types.specs.declared.permission.Prot.{Prot}
use Rattle.vm_types.specs.declared.region.Attr.{Attr}
use Rattle.vm_types.specs.declared.refusal.Errno.TheVariants.{EBADF, ENOMEM, EACCES, EEXIST, EINVAL, EOVERFLOW}
use Rattle.vm_types.specs.Checks.{Check, first_of, page_count}
use Rattle.vm_types.specs.Files.{Files}
use Rattle.vm_types.specs.Mapping.{is_odd_address, is_odd_offset, lacks_file, denies_write, passes_end, is_unwritable, is_taken, first_attr, place_for}
use Rattle.vm_types.specs.Objects.{Maps, free_object}
use Rattle.vm_types.specs.Rows.{IsUserMap, replaced}
use Rattle.vm_types.specs.Runs.{run_count}
use Rattle.vm_types.specs.View.{View, attrs_of}
use Rattle.ranges.specs.Rows.{without_maps}
use Rattle.spaces.specs.Space.{space_of}

-- those that ask for no page
abbrev pub mmap_asked_checks : Files → ℕ → ℕ → Prot → MapSource → Placing → List Check
mmap_asked_checks files addr len prot source placing =
    (len == 0, EINVAL)
    ∷ (is_odd_address placing addr, EINVAL)
    ∷ (is_odd_offset source, EINVAL)
    ∷ (lacks_file files source, EBADF)
    ∷ (denies_write files source prot, EACCES)
    ∷ (passes_end source (page_count len), EOVERFLOW)
    ∷ []

-- of those, what is asked of a file; writes: whether stores that reach the file are asked for
abbrev pub file_checks : Files → ℕ → ℕ → ℕ → Bool → List Check
file_checks files file offset len writes =
    (not (offset % 4096 == 0), EINVAL)
    ∷ (is_none (files file), EBADF)
    ∷ (writes && is_unwritable (files file), EACCES)
    ∷ (nat_lt (2 ^ 32) (offset / 4096 + page_count len), EOVERFLOW)
    ∷ []

-- the first page of a mapping of so many pages there, by what the pages of all processes are
abbrev pub attr_there : Maps → ℕ → ℕ → MapSource → Prot → ℕ → Attr
attr_there at pid pages source prot first = first_attr source prot (free_object (without_maps at pid first pages))

-- more than 256 runs would result; attr: what the first page would be at that place
module _ (mode : ℕ) where
  abbrev pub passes_runs : (ℕ → Option View) → ℕ → (ℕ → Attr) → Option ℕ → Bool
  passes_runs space pages attr None = false
  passes_runs space pages attr (Some first) = nat_lt 256 (run_count mode (replaced (attrs_of space) first pages (attr first)))

-- those that ask for the place
module _ (mode : ℕ) where
  abbrev pub place_checks : Placing → (ℕ → Option View) → ℕ → (ℕ → Attr) → Option ℕ → List Check
  place_checks placing space pages attr place =
      (is_none place, ENOMEM)
      ∷ (is_taken placing space pages place, EEXIST)
      ∷ (passes_runs mode space pages attr place, ENOMEM)
      ∷ []

-- the numbers of a file and of its page fit into a file page's
abbrev pub IsNumbered : MapSource → Type 0
IsNumbered Anon = Unit {0}
IsNumbered Common = Unit {0}
IsNumbered (Private file offset) = (file < 2 ^ 16) × (offset / 4096 < 2 ^ 32)
IsNumbered (Shared file offset) = (file < 2 ^ 16) × (offset / 4096 < 2 ^ 32)

-- so many pages of a file are all under 2 ^ 32
abbrev pub FitsFile : MapSource → ℕ → Type 0
FitsFile Anon pages = Unit {0}
FitsFile Common pages = Unit {0}
FitsFile (Private file offset) pages = offset / 4096 + pages ≤ 2 ^ 32
FitsFile (Shared file offset) pages = offset / 4096 + pages ≤ 2 ^ 32

-- where none of the first holds: some pages, and a row of file pages where a file is named
pub record IsAsked (len : ℕ) (source : MapSource) : Type 0 where
  pub some : 0 < len
  pub numbered : IsNumbered source
  pub fits : FitsFile source (page_count len)

-- Pages that may be mapped where there is a place for them:
module _ {mode : ℕ} where
  pub record IsMappable (c : Picture mode) (source : MapSource) (pages : ℕ) : Type 0 where
    -- memory is fit,
    pub fit : IsFit c
    -- there are some pages, and no more than addresses reach,
    pub some : 0 < pages
    pub few : pages ≤ 2 ^ 52
    -- and where a file is named they are pages that a file can have.
    pub numbered : IsNumbered source
    pub fits : FitsFile source pages

-- memory is fit, and these are user pages
module _ {mode : ℕ} where
  pub record IsFitRow (c : Picture mode) (first pages : ℕ) : Type 0 where
    pub fit : IsFit c
    pub row : first + pages ≤ user_end mode

-- A mapping that is not refused: its place, and the runs of the process with it; attr: what the first page is at that place.
module _ (mode : ℕ) where
  pub record MapsPages (runs : List Run) (addr pages : ℕ) (attr : ℕ → Attr) (placing : Placing) (first : ℕ) (next : List Run) : Type 0 where
    pub place : place_for mode placing (space_of runs) addr pages ≡ Some first
    pub fine : first_of (place_checks mode placing (space_of runs) pages attr (Some first)) ≡ None
    pub high : first + pages ≤ user_end mode
    pub map : (page : ℕ) → attr_at next page ≡ replaced (attr_at runs) first pages (attr first) page
    pub user : IsUserMap mode (attr_at next)
