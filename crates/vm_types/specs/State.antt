-- The flat model: processes as maps of pages, files as rows of pages, and objects. No frames, tables, slots or journal.
use Rattle.std.specs.Prelude.{ℕ, ◌==◌, ◌&&◌, if◌then◌else◌, Bool, List, [], ◌∷◌, Option, Some, None, ◌≡◌}
use Rattle.vm_types.specs.Files.{Files, Contents, bytes_inside, cut}
use Rattle.vm_types.specs.History.{Past}
use Rattle.vm_types.specs.declared.region.Backing.{Backing}
use Rattle.vm_types.specs.declared.region.Backing.TheVariants.{Anon, Private, Shared, Common}
use Rattle.vm_types.specs.View.{Pages, Objects, View, zero_page}

-- Between two commands.
pub record State : Type 0 where
  -- the mode of its address spaces, which never changes: 39 for Sv39, else Sv48
  pub mode : ℕ
  -- which process numbers live
  pub live : ℕ → Bool
  -- the mapped pages of each process: process, page number
  pub views : ℕ → ℕ → Option View
  -- the files as processes see them, whether they may get other lengths, and which have got another one since theirs was made durable
  pub files : Files
  pub resizes : Bool
  pub resized : ℕ → Bool
  -- how short each file has been since then, in bytes: what it had from there on is lost, and zeros stand there until it is stored to again
  pub shortest : ℕ → ℕ
  -- the most touched pages that one msync makes durable
  pub most : ℕ
  -- the bytes of each file page that all mappings see
  pub volatile : Pages
  -- what of the files outlives a stop
  pub durable : Contents
  -- the file pages stored to through a shared mapping and not made durable since: file, page
  pub touched : ℕ → ℕ → Bool
  -- the pages of shared anonymous memory that were stored to and that a process still has: object, page
  pub objects : Objects
  -- the last faults of accesses, oldest first, each with its process
  pub past : Past
  -- none while the machine runs; once it has halted, the contents that a stop may leave
  pub ends : Option (List Contents)

abbrev pub IsRunning : State → Type 0
IsRunning s = s.ends ≡ None

-- the machine halts, with the files as they were or as a commit would leave them
abbrev pub halted : State → Contents → State
halted s after = record s { ends = Some (s.durable ∷ after ∷ []) }

-- what is kept of a file page that isn't touched: as it is durable, with zeros from where its file was cut off since
abbrev pub home_page : State → ℕ → ℕ → List ℕ
home_page s file page = cut (bytes_inside (s.shortest file) page) (s.durable.pages file page)

-- a page's bytes, or zeros where it has none
abbrev pub or_zeros : Option (List ℕ) → List ℕ
or_zeros None = zero_page
or_zeros (Some bytes) = bytes

-- what stands behind a page
abbrev pub behind : State → Backing → List ℕ
behind s Anon = zero_page
behind s (Private p) = s.volatile p.file p.page
behind s (Shared p) = s.volatile p.file p.page
behind s (Common p) = or_zeros (s.objects p.object p.page)

-- a page's own copy, where there is one, or else what stands behind it
abbrev pub copy_or_behind : State → Backing → Option (List ℕ) → List ℕ
copy_or_behind s backing (Some bytes) = bytes
copy_or_behind s backing None = behind s backing

-- the 4,096 bytes that a page shows its process
abbrev pub shown : State → View → List ℕ
shown s view = copy_or_behind s view.attr.backing view.own

-- one page of one process is replaced
abbrev pub with_view : (ℕ → ℕ → Option View) → ℕ → ℕ → View → ℕ → ℕ → Option View
with_view views pid page view = λ p k. if p == pid && k == page then Some view else views p k
