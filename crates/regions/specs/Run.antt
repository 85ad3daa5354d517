-- One run: the pages from first up to, not including, end, the first one's attributes being attr.
use Rattle.std.specs.Prelude.{ℕ, ◌-◌, ◌<◌, ◌≤◌, Bool, ◌==◌, ◌&&◌, leb, ltb, min, max, if◌then◌else◌, Option, Some, None, unwrap_or}
use Rattle.vm_types.specs.Limits.{user_start, user_end}
use Rattle.vm_types.specs.declared.permission.Prot.{Prot}
use Rattle.vm_types.specs.declared.region.Attr.{Attr}
use Rattle.vm_types.specs.Attributes.{attr_after, attr_eq, backing_fits}
use Rattle.regions.specs.declared.run.Run.{Run}

-- a run isn't empty, and its pages are user pages of the mode and its file pages under 2 ^ 32
pub record IsRun (mode : ℕ) (run : Run) : Type 0 where
  pub low : user_start ≤ run.first
  pub nonempty : run.first < run.end
  pub high : run.end ≤ user_end mode
  pub file_pages : backing_fits run.attr.backing (run.end - run.first)

-- what the page is, where it is of the run
abbrev pub attr_in : Run → ℕ → Option Attr
attr_in run page =
    if leb run.first page && ltb page run.end then Some (attr_after run.attr (page - run.first)) else None

-- whether the second begins where the first ends, and goes on with it
abbrev pub joins : Run → Run → Bool
joins run next = (run.end == next.first) && attr_eq (attr_after run.attr (run.end - run.first)) next.attr

-- the two as one
abbrev pub merged : Run → Run → Run
merged run next = record { first = run.first; end = next.end; attr = run.attr }

-- with the permission, where one is given
abbrev pub changed_run : Option Prot → Attr → Attr
changed_run prot attr = record { prot = unwrap_or prot attr.prot; backing = attr.backing }

-- the pages from first up to, not including, end, of the run
abbrev pub cut_run : Option Prot → Run → ℕ → ℕ → Run
cut_run prot run first end =
    record { first = first; end = end; attr = changed_run prot (attr_after run.attr (first - run.first)) }

-- the part of the run between two pages
abbrev pub run_between : ℕ → ℕ → Option Prot → Run → Option Run
run_between low high prot run =
    if ltb (max run.first low) (min run.end high) then
    Some (cut_run prot run (max run.first low) (min run.end high))
    else
    None
