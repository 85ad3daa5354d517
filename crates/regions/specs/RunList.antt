-- Lists of runs in order, the map that they stand for, and how they are put together.
use Rattle.std.specs.Prelude.{ℕ, ◌-◌, ◌<◌, ◌≡◌, ◌≤◌, Bool, false, if◌then◌else◌, List, [], ◌∷◌, Option, Some, None}
use Rattle.vm_types.specs.Limits.{user_start, user_end, widest_end}
use Rattle.vm_types.specs.declared.permission.Prot.{Prot}
use Rattle.vm_types.specs.declared.region.Attr.{Attr}
use Rattle.vm_types.specs.Attributes.{attr_after, attr_eq}
use Rattle.regions.specs.declared.run.Run.{Run}
use Rattle.regions.specs.Run.{IsRun, attr_in, joins, merged, run_between}

-- the first where it is there, else the second
abbrev pub run_or_else : Option Attr → Option Attr → Option Attr
run_or_else None other = other
run_or_else (Some attr) other = Some attr

-- what the page is; None where it isn't mapped
abbrev pub attr_at : List Run → ℕ → Option Attr
attr_at [] page = None
attr_at (run ∷ runs) page = run_or_else (attr_in run page) (attr_at runs page)

-- whether the first run of the list goes on with this one
abbrev pub joins_first : Run → List Run → Bool
joins_first run [] = false
joins_first run (next ∷ _) = joins run next

-- what a walk over mapped pages finds from a page on: no page is mapped before the run, the run's are its own, and behind it
-- the map does not go on with it
pub record IsNextRun (mode : ℕ) (map : ℕ → Option Attr) (page : ℕ) (run : Run) : Type 0 where
  pub from : page ≤ run.first
  pub low : user_start ≤ run.first
  pub nonempty : run.first < run.end
  pub high : run.end ≤ user_end mode
  pub none_before : (k : ℕ) → page ≤ k → k < run.first → map k ≡ None
  pub mapped : (k : ℕ) → run.first ≤ k → k < run.end → map k ≡ Some (attr_after run.attr (k - run.first))
  pub ends : (attr : Attr) → map run.end ≡ Some attr → attr_eq (attr_after run.attr (run.end - run.first)) attr ≡ false

-- runs from a page on, in order, of which no two neighbours are one
abbrev pub IsMaximal : ℕ → ℕ → List Run → Type 0
IsMaximal mode from [] = Unit {0}
IsMaximal mode from (run ∷ runs) =
    (from ≤ run.first) × IsRun mode run × (joins_first run runs ≡ false) × IsMaximal mode run.end runs

-- where the last run ends; the page, where there is none
abbrev pub end_of : ℕ → List Run → ℕ
end_of from [] = from
end_of from (run ∷ runs) = end_of run.end runs

-- whether the last run goes on with this one
abbrev pub joins_last : List Run → Run → Bool
joins_last [] next = false
joins_last (run ∷ []) next = joins run next
joins_last (run ∷ (other ∷ runs)) next = joins_last (other ∷ runs) next

-- a run put behind the others, one with the last where it goes on with that
abbrev pub pushed : List Run → Run → List Run
pushed [] next = next ∷ []
pushed (run ∷ []) next = if joins run next then merged run next ∷ [] else run ∷ next ∷ []
pushed (run ∷ (other ∷ runs)) next = run ∷ pushed (other ∷ runs) next

abbrev pub pushed_part : List Run → Option Run → List Run
pushed_part runs None = runs
pushed_part runs (Some next) = pushed runs next

-- the parts of the second list between two pages put behind the first, with the permission where one is given
abbrev pub pasted : ℕ → ℕ → Option Prot → List Run → List Run → List Run
pasted low high prot runs [] = runs
pasted low high prot runs (next ∷ others) = pasted low high prot (pushed_part runs (run_between low high prot next)) others

-- the list without the pages from first up to, not including, end
abbrev pub list_removed : List Run → ℕ → ℕ → List Run
list_removed runs first end = pasted end widest_end None (pasted 0 first None [] runs) runs

-- the list with another permission for them
abbrev pub list_protected : List Run → ℕ → ℕ → Prot → List Run
list_protected runs first end prot =
    pasted end widest_end None (pasted first end (Some prot) (pasted 0 first None [] runs) runs) runs

-- the list with a run in their place
abbrev pub list_replaced : List Run → Run → List Run
list_replaced runs run = pasted run.end widest_end None (pushed (pasted 0 run.first None [] runs) run) runs
