-- What the tables on the way to a page say, one after another.
use Rattle.std.specs.Prelude.{◌≡◌, ℕ, ◌+◌, ◌<◌, ◌==◌, if◌then◌else◌, List, Option, None, Some, false, slice_index_or}
use Rattle.sv39_walk.specs.Entry.{is_pointer}
use Rattle.residency.specs.Picture.{is_live}
use Rattle.inspection.specs.Machines.{memory_of, Tells}
use Rattle.inspection.specs.Walks.{IsStep}
use Rattle.inspection.specs.declared.walks.Step.{Step}
use Rattle.machine.specs.declared.machine.Machine.{Machine}
use Rattle.ways.specs.declared.targets.Target.{Target}

-- the first of two that is there
abbrev pub step_or : Option Step → Option Step → Option Step
step_or None other = other
step_or (Some step) other = Some step

-- what the last of at most four tables on a way says
abbrev pub last_step : List (Option Step) → Option Step
last_step steps = step_or (slice_index_or steps 3 None) (step_or (slice_index_or steps 2 None) (step_or (slice_index_or steps 1 None) (slice_index_or steps 0 None)))

-- the entry of a page by what the last table on its way says: 0 where that is no table of pages, or there is none
abbrev pub entry_of_step : Option Step → ℕ
entry_of_step None = 0
entry_of_step (Some step) = if step.level == 0 then step.entry.0 else 0

module _ {D E : Type 0} where
  -- after a step on the way to a page comes what the next table says, one level lower, or nothing where the way ends
  abbrev pub StepsFrom : Machine D E → ℕ → ℕ → Option Step → Option Step → Type 0
  StepsFrom m pid page None next = next ≡ None
  StepsFrom m pid page (Some step) next =
      IsStep (memory_of m) pid page step
      → Tells m (λ s. IsStep (memory_of m) pid page s × (s.level + 1 ≡ step.level)) (0 < step.level → is_pointer step.entry.0 ≡ false) next

  -- The way to a page of a process begins in its root table, if it lives, and goes on to its end.
  pub record IsWayOf (m : Machine D E) (pid page : ℕ) (steps : List (Option Step)) : Type 0 where
    pub root : Tells m (IsStep (memory_of m) pid page) (is_live (memory_of m) pid ≡ false) (slice_index_or steps 0 None)
    pub second : StepsFrom m pid page (slice_index_or steps 0 None) (slice_index_or steps 1 None)
    pub third : StepsFrom m pid page (slice_index_or steps 1 None) (slice_index_or steps 2 None)
    pub fourth : StepsFrom m pid page (slice_index_or steps 2 None) (slice_index_or steps 3 None)

  -- An access is for that page of that process, and this was its entry before: that at the end of its way, or 0.
  pub record IsTargetAt (m : Machine D E) (pid page : ℕ) (target : Target) : Type 0 where
    pub process : target.pid ≡ pid
    pub is : target.page ≡ page
    pub way : List (Option Step)
    pub leads : IsWayOf m pid page way
    pub ends : target.entry.0 ≡ entry_of_step (last_step way)
