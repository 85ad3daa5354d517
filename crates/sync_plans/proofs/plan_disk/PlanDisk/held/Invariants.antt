use Rattle.sync_plans.{proofs.Names.{◌≡◌, ◌-◌}, specs.{PlanDisk.{pages_of}, Plans.{row, image_after}}}
use Rattle.sync_plans.proofs.plan_disk.PlanDisk.held.Given as goal

-- no later call writes the sector
abbrev pub invariant-loop-i : goal.invariant-loop-i
invariant-loop-i l = image_after l.self.calls.now l.self.rows.now (pages_of l.self) (row l.self.image.now) l.self.used l.n
    ≡ image_after l.self.calls.now l.self.rows.now (pages_of l.self) (row l.self.image.now) (l.self.used - l.i) l.n
