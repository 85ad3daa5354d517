use Rattle.sync_plans.{proofs.Names.{◌≡◌, ◌<◌, ◌+◌, ℕ, part_of}, specs.Plans.{row}}
use Rattle.sync_plans.proofs.plan_disk.PlanDisk.holds.Given as goal

abbrev pub invariant-loop-i : goal.invariant-loop-i
invariant-loop-i l = (j : ℕ) → j < l.i → row l.self.image.now (l.at + j) ≡ part_of l.page j
