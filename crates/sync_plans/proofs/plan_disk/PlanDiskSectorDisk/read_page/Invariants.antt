use Rattle.sync_plans.{proofs.Names.{◌≡◌, ◌<◌, ◌+◌, ℕ, length, part_of}, specs.PlanDisk.{content_of}}
use Rattle.sync_plans.proofs.plan_disk.PlanDiskSectorDisk.read_page.Given as goal

abbrev pub invariant-loop-i : goal.invariant-loop-i
invariant-loop-i l = record { long : length l.to ≡ 4096; gives : (j : ℕ) → j < l.i → part_of l.to j ≡ content_of l.self (l.n + j) }
