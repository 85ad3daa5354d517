use Rattle.sync_plans.{proofs.Names.{no_time}, specs.PlanDisk.{content_of, unsynced_in, plan_moment, left_in}}
use Rattle.sync_plans.proofs.plan_disk.PlanDiskSectorDisk.read.Goals as goal

pub returns-clause-time : goal.returns-clause-time
returns-clause-time c = λ _. let s = c.args.self.now in no_time (plan_moment s) (left_in s) (content_of s) (unsynced_in s)
