use Rattle.sync_plans.{proofs.{Growth.{time, same_now}, Lost.{same_content, same_left, present, time_synced}, Names.{ℕ, ◌≡◌, List, Result, Ok, Err, refl, arith, no_time, Elapses}}, specs.{PlanDisk.{pages_of, content_of, listed_unsynced, listed_left, plan_moment, left_in, unsynced_in, IsLost}, Plans.{row}, Writing.{AddsCall}}}
use Rattle.sync_plans.specs.declared.plan_disk.PlanDisk.{PlanDisk}
use Rattle.disk_model.specs.declared.sector_disk.DiskFault.{DiskFault}
use Rattle.sync_plans.proofs.plan_disk.PlanDiskSectorDisk.sync.Goals as goal

-- a sync is wanted in the list
abbrev AddsSync : PlanDisk → PlanDisk → List ℕ → Result (Unit {0}) DiskFault → Type 0
AddsSync old new bytes result = AddsCall old new (record { kind = 2; sector = 0; from = 0 }) bytes result

same : (old new : PlanDisk) (bytes : List ℕ) (result : Result (Unit {0}) DiskFault) → AddsSync old new bytes result → content_of new ≡ content_of old
same old new bytes (Ok done) adds = let keeps = adds.keeps in rw (keeps.image, keeps.lent) (same_now (pages_of old) (row old.image.now) adds.lists refl)
same old new bytes (Err fault) adds = same_content old new adds.unlisted adds.keeps

passes : (old new : PlanDisk) (bytes : List ℕ) (result : Result (Unit {0}) DiskFault) → AddsSync old new bytes result
    → Elapses (plan_moment old) (plan_moment new) (left_in old) (left_in new) (content_of new) (unsynced_in new)
passes old new bytes (Ok done) adds = let keeps = adds.keeps in
    time_synced (plan_moment old) (plan_moment new) (listed_left old) (listed_left new) (content_of old) (content_of new) (listed_unsynced old) (listed_unsynced new) (IsLost old) (IsLost new)
    (rw (keeps.image, keeps.lent, keeps.room) (time (pages_of old) (row old.image.now) adds.lists old.room))
    (λ k lost. let none = old.kept adds.open_still.0 k in omega (arith, none, lost))
    (λ t image le may. present old.calls.now old.rows.now (pages_of old) (row old.image.now) old.room old.used t image le may)
passes old new bytes (Err fault) adds = same_left old new adds.unlisted adds.keeps

pub returns-clause-same : goal.returns-clause-same
returns-clause-same c = λ _. same c.args.self.now c.list.new.self _ c.list.result c.list.ensures

pub returns-clause-time : goal.returns-clause-time
returns-clause-time c = λ _. passes c.args.self.now c.list.new.self _ c.list.result c.list.ensures

pub returns-then-not-self-clause-time : goal.returns-then-not-self-clause-time
returns-then-not-self-clause-time c = λ _. let s = c.args.self.now in no_time (plan_moment s) (left_in s) (content_of s) (unsynced_in s)
