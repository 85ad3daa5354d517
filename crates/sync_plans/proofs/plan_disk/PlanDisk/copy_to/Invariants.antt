use Rattle.sync_plans.{proofs.Names.{◌≡◌, ◌<◌, ◌≤◌, ℕ, Some, length, slice_get}, specs.{Plans.{row}, declared.call.Call.{Call}}}
use Rattle.sync_plans.proofs.plan_disk.PlanDisk.copy_to.Given as goal

abbrev pub invariant-loop-i : goal.invariant-loop-i
invariant-loop-i l = record {
  long : l.self.used ≤ length l.calls;
  rows_long : l.self.used ≤ length l.rows;
  calls : (k : ℕ) → k < l.i → slice_get l.calls k ≡ slice_get l.self.calls.now k;
  rows : (k : ℕ) (call : Call) → k < l.i → slice_get l.self.calls.now k ≡ Some call → call.kind ≡ 1 → row l.rows k ≡ row l.self.rows.now k;
}
