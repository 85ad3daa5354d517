use Rattle.sync_plans.{proofs.{Names.{ℕ, ◌<◌, ◌≡◌, slice_get, sym, ◌∙◌, arith}, Untouched.{alike_sources}}, specs.PlanDisk.{pages_of}}
use Rattle.sync_plans.proofs.plan_disk.PlanDisk.copy_to.Goals as goal

pub returns : goal.returns
returns c =
    let s = c.args.self.now in
    let same : (k : ℕ) → k < s.used → slice_get c.loop-i.calls k ≡ slice_get s.calls.now k = λ k lt. c.loop-i.invariant.calls k (omega (arith, lt, c.loop-i-test.false)) in
    record {
      same_calls = same;
      same_rows = λ k call lt. c.loop-i.invariant.rows k call (omega (arith, lt, c.loop-i-test.false));
      all = λ k call lt is. s.all k call lt (sym (same k lt) ∙ is);
      sources = alike_sources s.calls.now c.loop-i.calls s.used same (pages_of s) s.sources;
    }
