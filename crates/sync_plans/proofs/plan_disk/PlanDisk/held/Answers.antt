use Rattle.sync_plans.{proofs.{Growth.{writes_here, written, passed, untouched}, Names.{sym, ◌∙◌, arith, ◌≡◌, ◌<◌, suc, ◌-◌, ◌+◌, length}}, specs.{PlanDisk.{pages_of}, Plans.{row}}}
use Rattle.sync_plans.proofs.plan_disk.PlanDisk.held.Goals as goal

pub returns-then-n-self : goal.returns-then-n-self
returns-then-n-self c = let s = c.args.self.now in sym (untouched s.calls.now s.rows.now (pages_of s) (row s.image.now) s.used c.args.n (s.between c.args.n c.if-self-n.true c.if-n-self.true))

pub bytes-requires-clause-here : goal.bytes-requires-clause-here
bytes-requires-clause-here c =
    let s = c.args.self.now in
    let inside : s.used - 1 - c.loop-i.i < length s.calls.now = omega (arith, c.loop-i-test.true, s.within, s.long) in
    writes_here s.calls.now (s.used - 1 - c.loop-i.i) c.args.n (record { kind = 0; sector = 0; from = 0 }) inside ∙ sym c.writes.ensures ∙ c.if-writes.true

pub returns-then-writes : goal.returns-then-writes
returns-then-writes c =
    let s = c.args.self.now in
    let e : s.used - c.loop-i.i ≡ suc (s.used - 1 - c.loop-i.i) = omega (arith, c.loop-i-test.true) in
    let inside : s.used - 1 - c.loop-i.i < length s.calls.now = omega (arith, c.loop-i-test.true, s.within, s.long) in
    c.bytes.ensures ∙ sym (c.loop-i.invariant ∙ written s.calls.now s.rows.now (pages_of s) (row s.image.now) (s.used - c.loop-i.i) (s.used - 1 - c.loop-i.i) c.args.n e
    (writes_here s.calls.now (s.used - 1 - c.loop-i.i) c.args.n (record { kind = 0; sector = 0; from = 0 }) inside ∙ sym c.writes.ensures ∙ c.if-writes.true))

pub loop-i-preserved : goal.loop-i-preserved
loop-i-preserved c =
    let s = c.args.self.now in
    let e : s.used - c.loop-i.i ≡ suc (s.used - (c.loop-i.i + 1)) = omega (arith, c.loop-i-test.true) in
    let back : s.used - (c.loop-i.i + 1) ≡ s.used - 1 - c.loop-i.i = omega arith in
    let inside : s.used - 1 - c.loop-i.i < length s.calls.now = omega (arith, c.loop-i-test.true, s.within, s.long) in
    c.loop-i.invariant ∙ passed s.calls.now s.rows.now (pages_of s) (row s.image.now) (s.used - c.loop-i.i) (s.used - (c.loop-i.i + 1)) c.args.n e
    (rw back (writes_here s.calls.now (s.used - 1 - c.loop-i.i) c.args.n (record { kind = 0; sector = 0; from = 0 }) inside ∙ sym c.writes.ensures ∙ c.if-writes.false))
