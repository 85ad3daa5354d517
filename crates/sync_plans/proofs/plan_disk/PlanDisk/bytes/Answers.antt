use Rattle.sync_plans.proofs.Names.{ne_eqb, refl}
use Rattle.sync_plans.proofs.plan_disk.PlanDisk.bytes.Goals as goal

pub returns : goal.returns
returns c =
    let kind = c.listed-call.result.kind in
    rw (c.listed-call.ensures.here, ne_eqb kind 1 c.if-call-eq-WRITE.false, ne_eqb kind 3 c.if-call-eq-LENT.false, ne_eqb kind 4 c.if-call-eq-COPY.false) refl
