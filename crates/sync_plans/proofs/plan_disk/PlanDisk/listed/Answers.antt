use Rattle.sync_plans.proofs.{Names.{◌<◌, arith, length, slice_get-get_or}, Lent.{is_lent}}
use Rattle.sync_plans.proofs.plan_disk.PlanDisk.listed.Goals as goal

pub returns-clause-lent : goal.returns-clause-lent
returns-clause-lent c = λ three.
    let s = c.args.self.now in
    let inside : c.args.k < length s.calls.now = omega (arith, c.requires, s.within, s.long) in
    is_lent s.lent.pages.now _ (s.sources.lent c.args.k _ c.requires (slice_get-get_or s.calls.now c.args.k (record { kind = 0; sector = 0; from = 0 }) inside) three)

pub returns-clause-copied : goal.returns-clause-copied
returns-clause-copied c = λ four.
    let s = c.args.self.now in
    let inside : c.args.k < length s.calls.now = omega (arith, c.requires, s.within, s.long) in
    (s.all c.args.k _ c.requires (slice_get-get_or s.calls.now c.args.k (record { kind = 0; sector = 0; from = 0 }) inside)).copied four
