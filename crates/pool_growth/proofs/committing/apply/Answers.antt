use Rattle.std.proofs.Common.{◌<◌, ◌≤◌, ◌^◌, refl, arith}
use Rattle.pool_growth.proofs.Applied.{after_all, after_more, after_none, holds_between}
use Rattle.pool_growth.proofs.committing.apply.Goals as goal

pub loop-change-init : goal.loop-change-init
loop-change-init c = (after_none c.args.directory.now.entries.items c.args.changes.now c.requires.1.changes, refl)

-- each entry is an old one, or one of those after the changes
pub invariant_of-directory : goal.invariant_of-directory
invariant_of-directory c =
    let before = c.args.directory.now.entries.items in
    let changes = c.args.changes.now in
    let are = c.requires.1 in
    let here = c.loop-change.directory in record {
      numbers = holds_between before changes are.changes (λ f e. f < 4096) (λ f e is. (are.may.bounded f e is).0) c.loop-change.change-index here.entries.items c.loop-change-test.true c.loop-change.invariant.0 here.numbers;
      lengths = holds_between before changes are.changes (λ f e. e.length ≤ 2 ^ 42) (λ f e is. (are.may.bounded f e is).1) c.loop-change.change-index here.entries.items c.loop-change-test.true c.loop-change.invariant.0
          here.lengths;
    }

pub loop-change-preserved : goal.loop-change-preserved
loop-change-preserved c =
    let before = c.args.directory.now.entries.items in
    let changes = c.args.changes.now in
    (after_more before changes c.requires.1.changes c.loop-change.change-index c.loop-change.directory.entries.items c.loop-change-test.true c.loop-change.invariant.0, c.loop-change.invariant.1)

pub returns-clause-entries : goal.returns-clause-entries
returns-clause-entries c =
    let before = c.args.directory.now.entries.items in
    after_all before c.args.changes.now c.requires.1.changes c.loop-change.change-index c.loop-change.directory.entries.items (omega (arith, c.loop-change-test.false)) c.loop-change.invariant.0
