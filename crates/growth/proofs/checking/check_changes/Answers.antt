use Rattle.std.proofs.Common.{◌≡◌, ◌+◌, ℕ, length, drop, subst, arith}
use Rattle.std.proofs.lemmas.Option.{slice_get-get_or}
use Rattle.growth.specs.Parts.{AreChecked, IsChangeGood}
use Rattle.growth.proofs.{Listed.{no_change, one_more}, Checked.{good_after, takes_free}}
use Rattle.growth.proofs.checking.check_changes.Goals as goal

pub loop-i-preserved : goal.loop-i-preserved
loop-i-preserved c =
    let i = c.loop-i.i in
    one_more (λ k d. IsChangeGood c.args.pages c.args.homes c.args.before.now d (drop (k + 1) c.args.changes.now)) c.args.changes.now i no_change c.loop-i.invariant
    (c.in_ok-check_change.ensures.good _ (slice_get-get_or c.args.changes.now i no_change (omega arith)))

pub returns-clause-good : goal.returns-clause-good
returns-clause-good c =
    let all : c.loop-i.i ≡ length c.args.changes.now = omega arith in
    good_after c.args.pages c.args.homes c.args.before.now c.args.changes.now c.requires.changes c.requires.good
    (subst (λ (n : ℕ). AreChecked c.args.pages c.args.homes c.args.before.now c.args.changes.now n) all c.loop-i.invariant)

pub returns-clause-free : goal.returns-clause-free
returns-clause-free c =
    let all : c.loop-i.i ≡ length c.args.changes.now = omega arith in
    takes_free c.args.pages c.args.homes c.args.before.now c.args.changes.now c.requires.changes
    (subst (λ (n : ℕ). AreChecked c.args.pages c.args.homes c.args.before.now c.args.changes.now n) all c.loop-i.invariant)
