use Rattle.residency.proofs.Names.{◌≢◌, ℕ, inl, inr, Some, sym, ap, ◌∙◌, subst, arith, cases_eq, false≢true}
use Rattle.residency.{specs.{Seats.{InFrame, seat}, Picture.{picture_of, entry}, Evictions.{IsHanding}}, proofs.{Passing.{first_seat, somebody, no_user, hands_none, hands_then}}}
use Rattle.residency.proofs.shares.hand_over.Goals as goal

pub unreachable-requires : goal.unreachable-requires
unreachable-requires g c =
    no_user (picture_of c.args.core.now) c.args.frame.0 c.args.slot.0 _ c.requires.handing (λ range. false≢true (c.in_default.ensures.known.1 (omega (arith, range.0), omega (arith, range.1))))

pub loop-pid-init : goal.loop-pid-init
loop-pid-init g c =
    let core = c.args.core.now in
    let P : ℕ → Type 0 = λ n. IsHanding (picture_of core) c.args.frame.0 c.args.slot.0 n in
    record {
      hands = hands_none g.E.SectorDisk c.args.frame.0 c.args.slot.0 core c.requires.ready;
      handing = subst P (sym c.in-Some.ensures.found) c.requires.handing;
      passed = first_seat (picture_of core) 0 c.in-Some.at (InFrame c.args.frame.0) c.requires.handing.share.fit.rooted;
    }

pub returns-then-hand_one : goal.returns-then-hand_one
returns-then-hand_one g c =
    let done = c.hand_one.ensures in
    record {
      fit = done.fit c.if-hand_one.true;
      free = done.free c.if-hand_one.true;
      hands = hands_then g.E.SectorDisk c.args.frame.0 c.args.slot.0 c.args.core.now c.loop-pid.core c.hand_one.new.core c.loop-pid.invariant.hands done.hands;
    }

pub loop-pid-preserved : goal.loop-pid-preserved
loop-pid-preserved g c =
    let kept = c.loop-pid.invariant in
    let done = c.hand_one.ensures in
    let new = picture_of c.hand_one.new.core in
    record {
      hands = hands_then g.E.SectorDisk c.args.frame.0 c.args.slot.0 c.args.core.now c.loop-pid.core c.hand_one.new.core kept.hands done.hands;
      handing = done.handing c.if-hand_one.false;
      passed = λ q less. elim (cases_eq q c.loop-pid.pid) [
        | inl e ↦ (let P : ℕ → Type 0 = λ x. seat (entry new x c.in-Some.at) ≢ Some (InFrame c.args.frame.0) in subst P (sym e) done.moved)
        | inr ne ↦ (λ is. kept.passed q (omega (arith, less, ne)) (sym (ap seat (done.others q ne)) ∙ is))
      ];
    }

pub unreachable-requires-2 : goal.unreachable-requires-2
unreachable-requires-2 g c =
    let kept = c.loop-pid.invariant in
    somebody (picture_of c.loop-pid.core) c.args.frame.0 c.args.slot.0 c.in-Some.at kept.handing (λ q less. kept.passed q (let t = c.loop-pid-test.false in omega (arith, less, t)))
