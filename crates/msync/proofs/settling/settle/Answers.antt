use Rattle.msync.{proofs.{Names.{◌≡◌, ℕ, inl, inr, length, refl, ◌∙◌, subst, arith, picture_of}, SettledPages.{beside_none, beside_then, settles_none, spot_left, settles_more}}, specs.Settling.{Settles}}
use Rattle.msync.proofs.settling.settle.Goals as goal

pub loop-i-init : goal.loop-i-init
loop-i-init g c = record { fit = c.requires.fit; beside = beside_none c.args.core.now; swap = inl refl; settles = settles_none (picture_of c.args.core.now) c.args.spots.now }

pub settle_one-requires : goal.settle_one-requires
settle_one-requires g c =
    let kept = c.loop-i.invariant in
    record {
      fit = kept.fit;
      lies = spot_left (picture_of c.args.core.now) (picture_of c.loop-i.core) c.args.spots.now c.loop-i.i c.requires.spots c.loop-i-test.true kept.settles kept.fit;
    }

pub loop-i-preserved : goal.loop-i-preserved
loop-i-preserved g c =
    let a = c.args.core.now in
    let b = c.loop-i.core in
    let list = c.args.spots.now in
    let i = c.loop-i.i in
    let kept = c.loop-i.invariant in
    let done = c.settle_one.ensures in
    record {
      fit = done.fit;
      beside = beside_then a b c.settle_one.new.core kept.beside done.beside;
      swap = elim done.swap [
        | inl same ↦ elim kept.swap [ inl before ↦ inl (same ∙ before) | inr has ↦ inr has ]
        | inr slot ↦ inr (i, c.loop-i-test.true, slot)
      ];
      settles = settles_more (picture_of a) (picture_of b) list i c.requires.spots c.loop-i-test.true kept.settles (picture_of c.settle_one.new.core) kept.fit done.settles;
    }

pub returns : goal.returns
returns g c =
    let at_end : c.loop-i.i ≡ length c.args.spots.now = omega (arith, c.loop-i.auto.i-end, c.loop-i-test.false) in
    let kept = c.loop-i.invariant in
    record {
      fit = kept.fit;
      beside = kept.beside;
      swap = kept.swap;
      settles = subst (λ (n : ℕ). Settles (picture_of c.args.core.now) (picture_of c.loop-i.core) c.args.spots.now n) at_end kept.settles;
    }
