use Rattle.residency.{proofs.{LeafSteps.{over_number}, Names.{top_level, ℕ, inl, inr, subst, arith, cases_eq, false≢true, IsPage}}, specs.{Leaves.{IsOver}, Picture.{picture_of}}}
use Rattle.residency.proofs.leaves.has_leaf.Goals as goal

pub loop-pid-init : goal.loop-pid-init
loop-pid-init g c = record {
  clear = λ q k less h over. (let n = over_number (picture_of c.args.core.now) c.args.search.now.change c.args.search.now.frame.0 q k c.requires.has.fit over in omega (arith, less, n.0));
}

pub loop-pid-preserved : goal.loop-pid-preserved
loop-pid-preserved g c = record {
  clear = λ q k less h over. elim (cases_eq q c.loop-pid.pid) [
    | inl e ↦ (
        let P : ℕ → Type 0 = λ x. IsOver (picture_of c.args.core.now) c.args.search.now.change c.args.search.now.frame.0 x k in
        c.has_leaf_in.ensures.none c.if-has_leaf_in.false k h (subst P e over))
    | inr ne ↦ c.loop-pid.invariant.clear q k (omega (arith, less, ne)) h over
  ];
}

pub returns : goal.returns
returns g c =
    let clear : (q k : ℕ) → IsPage (top_level g.M.Levels.mode) k → IsOver (picture_of c.args.core.now) c.args.search.now.change c.args.search.now.frame.0 q k → ⊥ = λ q k h over. (
    let n = over_number (picture_of c.args.core.now) c.args.search.now.change c.args.search.now.frame.0 q k c.requires.has.fit over in
    c.loop-pid.invariant.clear q k (omega (arith, n.1, c.loop-pid-test.false)) h over) in
    (λ f. absurd (false≢true f), λ m. absurd (clear m.0 m.1 m.2 m.3))
