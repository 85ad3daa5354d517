use Rattle.residency.{proofs.{LeafSteps.{entries_none, entries_then, still_clear}, Names.{user_pages_fit, ℕ, inl, inr, subst, arith, cases_eq, cases_lt}}, specs.{Leaves.{IsOver}, Picture.{picture_of}}}
use Rattle.residency.proofs.leaves.change_in.Goals as goal

pub loop-page-init : goal.loop-page-init
loop-page-init g c = record {
  entries = entries_none c.args.search.now.change c.args.search.now.frame.0 c.args.core.now c.requires.lives.fit;
  below = omega arith;
  clear = λ k less over. absurd (omega (arith, less));
}

pub loop-page-preserved : goal.loop-page-preserved
loop-page-preserved g c =
    let b = c.loop-page.core in
    let d = c.change_at.new.core in
    let kept = c.loop-page.invariant in
    let done = c.change_at.ensures in
    let next = c.in-Some.ensures.some in
    record {
      entries = entries_then c.args.search.now.change c.args.search.now.frame.0 c.args.core.now c.loop-page.core c.change_at.new.core kept.entries done.entries;
      below = (let u = next.user in let n = c.get-low.ensures.number in omega (arith, u, n));
      clear = λ k less over. elim (cases_eq k c.in-Some.page) [
        | inl e ↦ (let P : ℕ → Type 0 = λ x. IsOver (picture_of d) c.args.search.now.change c.args.search.now.frame.0 c.args.process.pid x in done.clear (subst P e over))
        | inr ne ↦ still_clear c.args.search.now.change c.args.search.now.frame.0 c.args.process.pid k (picture_of b) (picture_of d) done.changes
            (let u = next.user in let n = c.get-low.ensures.number in omega (arith, u, n, less, user_pages_fit g.M.Levels.mode))
            (λ was. elim (cases_lt k c.loop-page.low) [
              | inl passed ↦ kept.clear k passed was
              | inr late ↦ next.before k late (let n = c.get-low.ensures.number in omega (arith, n, less, ne)) was
            ]) over
      ];
    }

pub returns : goal.returns
returns g c = record {
  clear = λ page h over. elim (cases_lt page c.loop-page.low) [
    | inl passed ↦ c.loop-page.invariant.clear page passed over
    | inr late ↦ c.in_default.ensures.none page late h over
  ];
  entries = c.loop-page.invariant.entries;
}
