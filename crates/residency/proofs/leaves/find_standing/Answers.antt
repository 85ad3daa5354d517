use Rattle.residency.{proofs.{LeafSteps.{over_stands}, Lives.{map_read}, Names.{user_pages_fit, ℕ, arith, inl, inr, subst, rules, cases_eq, cases_lt}}, specs.{Leaves.{IsOver}, Picture.{picture_of}}}
use Rattle.residency.proofs.leaves.find_standing.Goals as goal

pub returns-then-is_over : goal.returns-then-is_over
returns-then-is_over g c =
    let core = c.args.core.now in
    let at = map_read core c.args.process.pid c.args.process.number c.args.process.root.0 c.index.result.now c.requires.lives.root c.index.ensures in
    let next = c.in-Some.ensures.some in
    record {
      some = record {
        from = (let a = c.loop-at.invariant.low in let b = next.from in omega (arith, a, b));
        user = next.user;
        over = c.is_over.ensures.over c.if-is_over.true;
        before = λ j low less over. elim (cases_lt j c.loop-at.from) [
          | inl passed ↦ c.loop-at.invariant.before j low passed over
          | inr late ↦ next.before j late less
              (over_stands (picture_of core) c.args.search.now.change c.args.search.now.frame.0 c.args.process.pid j c.index.result.now c.args.page c.requires.lives.fit c.args.search.now.above c.requires.placed at
              (let u = next.user in omega (arith, less, u, user_pages_fit g.M.Levels.mode)) over)
        ];
      };
      none = search rules;
    }

pub loop-at-preserved : goal.loop-at-preserved
loop-at-preserved g c =
    let core = c.args.core.now in
    let at = map_read core c.args.process.pid c.args.process.number c.args.process.root.0 c.index.result.now c.requires.lives.root c.index.ensures in
    let next = c.in-Some.ensures.some in
    record {
      low = (let a = c.loop-at.invariant.low in let b = next.from in let n = c.get-from.ensures.number in omega (arith, a, b, n));
      before = λ j low less over. elim (cases_eq j c.in-Some.at) [
        | inl e ↦ (
            let P : ℕ → Type 0 = λ x. IsOver (picture_of core) c.args.search.now.change c.args.search.now.frame.0 c.args.process.pid x in
            c.is_over.ensures.other c.if-is_over.false (subst P e over))
        | inr ne ↦ elim (cases_lt j c.loop-at.from) [
          | inl passed ↦ c.loop-at.invariant.before j low passed over
          | inr late ↦ next.before j late (let n = c.get-from.ensures.number in omega (arith, ne, less, n))
              (over_stands (picture_of core) c.args.search.now.change c.args.search.now.frame.0 c.args.process.pid j c.index.result.now c.args.page c.requires.lives.fit c.args.search.now.above c.requires.placed at
              (let u = next.user in let n = c.get-from.ensures.number in omega (arith, less, u, n, user_pages_fit g.M.Levels.mode)) over)
        ]
      ];
    }

pub returns : goal.returns
returns g c =
    record {
      some = search rules;
      none = λ k low h over.
          let core = c.args.core.now in
          let at = map_read core c.args.process.pid c.args.process.number c.args.process.root.0 c.index.result.now c.requires.lives.root c.index.ensures in
          elim (cases_lt k c.loop-at.from) [
            | inl passed ↦ c.loop-at.invariant.before k low passed over
            | inr late ↦ c.in_default.ensures.none k late
                (over_stands (picture_of core) c.args.search.now.change c.args.search.now.frame.0 c.args.process.pid k c.index.result.now c.args.page c.requires.lives.fit c.args.search.now.above c.requires.placed at h over)
          ];
    }
