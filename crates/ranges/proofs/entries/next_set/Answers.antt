use Rattle.ranges.proofs.Names.{inl, inr, arith, cases_lt}
use Rattle.ranges.proofs.entries.next_set.Goals as goal

pub loop-at-preserved : goal.loop-at-preserved
loop-at-preserved g c =
    let k = c.loop-at.invariant in
    let none = c.none_from-at.ensures in
    record {
      from = omega (arith, k.from);
      within = none.within;
      passed = λ n least below. elim (cases_lt n c.loop-at.at) [ inl front ↦ k.passed n least front | inr back ↦ none.none n back below ];
    }
