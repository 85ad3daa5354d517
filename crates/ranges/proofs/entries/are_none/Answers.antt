use Rattle.ranges.proofs.{Joined.{left, right}, Names.{◌+◌, inl, inr, eqb-true, arith, cases_lt}}
use Rattle.ranges.proofs.entries.are_none.Goals as goal

pub returns : goal.returns
returns g c none i least below =
    let joined = eqb-true _ 0 none in
    elim (cases_lt i (c.args.index + 4)) [
      | inl front ↦ c.four_at.ensures (left _ _ joined) i least front
      | inr back ↦ c.four_at-2.ensures (right _ _ joined) i back (omega (arith, below))
    ]
