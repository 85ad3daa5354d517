use Rattle.inspection.proofs.{Entries.{past_in_none}, Names.{inl, inr, arith, cases_lt, picture_of}}
use Rattle.inspection.proofs.slots.next_swapped.Goals as goal

pub returns-clause-none : goal.returns-clause-none
returns-clause-none g c p k from inside lies = elim (cases_lt p c.loop-number.number) [
  | inl before ↦ c.loop-number.invariant p k before from inside lies
  | inr late ↦ past_in_none (picture_of c.args.core.now) c.args.n.0 p k c.requires.fit.rooted (omega (arith, late, c.loop-number-test.false)) lies
]
