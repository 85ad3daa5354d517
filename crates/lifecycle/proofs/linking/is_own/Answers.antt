use Rattle.lifecycle.proofs.{Copies.{leaf_common, leaf_own, nothing_common, parked_common, parked_own, seat_some, slot_seat}, Names.{sym, ◌∙◌}}
use Rattle.lifecycle.proofs.linking.is_own.Goals as goal

pub returns-in-None-clause-other : goal.returns-in-None-clause-other
returns-in-None-clause-other c is = nothing_common c.args.found c.in-None.is

pub returns-in-Leaf : goal.returns-in-Leaf
returns-in-Leaf c = record {
  own = λ is. leaf_own c.args.found c.in-Leaf.leaf c.in-Leaf.is (sym c.is_private.ensures ∙ is);
  other = λ is. leaf_common c.args.found c.in-Leaf.leaf c.in-Leaf.is c.requires (sym c.is_private.ensures ∙ is);
}

pub returns-in-Swapped-clause-own : goal.returns-in-Swapped-clause-own
returns-in-Swapped-clause-own c is = seat_some _ _ (slot_seat c.args.found c.in-Swapped.field-0 c.in-Swapped.is c.requires)

pub returns-in-Parked : goal.returns-in-Parked
returns-in-Parked c = record {
  own = parked_own c.args.found c.in-Parked.field-0 c.in-Parked.private c.in-Parked.is;
  other = parked_common c.args.found c.in-Parked.field-0 c.in-Parked.private c.in-Parked.is;
}
