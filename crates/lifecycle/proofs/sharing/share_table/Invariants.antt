use Rattle.lifecycle.{proofs.Names.{◌+◌, ◌-◌, ◌≤◌}, specs.ChildShares.{GivesShares}}
use Rattle.lifecycle.proofs.sharing.share_table.Given as goal

abbrev pub invariant-loop-index : goal.invariant-loop-index
invariant-loop-index g l = record {
  least : l.part.first ≤ l.first + l.index;
  within : l.index ≤ l.end;
  gives : GivesShares l.fn.core l.core l.part.pid l.fn.child l.part.first (l.first + l.index);
}

abbrev pub decreases-loop-index : goal.decreases-loop-index
decreases-loop-index g l = l.end - l.index
