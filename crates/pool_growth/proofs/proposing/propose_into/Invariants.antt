use Rattle.std.proofs.Common.{◌≡◌, ◌≤◌, length}
use Rattle.std.specs.Prelude.{vec_capacity}
use Rattle.pool_growth.specs.Sizes.{AreProposed}
use Rattle.pool_growth.proofs.proposing.propose_into.Given as goal

abbrev pub invariant-loop-size : goal.invariant-loop-size
invariant-loop-size g l = record {
  proposed : AreProposed l.directory.entries.items l.room l.sizes l.changes.items;
  count : length l.changes.items ≡ l.size-index;
  room : length l.sizes ≤ vec_capacity l.changes;
}
