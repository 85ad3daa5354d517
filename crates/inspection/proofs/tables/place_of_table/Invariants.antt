use Rattle.inspection.{proofs.Names.{ℕ, ◌≤◌, ◌<◌, picture_of}, specs.Tables.{IsOutOf}}
use Rattle.inspection.proofs.tables.place_of_table.Given as goal

-- it is in the tree of no process before this one
abbrev pub invariant-loop-number : goal.invariant-loop-number
invariant-loop-number g l = (p : ℕ) → 1 ≤ p → p < l.number → IsOutOf (picture_of l.core) p l.n.0
