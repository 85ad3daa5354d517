use Rattle.std.proofs.Common.{◌≡◌, ◌≤◌, ◌-◌}
use Rattle.growth.proofs.Widened.{BlockedTo}
use Rattle.growth.proofs.widening.find_gap.Given as goal

abbrev pub invariant-loop-first : goal.invariant-loop-first
invariant-loop-first l = record { end : l.end ≡ l.fn.room.end; low : l.fn.room.first ≤ l.first; blocked : BlockedTo l.before l.changes l.entry l.fn.room l.count l.first }

abbrev pub decreases-loop-first : goal.decreases-loop-first
decreases-loop-first l = l.end - l.first
