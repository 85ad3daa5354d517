use Rattle.std.proofs.Common.{◌≡◌, length}
use Rattle.ways.proofs.sparing.Uses.new.Given as goal

abbrev pub invariant-loop-i : goal.invariant-loop-i
invariant-loop-i l = length l.users.items ≡ l.i
