use Rattle.std.proofs.Common.{◌≡◌, ◌≤◌, ◌+◌, ◌*◌, ◌^◌, drop}
use Rattle.pool_growth.proofs.Fronts.{front_homes}
use Rattle.pool_growth.proofs.checking.count_front.Given as goal

abbrev pub invariant-loop-i : goal.invariant-loop-i
invariant-loop-i l = record { so_far : l.count + front_homes (drop l.i l.old) (drop l.i l.new) ≡ front_homes l.old l.new; small : l.count ≤ 2 ^ 32 * l.i }
