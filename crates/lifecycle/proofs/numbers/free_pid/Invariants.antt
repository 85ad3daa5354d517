use Rattle.lifecycle.proofs.Names.{◌≡◌, ◌-◌, ◌≤◌, least_free_from, picture_of, is_live}
use Rattle.lifecycle.proofs.numbers.free_pid.Given as goal

abbrev pub invariant-loop-pid : goal.invariant-loop-pid
invariant-loop-pid g l =
    (1 ≤ l.number) × (l.number ≤ 65)
    × (least_free_from (is_live (picture_of l.core)) 1 64 ≡ least_free_from (is_live (picture_of l.core)) l.number (65 - l.number))

abbrev pub decreases-loop-pid : goal.decreases-loop-pid
decreases-loop-pid g l = 65 - l.number
