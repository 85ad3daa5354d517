use Rattle.ranges.{proofs.Names.{◌≡◌, ◌≤◌, ◌<◌, ◌⊎◌, ℕ, ◌-◌, true, false, length, get_or, user_end, named_limit, picture_of}, specs.Numbers.{IsUsedBetween}}
use Rattle.ranges.proofs.numbering.mark.Given as goal

abbrev pub invariant-loop-run : goal.invariant-loop-run
invariant-loop-run g l = record {
  low : l.from ≤ l.at;
  room : length l.used ≡ length l.fn.used;
  kept : (o : ℕ) → get_or l.fn.used o false ≡ true → get_or l.used o false ≡ true;
  all : (o : ℕ) → o < named_limit → IsUsedBetween ((picture_of l.core).at l.pid) l.from l.at o → get_or l.used o false ≡ true;
  only : (o : ℕ) → get_or l.used o false ≡ true → (get_or l.fn.used o false ≡ true) ⊎ IsUsedBetween ((picture_of l.core).at l.pid) l.from l.end o;
}

abbrev pub decreases-loop-run : goal.decreases-loop-run
decreases-loop-run g l = user_end g.M.Levels.mode - l.at
