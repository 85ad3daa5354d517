use Rattle.std.proofs.Common.{ℕ, ◌≡◌, ◌<◌, ◌-◌}
use Rattle.growth.specs.Resizing.{homes_in_front}
use Rattle.growth.proofs.resizing.count_needed.Given as goal

abbrev pub invariant-loop-i : goal.invariant-loop-i
invariant-loop-i l = record { left : l.left ≡ l.pages - homes_in_front l.extents l.i; needed : (n : ℕ) → n < l.i → homes_in_front l.extents n < l.pages }
