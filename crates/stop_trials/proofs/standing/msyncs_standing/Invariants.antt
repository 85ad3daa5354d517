use Rattle.{std.proofs.Common.{◌≡◌, ◌≤◌, ◌<◌, ℕ, Some}, stop_trials.specs.Standing.{state_after}}
use Rattle.stop_trials.proofs.standing.msyncs_standing.Given as goal

abbrev pub invariant-loop-n : goal.invariant-loop-n
invariant-loop-n l = (m : ℕ) → l.acknowledged ≤ m → m < l.n → state_after l.states m ≡ Some l.bytes → ⊥
