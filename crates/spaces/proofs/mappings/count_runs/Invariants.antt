use Rattle.spaces.proofs.Names.{◌≤◌, ◌<◌, ℕ, run_count, picture_of}
use Rattle.spaces.proofs.mappings.count_runs.Given as goal

abbrev pub invariant-loop-number : goal.invariant-loop-number
invariant-loop-number g l = record { few : (q : ℕ) → 1 ≤ q → q < l.number → run_count g.M.Levels.mode ((picture_of l.core).at q) ≤ 256 }
