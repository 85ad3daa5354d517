use Rattle.std.proofs.Common.{◌≤◌, ◌<◌, ◌+◌, ℕ, get_or}
use Rattle.directories.specs.{Layouts.{ShareHome}}
use Rattle.directories.specs.declared.pieces.Piece.{Piece}
use Rattle.directories.proofs.pieces.find_shared.Given as goal

abbrev pub invariant-loop-i : goal.invariant-loop-i
invariant-loop-i l = record {
  before : l.furthest < l.i;
  ends : (k : ℕ) (d : Piece) → k < l.i → (get_or l.pieces k d).extent.first + (get_or l.pieces k d).extent.count ≤ (get_or l.pieces l.furthest d).extent.first + (get_or l.pieces l.furthest d).extent.count;
  apart : (k m : ℕ) (d : Piece) → k < m → m < l.i → ShareHome (get_or l.pieces k d).extent (get_or l.pieces m d).extent → ⊥;
}
