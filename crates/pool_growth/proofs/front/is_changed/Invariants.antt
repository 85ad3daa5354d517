use Rattle.std.proofs.Common.{ℕ, ◌≡◌, ◌<◌, ◌/◌, get_or}
use Rattle.growth.specs.declared.changes.Change.{Change}
use Rattle.pool_growth.proofs.front.is_changed.Given as goal

-- none of the changes before this one is of a file of the page
abbrev pub invariant-loop-change : goal.invariant-loop-change
invariant-loop-change l = (i : ℕ) (d : Change) → i < l.change-index → (get_or l.changes i d).file / 16 ≡ l.page → ⊥
