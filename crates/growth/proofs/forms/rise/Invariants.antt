use Rattle.std.proofs.Common.{ℕ, ◌<◌, ◌+◌, get_or}
use Rattle.growth.specs.declared.changes.Change.{Change}
use Rattle.growth.proofs.forms.rise.Given as goal

abbrev pub invariant-loop-i : goal.invariant-loop-i
invariant-loop-i l = (j : ℕ) (d : Change) → j + 1 < l.i → (get_or l.changes j d).file < (get_or l.changes (j + 1) d).file
