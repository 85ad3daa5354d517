use Rattle.std.proofs.Common.{ℕ, ◌<◌, ◌≤◌, length, get_or}
use Rattle.std.specs.Prelude.{IfSome}
use Rattle.growth.specs.declared.changes.Change.{Change}
use Rattle.growth.proofs.forms.fit.Given as goal

abbrev pub invariant-loop-change : goal.invariant-loop-change
invariant-loop-change l = record {
  inside : (i : ℕ) (d : Change) → i < l.change-index → (get_or l.changes i d).file < length l.before;
  few : (i : ℕ) (d : Change) → i < l.change-index → IfSome (get_or l.changes i d).entry (λ e. e.extent_count ≤ 30);
}
