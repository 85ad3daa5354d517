use Rattle.ranges.proofs.Names.{◌≡◌, ◌≢◌, false, ℕ, ◌<◌, ◌≤◌, names, picture_of}
use Rattle.ranges.proofs.forgetting.is_named_beside.Given as goal

abbrev pub invariant-loop-number : goal.invariant-loop-number
invariant-loop-number g l = record { none : (q : ℕ) → 1 ≤ q → q < l.number → q ≢ l.pid → names ((picture_of l.core).at q l.at) l.page.object l.page.page ≡ false }
