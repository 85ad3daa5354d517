use Rattle.lifecycle.proofs.Names.{◌≡◌, ◌-◌, ◌<◌, ◌≤◌, ℕ, None, seat, picture_of, entry}
use Rattle.lifecycle.proofs.linking.first_copy.Given as goal

abbrev pub invariant-loop-page : goal.invariant-loop-page
invariant-loop-page g l = record { from : l.part.first ≤ l.page; none : (page : ℕ) → l.part.first ≤ page → page < l.page → seat (entry (picture_of l.core) l.part.pid page) ≡ None }

abbrev pub decreases-loop-page : goal.decreases-loop-page
decreases-loop-page g l = l.part.end - l.page
