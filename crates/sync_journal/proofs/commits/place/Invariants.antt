use Rattle.sync_journal.{proofs.Names.{◌≡◌, ◌<◌, get_or, IfSome}, specs.Map.{place_among}}
use Rattle.sync_journal.proofs.commits.place.Given as goal

abbrev pub invariant-loop-j : goal.invariant-loop-j
invariant-loop-j l = (l.found ≡ place_among (λ k. get_or l.homes k 0) l.home l.j) × IfSome l.found (λ k. k < l.j)
