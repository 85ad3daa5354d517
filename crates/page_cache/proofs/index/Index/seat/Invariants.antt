use Rattle.{std.proofs.Common.{◌-◌, get_or}, page_cache.specs.Chains.{IsSeat}}
use Rattle.page_cache.proofs.index.Index.seat.Given as goal

-- the link is one of the bucket's, and begins at or before the node
abbrev pub invariant-loop-at : goal.invariant-loop-at
invariant-loop-at l = IsSeat l.self.pages.items l.self.links.items l.self.mask l.bucket l.node l.at

abbrev pub decreases-loop-at : goal.decreases-loop-at
decreases-loop-at l = l.node - get_or l.self.links.items l.at 0
