use Rattle.{std.proofs.Common.{◌≡◌, ◌-◌, ◌<◌, ◌≤◌, ℕ, true, false, length}, page_cache.specs.{Chains.{bucket_of, is_in_bucket}, Nodes.{page_at, holds}}}
use Rattle.page_cache.proofs.index.Index.find.Given as goal

-- the node is of the page's bucket or past the last, and none before it holds the page
abbrev pub invariant-loop-node : goal.invariant-loop-node
invariant-loop-node l = record {
  within : l.node ≤ length l.self.pages.items;
  there : l.node < length l.self.pages.items → is_in_bucket l.self.mask (bucket_of l.self.mask l.page) (page_at l.self.pages.items l.node) ≡ true;
  before : (m : ℕ) → m < l.node → holds l.page (page_at l.self.pages.items m) ≡ false;
}

abbrev pub decreases-loop-node : goal.decreases-loop-node
decreases-loop-node l = length l.self.pages.items - l.node
