use Rattle.std.proofs.Common.{◌≡◌, ◌<◌, ◌≤◌, ℕ, length, get_or, vec_capacity}
use Rattle.page_cache.proofs.node_set.NodeSet.new.Given as goal

-- each node so far at its own number, and room for the rest
abbrev pub invariant-loop-node : goal.invariant-loop-node
invariant-loop-node l = record {
  order_length : length l.order.items ≡ l.node;
  ranks_length : length l.ranks.items ≡ l.node;
  order_own : (k : ℕ) → k < l.node → get_or l.order.items k 0 ≡ k;
  ranks_own : (k : ℕ) → k < l.node → get_or l.ranks.items k 0 ≡ k;
  order_room : l.nodes ≤ vec_capacity l.order;
  ranks_room : l.nodes ≤ vec_capacity l.ranks;
}
