use Rattle.std.proofs.Common.{◌≡◌, ◌≤◌, None, replicate, vec_capacity}
use Rattle.page_cache.proofs.index.Index.new.Given as goal

-- as many empty nodes as were counted, and room for the rest
abbrev pub invariant-loop-node : goal.invariant-loop-node
invariant-loop-node l = record {
  empty : l.pages.items ≡ replicate l.node None;
  room : l.nodes ≤ vec_capacity l.pages;
}
