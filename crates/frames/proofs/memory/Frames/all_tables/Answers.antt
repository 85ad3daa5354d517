use Rattle.{std.proofs.Common.{arith}, frames.{proofs.Made.{IsSound-made, IsChained-made, IsAllTables-made, IsMade-first, IsMade-more}, specs.FrameTable.{zero_bytes}}}
use Rattle.frames.proofs.memory.Frames.all_tables.Goals as goal

pub loop-n-init : goal.loop-n-init
unfolding zero_bytes
loop-n-init c = (
  IsMade-first _ _ _ _ _ _ c.push_reserved.ensures.items c.in_ok-bytes.ensures.items c.push_reserved-2.ensures.items c.in_ok-roles.ensures.items
      c.push_reserved-3.ensures.items c.in_ok-counts.ensures.items,
  omega (arith, c.push_reserved.ensures.capacity, c.in_ok-bytes.ensures.capacity),
  omega (arith, c.push_reserved-2.ensures.capacity, c.in_ok-roles.ensures.capacity),
  omega (arith, c.push_reserved-3.ensures.capacity, c.in_ok-counts.ensures.capacity),
)

pub loop-n-preserved : goal.loop-n-preserved
loop-n-preserved c = (
  rw (c.push_reserved-in-loop-n.ensures.items, c.push_reserved-in-loop-n-2.ensures.items, c.push_reserved-in-loop-n-3.ensures.items)
      (IsMade-more _ c.loop-n.n _ (omega arith) c.loop-n.invariant.0),
  omega (arith, c.push_reserved-in-loop-n.ensures.capacity),
  omega (arith, c.push_reserved-in-loop-n-2.ensures.capacity),
  omega (arith, c.push_reserved-in-loop-n-3.ensures.capacity),
)

pub invariant_of-result : goal.invariant_of-result
invariant_of-result c = (IsSound-made _ c.loop-n.n (omega arith) (omega arith) c.loop-n.invariant.0, IsChained-made _ c.loop-n.n c.loop-n.invariant.0)

pub returns : goal.returns
returns c = record {
  tables = IsAllTables-made _ c.loop-n.n c.args.count (omega arith) c.loop-n.invariant.0;
  sound = IsSound-made _ c.loop-n.n (omega arith) (omega arith) c.loop-n.invariant.0;
}
