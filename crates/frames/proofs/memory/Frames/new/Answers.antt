use Rattle.{std.proofs.Common.{◌-◌, arith}, frames.proofs.Made.{IsAllTables-less, IsHeld-table}}
use Rattle.frames.proofs.memory.Frames.new.Goals as goal

pub release-requires : goal.release-requires
release-requires c =
    IsHeld-table c.loop-n.frames (c.loop-n.n - 1) (omega (arith, c.loop-n.invariant.made.frames)) (c.loop-n.invariant.made.tables (c.loop-n.n - 1) (omega arith) (omega arith))

pub loop-n-preserved : goal.loop-n-preserved
loop-n-preserved c = record {
  made = IsAllTables-less c.loop-n.frames c.release.new.self c.args.count c.loop-n.n (omega arith) (omega arith) c.loop-n.invariant.made c.release.ensures.change;
  sound = c.release.ensures.sound;
}
