use Rattle.{std.proofs.Common.{le-leb, arith}, frames.specs.FrameTable.{frame_count}, sv39_walk.specs.Walk.{translated}}
use Rattle.sv39_walk.proofs.translation.walk.Goals as goal

pub returns-then-root-len : goal.returns-then-root-len
unfolding translated
returns-then-root-len g c =
    rw (← c.top_level.ensures.level, ← c.canonical.ensures, c.if-not-canonical.false, le-leb (frame_count c.args.frames.now) c.args.root.0 (omega (arith, c.len.ensures.count)))
