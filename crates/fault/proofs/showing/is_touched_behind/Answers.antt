use Rattle.fault.proofs.Names.{arith}
use Rattle.fault.proofs.showing.is_touched_behind.Goals as goal

pub is_frame_touched-requires : goal.is_frame_touched-requires
is_frame_touched-requires g c = omega (arith, c.requires.inside, c.args.core.now.node_count)
