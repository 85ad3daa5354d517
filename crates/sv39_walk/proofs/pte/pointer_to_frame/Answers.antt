use Rattle.{std.proofs.Common.{arith, refl}, sv39_walk.proofs.Entries.{is_pointer-pointer_to, frame_of-pointer_to}}
use Rattle.sv39_walk.proofs.pte.pointer_to_frame.Goals as goal

pub returns-clause-number : goal.returns-clause-number
returns-clause-number c = rw c.from.ensures refl

pub returns-clause-pointer : goal.returns-clause-pointer
returns-clause-pointer c = rw c.from.ensures (is_pointer-pointer_to c.args.frame (omega (arith, c.ranges.frame)))

pub returns-clause-target : goal.returns-clause-target
returns-clause-target c = rw c.from.ensures (frame_of-pointer_to c.args.frame (omega (arith, c.ranges.frame)))
