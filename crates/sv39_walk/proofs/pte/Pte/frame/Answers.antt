use Rattle.{std.proofs.Common.{refl}, sv39_walk.specs.Entry.{frame_of}}
use Rattle.sv39_walk.proofs.pte.Pte.frame.Goals as goal

pub returns-clause-frame : goal.returns-clause-frame
unfolding frame_of
returns-clause-frame c = refl
