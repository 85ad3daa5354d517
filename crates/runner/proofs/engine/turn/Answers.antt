use Rattle.{std.proofs.Common.{[], None}, runner.proofs.Ends.{stops_here}}
use Rattle.runner.proofs.engine.turn.Goals as goal

pub returns-in-Err : goal.returns-in-Err
returns-in-Err g c = record {
  sound = c.requires.sound;
  empty = tt;
  reads = ([], c.in-Err.ensures.bytes, stops_here g.D.SectorDisk g.E.SectorDisk None _ _ _ _ _ c.requires.empty);
}
