use Rattle.runner.proofs.Ends.{finishes, finishes_badly}
use Rattle.runner.proofs.engine.finish.Goals as goal

pub returns-in-Ok : goal.returns-in-Ok
returns-in-Ok g c = record { sound = c.answer_last.ensures.sound; ends = finishes g.D.SectorDisk g.E.SectorDisk _ _ _ _ _ _ _ _ c.answer_last.ensures.runs c.in-Ok.ensures.written }

pub returns-in-Err : goal.returns-in-Err
returns-in-Err g c = record {
  sound = c.answer_last.ensures.sound;
  ends = finishes_badly g.D.SectorDisk g.E.SectorDisk _ _ _ _ _ _ _ _ c.answer_last.ensures.runs c.in-Err.ensures.written;
}
