use Rattle.{std.proofs.Common.{rules}, runner.proofs.{Bytes.{match_both}, Ends.{not_written_out, written_out}, Progress.{goes_on_by_newline}}}
use Rattle.runner.proofs.engine.end_line.Goals as goal

pub returns : goal.returns
returns g c = record {
  sound = c.answer.ensures.sound;
  reads = goes_on_by_newline g.D.SectorDisk g.E.SectorDisk _ _ _ _ _ c.answer.ensures.answers.0 _ c.answer.ensures.answers.1 c.answer.ensures.answers.2;
  room = search rules;
}

pub returns-then-is_full : goal.returns-then-is_full
returns-then-is_full g c =
    let answers = c.answer.ensures.answers in
    record {
      sound = c.answer.ensures.sound;
      reads = match_both c.write_out.result
          (written_out g.D.SectorDisk g.E.SectorDisk _ _ _ _ _ _ _ _ (goes_on_by_newline g.D.SectorDisk g.E.SectorDisk _ _ _ _ _ answers.0 _ answers.1 answers.2) c.write_out.ensures.empty)
          (not_written_out g.D.SectorDisk g.E.SectorDisk _ _ _ _ _ _ _ _ (goes_on_by_newline g.D.SectorDisk g.E.SectorDisk _ _ _ _ _ answers.0 _ answers.1 answers.2))
          c.write_out.ensures.written;
      room = search rules;
    }
