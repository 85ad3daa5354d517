use Rattle.{std.proofs.Common.{rules}, runner.proofs.{Bytes.{match_both}, Ends.{written_out, not_written_out}}}
use Rattle.runner.proofs.engine.take_piece.Goals as goal

pub returns-clause-reads : goal.returns-clause-reads
returns-clause-reads g c = record {
  sound = c.run_piece.ensures.sound;
  reads = match_both c.write_out.result
      (written_out g.D.SectorDisk g.E.SectorDisk _ _ _ _ _ _ _ _ c.in-Ok.ensures.reads c.write_out.ensures.empty)
      (not_written_out g.D.SectorDisk g.E.SectorDisk _ _ _ _ _ _ _ _ c.in-Ok.ensures.reads)
      c.write_out.ensures.written;
  room = search rules;
}
