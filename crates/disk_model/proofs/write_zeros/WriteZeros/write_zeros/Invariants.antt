use Rattle.disk_model.proofs.{Names.{◌≡◌}, Rows.{AreZeros, WritesPages}}
use Rattle.disk_model.specs.Stop.{IsOfPages, NamesOnce}
use Rattle.disk_model.proofs.write_zeros.WriteZeros.write_zeros.Given as goal

-- the first pages are written
abbrev pub invariant-loop-i : goal.invariant-loop-i
invariant-loop-i g l = record {
  size : g.Self.SectorDisk.sector_count l.self ≡ g.Self.SectorDisk.sector_count l.fn.self;
  kept : g.Self.SectorDisk.keeps_model l.self → g.Self.SectorDisk.keeps_model l.fn.self;
  calm : g.Self.SectorDisk.failures l.self ≡ g.Self.SectorDisk.failures l.fn.self;
  asks : NamesOnce (IsOfPages l.fn.n l.i) (g.Self.SectorDisk.asked l.fn.self) (g.Self.SectorDisk.asked l.self);
  zeros : g.Self.SectorDisk.keeps_model l.self → AreZeros l.fn.n l.i (g.Self.SectorDisk.content l.self);
  writes : g.Self.SectorDisk.keeps_model l.self → WritesPages g.Self.SectorDisk l.fn.n l.i l.fn.self l.self;
}
