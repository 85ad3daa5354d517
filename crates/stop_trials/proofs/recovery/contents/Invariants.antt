use Rattle.{std.proofs.Common.{◌≡◌}, stores.specs.Store.{IsReadyStore, disk_of}, disk_model.specs.Sectors.{joined}, stop_trials.specs.Standing.{standing_bytes}}
use Rattle.stop_trials.proofs.recovery.contents.Given as goal

abbrev pub invariant-loop-file : goal.invariant-loop-file
invariant-loop-file g l = record {
  ready : IsReadyStore g.D.SectorDisk l.store;
  kept : g.D.SectorDisk.keeps_model (disk_of l.store) → g.D.SectorDisk.keeps_model (disk_of l.initial.store);
  same : g.D.SectorDisk.keeps_model (disk_of l.store) → g.D.SectorDisk.content (disk_of l.store) ≡ g.D.SectorDisk.content (disk_of l.initial.store);
  size : g.D.SectorDisk.sector_count (disk_of l.store) ≡ g.D.SectorDisk.sector_count (disk_of l.initial.store);
  bytes : g.D.SectorDisk.keeps_model (disk_of l.store)
      → l.bytes.items ≡ joined (standing_bytes (g.D.SectorDisk.sector_count (disk_of l.initial.store)) (g.D.SectorDisk.content (disk_of l.initial.store))) l.file;
}
