use Rattle.disk_model.{proofs.Names.{◌≡◌, ◌<◌, ◌+◌, ◌-◌, ℕ, length}, specs.{Sectors.{part_of}, SimDisk.{sectors_in, sector_of, IsUnsynced, moment_of, LeftSince, failures_of, last_synced, disk_counts, after_reads}, Stop.{Elapses}}}
use Rattle.disk_model.proofs.sim_disk.SimDiskSectorDisk.read_page.Given as goal

abbrev pub invariant-loop-i : goal.invariant-loop-i
invariant-loop-i l = record {
  asked : l.self.asked ≡ l.initial.self.asked;
  size : sectors_in l.self ≡ sectors_in l.initial.self;
  long : length l.to ≡ 4096;
  sector : length l.sector ≡ 512;
  calm : failures_of l.self ≡ failures_of l.initial.self;
  counted : after_reads 8 (disk_counts l.initial.self) ≡ after_reads (8 - l.i) (disk_counts l.self);
  last : last_synced l.self ≡ last_synced l.initial.self;
  gives : (j : ℕ) → j < l.i → part_of l.to j ≡ sector_of l.initial.self (l.n + j);
  same : sector_of l.self ≡ sector_of l.initial.self;
  unsynced : (k : ℕ) → IsUnsynced l.self k → IsUnsynced l.initial.self k;
  still : (k : ℕ) → IsUnsynced l.initial.self k → IsUnsynced l.self k;
  time : Elapses (moment_of l.initial.self) (moment_of l.self) (LeftSince l.initial.self) (LeftSince l.self) (sector_of l.self) (IsUnsynced l.self);
}
