use Rattle.disk_model.{proofs.{Names.{◌≡◌, ◌⊎◌, ◌≤◌, ◌<◌, ◌+◌, ℕ, true, false}, Naming.{IsAmong}}, specs.{Sectors.{part_of}, SimDisk.{sectors_in, sector_of, IsUnsynced, moment_of, LeftSince, failures_of, asked_of, last_synced}}}
use Rattle.disk_model.specs.{SimDisk.{disk_counts, after_writes, left_by_write}, Stop.{IsOfPage, ChangesPage, Elapses, Names}}
use Rattle.disk_model.proofs.sim_disk.SimDiskSectorDisk.write_page.Given as goal

abbrev pub invariant-loop-i : goal.invariant-loop-i
invariant-loop-i l = record {
  asks : Names (IsAmong l.n l.i) (asked_of l.initial.self) (asked_of l.self);
  size : sectors_in l.self ≡ sectors_in l.initial.self;
  later : failures_of l.initial.self ≤ failures_of l.self;
  caused : l.failed ≡ true → failures_of l.initial.self < failures_of l.self;
  calm : l.failed ≡ false → failures_of l.self ≡ failures_of l.initial.self;
  written : l.failed ≡ false → (j : ℕ) → j < l.i → sector_of l.self (l.n + j) ≡ part_of l.from j;
  each : (j : ℕ) → j < l.i → sector_of l.self (l.n + j) ≡ left_by_write (after_writes j (disk_counts l.initial.self)) (part_of l.from j);
  counted : disk_counts l.self ≡ after_writes l.i (disk_counts l.initial.self);
  last : last_synced l.self ≡ last_synced l.initial.self;
  others : ChangesPage l.n (sector_of l.initial.self) (sector_of l.self);
  unsynced : (k : ℕ) → IsUnsynced l.self k → IsUnsynced l.initial.self k ⊎ IsOfPage l.n k;
  marked : (k : ℕ) → l.n ≤ k → k < l.n + l.i → IsUnsynced l.self k;
  still : (k : ℕ) → IsUnsynced l.initial.self k → IsUnsynced l.self k;
  time : Elapses (moment_of l.initial.self) (moment_of l.self) (LeftSince l.initial.self) (LeftSince l.self) (sector_of l.self) (IsUnsynced l.self);
}
