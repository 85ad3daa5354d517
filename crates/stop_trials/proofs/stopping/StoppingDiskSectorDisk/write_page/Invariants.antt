use Rattle.{std.proofs.Common.{◌≡◌, ◌⊎◌, ◌≤◌, ◌<◌, ◌+◌, ℕ, true, false, is_some}, disk_model.{proofs.Naming.{IsAmong}, specs.{Sectors.{part_of}, SimDisk.{sectors_in, sector_of, IsUnsynced, moment_of, LeftSince, failures_of, asked_of}}}}
use Rattle.{disk_model.specs.Stop.{IsOfPage, ChangesPage, Elapses, Names}, stop_trials.specs.Stopping.{plan_of, plan_after_writes}}
use Rattle.stop_trials.proofs.stopping.StoppingDiskSectorDisk.write_page.Given as goal

abbrev pub invariant-loop-i : goal.invariant-loop-i
invariant-loop-i l = record {
  asks : Names (IsAmong l.n l.i) (asked_of l.initial.self.disk) (asked_of l.self.disk);
  size : sectors_in l.self.disk ≡ sectors_in l.initial.self.disk;
  later : failures_of l.initial.self.disk ≤ failures_of l.self.disk;
  caused : l.failed ≡ true → failures_of l.initial.self.disk < failures_of l.self.disk;
  calm : l.failed ≡ false → failures_of l.self.disk ≡ failures_of l.initial.self.disk;
  written : l.failed ≡ false → (j : ℕ) → j < l.i → sector_of l.self.disk (l.n + j) ≡ part_of l.from j;
  fails : 0 < l.i → l.failed ≡ is_some l.self.stopped;
  begun : l.i ≡ 0 → l.failed ≡ false;
  plan : plan_of l.self ≡ plan_after_writes l.i l.n (plan_of l.initial.self);
  others : ChangesPage l.n (sector_of l.initial.self.disk) (sector_of l.self.disk);
  unsynced : (k : ℕ) → IsUnsynced l.self.disk k → IsUnsynced l.initial.self.disk k ⊎ IsOfPage l.n k;
  marked : (k : ℕ) → l.n ≤ k → k < l.n + l.i → IsUnsynced l.self.disk k;
  still : (k : ℕ) → IsUnsynced l.initial.self.disk k → IsUnsynced l.self.disk k;
  time : Elapses (moment_of l.initial.self.disk) (moment_of l.self.disk) (LeftSince l.initial.self.disk) (LeftSince l.self.disk) (sector_of l.self.disk) (IsUnsynced l.self.disk);
}
