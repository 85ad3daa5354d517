use Rattle.sync_plans.{proofs.Names.{◌≡◌, ◌⊎◌, ◌≤◌, ◌<◌, ◌+◌, ℕ, IsOfPage, ChangesPage, Elapses, part_of}, specs.{PlanDisk.{content_of, listed_unsynced, listed_left, plan_moment}, Writing.{KeepsPlan}}}
use Rattle.sync_plans.proofs.plan_disk.PlanDisk.put_sectors.Given as goal

abbrev pub invariant-loop-i : goal.invariant-loop-i
invariant-loop-i l = record {
  keeps : KeepsPlan l.initial.self l.self;
  calm : l.self.failures.number ≡ l.initial.self.failures.number;
  written : (j : ℕ) → j < l.i → content_of l.self (l.n + j) ≡ part_of l.from j;
  others : ChangesPage l.n (content_of l.initial.self) (content_of l.self);
  unsynced : (k : ℕ) → listed_unsynced l.self k → listed_unsynced l.initial.self k ⊎ IsOfPage l.n k;
  marked : (k : ℕ) → l.n ≤ k → k < l.n + l.i → listed_unsynced l.self k;
  still : (k : ℕ) → listed_unsynced l.initial.self k → listed_unsynced l.self k;
  time : Elapses (plan_moment l.initial.self) (plan_moment l.self) (listed_left l.initial.self) (listed_left l.self) (content_of l.self) (listed_unsynced l.self);
}
