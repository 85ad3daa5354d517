-- What a spawn and a fork take of memory, by what they return.
use Rattle.spaces.proofs.Names.{ℕ, ◌≡◌, Option, None, subst, rules, IsFull, ForksEntries, StallsToFork, TakesRoot, TakesTables, GivesForTables, KeepsRoles, Refuses, Picture, Stall, Process, Stalled}
use Rattle.spaces.specs.Processes.{ForkTakes, SpawnTakes}

module _ {mode : ℕ} (old new : Picture mode) where
  pub spawned_takes : (pid : ℕ) → (n : ℕ) × TakesRoot old new pid n → GivesForTables old new None → SpawnTakes old new (Process pid)
  spawned_takes pid taken gives = record {
    root = λ other e. let same : pid ≡ other = cc in subst (λ (p : ℕ). (n : ℕ) × TakesRoot old new p n) same taken;
    gives = λ other e. gives;
    tried = search rules;
    still = search rules;
    full = search rules;
    refuses = search rules;
  }

  pub spawn_stalled_takes : (stall : Stall) → (tried : Option ℕ) × GivesForTables old new tried → KeepsRoles old new → IsFull new.frames
      → Refuses new None stall → SpawnTakes old new (Stalled stall)
  spawn_stalled_takes stall tried still full refuses = record {
    root = search rules;
    gives = search rules;
    tried = λ other e. tried;
    still = λ other e. still;
    full = λ other e. full;
    refuses = λ other e. let same : stall ≡ other = cc in subst (λ (x : Stall). Refuses new None x) same refuses;
  }

  module _ (parent number : ℕ) (same : parent ≡ number) (child : ℕ) where
    pub forked_takes : ForksEntries old new parent child → TakesTables old new parent child → ForkTakes old new number (Process child)
    forked_takes entries tables = subst (λ (p : ℕ). ForkTakes old new p (Process child)) same (record {
      entries = λ other e. let is : child ≡ other = cc in subst (λ (q : ℕ). ForksEntries old new parent q) is entries;
      tables = λ other e. let is : child ≡ other = cc in subst (λ (q : ℕ). TakesTables old new parent q) is tables;
      stalls = search rules;
    })

    pub fork_stalled_takes : (stall : Stall) → StallsToFork old new parent child stall → ForkTakes old new number (Stalled stall)
    fork_stalled_takes stall stalls = subst (λ (p : ℕ). ForkTakes old new p (Stalled stall)) same (record {
      entries = search rules;
      tables = search rules;
      stalls = λ other e. let is : stall ≡ other = cc in (child, subst (λ (x : Stall). StallsToFork old new parent child x) is stalls);
    })
