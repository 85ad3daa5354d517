-- What a spawn and a fork take of memory.
use Rattle.std.specs.Prelude.{ℕ, ◌≡◌, Option, None}
use Rattle.frames.specs.FrameTable.{IsFull}
use Rattle.residency.specs.Ages.{GivesForTables, KeepsRoles}
use Rattle.residency.specs.Calls.{Refuses}
use Rattle.residency.specs.Picture.{Picture}
use Rattle.lifecycle.specs.Changes.{ForksEntries, StallsToFork, TakesRoot, TakesTables}
use Rattle.vm_types.specs.declared.refusal.Stall.{Stall}
use Rattle.vm_types.specs.declared.reply.Reply.{Reply}
use Rattle.vm_types.specs.declared.reply.Reply.TheVariants.{Process, Stalled}

-- A spawn takes one frame, for the root, and gives one up for it only where none is free. Where it stalls none is free, none
-- changed hands, and none was to be had whatever page it holds.
module _ {mode : ℕ} where
  pub record SpawnTakes (old new : Picture mode) (reply : Reply) : Type 0 where
    pub root : (pid : ℕ) → reply ≡ Process pid → (n : ℕ) × TakesRoot old new pid n
    pub gives : (pid : ℕ) → reply ≡ Process pid → GivesForTables old new None
    pub tried : (stall : Stall) → reply ≡ Stalled stall → (tried : Option ℕ) × GivesForTables old new tried
    pub still : (stall : Stall) → reply ≡ Stalled stall → KeepsRoles old new
    pub full : (stall : Stall) → reply ≡ Stalled stall → IsFull new.frames
    pub refuses : (stall : Stall) → reply ≡ Stalled stall → Refuses new None stall

-- A fork takes frames for the child's tables alone, and gives others up for them only where none is free. Where it stalls, a table
-- was wanted for which none was.
module _ {mode : ℕ} where
  pub record ForkTakes (old new : Picture mode) (parent : ℕ) (reply : Reply) : Type 0 where
    pub entries : (child : ℕ) → reply ≡ Process child → ForksEntries old new parent child
    pub tables : (child : ℕ) → reply ≡ Process child → TakesTables old new parent child
    pub stalls : (stall : Stall) → reply ≡ Stalled stall → (child : ℕ) × StallsToFork old new parent child stall
