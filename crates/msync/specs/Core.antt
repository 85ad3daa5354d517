-- What an msync comes to.
use Rattle.vm_types.specs.declared.mode.Levels as Levels
use Rattle.std.specs.Prelude.{◌≡◌, ◌<◌, ℕ, true, take}
use Rattle.disk_model.specs.Moments.{LeavesOnly}
use Rattle.disk_model.specs.declared.sector_disk.SectorDisk.{Ghosts}
use Rattle.stores.specs.Images.{StandsForContents, StandsForEitherContents}
use Rattle.swap.specs.Slots.{slots_of}
use Rattle.vm_types.specs.declared.command.Command.{Command}
use Rattle.vm_types.specs.declared.refusal.Errno.TheVariants.{EIO, ENOSPC}
use Rattle.vm_types.specs.declared.refusal.Stall.TheVariants.{SwapDevice}
use Rattle.vm_types.specs.declared.reply.Reply.{Reply}
use Rattle.vm_types.specs.declared.reply.Reply.TheVariants.{Done, Refused, Stalled}
use Rattle.vm_types.specs.State.{State}
use Rattle.vm_types.specs.Step.{outcome, commits_lengths}
use Rattle.vm_types.specs.Files.{Contents}
use Rattle.residency.specs.declared.kernel.Core.{Core}
use Rattle.residency.specs.Picture.{picture_of}
use Rattle.residency.specs.Shows.{ShowsPages}
use Rattle.msync.specs.Choice.{Chosen, AreThoseTaken, TakesAway}
use Rattle.msync.specs.Shows.{IsSoundCore, CoreShows, SaysMost}
use Rattle.sized_stores.specs.Commit.{LacksRoom}
use Rattle.sized_stores.specs.Store.{directory_of, disk_of, files_of}

module _ {M : Type 0} {m : Levels.Ghosts M} {D E : Type 0} where
  -- memory and slots are as they were, and the store has the same files, durably and now
  pub record KeepsMemory (old new : Core D E M m) : Type 0 where
    pub directory : directory_of new.store ≡ directory_of old.store
    pub slots : slots_of new.swap ≡ slots_of old.swap
    pub frames : new.frames ≡ old.frames
    pub cache : new.cache ≡ old.cache
    pub roots : new.roots ≡ old.roots
    pub regions : new.regions ≡ old.regions
    pub page_of : new.page_of ≡ old.page_of
    pub clock : new.clock ≡ old.clock
    pub refused : new.refused ≡ old.refused

  -- All is as it was, but for what the room holds that a store has for the lists of a commit:
  pub record KeepsAll (old new : Core D E M m) : Type 0 where
    -- what is durable, with its device, and the lengths of files,
    pub store : new.store.store ≡ old.store.store
    pub sizes : new.store.sizes.items ≡ old.store.sizes.items
    -- swap, with its device,
    pub swap : new.swap ≡ old.swap
    -- and memory.
    pub frames : new.frames ≡ old.frames
    pub cache : new.cache ≡ old.cache
    pub roots : new.roots ≡ old.roots
    pub regions : new.regions ≡ old.regions
    pub page_of : new.page_of ≡ old.page_of
    pub clock : new.clock ≡ old.clock
    pub keep : new.keep ≡ old.keep
    pub looks : new.looks ≡ old.looks
    pub refused : new.refused ≡ old.refused

  -- the store has no room for these pages and lengths
  abbrev pub LacksChosen : Core D E M m → Chosen → Type 0
  LacksChosen c chosen = LacksRoom c.store chosen.files (take chosen.count chosen.list)

  -- the store has no room for the pages and lengths that an msync of these bytes takes
  abbrev pub LacksTaken : Core D E M m → ℕ → ℕ → ℕ → Type 0
  LacksTaken c pid addr len = (chosen : Chosen) × AreThoseTaken (picture_of c) c.store.sizes.items pid addr len chosen × LacksChosen c chosen

module _ {M : Type 0} {m : Levels.Ghosts M} {D E : Type 0} (g : Ghosts D) (h : Ghosts E) where
  -- A slot gave back what was put: where a page that is taken lies in one, the swap device has kept its model.
  abbrev pub GivesBack : Core D E M m → Core D E M m → ℕ → ℕ → ℕ → Type 0
  GivesBack old new pid addr len = TakesAway (picture_of old) old.store.sizes.items pid addr len → h.keeps_model new.swap.pages.disk

  -- The commit was made; or the store failed in it, and memory is as it was; or a slot couldn't be read, and so are memory and
  -- what every image of a stop stands for, at every moment; or it was one of lengths, for which the store has no room, and nothing was done. What is
  -- durable once it was made is told as long as slots gave back what was put.
  pub data IsEnd (given_back lacks : Type 0) (old new : Core D E M m) (s : State) (command : Command) (reply : Reply) : Type 0 where
    Acknowledged : reply ≡ Done → ShowsPages (picture_of new) (outcome s command).state → (given_back → CoreShows g new (outcome s command).state) → IsSoundCore g h new
        → IsEnd given_back lacks old new s command reply
    Failed : reply ≡ Refused EIO → g.failures (disk_of old.store) < g.failures (disk_of new.store) → KeepsMemory old new → IsEnd given_back lacks old new s command reply
    Unread : reply ≡ Stalled SwapDevice → h.failures old.swap.pages.disk < h.failures new.swap.pages.disk → KeepsMemory old new → CoreShows g new s → IsSoundCore g h new
        → (g.keeps_model (disk_of new.store) → LeavesOnly g (disk_of old.store) (disk_of new.store) (StandsForContents (g.sector_count (disk_of old.store)) s.durable))
        → IsEnd given_back lacks old new s command reply
    Lacking : reply ≡ Refused ENOSPC → commits_lengths s command ≡ true → lacks → KeepsAll old new → CoreShows g new s → IsSoundCore g h new
        → IsEnd given_back lacks old new s command reply

  -- What an msync that makes pages durable comes to: at every moment a stop leaves the files as they were, or with all of
  -- those pages and lengths, as long as slots gave back what was put; in memory every file has the length that it had; and an msync may take as many
  -- pages as before.
  pub record Commits (given_back lacks : Type 0) (old new : Core D E M m) (s : State) (after : Contents) (command : Command) (reply : Reply) : Type 0 where
    pub end : IsEnd given_back lacks old new s command reply
    pub files : (f : ℕ) → files_of new.store f ≡ files_of old.store f
    pub size : g.sector_count (disk_of new.store) ≡ g.sector_count (disk_of old.store)
    pub kept : g.keeps_model (disk_of new.store) → g.keeps_model (disk_of old.store)
    pub either : g.keeps_model (disk_of new.store) → given_back
        → LeavesOnly g (disk_of old.store) (disk_of new.store) (StandsForEitherContents (g.sector_count (disk_of old.store)) s.durable after)
    pub most_moments : g.keeps_model (disk_of new.store) → LeavesOnly g (disk_of old.store) (disk_of new.store) (SaysMost (g.sector_count (disk_of old.store)) s.most)
