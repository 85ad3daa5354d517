-- A trace that was run on a machine just booted.
use Rattle.std.specs.Prelude.{◌≡◌, ◌≤◌, ℕ}
use Rattle.disk_model.specs.declared.sector_disk.SectorDisk.{Ghosts}
use Rattle.disk_model.specs.Moments.{AsksOnly, LeavesOnly}
use Rattle.disk_model.specs.Stop.{Image}
use Rattle.stores.specs.Images.{SaysMostOf, StandsAs, IsBadLayout, IsBadJournal, IsOutside}
use Rattle.vm_types.specs.State.{State}
use Rattle.machine.specs.declared.config.Config.{Config}
use Rattle.machine.specs.declared.machine.Machine.{Machine}
use Rattle.machine.specs.Machine.{store_of, swap_of, Shows}
use Rattle.machine.specs.Boot.{Boots, HasBadFrames, HasBadSlots, HasRoom, IsAskedToBoot}
use Rattle.runner.specs.declared.engine.RunEnd.{RunEnd}
use Rattle.runner.specs.Trace.{Streams, CausedTrace, RunsTrace}

module _ {D E : Type 0} (g : Ghosts D) (h : Ghosts E) where
  -- A machine was booted on the store and the swap device, with the memory and the mode that were asked for, and ran the trace
  -- until this end, which left the new one. The sizes that were asked for are good, and so is the store. Where the store came
  -- without unsynced writes, what a stop left before the first line stands for what the store did at first, with as many pages of an
  -- msync, and for what it did before any earlier stop. The boot asked the store for no sector but those that a boot asks for, and left the mark, the kind
  -- and what lies after the last home as they were. The devices of the machine that was booted kept the disk model where those of the
  -- new one have.
  pub record RunsOn (config : Config) (store : D) (swap : E) (end : RunEnd) (new : Machine D E) (before after : Streams) : Type 0 where
    pub old : Machine D E
    pub boots : Boots g h store old
    pub room : HasRoom old config
    pub frames : HasBadFrames config → ⊥
    pub slots : HasBadSlots config (h.sector_count swap) → ⊥
    pub swap_device : swap_of old ≡ swap
    pub size : g.sector_count (store_of old) ≡ g.sector_count store
    pub later : g.failures store ≤ g.failures (store_of old)
    pub calm : g.failures (store_of old) ≡ g.failures store
    pub kept : g.keeps_model (store_of new) → g.keeps_model (store_of old)
    pub swap_kept : h.keeps_model (swap_of new) → h.keeps_model (swap_of old)
    pub honest : g.keeps_model (store_of old) → g.keeps_model store
    pub layout : g.keeps_model (store_of old) → IsBadLayout (g.sector_count store) (g.content store) → ⊥
    pub journal : g.keeps_model (store_of old) → IsBadJournal (g.sector_count store) (g.content store) → ⊥
    pub opening : g.keeps_model (store_of old) → ((k : ℕ) → g.unsynced store k → ⊥)
        → LeavesOnly g store (store_of old) (StandsAs (g.sector_count store) (g.content store))
    pub opening_most : g.keeps_model (store_of old) → ((k : ℕ) → g.unsynced store k → ⊥)
        → LeavesOnly g store (store_of old) (SaysMostOf (g.sector_count store) (g.content store))
    pub in_a_row : g.keeps_model (store_of old) → ((k : ℕ) → g.unsynced store k → ⊥) → (first : Image) → StandsAs (g.sector_count store) first (g.content store)
        → LeavesOnly g store (store_of old) (StandsAs (g.sector_count store) first)
    pub asks : g.keeps_model (store_of old) → AsksOnly g (IsAskedToBoot (g.sector_count store) (g.content store)) store (store_of old)
    pub outside : g.keeps_model (store_of old) → (k : ℕ) → IsOutside (g.sector_count store) (g.content store) k → g.content (store_of old) k ≡ g.content store k
    pub caused : CausedTrace g h end old new before after
    pub runs : (s : State) → Shows g h old s → g.keeps_model (store_of new) → h.keeps_model (swap_of new) → RunsTrace g h end old new before after s
