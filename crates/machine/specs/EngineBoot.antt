-- How the machine of one mode starts.
use Rattle.vm_types.specs.declared.mode.Levels as Levels
use Rattle.std.specs.Prelude.{◌≡◌}
use Rattle.disk_model.specs.declared.sector_disk.SectorDisk.{Ghosts}
use Rattle.stores.specs.Images.{is_pool, most_pages, StandsForContents}
use Rattle.frames.specs.FrameTable.{frame_count}
use Rattle.swap.specs.Slots.{slots_of}
use Rattle.residency.specs.Calls.{IsStart}
use Rattle.vm_types.specs.State.{State}
use Rattle.machine.specs.Boot.{IsBootState}
use Rattle.machine.specs.Engine.{EngineShows}
use Rattle.machine.specs.declared.config.Config.{Config}
use Rattle.machine.specs.declared.engine.Engine.{Engine}
use Rattle.sized_stores.specs.Store.{disk_of}

module _ {M : Type 0} {levels : Levels.Ghosts M} where
  -- The engine starts with
  pub record EngineStarts {D E : Type 0} (m : Engine D E M levels) (config : Config) (swap_device : E) : Type 0 where
    -- as many frames as were asked for,
    pub frames : frame_count m.core.frames ≡ config.frames
    -- room for as many slots,
    pub slots : (slots_of m.core.swap).total ≡ config.slots
    -- and the swap device as it came.
    pub swap : m.core.swap.pages.disk ≡ swap_device

module _ {M : Type 0} {levels : Levels.Ghosts M} {D E : Type 0} (g : Ghosts D) (h : Ghosts E) where
  -- The engine starts in a state whose files are those that the image at entry stood for, with nothing in memory.
  pub record EngineBoots (store : D) (m : Engine D E M levels) : Type 0 where
    -- the state that it starts in
    pub state : State
    -- its memory shows that state, and so does every image that a stop may leave
    pub shows : EngineShows g h m state
    -- no process, nothing stored to files, no objects, no faults
    pub start : IsBootState state
    -- no frame and no slot is taken
    pub fresh : IsStart m.core (frame_count m.core.frames) (slots_of m.core.swap).total
    -- the image at entry stood for these files, with these bytes
    pub stands : g.keeps_model (disk_of m.core.store) → StandsForContents (g.sector_count store) state.durable (g.content store)
    -- files may get other lengths exactly where that image is of a store with a pool
    pub resizes : g.keeps_model (disk_of m.core.store) → state.resizes ≡ is_pool (g.content store)
    -- and an msync takes as many pages at most as that image says
    pub most : g.keeps_model (disk_of m.core.store) → state.most ≡ most_pages (g.sector_count store) (g.content store)
