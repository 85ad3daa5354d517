-- How a machine, whatever its mode, is a state of the flat model, stops included: each word is that of the engine that it has.
use Rattle.vm_types.specs.declared.mode.Levels as Levels
use Rattle.std.specs.Prelude.{ℕ, ◌≡◌, Bool}
use Rattle.disk_model.specs.declared.sector_disk.SectorDisk.{Ghosts}
use Rattle.frames.specs.FrameTable.{frame_count}
use Rattle.swap.specs.Slots as Slots
use Rattle.residency.specs.Calls.{IsStart}
use Rattle.spaces.specs.Calls as Calls
use Rattle.vm_types.specs.declared.command.Command.{Command}
use Rattle.vm_types.specs.declared.mode.Mode.{Mode}
use Rattle.vm_types.specs.declared.mode.Mode.TheVariants as Modes
use Rattle.vm_types.specs.declared.reply.Reply.{Reply}
use Rattle.vm_types.specs.History.{Past}
use Rattle.vm_types.specs.State.{State}
use Rattle.machine.specs.Engine.{EngineShows, EngineMeets, EngineMayRead, IsSoundEngine}
use Rattle.machine.specs.declared.engine.Engine.{Engine}
use Rattle.machine.specs.declared.machine.Machine.{Machine}
use Rattle.machine.specs.declared.machine.Machine.TheVariants.{Sv39, Sv48}
use Rattle.sized_stores.specs.Store.{disk_of}

-- the bits of an address in a mode, by which a state of the flat model tells its mode
abbrev pub bits_of : Mode → ℕ
bits_of Modes.Sv39 = 39
bits_of Modes.Sv48 = 48

module _ {D E : Type 0} where
  -- the store's device
  abbrev pub store_of : Machine D E → D
  store_of (Sv39 m) = (disk_of m.core.store)
  store_of (Sv48 m) = (disk_of m.core.store)

  -- the swap device
  abbrev pub swap_of : Machine D E → E
  swap_of (Sv39 m) = m.core.swap.pages.disk
  swap_of (Sv48 m) = m.core.swap.pages.disk

  -- whether an msync failed
  abbrev pub halted_of : Machine D E → Bool
  halted_of (Sv39 m) = m.halted
  halted_of (Sv48 m) = m.halted

  -- the last faults of accesses
  abbrev pub past_of : Machine D E → Past
  past_of (Sv39 m) = m.past
  past_of (Sv48 m) = m.past

  -- how many frames memory has
  abbrev pub frames_of : Machine D E → ℕ
  frames_of (Sv39 m) = frame_count m.core.frames
  frames_of (Sv48 m) = frame_count m.core.frames

  -- how many slots there are
  abbrev pub slot_count_of : Machine D E → ℕ
  slot_count_of (Sv39 m) = (Slots.slots_of m.core.swap).total
  slot_count_of (Sv48 m) = (Slots.slots_of m.core.swap).total

  -- how many requests for a frame were refused
  abbrev pub refused_of : Machine D E → ℕ
  refused_of (Sv39 m) = m.core.refused.number
  refused_of (Sv48 m) = m.core.refused.number

  abbrev pub mode_of : Machine D E → Mode
  mode_of (Sv39 m) = Modes.Sv39
  mode_of (Sv48 m) = Modes.Sv48

  -- there are as many frames and slots as there were, and the mode is the same
  pub record KeepsSizes (old new : Machine D E) : Type 0 where
    pub frames : frames_of new ≡ frames_of old
    pub slots : slot_count_of new ≡ slot_count_of old
    pub mode : mode_of new ≡ mode_of old

  -- P holds of the machine's engine, whatever its mode
  abbrev pub InMode : ((M : Type 0) (levels : Levels.Ghosts M) → Engine D E M levels → Type 0) → Machine D E → Type 0
  InMode P (Sv39 m) = P _ _ m
  InMode P (Sv48 m) = P _ _ m

  -- the two machines are of one mode, and P holds of their engines
  abbrev pub InSameMode : ((M : Type 0) (levels : Levels.Ghosts M) → Engine D E M levels → Engine D E M levels → Type 0) → Machine D E → Machine D E → Type 0
  InSameMode P (Sv39 old) (Sv39 new) = P _ _ old new
  InSameMode P (Sv48 old) (Sv48 new) = P _ _ old new
  InSameMode P (Sv39 old) (Sv48 new) = ⊥
  InSameMode P (Sv48 old) (Sv39 new) = ⊥

  -- The command is an msync, and the machine's store has no room for the lengths and pages that it takes.
  abbrev pub LacksRoom : Machine D E → Command → Type 0
  LacksRoom m command = InMode (λ M levels engine. Calls.LacksRoomFor engine.core command) m

  -- Memory as a boot leaves it: no frame is taken but the zero page, no slot, there is no process, every page of a file or an object is
  -- at home and untouched, and no request for a frame was refused.
  abbrev pub IsEmpty : Machine D E → Type 0
  IsEmpty m = InMode (λ M levels engine. IsStart engine.core (frame_count engine.core.frames) (Slots.slots_of engine.core.swap).total) m

module _ {D E : Type 0} (g : Ghosts D) (h : Ghosts E) where
  -- whatever the devices do: what the reply names came to pass between the two machines
  abbrev pub IsCausedBetween : Machine D E → Machine D E → Reply → Type 0
  IsCausedBetween old new reply = InSameMode (λ M levels before after. Calls.IsCaused g h before.core after.core reply) old new

  -- The machine may go on: it has room for as many pages as an msync takes, and unless it has halted, its store may be read and
  -- committed to, slots may be put and got, and its memory is fit.
  abbrev pub IsSoundMachine : Machine D E → Type 0
  IsSoundMachine m = InMode (λ M levels engine. IsSoundEngine g h engine) m

  -- The machine is in that state: its memory shows it, and so does every image that a stop may leave now, with as many pages of an msync.
  abbrev pub Shows : Machine D E → State → Type 0
  Shows m s = InMode (λ M levels engine. EngineShows g h engine s) m

  -- A command was carried out: as the flat model does, stalled for want of memory only where that is short, with as many frames and
  -- slots as there were, in the same mode, and with nothing else durable at any moment, nor another number of pages of an msync.
  abbrev pub Meets : Machine D E → Machine D E → State → State → Command → Reply → Type 0
  Meets old new s t command reply = InSameMode (λ M levels before after. EngineMeets g h before after s t command reply) old new

  -- The premise of a command's contract: a device that it reads keeps its model.
  abbrev pub IsReadable : Machine D E → State → Command → Type 0
  IsReadable m s command = InMode (λ M levels engine. EngineMayRead g h engine s command) m
