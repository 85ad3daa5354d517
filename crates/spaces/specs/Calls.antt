-- What a call comes to.
use Rattle.vm_types.specs.declared.mode.Levels as Levels
use Rattle.std.specs.Prelude.{ℕ, ◌≡◌, ◌+◌, ◌<◌, ◌≤◌, true, false}
use Rattle.disk_model.specs.declared.sector_disk.SectorDisk.{Ghosts}
use Rattle.frames.specs.FrameTable.{frame_count}
use Rattle.swap.specs.Slots.{slots_of}
use Rattle.fault.specs.Changes.{KeepsRoom}
use Rattle.residency.specs.Calls.{UsesDevice}
use Rattle.residency.specs.declared.kernel.Core.{Core}
use Rattle.residency.specs.Picture.{picture_of}
use Rattle.residency.specs.Stalls.{ReadCause}
use Rattle.residency.specs.Shows.{ShowsPages}
use Rattle.msync.specs.{Core.{LacksTaken}, Shows.{IsSoundCore, CoreShows}}
use Rattle.vm_types.specs.Capacity.{table_count, held_count}
use Rattle.vm_types.specs.declared.command.{Command.{Command}, MsyncMode.{MsyncMode}}
use Rattle.vm_types.specs.declared.command.Command.TheVariants.{Msync}
use Rattle.vm_types.specs.declared.refusal.Errno.TheVariants.{EIO}
use Rattle.vm_types.specs.declared.refusal.Stall.{Stall}
use Rattle.vm_types.specs.declared.refusal.Stall.TheVariants.{NoFrames, NoSwap, SwapDevice, StoreDevice}
use Rattle.vm_types.specs.declared.reply.Reply.{Reply}
use Rattle.vm_types.specs.declared.reply.Reply.TheVariants.{Refused, Stalled}
use Rattle.vm_types.specs.Stalls.{Causes, MayStall, reads_files, reads_swap}
use Rattle.vm_types.specs.State.{State}
use Rattle.vm_types.specs.Step.{outcome}
use Rattle.spaces.specs.Idle.{is_denial, names_store, names_swap, refused_count}
use Rattle.sized_stores.specs.Store.{disk_of}

-- Memory of so many frames, or so many slots, are short of what a command needs: the tables of the state after it and three more
-- frames, or a slot for each page that processes have of their own, each touched file page and each page of an object that was stored to.
abbrev pub FallsShort : ℕ → ℕ → State → Command → Stall → Type 0
FallsShort frames slots s command NoFrames = frames < table_count (outcome s command).state + 3
FallsShort frames slots s command NoSwap = slots < held_count s
FallsShort frames slots s command SwapDevice = Unit {0}
FallsShort frames slots s command StoreDevice = Unit {0}

-- the command is an msync, and the store has no room for the pages and lengths that it takes
module _ {M : Type 0} {m : Levels.Ghosts M} {D E : Type 0} where
  abbrev pub LacksRoomFor : Core D E M m → Command → Type 0
  LacksRoomFor c command = (pid : ℕ) × (addr : ℕ) × (len : ℕ) × (mode : MsyncMode) × (command ≡ Msync pid addr len mode) × LacksTaken c pid addr len

module _ {M : Type 0} {m : Levels.Ghosts M} {D E : Type 0} (g : Ghosts D) (h : Ghosts E) where
  -- what came to pass in a command, between the memory before it and after it
  abbrev pub causes : Core D E M m → Core D E M m → Command → Causes
  causes old new command = record {
    store = g.failures (disk_of old.store) < g.failures (disk_of new.store);
    swap = h.failures old.swap.pages.disk < h.failures new.swap.pages.disk;
    refused = new.refused.number ≡ old.refused.number + 1;
    room = LacksRoomFor old command;
  }

  -- The call returns what the flat model does and leaves the memory of its state, or it stalls, memory or slots being short where it
  -- names one of them, and nobody sees a change.
  pub data Comes (old new : Core D E M m) (s : State) (command : Command) (reply : Reply) : Type 0 where
    Does : reply ≡ (outcome s command).reply → ShowsPages (picture_of new) (outcome s command).state → Comes old new s command reply
    Stalls : (stall : Stall) → MayStall (causes old new command) s command stall → FallsShort (frame_count new.frames) (slots_of new.swap).total s command stall
        → reply ≡ Stalled stall → ShowsPages (picture_of new) s → Comes old new s command reply

  -- the same from every state that memory shows, as long as the devices keep the disk model where the call reads them
  abbrev pub Carries : Core D E M m → Core D E M m → Command → Reply → Type 0
  Carries old new command reply =
      (s : State) → CoreShows g old s → (reads_files command ≡ true → g.keeps_model (disk_of new.store))
      → (reads_swap s command ≡ true → h.keeps_model new.swap.pages.disk) → Comes old new s command reply

  -- Whatever the devices do: a reply names a device or the want of a frame exactly where that failed in the call, or was refused.
  -- No failure is forgotten, neither an earlier one nor one in the call, and no more than one request was refused.
  pub record IsCaused (old new : Core D E M m) (reply : Reply) : Type 0 where
    pub later : g.failures (disk_of old.store) ≤ g.failures (disk_of new.store)
    pub swap_later : h.failures old.swap.pages.disk ≤ h.failures new.swap.pages.disk
    pub calm : names_store reply ≡ false → g.failures (disk_of new.store) ≡ g.failures (disk_of old.store)
    pub swap_calm : names_swap reply ≡ false → h.failures new.swap.pages.disk ≡ h.failures old.swap.pages.disk
    pub counted : new.refused.number ≡ old.refused.number + refused_count reply
    pub failed : reply ≡ Refused EIO → g.failures (disk_of old.store) < g.failures (disk_of new.store)
    pub stalled : (stall : Stall) → reply ≡ Stalled stall → ReadCause g h old new stall

  -- A call accounts for what it did, whatever comes of it:
  pub record AccountsFor (old new : Core D E M m) (reply : Reply) : Type 0 where
    -- the next call may be made,
    pub sound : IsSoundCore g h new
    -- memory has as many frames and slots as it had,
    pub room : KeepsRoom (picture_of old) (picture_of new)
    -- nothing changed where the reply is a denial,
    pub denied : is_denial reply ≡ true → new ≡ old
    -- and the reply names a device or the want of a frame exactly where that failed, or was refused.
    pub caused : IsCaused old new reply

  -- A call leaves the store alone, whatever comes of it:
  pub record LeavesStore (old new : Core D E M m) (reply : Reply) : Type 0 where
    -- it accounts for what it did,
    pub accounts : AccountsFor old new reply
    pub open accounts use *
    -- the store is as it was,
    pub store : new.store ≡ old.store
    -- and the swap device was read and written at most.
    pub device : UsesDevice h old.swap.pages.disk new.swap.pages.disk
