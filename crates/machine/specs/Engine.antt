-- How the machine of one mode is a state of the flat model, stops included.
use Rattle.vm_types.specs.declared.mode.Levels as Levels
use Rattle.std.specs.Prelude.{ℕ, ◌≡◌, ◌≢◌, ◌⊎◌, true, false, List, [], ◌∷◌, length, Option, Some, None, is_some}
use Rattle.disk_model.specs.Moments.{LeavesNow, LeavesOnly}
use Rattle.disk_model.specs.Stop.{Image}
use Rattle.disk_model.specs.declared.sector_disk.SectorDisk.{Ghosts}
use Rattle.frames.specs.FrameTable.{frame_count}
use Rattle.swap.specs.Slots.{slots_of}
use Rattle.residency.specs.Picture.{picture_of}
use Rattle.stores.specs.Images.{StandsForContents}
use Rattle.residency.specs.Shows.{ShowsPages}
use Rattle.fault.specs.Changes.{KeepsRoom}
use Rattle.residency.specs.declared.kernel.Core.{Core}
use Rattle.sized_stores.specs.Store.{can_resize, directory_of, disk_of, durable_files_of, is_resized_in, shortest_in}
use Rattle.sized_stores.specs.declared.store.SizedStore.{SizedStore}
use Rattle.msync.specs.Core.{KeepsAll}
use Rattle.msync.specs.Shows.{HasSyncRoom, IsSoundCore, SaysMost}
use Rattle.spaces.specs.Calls as Calls
use Rattle.spaces.specs.Idle.{is_idle}
use Rattle.vm_types.specs.declared.command.Command.{Command}
use Rattle.vm_types.specs.declared.refusal.Errno.{Errno}
use Rattle.vm_types.specs.declared.refusal.Errno.TheVariants.{EIO, ENOSPC}
use Rattle.vm_types.specs.declared.refusal.Fault.{Fault}
use Rattle.vm_types.specs.declared.refusal.Stall.{Stall}
use Rattle.vm_types.specs.declared.reply.Reply.{Reply}
use Rattle.vm_types.specs.declared.reply.Reply.TheVariants.{Faulted, Refused, Stalled}
use Rattle.vm_types.specs.Files.{Contents}
use Rattle.vm_types.specs.Prefix.{is_msync, may_have_taken}
use Rattle.vm_types.specs.Run.{Step}
use Rattle.vm_types.specs.Stalls.{reads_files, reads_swap}
use Rattle.vm_types.specs.State.{State, IsRunning}
use Rattle.vm_types.specs.Step.{ruling, takes}
use Rattle.machine.specs.declared.engine.Engine.{Engine}

-- one of a list of contents
abbrev pub IsOneOf : Contents → List Contents → Type 0
IsOneOf contents [] = ⊥
IsOneOf contents (one ∷ others) = (contents ≡ one) ⊎ IsOneOf contents others

abbrev pub stands_in : Option (List Contents) → Contents → Contents → Type 0
stands_in None durable contents = contents ≡ durable
stands_in (Some ends) durable contents = IsOneOf contents ends

-- the contents of all files that a stop may leave in a state: the durable ones, or once it has halted one of its ends
abbrev pub MayStand : State → Contents → Type 0
MayStand s contents = stands_in s.ends s.durable contents

-- the same at any moment of a command: what it makes durable may stand as well
abbrev pub HoldsIn : State → Command → Reply → Contents → Type 0
HoldsIn s command reply contents =
    MayStand s contents ⊎ (IsRunning s × (may_have_taken reply ≡ true) × (contents ≡ takes s (ruling s command) s.durable))

-- the image stands for contents of which P holds
abbrev pub StandsForSome : ℕ → (Contents → Type 0) → Image → Type 0
StandsForSome sectors P image = (contents : Contents) × P contents × StandsForContents sectors contents image

-- What a store keeps of its files is what a state says:
pub record TellsFiles {D : Type 0} (store : SizedStore D) (s : State) : Type 0 where
  -- those that are durable, whose pages have 4,096 bytes each;
  pub files : (f : ℕ) → s.durable.files f ≡ durable_files_of store f
  pub whole : (f k : ℕ) → length (s.durable.pages f k) ≡ 4096
  -- whether they may get other lengths, and which have got one and how short they have been since theirs were made durable.
  pub resizes : s.resizes ≡ can_resize store
  pub resized : (f : ℕ) → s.resized f ≡ is_resized_in store.sizes.items f
  pub shortest : (f : ℕ) → s.shortest f ≡ shortest_in (directory_of store) f

module _ {M : Type 0} {levels : Levels.Ghosts M} {D E : Type 0} where
  -- A call asked neither device: what is durable and its device are as they were, the lengths of files too, and so are the slots and their device.
  pub record AsksNeither (old new : Core D E M levels) : Type 0 where
    pub store : new.store.store ≡ old.store.store
    pub sizes : new.store.sizes.items ≡ old.store.sizes.items
    pub pages : new.swap.pages ≡ old.swap.pages

  -- A command that was not carried out leaves memory and both devices as they were.
  pub record KeepsIfDenied (old new : Engine D E M levels) (command : Command) (reply : Reply) : Type 0 where
    -- a call that was refused; EIO alone comes of an msync that was begun. One that is refused with ENOSPC since the store has no room for lengths
    -- may have listed them in the store's room, and leaves all else as it was
    pub refused : (errno : Errno) → reply ≡ Refused errno → errno ≢ EIO
        → (new.core ≡ old.core) ⊎ ((is_msync command ≡ true) × (errno ≡ ENOSPC) × KeepsAll old.core new.core)
    -- an access that faulted: the history alone notes it (no msync faults)
    pub faulted : is_msync command ≡ false → (fault : Fault) → reply ≡ Faulted fault → new.core ≡ old.core
    -- any command of a halted machine, which leaves its history, too
    pub halted : old.halted ≡ true → new ≡ old

module _ {M : Type 0} {levels : Levels.Ghosts M} {D E : Type 0} (g : Ghosts D) (h : Ghosts E) where
  -- The engine may go on: it has room for what an msync takes, and unless it has halted, its store may be read and
  -- committed to, slots may be put and got, and its memory is fit.
  pub record IsSoundEngine (m : Engine D E M levels) : Type 0 where
    pub room : HasSyncRoom g m.core m.sync_room
    pub going : m.halted ≡ false → IsSoundCore g h m.core

  -- The engine is in that state: its memory shows it, its store keeps the files that it says, its room is that for an msync, and every image
  -- that a stop may leave now shows it, too, with as many pages of an msync.
  pub record EngineShows (m : Engine D E M levels) (s : State) : Type 0 where
    pub pages : ShowsPages (picture_of m.core) s
    pub tells : TellsFiles m.core.store s
    pub running : is_some s.ends ≡ m.halted
    pub past : m.past ≡ s.past
    pub most : s.most ≡ m.sync_room.most
    pub stands : g.keeps_model (disk_of m.core.store)
        → LeavesNow g (disk_of m.core.store) (StandsForSome (g.sector_count (disk_of m.core.store)) (MayStand s))
    pub most_stands : g.keeps_model (disk_of m.core.store) → LeavesNow g (disk_of m.core.store) (SaysMost (g.sector_count (disk_of m.core.store)) s.most)

  -- A command was carried out: as the flat model does, stalled for want of memory only where that is short, with as many frames and
  -- slots as there were, and with nothing else durable at any moment, nor another number of pages of an msync.
  pub record EngineMeets (old new : Engine D E M levels) (s t : State) (command : Command) (reply : Reply) : Type 0 where
    pub step : Step (Calls.causes g h old.core new.core command) s command reply t
    pub shows : EngineShows new t
    pub capacity : (stall : Stall) → reply ≡ Stalled stall → Calls.FallsShort (frame_count new.core.frames) (slots_of new.core.swap).total s command stall
    pub room : KeepsRoom (picture_of old.core) (picture_of new.core)
    pub size : g.sector_count (disk_of new.core.store) ≡ g.sector_count (disk_of old.core.store)
    pub swap_size : h.sector_count new.core.swap.pages.disk ≡ h.sector_count old.core.swap.pages.disk
    pub kept : g.keeps_model (disk_of new.core.store) → g.keeps_model (disk_of old.core.store)
    pub swap_kept : h.keeps_model new.core.swap.pages.disk → h.keeps_model old.core.swap.pages.disk
    pub idle : is_idle s command reply ≡ true → AsksNeither old.core new.core
    pub moments : g.keeps_model (disk_of new.core.store)
        → LeavesOnly g (disk_of old.core.store) (disk_of new.core.store) (StandsForSome (g.sector_count (disk_of old.core.store)) (HoldsIn s command reply))
    pub most_moments : g.keeps_model (disk_of new.core.store) → LeavesOnly g (disk_of old.core.store) (disk_of new.core.store) (SaysMost (g.sector_count (disk_of old.core.store)) s.most)

  -- The premise of a command's contract: a device that it reads keeps its model.
  pub record EngineMayRead (m : Engine D E M levels) (s : State) (command : Command) : Type 0 where
    pub files : reads_files command ≡ true → g.keeps_model (disk_of m.core.store)
    pub slots : reads_swap s command ≡ true → h.keeps_model m.core.swap.pages.disk
