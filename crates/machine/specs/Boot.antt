-- What a boot leaves, and when it gives up.
use Rattle.std.specs.Prelude.{ℕ, ◌*◌, ◌^◌, ◌≡◌, ◌<◌, ◌≤◌, ◌⊎◌, true, false, Some, None, []}
use Rattle.disk_model.specs.Moments.{Touches, AsksOnly, Nothing, LeavesOnly}
use Rattle.disk_model.specs.Stop.{Image}
use Rattle.disk_model.specs.declared.sector_disk.SectorDisk.{Ghosts}
use Rattle.stores.specs.Images.{is_pool, most_pages, SaysMostOf, StandsForContents, StandsAs, IsBadLayout, IsBadJournal, IsAskedToOpen, IsOutside}
use Rattle.vm_types.specs.State.{State, IsRunning}
use Rattle.vm_types.specs.declared.file.FileInfo.{FileInfo}
use Rattle.machine.specs.declared.boot.BootFault.{BootFault}
use Rattle.machine.specs.declared.boot.BootFault.TheVariants.{Frames, Slots, Device, BadLayout, BadJournal}
use Rattle.machine.specs.declared.config.Config.{Config}
use Rattle.machine.specs.declared.machine.Machine.{Machine}
use Rattle.machine.specs.Machine.{Shows, IsEmpty, store_of, swap_of, frames_of, slot_count_of, refused_of, mode_of, bits_of}

-- fewer than 8 frames, or more than 65,536
abbrev pub HasBadFrames : Config → Type 0
HasBadFrames config = (config.frames < 8) ⊎ (2 ^ 16 < config.frames)

-- more than 65,536 slots, or more than the swap device has room for
abbrev pub HasBadSlots : Config → ℕ → Type 0
HasBadSlots config sectors = (2 ^ 16 < config.slots) ⊎ (sectors < 8 * config.slots)

-- What a boot asks a store's device for: what an opening does, and of a pool any sector of gate, maps, slots and homes, since pages may go home to
-- make room for the first msync.
abbrev pub IsAskedToBoot : ℕ → Image → ℕ → Type 0
IsAskedToBoot sectors image k = IsAskedToOpen sectors image k ⊎ ((is_pool image ≡ true) × (IsOutside sectors image k → ⊥))

-- The flat model as it starts: no process, files that are as they are durably, their lengths included, with nothing stored to them, and no objects.
pub record IsBootState (s : State) : Type 0 where
  pub live : (pid : ℕ) → s.live pid ≡ false
  pub views : (pid page : ℕ) → s.views pid page ≡ None
  pub files : (file : ℕ) → s.durable.files file ≡ s.files file
  pub resized : (file : ℕ) → s.resized file ≡ false
  pub shortest : (file : ℕ) (info : FileInfo) → s.files file ≡ Some info → s.shortest file ≡ info.length
  pub same : (file page : ℕ) → s.volatile file page ≡ s.durable.pages file page
  pub touched : (file page : ℕ) → s.touched file page ≡ false
  pub objects : (object page : ℕ) → s.objects object page ≡ None
  pub past : s.past ≡ []
  pub running : IsRunning s

-- as many frames and as much room for slots as were asked for, and that mode
pub record HasRoom {D E : Type 0} (m : Machine D E) (config : Config) : Type 0 where
  pub frames : frames_of m ≡ config.frames
  pub slots : slot_count_of m ≡ config.slots
  pub mode : mode_of m ≡ config.mode

-- The machine starts with
pub record StartsWith {D E : Type 0} (m : Machine D E) (config : Config) (swap_device : E) : Type 0 where
  -- the room and the mode that were asked for,
  pub room : HasRoom m config
  -- and the swap device as it came.
  pub swap : swap_of m ≡ swap_device

module _ {D E : Type 0} (g : Ghosts D) (h : Ghosts E) where
  -- The machine starts in a state of its mode, whose files are those that the image at entry stood for, with nothing in memory.
  pub record Boots (store : D) (m : Machine D E) : Type 0 where
    -- the state that it starts in
    pub state : State
    -- its memory shows that state, and so does every image that a stop may leave
    pub shows : Shows g h m state
    -- no process, nothing stored to files, no objects, no faults
    pub start : IsBootState state
    -- no frame and no slot is taken
    pub fresh : IsEmpty m
    -- and no request for a frame was refused so far
    pub none_refused : refused_of m ≡ 0
    -- the state is of the mode of the machine
    pub same_mode : state.mode ≡ bits_of (mode_of m)
    -- the image at entry stood for these files, with these bytes
    pub stands : g.keeps_model (store_of m) → StandsForContents (g.sector_count store) state.durable (g.content store)
    -- files may get other lengths exactly where that image is of a store with a pool
    pub resizes : g.keeps_model (store_of m) → state.resizes ≡ is_pool (g.content store)
    -- and an msync takes as many pages at most as that image says
    pub most : g.keeps_model (store_of m) → state.most ≡ most_pages (g.sector_count store) (g.content store)

module _ {D : Type 0} (g : Ghosts D) where
  -- What a boot that starts a machine was given, and what it leaves of the store's device, which is the new one then.
  pub record BootAccepts (config : Config) (swap_sectors : ℕ) (store new : D) : Type 0 where
    -- there are neither too few frames nor too many
    pub frames : HasBadFrames config → ⊥
    -- there are not too many slots, and the swap device has room for them
    pub slots : HasBadSlots config swap_sectors → ⊥
    -- the image has the layout of a store
    pub layout : g.keeps_model new → IsBadLayout (g.sector_count store) (g.content store) → ⊥
    -- no journal stands over its homes, or one with a map that some commit writes
    pub journal : g.keeps_model new → IsBadJournal (g.sector_count store) (g.content store) → ⊥
    -- the device has as many sectors as it had
    pub size : g.sector_count new ≡ g.sector_count store
    -- if it keeps the disk model still, it did before
    pub kept : g.keeps_model new → g.keeps_model store
    -- no failure of it is forgotten
    pub later : g.failures store ≤ g.failures new
    -- and it did not fail
    pub calm : g.failures new ≡ g.failures store
    -- no sector was asked for but those that a boot asks for
    pub asks : g.keeps_model new → AsksOnly g (IsAskedToBoot (g.sector_count store) (g.content store)) store new
    -- the mark, the kind, a directory that stands outside of the homes, and what lies after the last home are as they were
    pub outside : g.keeps_model new → (k : ℕ) → IsOutside (g.sector_count store) (g.content store) k → g.content new k ≡ g.content store k

  -- Why a boot gives up with this fault, and what it leaves of the store's device, which is the new one then.
  pub record BootRefuses (config : Config) (swap_sectors : ℕ) (store : D) (fault : BootFault) (new : D) : Type 0 where
    -- `Frames` comes only where the frames are too few or too many
    pub bad_frames : fault ≡ Frames → HasBadFrames config
    -- and always there
    pub only_frames : HasBadFrames config → fault ≡ Frames
    -- `Slots` comes only where the slots are too many
    pub bad_slots : fault ≡ Slots → HasBadSlots config swap_sectors
    -- and always there, unless the frames are bad
    pub only_slots : (HasBadFrames config → ⊥) → HasBadSlots config swap_sectors → fault ≡ Slots
    -- `Device` comes only where the store's device failed
    pub device : fault ≡ Device → g.failures store < g.failures new
    -- with any other fault it did not fail
    pub err_calm : (fault ≡ Device → ⊥) → g.failures new ≡ g.failures store
    -- `BadLayout` comes only where the image has no layout of a store
    pub bad_layout : g.keeps_model new → fault ≡ BadLayout → IsBadLayout (g.sector_count store) (g.content store)
    -- `BadJournal` comes only where a journal stands over its homes with a map that no commit writes
    pub bad_journal : g.keeps_model new → fault ≡ BadJournal → IsBadJournal (g.sector_count store) (g.content store)
    -- a bad layout is reported before a bad journal
    pub layout_first : g.keeps_model new → fault ≡ BadJournal → IsBadLayout (g.sector_count store) (g.content store) → ⊥
    -- for sizes nothing was asked of the device
    pub unasked : (fault ≡ Frames) ⊎ (fault ≡ Slots) → new ≡ store
    -- for a bad image nothing was written to it
    pub unwritten : g.keeps_model new → (fault ≡ BadLayout) ⊎ (fault ≡ BadJournal) → Touches g Nothing store new
    -- no sector was asked for but those that a boot asks for
    pub asks : g.keeps_model new → AsksOnly g (IsAskedToBoot (g.sector_count store) (g.content store)) store new
    -- the mark, the kind, a directory that stands outside of the homes, and what lies after the last home are as they were
    pub outside : g.keeps_model new → (k : ℕ) → IsOutside (g.sector_count store) (g.content store) k → g.content new k ≡ g.content store k
    -- the device has as many sectors as it had
    pub err_size : g.sector_count new ≡ g.sector_count store
    -- if it keeps the disk model still, it did before
    pub err_kept : g.keeps_model new → g.keeps_model store
    -- no failure of it is forgotten
    pub err_later : g.failures store ≤ g.failures new

  -- What a stop leaves at any moment of a boot, whether it starts a machine or gives up, where the store came without unsynced writes.
  pub record BootLeaves (store new : D) : Type 0 where
    -- it stands for what the store did
    pub any_moment : g.keeps_model new → ((k : ℕ) → g.unsynced store k → ⊥)
        → LeavesOnly g store new (StandsAs (g.sector_count store) (g.content store))
    -- with as many pages of an msync,
    pub most_moment : g.keeps_model new → ((k : ℕ) → g.unsynced store k → ⊥)
        → LeavesOnly g store new (SaysMostOf (g.sector_count store) (g.content store))
    -- and for what stood before any earlier stop, where the store was left by one
    pub in_a_row : g.keeps_model new → ((k : ℕ) → g.unsynced store k → ⊥) → (first : Image) → StandsAs (g.sector_count store) first (g.content store)
        → LeavesOnly g store new (StandsAs (g.sector_count store) first)
