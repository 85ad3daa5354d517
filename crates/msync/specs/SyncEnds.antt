-- What an msync answers, and what it leaves.
use Rattle.vm_types.specs.declared.mode.Levels as Levels
use Rattle.std.specs.Prelude.{◌≡◌, ◌≢◌, ◌≤◌, ◌<◌, ◌⊎◌, ℕ, length, Some, None}
use Rattle.vm_types.specs.Replies.{reply_of}
use Rattle.vm_types.specs.State.{State}
use Rattle.vm_types.specs.Step.{outcome, commits}
use Rattle.vm_types.specs.Files.{Contents}
use Rattle.vm_types.specs.declared.command.Command.TheVariants.{Msync}
use Rattle.vm_types.specs.declared.command.MsyncMode.{MsyncMode}
use Rattle.vm_types.specs.declared.refusal.Errno.{Errno}
use Rattle.vm_types.specs.declared.refusal.Errno.TheVariants.{EIO, ENOSPC}
use Rattle.vm_types.specs.declared.refusal.Stall.{Stall}
use Rattle.vm_types.specs.declared.refusal.Stall.TheVariants.{SwapDevice}
use Rattle.vm_types.specs.declared.reply.Answer.{Answer}
use Rattle.vm_types.specs.declared.reply.Answer.TheVariants.{Refused, Stalled}
use Rattle.disk_model.specs.Moments.{AsksOnly}
use Rattle.disk_model.specs.declared.sector_disk.SectorDisk.{Ghosts}
use Rattle.frames.specs.FrameTable.{frame_count}
use Rattle.swap.specs.Slots.{slots_of, IsReady}
use Rattle.residency.specs.declared.kernel.Core.{Core}
use Rattle.residency.specs.Picture.{picture_of}
use Rattle.residency.specs.Parts.{IsFit}
use Rattle.residency.specs.Calls.{UsesDevice}
use Rattle.msync.specs.Asking.{AsksToCommit, IsAskedFor, IsSectorListed, are_some}
use Rattle.msync.specs.Choice.{Chosen, IsAway, TakesAway, TakesSame}
use Rattle.msync.specs.Core.{Commits, GivesBack, KeepsAll, LacksChosen, LacksTaken}
use Rattle.msync.specs.Settling.{SettlesMemory}
use Rattle.msync.specs.Shows.{IsSoundCore, CoreShows}
use Rattle.sized_stores.specs.Store.{disk_of, kept_of}
use Rattle.stores.specs.Store.{always_free_in}

module _ {M : Type 0} {m : Levels.Ghosts M} {D E : Type 0} (g : Ghosts D) (h : Ghosts E) where
  -- Whatever comes of a commit, of whose pages one lies in a slot only where that holds:
  pub record EndsCommit (slotted : Type 0) (old new : Core D E M m) (result : Answer) : Type 0 where
    -- memory is fit, with as many frames and slots, and changes only where a page is made durable;
    pub fit : IsFit (picture_of new)
    pub frames : frame_count new.frames ≡ frame_count old.frames
    pub slots : (slots_of new.swap).total ≡ (slots_of old.swap).total
    pub memory : SettlesMemory (picture_of old) (picture_of new)
    -- the store, as large as it was, with places for as many files, and always taking as many pages, may be committed to further, unless it failed,
    pub ready : result ≢ Refused EIO → IsSoundCore g h new
    pub size : g.sector_count (disk_of new.store) ≡ g.sector_count (disk_of old.store)
    pub places : length new.store.sizes.items ≡ length old.store.sizes.items
    pub always : always_free_in (kept_of new.store) ≡ always_free_in (kept_of old.store)
    pub kept : g.keeps_model (disk_of new.store) → g.keeps_model (disk_of old.store)
    -- and so may swap, which is read, and given slots back, only where a page lies in one;
    pub swap : IsReady h new.swap
    pub device : UsesDevice h old.swap.pages.disk new.swap.pages.disk
    pub away : (new.swap ≡ old.swap) ⊎ slotted
    -- EIO says that the store failed, and a stall that the swap device did; with no other answer one failed;
    pub later : g.failures (disk_of old.store) ≤ g.failures (disk_of new.store)
    pub cause : result ≡ Refused EIO → g.failures (disk_of old.store) < g.failures (disk_of new.store)
    pub calm : result ≢ Refused EIO → g.failures (disk_of new.store) ≡ g.failures (disk_of old.store)
    pub stalled : (stall : Stall) → result ≡ Stalled stall → (stall ≡ SwapDevice) × (h.failures old.swap.pages.disk < h.failures new.swap.pages.disk)
    pub still : ((stall : Stall) → result ≢ Stalled stall) → h.failures new.swap.pages.disk ≡ h.failures old.swap.pages.disk
    -- and no stall for a frame is counted.
    pub refused : new.refused ≡ old.refused

  -- A commit of these pages, and of the lengths of these files:
  pub record CommitsListed (old new : Core D E M m) (chosen : Chosen) (result : Answer) : Type 0 where
    -- it makes durable what the flat model does, as long as slots gave back what was put;
    pub commits : (s : State) (after : Contents) (pid addr len : ℕ) (mode : MsyncMode) → CoreShows g old s → commits s (Msync pid addr len mode) ≡ Some after
        → TakesSame s pid addr len mode chosen
        → Commits g h (IsAway (picture_of old) chosen → h.keeps_model new.swap.pages.disk) (LacksChosen old chosen) old new s after (Msync pid addr len mode) (reply_of result)
    pub ends : EndsCommit (IsAway (picture_of old) chosen) old new result
    -- it asks the devices for what these pages and lengths and the store's journal want, and for nothing else;
    pub asks_store : AsksOnly g (IsAskedFor (kept_of old.store) (are_some chosen.files)) (disk_of old.store) (disk_of new.store)
    pub asks_slots : AsksOnly h (IsSectorListed (picture_of old) chosen) old.swap.pages.disk new.swap.pages.disk
    -- and it is refused only where the store failed, or where that has no room for them, and then nothing is changed.
    pub answers : (errno : Errno) → result ≡ Refused errno → (errno ≡ EIO) ⊎ ((errno ≡ ENOSPC) × KeepsAll old new)

  -- An msync of so many bytes of a process, from that address on:
  pub record SyncsBytes (old new : Core D E M m) (pid addr len : ℕ) (mode : MsyncMode) (result : Answer) : Type 0 where
    -- where it takes neither a page nor a file it answers with nothing changed,
    pub passes : (s : State) → CoreShows g old s → commits s (Msync pid addr len mode) ≡ None
        → (reply_of result ≡ (outcome s (Msync pid addr len mode)).reply) × (new ≡ old)
    -- and else it commits those that it takes, all at once;
    pub commits : (s : State) (after : Contents) → CoreShows g old s → commits s (Msync pid addr len mode) ≡ Some after
        → Commits g h (GivesBack g h old new pid addr len) (LacksTaken old pid addr len) old new s after (Msync pid addr len mode) (reply_of result)
    pub ends : EndsCommit (TakesAway (picture_of old) old.store.sizes.items pid addr len) old new result
    pub open ends use *
    -- it asks the devices for what these pages and lengths and the store's journal want, and for nothing else;
    pub asks : AsksToCommit g h old new pid addr len
    -- or it is refused, and nothing is changed, unless the store failed; where the store has no room, all but the lists in its own room is as it was.
    pub unasked : (errno : Errno) → result ≡ Refused errno → errno ≢ EIO → (new ≡ old) ⊎ ((errno ≡ ENOSPC) × KeepsAll old new)
