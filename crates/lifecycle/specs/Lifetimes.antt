-- What a spawn, a fork and an exit come to.
use Rattle.vm_types.specs.declared.mode.Levels as Levels
use Rattle.std.specs.Prelude.{◌≡◌, ℕ, Option, None, Result, OnOk, OnErr, IfErr}
use Rattle.vm_types.specs.Limits.{user_end}
use Rattle.vm_types.specs.declared.refusal.Stall.{Stall}
use Rattle.disk_model.specs.Moments.{Nothing}
use Rattle.disk_model.specs.declared.sector_disk.SectorDisk.{Ghosts}
use Rattle.frames.specs.FrameTable.{IsFull}
use Rattle.swap.specs.Slots.{IsReady}
use Rattle.residency.specs.declared.kernel.Core.{Core}
use Rattle.residency.specs.Picture.{picture_of, view}
use Rattle.residency.specs.Parts.{IsFit}
use Rattle.residency.specs.Ages.{GivesForTables, KeepsRoles}
use Rattle.residency.specs.Calls.{Frees, KeepsBesideProcesses, Refuses, UsesDevice}
use Rattle.residency.specs.Capacity.{IsShort}
use Rattle.residency.specs.Shows.{KeepsFiles}
use Rattle.residency.specs.Stalls.{HasStallCause}
use Rattle.fault.specs.Asking.{AsksIfFull, AsksNoNew, AsksSlots}
use Rattle.fault.specs.Changes.{KeepsBare, KeepsRoom, KeepsTables}
use Rattle.ranges.specs.Rows.{KeepsNamed, without_maps}
use Rattle.ranges.specs.Steps.{KeepsDevices, KeepsEntriesOfOthers, LosesSlots}
use Rattle.lifecycle.specs.Changes.{AddsProcess, ForksEntries, FreesTables, IsShortToFork, KeepsBareOfOthers, KeepsProcesses, MapsAlike, RemovesProcess, SharesCopies, StallsToFork, TakesNoCopy, TakesNoFrame, TakesRoot, TakesTables}

module _ {M : Type 0} {m : Levels.Ghosts M} {D E : Type 0} (h : Ghosts E) where
  -- Whatever comes of the wish for one more process,
  pub record WantsProcess {T : Type 0} (old new : Core D E M m) (result : Result T Stall) : Type 0 where
    -- memory is fit and as large as it was, and the swap device may be used further;
    pub fit : IsFit (picture_of new)
    pub room : KeepsRoom (picture_of old) (picture_of new)
    pub swap : IsReady h new.swap
    pub device : UsesDevice h old.swap.pages.disk new.swap.pages.disk
    -- the store is as it was, no file shows a change, and no frame comes to be a process's own;
    pub store : new.store ≡ old.store
    pub files : KeepsFiles (picture_of old) (picture_of new)
    pub copies : TakesNoCopy old.frames new.frames
    -- where it stalls, every process is as it was, and the stall has its cause.
    pub err : OnErr result (KeepsProcesses (picture_of old) (picture_of new))
    pub cause : HasStallCause h old new result

  -- A process comes:
  pub record StartsProcess {T : Type 0} (old new : Core D E M m) (pid : ℕ) (result : Result T Stall) : Type 0 where
    -- it has no page, and a frame for the root of its tables alone, for which one may have been given up;
    pub ok : OnOk result (AddsProcess (picture_of old) (picture_of new) pid (λ page. None))
    pub taken : OnOk result ((n : ℕ) × TakesRoot (picture_of old) (picture_of new) pid n)
    pub gives : OnOk result (GivesForTables (picture_of old) (picture_of new) None)
    -- no page has an entry that had none, and much else stays, whatever comes of it;
    pub bare : KeepsBare (picture_of old) (picture_of new)
    pub keeps : WantsProcess old new result
    pub open keeps use *
    -- the swap device is asked for free slots alone, now and by who goes on, and only where no frame is free;
    pub asks : AsksIfFull h old new None Nothing
    pub asks_later : AsksNoNew (picture_of old) (picture_of new) None Nothing
    -- or it stalls: no frame is free, and each has the use that it had, but for those that were given up,
    pub full : OnErr result (IsFull new.frames)
    pub still : OnErr result (KeepsRoles (picture_of old) (picture_of new))
    pub tried : OnErr result ((tried : Option ℕ) × GivesForTables (picture_of old) (picture_of new) tried)
    pub frees : OnErr result (Frees (picture_of old) (picture_of new) None)
    -- and none is to be had, by what memory is, and by what processes see.
    pub refuses : IfErr result (Refuses (picture_of new) None)
    pub short : IfErr result (IsShort (picture_of new))

  -- A process is copied:
  pub record ForksProcess {T : Type 0} (old new : Core D E M m) (parent child : ℕ) (result : Result T Stall) : Type 0 where
    -- the child has the pages of its parent, and by the same entries a share of each copy that the parent has,
    pub ok : OnOk result (AddsProcess (picture_of old) (picture_of new) child (view (picture_of old) parent))
    pub shared : OnOk result (SharesCopies (picture_of new) parent child)
    pub entries : OnOk result (ForksEntries (picture_of old) (picture_of new) parent child)
    -- in tables for which alone frames were taken, and no other table changes;
    pub takes : OnOk result (TakesTables (picture_of old) (picture_of new) parent child)
    pub tables : OnOk result (KeepsTables (picture_of old) (picture_of new))
    -- no page but one of the child has an entry that had none, and much else stays, whatever comes of it;
    pub bare : KeepsBareOfOthers (picture_of old) (picture_of new) child
    pub keeps : WantsProcess old new result
    pub open keeps use *
    -- the swap device is asked for free slots alone;
    pub asks : AsksSlots h old new None Nothing
    -- or it stalls for one of these tables, and processes with the copy need more than there is, or the swap device failed.
    pub stalls : IfErr result (StallsToFork (picture_of old) (picture_of new) parent child)
    pub short : IfErr result (IsShortToFork (picture_of old) parent)

module _ {M : Type 0} {m : Levels.Ghosts M} {D E : Type 0} where
  -- A process that has no page is mapped as another:
  pub record CopiesMap (old new : Core D E M m) (parent child : ℕ) : Type 0 where
    -- memory is fit, with the other's pages for it and no entry, and all but processes is as it was.
    pub fit : IsFit (picture_of new)
    pub mapped : MapsAlike (picture_of old) (picture_of new) parent child
    pub rest : KeepsBesideProcesses old new

  -- A process goes:
  pub record EndsProcess (old new : Core D E M m) (pid : ℕ) : Type 0 where
    -- it lives no more, its tables are free, and so are the slots of its copies that it had alone;
    pub removed : RemovesProcess (picture_of old) (picture_of new) pid
    pub tables : FreesTables (picture_of old) (picture_of new) pid
    pub slots : LosesSlots (picture_of old) (picture_of new) pid 0 (user_end m.mode)
    -- no frame is taken,
    pub frames : TakesNoFrame old.frames new.frames
    -- other processes have their entries, and of files and objects what a process still names stays as it was;
    pub others : KeepsEntriesOfOthers (picture_of old) (picture_of new) pid
    pub files : KeepsNamed (without_maps (picture_of old).at pid 0 (user_end m.mode)) (picture_of old) (picture_of new)
    -- memory is fit and as large as it was, no device is asked, and no stall is counted.
    pub fit : IsFit (picture_of new)
    pub room : KeepsRoom (picture_of old) (picture_of new)
    pub devices : KeepsDevices old new
    pub refused : new.refused ≡ old.refused
