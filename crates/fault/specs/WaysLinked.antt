-- What linking the tables on the way to a page comes to.
use Rattle.vm_types.specs.declared.mode.Levels as Levels
use Rattle.std.specs.Prelude.{◌≡◌, ◌/◌, ℕ, Option, Some, None, Result, IfOk, IfErr, OnOk, OnErr}
use Rattle.vm_types.specs.Limits.{top_level, table_entries}
use Rattle.vm_types.specs.declared.number.FrameNo.{FrameNo}
use Rattle.vm_types.specs.declared.refusal.Stall.{Stall}
use Rattle.disk_model.specs.declared.sector_disk.SectorDisk.{Ghosts}
use Rattle.disk_model.specs.Moments.{Nothing}
use Rattle.frames.specs.declared.role.Role.TheVariants.{Private}
use Rattle.frames.specs.FrameTable.{role_of, IsFull}
use Rattle.page_tables.specs.Places.{IsTableOf}
use Rattle.residency.specs.declared.kernel.Core.{Core}
use Rattle.residency.specs.Picture.{picture_of}
use Rattle.residency.specs.Ages.{GivesForTables}
use Rattle.residency.specs.Calls.{KeepsPages, Refuses}
use Rattle.residency.specs.Capacity.{IsShort}
use Rattle.residency.specs.Stalls.{HasStallCause}
use Rattle.fault.specs.Asking.{AsksNoNew, AsksSlotsIf}
use Rattle.fault.specs.Changes.{KeepsBare, KeepsSlotted, LinksTables, Moves}
use Rattle.residency.specs.Ways.{IsWhole}

module _ {M : Type 0} {m : Levels.Ghosts M} {D E : Type 0} (h : Ghosts E) where
  -- Frames are taken for tables, as many as there are to be had:
  pub record TakesForTables {T : Type 0} (old new : Core D E M m) (result : Result T Stall) : Type 0 where
    -- memory is fit, no process and no file sees a change, and no page has an entry that had none;
    pub moves : Moves h old new
    pub pages : KeepsPages (picture_of old) (picture_of new)
    pub bare : KeepsBare (picture_of old) (picture_of new)
    -- frames are given up for a table alone, and none comes to be a process's own;
    pub gives : OnOk result (GivesForTables (picture_of old) (picture_of new) None)
    pub tried : OnErr result ((tried : Option ℕ) × GivesForTables (picture_of old) (picture_of new) tried)
    pub no_copy : (n : ℕ) → role_of new.frames n ≡ Private → role_of old.frames n ≡ Private
    -- the swap device is asked for free slots alone, now and by who goes on, and only where no frame is free afterwards;
    pub asks : AsksSlotsIf h (IsFull new.frames) old new None Nothing
    pub asks_later : AsksNoNew (picture_of old) (picture_of new) None Nothing
    -- a stall has its cause: no frame is free, and none of those in use is to be had, or the swap device failed.
    pub full : OnErr result (IsFull new.frames)
    pub refuses : IfErr result (Refuses (picture_of new) None)
    pub short : IfErr result (IsShort (picture_of new))
    pub cause : HasStallCause h old new result

  -- A page of a process wants tables:
  pub record LinksWay {T : Type 0} (old new : Core D E M m) (pid page : ℕ) (result : Result T Stall) : Type 0 where
    -- frames are taken for tables on the way to it, and for no others,
    pub takes : TakesForTables old new result
    pub open takes use *
    pub tables : LinksTables (picture_of old) (picture_of new) pid page
    -- nothing comes out of its slot for it,
    pub slotted : KeepsSlotted (λ p. ⊥) (λ q p. ⊥) (picture_of old) (picture_of new)
    -- and where it stalls, one is missing still.
    pub wanted : OnErr result (IsWhole (picture_of new) pid page → ⊥)

  -- A page has its tables:
  pub record MakesWhole (old new : Core D E M m) (pid page : ℕ) (result : Result FrameNo Stall) : Type 0 where
    -- those that were missing on the way to it are linked, if frames are to be had for them,
    pub links : LinksWay old new pid page result
    pub open links use *
    -- where none was, nothing is done;
    pub idle : IsWhole (picture_of old) pid page → (new ≡ old) × OnErr result ⊥
    -- then none is missing, and the lowest is returned.
    pub whole : OnOk result (IsWhole (picture_of new) pid page)
    pub table : IfOk result (λ n. (root : ℕ) → (picture_of new).root pid ≡ Some root → IsTableOf new.frames (top_level m.mode) root (page / table_entries) n.0)
