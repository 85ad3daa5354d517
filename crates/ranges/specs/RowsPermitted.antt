-- What another permission for pages of one process needs, and what it comes to.
use Rattle.vm_types.specs.declared.mode.Levels as Levels
use Rattle.std.specs.Prelude.{◌≡◌, ℕ, ◌+◌, ◌<◌, ◌≤◌, true}
use Rattle.vm_types.specs.Limits.{top_level}
use Rattle.vm_types.specs.declared.permission.Prot.{Prot}
use Rattle.page_tables.specs.Change.{KeepsFrames}
use Rattle.page_tables.specs.Places.{IsTableOf}
use Rattle.regions.specs.Permission.{ReadsToo}
use Rattle.residency.specs.declared.kernel.Core.{Core}
use Rattle.residency.specs.Picture.{Picture, picture_of, is_live}
use Rattle.residency.specs.Parts.{IsRootedBut, IsFit}
use Rattle.residency.specs.Ways.{KeepsAround}
use Rattle.ranges.specs.declared.rows.TableRow.{TableRow}
use Rattle.ranges.specs.Leaves.{PermitsRow, NamesFrames}
use Rattle.ranges.specs.Rows.{ReprotectsRow}
use Rattle.ranges.specs.Steps.{KeepsEntriesOfOthers, IsLinkedStepEnd}

-- A process's pages may be given a permission:
module _ {mode : ℕ} where
  pub record IsPermissible (c : Picture mode) (pid : ℕ) (prot : Prot) : Type 0 where
    -- it lives, its tables are there, and each of its entries names a frame, or its page lies in a slot;
    pub live : is_live c pid ≡ true
    pub rooted : IsRootedBut c 0
    pub named : NamesFrames c pid
    -- and what may be written may be read.
    pub reads : ReadsToo prot

module _ {M : Type 0} {m : Levels.Ghosts M} {D E : Type 0} where
  -- The pages of one process from low up to, not including, high get a permission:
  pub record PermitsPages (old new : Core D E M m) (pid low high : ℕ) (prot : Prot) : Type 0 where
    -- their entries are those of that permission, over the same frames, and every other page is as it was;
    pub permits : PermitsRow (picture_of old) (picture_of new) pid low high prot
    -- the tables are there, and each entry names a frame, or its page lies in a slot;
    pub rooted : IsRootedBut (picture_of new) 0
    pub named : NamesFrames (picture_of new) pid
    -- and nothing but the frames of tables changes.
    pub rest : KeepsAround old new
    pub refused : new.refused ≡ old.refused

  -- A step over such pages, from one of them on:
  pub record PermitsNext (old new : Core D E M m) (pid start end : ℕ) (prot : Prot) (next : ℕ) : Type 0 where
    -- those before the next get the permission,
    pub leaves : PermitsPages old new pid start next prot
    pub open leaves use *
    -- which is a later one, as far as the end, and the first past those of the next table that is there.
    pub further : start < next
    pub within : next ≤ end
    pub ends : IsLinkedStepEnd (picture_of old) pid start end next

  -- One page gets the permission:
  pub record PermitsPage (old new : Core D E M m) (row : TableRow) (page : ℕ) (prot : Prot) : Type 0 where
    -- its entry is that of the permission,
    pub leaf : PermitsPages old new row.pid page (page + 1) prot
    pub open leaf use *
    -- and each table stays one, in its place.
    pub places : (q n : ℕ) → IsTableOf old.frames (top_level m.mode) row.root.0 q n → IsTableOf new.frames (top_level m.mode) row.root.0 q n

  -- A row of pages of one process gets a permission:
  pub record ReprotectsPages (old new : Core D E M m) (pid first pages : ℕ) (prot : Prot) : Type 0 where
    -- its pages are mapped with it, in the same frames and slots, and every other page is as it was, with the same entry;
    pub row : ReprotectsRow (picture_of old) (picture_of new) pid first pages prot
    pub others : KeepsEntriesOfOthers (picture_of old) (picture_of new) pid
    -- memory is fit, and every frame but those of tables has its role, its shares and its bytes;
    pub fit : IsFit (picture_of new)
    pub frames : KeepsFrames old.frames new.frames
    -- and nothing changes but those and the regions.
    pub store : new.store ≡ old.store
    pub swap : new.swap ≡ old.swap
    pub roots : new.roots ≡ old.roots
    pub cache : new.cache ≡ old.cache
    pub refused : new.refused ≡ old.refused
