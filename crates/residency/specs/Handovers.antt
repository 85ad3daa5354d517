-- The shares of a private frame, handed over to a slot.
use Rattle.vm_types.specs.declared.mode.Levels as Levels
use Rattle.std.specs.Prelude.{◌≡◌, ◌≢◌, ℕ, ◌+◌, ◌<◌, Bool, true, false, Some}
use Rattle.vm_types.specs.Limits.{user_end}
use Rattle.disk_model.specs.declared.sector_disk.SectorDisk.{Ghosts}
use Rattle.frames.specs.declared.role.Role.TheVariants.{Free}
use Rattle.frames.specs.FrameTable.{role_of, count_of, bytes_of}
use Rattle.swap.specs.Slots.{IsReady}
use Rattle.residency.specs.declared.kernel.Core.{Core}
use Rattle.residency.specs.declared.searches.LiveProcess.{LiveProcess}
use Rattle.residency.specs.Seats.{InFrame, InSlot, seat}
use Rattle.residency.specs.Picture.{Picture, picture_of, entry}
use Rattle.residency.specs.Parts.{IsFit}
use Rattle.residency.specs.Evictions.{IsHanding, Spares, KeepsPlain}

-- the process, which lives, has the frame as its own at that page
module _ {mode : ℕ} where
  pub record HasAt (c : Picture mode) (p : LiveProcess) (page n : ℕ) : Type 0 where
    pub lives : c.root p.pid ≡ Some p.root.0
    pub user : page < user_end mode
    pub from : seat (entry c p.pid page) ≡ Some (InFrame n)

module _ {M : Type 0} {m : Levels.Ghosts M} {D E : Type 0} where
  -- a process, which had a share of the frame, has that of the slot in place of it,
  pub record GivesShare (n k pid page : ℕ) (old new : Core D E M m) : Type 0 where
    pub moved : seat (entry (picture_of new) pid page) ≡ Some (InSlot k)
    pub fit : IsFit (picture_of new)
    -- the frame has one share less: it is free after the last, and else holds what it held;
    pub lowered : count_of new.frames n + 1 ≡ count_of old.frames n
    pub freed : count_of old.frames n ≡ 1 → role_of new.frames n ≡ Free
    pub kept : 1 < count_of old.frames n
        → (role_of new.frames n ≡ role_of old.frames n) × (bytes_of new.frames n ≡ bytes_of old.frames n)
    -- no page is seen otherwise, other processes have what they had, and the rest is as it was
    pub spares : Spares n k (picture_of old) (picture_of new)
    pub others : (q : ℕ) → q ≢ pid → entry (picture_of new) q page ≡ entry (picture_of old) q page
    pub plain : KeepsPlain old new
    pub swap : new.swap ≡ old.swap
    pub noted : new.page_of ≡ old.page_of

module _ {M : Type 0} {m : Levels.Ghosts M} {D E : Type 0} (g : Ghosts E) where
  -- the shares of frame n at that page may be handed over to slot k, and swap may be used
  pub record MayHandOver (c : Core D E M m) (n k page : ℕ) : Type 0 where
    pub ready : IsReady g c.swap
    pub handing : IsHanding (picture_of c) n k page

  -- shares of frame n were given up for those of slot k: no page is seen otherwise, swap is ready and isn't asked, and the rest is as it was
  pub record HandsShares (n k : ℕ) (old new : Core D E M m) : Type 0 where
    pub spares : Spares n k (picture_of old) (picture_of new)
    pub ready : IsReady g new.swap
    pub pages : new.swap.pages ≡ old.swap.pages
    pub plain : KeepsPlain old new

  -- a process has no share of the frame any more,
  pub record PassesShare (n k pid page : ℕ) (old new : Core D E M m) (last : Bool) : Type 0 where
    pub moved : seat (entry (picture_of new) pid page) ≢ Some (InFrame n)
    -- where it had the last the frame is free,
    pub fit : last ≡ true → IsFit (picture_of new)
    pub free : last ≡ true → role_of new.frames n ≡ Free
    -- and else the slot has a share for another;
    pub handing : last ≡ false → IsHanding (picture_of new) n k page
    -- other processes have what they had
    pub others : (q : ℕ) → q ≢ pid → entry (picture_of new) q page ≡ entry (picture_of old) q page
    pub hands : HandsShares n k old new
    pub open hands use *

  -- all shares of frame n were handed over to slot k: the frame is free
  pub record HandsOver (n k : ℕ) (old new : Core D E M m) : Type 0 where
    pub fit : IsFit (picture_of new)
    pub free : role_of new.frames n ≡ Free
    pub hands : HandsShares n k old new
    pub open hands use *
