-- What an access returns where it has no place, and what it asks for.
use Rattle.vm_types.specs.declared.mode.Levels as Levels
use Rattle.std.specs.Prelude.{ℕ, ◌≡◌, ◌≢◌, ◌⊎◌, ◌/◌, false, Some, Ok}
use Rattle.disk_model.specs.declared.sector_disk.SectorDisk.{Ghosts}
use Rattle.fault.specs.declared.refusal.AccessRefusal.{AccessRefusal}
use Rattle.fault.specs.declared.refusal.AccessRefusal.TheVariants as Refusal
use Rattle.fault.specs.AccessAsking.{AsksForPage}
use Rattle.frames.specs.FrameTable.{bytes_of, role_of, with_bytes}
use Rattle.frames.specs.declared.role.Role.TheVariants.{Table}
use Rattle.sv39_walk.specs.Walk.{translated}
use Rattle.fault.specs.Wants.{Wants, ReadsHome, RefusesAccess, ShowsFile}
use Rattle.residency.specs.declared.kernel.Core.{Core}
use Rattle.fault.specs.Chances.{AreAllMarkedFor, GivesOthersChance, WantsOneFrame}
use Rattle.fault.specs.Changes.{IsCalm, KeepsOtherViews, KeepsSlotted, IsThatPage, LinksTables}
use Rattle.residency.specs.Ways.{KeepsAround}
use Rattle.residency.specs.Calls.{UsesDevice}
use Rattle.residency.specs.Picture.{Picture, picture_of}
use Rattle.residency.specs.Reading.{ReadsStore}
use Rattle.vm_types.specs.declared.access.Access.{Access}
use Rattle.vm_types.specs.declared.access.Access.TheVariants.{Load, Store, Fetch}
use Rattle.vm_types.specs.declared.access.StoredValue.{StoredValue}
use Rattle.vm_types.specs.declared.command.Command.TheVariants as Commands
use Rattle.vm_types.specs.declared.number.Phys.{Phys}
use Rattle.vm_types.specs.declared.refusal.Stall.{Stall}
use Rattle.vm_types.specs.declared.refusal.Stall.TheVariants.{StoreDevice}
use Rattle.vm_types.specs.declared.reply.Answer.{Answer}
use Rattle.vm_types.specs.declared.reply.Answer.TheVariants.{Faulted, Stalled}
use Rattle.vm_types.specs.declared.reply.Reply.{Reply}
use Rattle.vm_types.specs.declared.width.Width.{Width}
use Rattle.vm_types.specs.declared.width.Width.TheVariants.{Four}
use Rattle.vm_types.specs.Access.{with_number}
use Rattle.vm_types.specs.Limits.{top_level}
use Rattle.vm_types.specs.Width.{byte_count}
use Rattle.spaces.specs.Calls.{AccountsFor, Carries}
use Rattle.spaces.specs.Idle.{is_denial}

abbrev pub reply_for : AccessRefusal → Answer
reply_for (Refusal.Fault fault) = Faulted fault
reply_for (Refusal.Stall stall) = Stalled stall

-- the walk from the process's root has a place for the access to the address
module _ {mode : ℕ} where
  abbrev pub LetsThrough : Picture mode → ℕ → ℕ → Access → Type 0
  LetsThrough c pid addr access = (root : ℕ) × (place : Phys) × (c.root pid ≡ Some root) × (translated (top_level mode) c.frames root addr access ≡ Ok place)

module _ {M : Type 0} {m : Levels.Ghosts M} {D E : Type 0} where
  -- a number was written into frame n from that byte of it on, and nothing else changed
  pub record WritesNumber (old new : Core D E M m) (n offset : ℕ) (stored : StoredValue) : Type 0 where
    pub frames : new.frames ≡ with_bytes old.frames n (with_number (bytes_of old.frames n) offset (byte_count stored.width) stored.value)
    pub around : KeepsAround old new
    pub clock : new.clock ≡ old.clock
    pub refused : new.refused ≡ old.refused

  -- a store may have written a number into a frame that is no table, and nothing else changed
  abbrev pub MayWrite : Access → Core D E M m → Core D E M m → Type 0
  MayWrite Load old new = new ≡ old
  MayWrite Store old new = (new ≡ old) ⊎ ((n : ℕ) × (offset : ℕ) × (stored : StoredValue) × (role_of old.frames n ≢ Table) × WritesNumber old new n offset stored)
  MayWrite Fetch old new = new ≡ old

module _ {M : Type 0} {m : Levels.Ghosts M} {D E : Type 0} (g : Ghosts D) (h : Ghosts E) where
  -- What an access that returns this asks for: it stalls only where a frame is wanted, and for want of frames or slots only where none
  -- could be given up but the one that it copies, and for the store's device only where its page is to be read from its home; the store is
  -- read there alone, slots are asked for and read only where a frame is wanted, and no other page comes back from one; frames are taken
  -- for no tables but its page's.
  pub record AsksFor (old new : Core D E M m) (pid addr : ℕ) (access : Access) (reply : Reply) : Type 0 where
    pub wanted : (stall : Stall) → reply ≡ Reply.Stalled stall → Wants (picture_of old) pid (addr / 4096) access
    pub refused : (stall : Stall) → reply ≡ Reply.Stalled stall → stall ≢ StoreDevice → RefusesAccess (picture_of new) pid (addr / 4096) access stall
    pub home : reply ≡ Reply.Stalled StoreDevice → ReadsHome (picture_of old) pid (addr / 4096)
    pub read : (new.store ≡ old.store) ⊎ ReadsHome (picture_of old) pid (addr / 4096)
    pub slots : (Wants (picture_of old) pid (addr / 4096) access → ⊥) → new.swap ≡ old.swap
    pub slotted : KeepsSlotted (ShowsFile (picture_of old) pid (addr / 4096)) (IsThatPage pid (addr / 4096)) (picture_of old) (picture_of new)
    -- tables are made on the page's way alone, and where no frame is wanted nothing changes but the page's entry, and the number that a
    -- store writes
    pub granted : Core D E M m
    pub tables : LinksTables (picture_of old) (picture_of granted) pid (addr / 4096)
    pub calm : (Wants (picture_of old) pid (addr / 4096) access → ⊥) → IsCalm old granted pid (addr / 4096)
    pub writes : MayWrite access granted new
    -- a store alone is told to be done
    pub done : reply ≡ Reply.Done → access ≡ Store
    -- and once it is done the tables let it through
    pub grants : is_denial reply ≡ false → ((stall : Stall) → reply ≢ Reply.Stalled stall) → LetsThrough (picture_of granted) pid addr access
    -- every other page that was accessed keeps its entry but for A where one frame is wanted at most, unless every frame that might be
    -- given up had its mark
    pub chance : is_denial reply ≡ false → ((stall : Stall) → reply ≢ Reply.Stalled stall) → WantsOneFrame (picture_of old) pid (addr / 4096) access
        → GivesOthersChance (picture_of old) (picture_of new) pid (addr / 4096) (AreAllMarkedFor (picture_of old) pid (addr / 4096) access)
    -- the devices are asked for sectors of this page, and swap for those of free slots where a frame has to be given up, and one may be
    -- that needs a slot
    pub sectors : AsksForPage g h old new pid (addr / 4096) access

  -- An access keeps to its page, whatever comes of it:
  pub record KeepsToPage (old new : Core D E M m) (pid addr : ℕ) (access : Access) (reply : Reply) : Type 0 where
    -- it accounts for what it did,
    pub accounts : AccountsFor g h old new reply
    pub open accounts use *
    -- no other page is seen otherwise,
    pub others : KeepsOtherViews (picture_of old) (picture_of new) pid (addr / 4096)
    -- the store was read at most, the swap device read and written,
    pub reads : ReadsStore g old.store new.store
    pub device : UsesDevice h old.swap.pages.disk new.swap.pages.disk
    -- and no more was asked for than it wants.
    pub asks : AsksFor old new pid addr access reply

  -- A read of a number is carried out
  pub record CarriesRead (old new : Core D E M m) (pid addr : ℕ) (width : Width) (kind : Access) (reply : Reply) : Type 0 where
    -- as a load where it is one of data,
    pub load : kind ≡ Load → Carries g h old new (Commands.Load pid addr width) reply
    -- and as a fetch where it is one of an instruction, which has four bytes.
    pub fetch : kind ≡ Fetch → width ≡ Four → Carries g h old new (Commands.Fetch pid addr) reply
