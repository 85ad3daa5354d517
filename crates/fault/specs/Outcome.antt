-- What an access comes to: a place in memory that holds the page, a fault, or a stall.
use Rattle.vm_types.specs.declared.mode.Levels as Levels
use Rattle.std.specs.Prelude.{◌≡◌, ◌≢◌, ◌⊎◌, ◌/◌, ◌%◌, ℕ, true, Some, Ok}
use Rattle.vm_types.specs.Limits.{top_level}
use Rattle.vm_types.specs.declared.access.Access.{Access}
use Rattle.vm_types.specs.declared.access.Access.TheVariants.{Load, Store, Fetch}
use Rattle.vm_types.specs.declared.object.PageKey.{PageKey}
use Rattle.vm_types.specs.declared.object.PageKey.TheVariants.{File, Object}
use Rattle.vm_types.specs.declared.number.Phys.{Phys}
use Rattle.vm_types.specs.declared.refusal.Code.{Code}
use Rattle.vm_types.specs.declared.refusal.Stall.{Stall}
use Rattle.vm_types.specs.declared.refusal.Stall.TheVariants.{StoreDevice}
use Rattle.vm_types.specs.declared.region.Attr.{Attr}
use Rattle.vm_types.specs.declared.region.Backing.{Backing}
use Rattle.vm_types.specs.declared.region.Backing.TheVariants.{Anon, Private, Shared, Common}
use Rattle.vm_types.specs.declared.width.Width.{Width}
use Rattle.vm_types.specs.Verdict.{Verdict, Fine, Faults, verdict, fault_of}
use Rattle.vm_types.specs.View.{View}
use Rattle.vm_types.specs.Width.{byte_count}
use Rattle.disk_model.specs.declared.sector_disk.SectorDisk.{Ghosts}
use Rattle.frames.specs.FrameTable.{IsFrame, IsHeld, bytes_of}
use Rattle.sv39_walk.specs.Walk.{translated}
use Rattle.page_cache.specs.declared.place.Place.TheVariants.{Frame}
use Rattle.residency.specs.declared.kernel.Core.{Core}
use Rattle.residency.specs.Picture.{Picture, picture_of, view, entry, own_in}
use Rattle.residency.specs.Capacity.{IsShort}
use Rattle.residency.specs.Stalls.{ReadCause}
use Rattle.fault.specs.Changes.{KeepsSeen}
use Rattle.fault.specs.declared.refusal.AccessRefusal.{AccessRefusal}
use Rattle.fault.specs.declared.refusal.AccessRefusal.TheVariants as Refusal
use Rattle.fault.specs.Shown.{AreShown, IsSoleOwner}
use Rattle.fault.specs.Wants.{Wants, ReadsHome, RefusesAccess}

-- what the flat model says of the access
module _ {mode : ℕ} where
  abbrev pub verdict_of : Picture mode → ℕ → ℕ → Width → Access → Verdict
  verdict_of c pid addr width access = verdict c.files (view c pid) addr (byte_count width) access

-- what a page of that region is to its process
module _ {mode : ℕ} where
  abbrev pub seen_at : Picture mode → ℕ → ℕ → Attr → View
  seen_at c pid page attr = record { attr = attr; own = own_in c.frames c.slots (entry c pid page) }

-- A load or a fetch: frame n holds what the page shows.
module _ {mode : ℕ} where
  pub record Reads (old new : Picture mode) (v : View) (n : ℕ) : Type 0 where
    pub keeps : KeepsSeen old new
    pub inside : IsFrame new.frames n
    pub shown : AreShown new v (bytes_of new.frames n)

-- A store to a shared page: frame n is that of the page of the file or the object, which is touched now, and else all is as it was.
module _ {mode : ℕ} where
  pub record MarksTouchedIn (old new : Picture mode) (p : PageKey) (n : ℕ) : Type 0 where
    pub views : (q k : ℕ) → view new q k ≡ view old q k
    pub held : IsHeld new.frames n
    pub place : new.place p ≡ Frame (record { 0 = n })
    pub touched : new.touched p ≡ true
    pub others : (q : PageKey) → q ≢ p → new.touched q ≡ old.touched q

-- Any other store: frame n is the page's own copy now, which no other page has, with the bytes that the page showed.
module _ {mode : ℕ} where
  pub record Owns (old new : Picture mode) (pid page : ℕ) (v : View) (n : ℕ) : Type 0 where
    pub own : view new pid page ≡ Some (record v { own = Some (bytes_of new.frames n) })
    pub shown : AreShown new v (bytes_of new.frames n)
    pub others : (q k : ℕ) → (q ≢ pid) ⊎ (k ≢ page) → view new q k ≡ view old q k
    pub touched : (p : PageKey) → new.touched p ≡ old.touched p
    pub held : IsHeld new.frames n
    pub sole : IsSoleOwner new pid page n

module _ {mode : ℕ} where
  abbrev pub IsReadyToStore : Picture mode → Picture mode → ℕ → ℕ → View → Backing → ℕ → Type 0
  IsReadyToStore old new pid page v Anon n = Owns old new pid page v n
  IsReadyToStore old new pid page v (Private p) n = Owns old new pid page v n
  IsReadyToStore old new pid page v (Shared p) n = MarksTouchedIn old new (File p) n
  IsReadyToStore old new pid page v (Common p) n = MarksTouchedIn old new (Object p) n

-- frame n is ready for the access to the page, of which this was the view
module _ {mode : ℕ} where
  abbrev pub IsReadyFor : Access → Picture mode → Picture mode → ℕ → ℕ → View → ℕ → Type 0
  IsReadyFor Load old new pid page v n = Reads old new v n
  IsReadyFor Store old new pid page v n = IsReadyToStore old new pid page v v.attr.backing n
  IsReadyFor Fetch old new pid page v n = Reads old new v n

-- Frame n may be used for the access, whatever it holds: it is one of memory's. A store's frame isn't free and not the zero page, and
-- is the process's own at that page and nobody else's, or that of the shared page of a file or an object, which is touched.
module _ {mode : ℕ} where
  abbrev pub IsOpenToStore : Picture mode → ℕ → ℕ → Backing → ℕ → Type 0
  IsOpenToStore c pid page Anon n = IsHeld c.frames n × IsSoleOwner c pid page n
  IsOpenToStore c pid page (Private p) n = IsHeld c.frames n × IsSoleOwner c pid page n
  IsOpenToStore c pid page (Shared p) n = IsHeld c.frames n × (c.place (File p) ≡ Frame (record { 0 = n })) × (c.touched (File p) ≡ true)
  IsOpenToStore c pid page (Common p) n = IsHeld c.frames n × (c.place (Object p) ≡ Frame (record { 0 = n })) × (c.touched (Object p) ≡ true)

module _ {mode : ℕ} where
  abbrev pub IsFrameFor : Access → Picture mode → ℕ → ℕ → Backing → ℕ → Type 0
  IsFrameFor Load c pid page b n = IsFrame c.frames n
  IsFrameFor Store c pid page b n = IsOpenToStore c pid page b n
  IsFrameFor Fetch c pid page b n = IsFrame c.frames n

-- The access is fine. Its place is that of the walk from the process's root in memory as it is left, and the frame there may be
-- used for it.
module _ {mode : ℕ} where
  pub record IsPlaced (old new : Picture mode) (pid addr : ℕ) (width : Width) (access : Access) (phys : Phys) : Type 0 where
    pub seen : View
    pub fine : verdict_of old pid addr width access ≡ Fine seen
    pub root : ℕ
    pub lives : new.root pid ≡ Some root
    pub place : translated (top_level mode) new.frames root addr access ≡ Ok phys
    pub offset : phys.0 % 4096 ≡ addr % 4096
    pub usable : IsFrameFor access new pid (addr / 4096) seen.attr.backing (phys.0 / 4096)

-- The access is fine, and the frame of its place is ready for it.
module _ {mode : ℕ} where
  pub record Grants (old new : Picture mode) (pid addr : ℕ) (width : Width) (access : Access) (phys : Phys) : Type 0 where
    pub seen : View
    pub fine : verdict_of old pid addr width access ≡ Fine seen
    pub ready : IsReadyFor access old new pid (addr / 4096) seen (phys.0 / 4096)

-- The access is fine, and the walk from the process's root returns that place: the tables grant it.
module _ {mode : ℕ} where
  pub record IsWalked (c : Picture mode) (pid addr : ℕ) (width : Width) (access : Access) (phys : Phys) : Type 0 where
    pub seen : View
    pub fine : verdict_of c pid addr width access ≡ Fine seen
    pub root : ℕ
    pub lives : c.root pid ≡ Some root
    pub place : translated (top_level mode) c.frames root addr access ≡ Ok phys

module _ {M : Type 0} {m : Levels.Ghosts M} {D : Type 0} (g : Ghosts D) where
  module _ {E : Type 0} (h : Ghosts E) where
    -- A stall of an access to a page: no process sees a change. A frame was wanted, and memory or slots are short of what processes see,
    -- and no frame could be given up but the one that it copies, or the device that is named failed. The store device fails an access
    -- only to a page that is to be read from its home.
    pub record IsStalled (old new : Core D E M m) (pid page : ℕ) (access : Access) (stall : Stall) : Type 0 where
      pub keeps : KeepsSeen (picture_of old) (picture_of new)
      pub cause : ReadCause g h old new stall
      pub short : IsShort (picture_of new) stall
      pub refused : stall ≢ StoreDevice → RefusesAccess (picture_of new) pid page access stall
      pub wanted : Wants (picture_of old) pid page access
      pub home : stall ≡ StoreDevice → ReadsHome (picture_of old) pid page

    -- and the access is fine
    pub record Stalls (old new : Core D E M m) (pid addr : ℕ) (width : Width) (access : Access) (stall : Stall) : Type 0 where
      pub seen : View
      pub fine : verdict_of (picture_of old) pid addr width access ≡ Fine seen
      pub stalled : IsStalled old new pid (addr / 4096) access stall

    -- why there is no place: a fault is the verdict's, and nothing changed
    abbrev pub IsRefusal : Core D E M m → Core D E M m → ℕ → ℕ → Width → Access → AccessRefusal → Type 0
    IsRefusal old new pid addr width access (Refusal.Fault fault) =
        (code : Code) × (verdict_of (picture_of old) pid addr width access ≡ Faults code) × (fault ≡ fault_of access code addr) × (new ≡ old)
    IsRefusal old new pid addr width access (Refusal.Stall stall) = Stalls old new pid addr width access stall
