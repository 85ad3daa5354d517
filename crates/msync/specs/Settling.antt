-- What becomes of memory once file pages were committed.
use Rattle.vm_types.specs.declared.mode.Levels as Levels
use Rattle.std.specs.Prelude.{◌≡◌, ◌≢◌, ℕ, ◌+◌, ◌<◌, ◌⊎◌, true, false, List, length, Option, Some, None}
use Rattle.vm_types.specs.Limits.{top_level}
use Rattle.vm_types.specs.declared.file.FilePage.{FilePage}
use Rattle.vm_types.specs.declared.object.PageKey.{PageKey}
use Rattle.vm_types.specs.declared.object.PageKey.TheVariants.{File}
use Rattle.vm_types.specs.declared.number.SlotNo.{SlotNo}
use Rattle.vm_types.specs.Files.{Files, trimmed}
use Rattle.frames.specs.FrameTable.{FrameTable, frame_count, bytes_of}
use Rattle.sv39_walk.specs.Entry.{is_valid, is_dirty, frame_of}
use Rattle.page_tables.specs.Tree.{IsPage}
use Rattle.page_cache.specs.declared.place.Place.{Place}
use Rattle.page_cache.specs.declared.place.Place.TheVariants.{Home, Frame, Slot}
use Rattle.residency.specs.declared.kernel.Core.{Core}
use Rattle.residency.specs.Ages.{KeepsRoles}
use Rattle.residency.specs.Parts.{IsFit}
use Rattle.residency.specs.Picture.{Picture, picture_of, entry, view, held, is_private}
use Rattle.msync.specs.declared.chosen.Residence.{Residence}
use Rattle.msync.specs.declared.chosen.Residence.TheVariants.{Framed, Slotted}
use Rattle.msync.specs.declared.chosen.Spot.{Spot}
use Rattle.msync.specs.Spots.{spot_at, IsSpot, IsSlotted, HasSlot}

module _ {M : Type 0} {m : Levels.Ghosts M} {D E : Type 0} where
  -- all but frames, places and the shares of slots is as it was, and no device was asked
  pub record KeepsBesidePages (old new : Core D E M m) : Type 0 where
    pub store : new.store ≡ old.store
    pub pages : new.swap.pages ≡ old.swap.pages
    pub roots : new.roots ≡ old.roots
    pub regions : new.regions ≡ old.regions
    pub page_of : new.page_of ≡ old.page_of
    pub clock : new.clock ≡ old.clock
    pub refused : new.refused ≡ old.refused

-- The second is the first, which has D, without it: 128 less, and every other bit the same.
pub record LosesDirty (old new : ℕ) : Type 0 where
  pub had : is_dirty old ≡ true
  pub number : new + 128 ≡ old

-- a leaf over one of these frames lost D
pub record ClearsLeaf (over : ℕ → Type 0) (old new : ℕ) : Type 0 where
  pub leaf : is_valid old ≡ true
  pub frame : over (frame_of old)
  pub loses : LosesDirty old new

-- where a page lies once it is durable: in its frame, or at home
abbrev pub settled_place : Residence → Place
settled_place (Framed n) = Frame n
settled_place (Slotted k) = Home

-- what is in memory of it then: its bytes with zeros past the end of the file, or nothing
abbrev pub settled_in : Files → FrameTable → FilePage → Residence → Option (List ℕ)
settled_in files t p (Framed n) = Some (trimmed files p.file p.page (bytes_of t n.0))
settled_in files t p (Slotted k) = None

module _ {mode : ℕ} where
  abbrev pub settled_bytes : Picture mode → Spot → Option (List ℕ)
  settled_bytes c spot = settled_in c.files c.frames spot.page spot.at

-- One page that was committed is touched no more. Every page keeps its own copy, and every other page of a file or an object its place and bytes.
module _ {mode : ℕ} where
  pub record SettlesOne (old new : Picture mode) (spot : Spot) : Type 0 where
    pub frames : frame_count new.frames ≡ frame_count old.frames
    pub roles : KeepsRoles old new
    pub slots : new.slots.total ≡ old.slots.total
    pub root : (pid : ℕ) → new.root pid ≡ old.root pid
    pub views : (pid page : ℕ) → view new pid page ≡ view old pid page
    pub entries : (pid page : ℕ) → IsPage (top_level mode) page
        → (entry new pid page ≡ entry old pid page) ⊎ ClearsLeaf (λ n. spot.at ≡ Framed (record { 0 = n })) (entry old pid page) (entry new pid page)
    pub files : (f : ℕ) → new.files f ≡ old.files f
    pub placed : new.place (File spot.page) ≡ settled_place spot.at
    pub elsewhere : (p : PageKey) → p ≢ File spot.page → new.place p ≡ old.place p
    pub cleaned : new.touched (File spot.page) ≡ false
    pub untouched : (p : PageKey) → p ≢ File spot.page → new.touched p ≡ old.touched p
    pub settled : held new (File spot.page) ≡ settled_bytes old spot
    pub kept : (p : PageKey) → p ≢ File spot.page → held new p ≡ held old p

-- the frame is that of one of these pages
abbrev pub IsFrameIn : List Spot → ℕ → Type 0
IsFrameIn list n = (i : ℕ) × (i < length list) × ((spot_at list i).at ≡ Framed (record { 0 = n }))

-- the same of the first n of these pages
module _ {mode : ℕ} where
  pub record Settles (old new : Picture mode) (list : List Spot) (n : ℕ) : Type 0 where
    pub frames : frame_count new.frames ≡ frame_count old.frames
    pub roles : KeepsRoles old new
    pub slots : new.slots.total ≡ old.slots.total
    pub root : (pid : ℕ) → new.root pid ≡ old.root pid
    pub views : (pid page : ℕ) → view new pid page ≡ view old pid page
    pub entries : (pid page : ℕ) → IsPage (top_level mode) page → (entry new pid page ≡ entry old pid page) ⊎ ClearsLeaf (IsFrameIn list) (entry old pid page) (entry new pid page)
    pub files : (f : ℕ) → new.files f ≡ old.files f
    pub placed : (i : ℕ) → i < n → new.place (File (spot_at list i).page) ≡ settled_place (spot_at list i).at
    pub elsewhere : (p : PageKey) → ((i : ℕ) → i < n → File (spot_at list i).page ≢ p) → new.place p ≡ old.place p
    pub cleaned : (i : ℕ) → i < n → new.touched (File (spot_at list i).page) ≡ false
    pub untouched : (p : PageKey) → ((i : ℕ) → i < n → File (spot_at list i).page ≢ p) → new.touched p ≡ old.touched p
    pub settled : (i : ℕ) → i < n → held new (File (spot_at list i).page) ≡ settled_bytes old (spot_at list i)
    pub kept : (p : PageKey) → ((i : ℕ) → i < n → File (spot_at list i).page ≢ p) → held new p ≡ held old p

-- A page may be settled: memory is fit, and the page lies there.
module _ {mode : ℕ} where
  pub record IsSettleable (c : Picture mode) (spot : Spot) : Type 0 where
    pub fit : IsFit c
    pub lies : IsSpot c spot
    pub open lies use *

module _ {M : Type 0} {m : Levels.Ghosts M} {D E : Type 0} where
  -- A page that was committed is settled, and memory with it:
  pub record SettlesPage (old new : Core D E M m) (spot : Spot) : Type 0 where
    -- it is fit still,
    pub fit : IsFit (picture_of new)
    -- nothing but frames, places and the shares of slots is otherwise, and slots only where the page lay in one,
    pub beside : KeepsBesidePages old new
    pub swap : (new.swap ≡ old.swap) ⊎ IsSlotted spot.at
    -- and the page is touched no more.
    pub settles : SettlesOne (picture_of old) (picture_of new) spot

  -- All pages of a list that were committed are settled, likewise.
  pub record SettlesPages (old new : Core D E M m) (list : List Spot) : Type 0 where
    pub fit : IsFit (picture_of new)
    pub beside : KeepsBesidePages old new
    pub swap : (new.swap ≡ old.swap) ⊎ HasSlot list
    pub settles : Settles (picture_of old) (picture_of new) list (length list)

-- A leaf over the frame of a file page that was touched, and is no more, lost D. It is no process's own copy.
module _ {mode : ℕ} where
  pub record LosesTouched (old new : Picture mode) (e e' : ℕ) : Type 0 where
    pub leaf : is_valid e ≡ true
    pub common : is_private e ≡ false
    pub loses : LosesDirty e e'
    pub page : FilePage
    pub over : old.place (File page) ≡ Frame (record { 0 = frame_of e })
    pub was : old.touched (File page) ≡ true
    pub now : new.touched (File page) ≡ false

-- Every entry of every process is the number that it was, but for D of leaves over file pages that were made durable.
module _ {mode : ℕ} where
  abbrev pub LosesDirtyOnly : Picture mode → Picture mode → Type 0
  LosesDirtyOnly old new = (pid page : ℕ) → IsPage (top_level mode) page → (entry new pid page ≡ entry old pid page) ⊎ LosesTouched old new (entry old pid page) (entry new pid page)

-- a touched file page left its slot: it is at home, and touched no more
module _ {mode : ℕ} where
  pub record ComesHome (old new : Picture mode) (page : FilePage) : Type 0 where
    pub slot : SlotNo
    pub was : old.place (File page) ≡ Slot slot
    pub touched : old.touched (File page) ≡ true
    pub now : new.place (File page) ≡ Home
    pub clean : new.touched (File page) ≡ false

-- every page of a file or an object lies where it lay, or is a file page that came home from its slot
module _ {mode : ℕ} where
  abbrev pub SettlesPlaces : Picture mode → Picture mode → Type 0
  SettlesPlaces old new = (p : PageKey) → (new.place p ≡ old.place p) ⊎ ((f : FilePage) × (p ≡ File f) × ComesHome old new f)

-- What an msync leaves of memory, whatever it returns.
module _ {mode : ℕ} where
  pub record SettlesMemory (old new : Picture mode) : Type 0 where
    -- each frame has the use that it had: none is taken, and none given back
    pub roles : KeepsRoles old new
    -- no entry lost more than D, and that only over a file page that was made durable
    pub entries : LosesDirtyOnly old new
    -- no page of a file or an object came or went, but for file pages that were made durable from slots
    pub places : SettlesPlaces old new
