-- What holds of memory between two calls, in five parts.
use Rattle.std.specs.Prelude.{◌≡◌, ◌≢◌, ℕ, ◌<◌, ◌≤◌, ◌⊎◌, true, false, Option, Some, IsSome}
use Rattle.vm_types.specs.Processes.{process_limit}
use Rattle.vm_types.specs.Limits.{top_level, object_limit}
use Rattle.vm_types.specs.Objects.{Maps, names, uses, is_named}
pub use Rattle.vm_types.specs.Attributes.{is_shared}
use Rattle.vm_types.specs.declared.object.PageKey.{PageKey}
use Rattle.vm_types.specs.declared.object.PageKey.TheVariants.{File, Object}
use Rattle.vm_types.specs.declared.region.Attr.{Attr}
use Rattle.vm_types.specs.declared.region.Backing.{Backing}
use Rattle.vm_types.specs.declared.region.Backing.TheVariants.{Anon, Private, Shared, Common}
use Rattle.vm_types.specs.Permission as Permission
use Rattle.vm_types.specs.Rows.{IsUserMap}
use Rattle.vm_types.specs.Verdict.{is_past_end}
use Rattle.file_store.specs.Standing.{IsPageOf}
use Rattle.frames.specs.declared.role.Role.TheVariants as Role
use Rattle.frames.specs.FrameTable.{role_of, count_of}
use Rattle.sv39_walk.specs.Entry.{is_valid, can_read, can_write, can_execute, is_dirty, frame_of, has_bit}
use Rattle.page_tables.specs.Tree.{IsPage, IsTable, IsForest, IsRoot, IsBelowRoot}
use Rattle.regions.specs.Permission.{IsReadableMap}
use Rattle.page_cache.specs.declared.place.Place.TheVariants.{Home, Frame, Slot}
use Rattle.residency.specs.Seats.{Seat, InFrame, InSlot, AreCounted, is_private, is_swapped}
use Rattle.residency.specs.Picture.{Picture, entry, count_in, page_in, IsOwned}

-- Counts, while that of seat x is off by d, by the pages at which processes have slots: the share count of a private frame, and
-- of a slot that holds no file page, is the number of entries that name it, which all stand at its page.
module _ {mode : ℕ} where
  abbrev pub AreCountedBut : Picture mode → (ℕ → ℕ) → Seat → ℕ → Type 0
  AreCountedBut c slot_page x d = AreCounted mode (entry c) (IsOwned c) (count_in c) (page_in c slot_page) x d

-- by some pages
module _ {mode : ℕ} where
  abbrev pub IsCountedBut : Picture mode → Seat → ℕ → Type 0
  IsCountedBut c x d = (slot_page : ℕ → ℕ) × AreCountedBut c slot_page x d

-- the seat that stands for none: frame 0 is never private
abbrev pub nowhere : Seat
nowhere = InFrame 0

module _ {mode : ℕ} where
  abbrev pub IsCounted : Picture mode → Type 0
  IsCounted c = IsCountedBut c nowhere 0

-- a table that a process needs: its root, or one below it on the way to a page that it has mapped, whether or not the table
-- has entries
module _ {mode : ℕ} where
  pub data IsUsed (c : Picture mode) (mapped : ℕ → ℕ → Type 0) (n : ℕ) : Type 0 where
    AsRoot : (pid : ℕ) → c.root pid ≡ Some n → IsUsed c mapped n
    OnWay : (pid r page : ℕ) → c.root pid ≡ Some r → mapped pid page → IsBelowRoot c.frames (top_level mode) r page n → IsUsed c mapped n

module _ {mode : ℕ} where
  abbrev pub IsMapped : Picture mode → ℕ → ℕ → Type 0
  IsMapped c pid page = IsSome (c.at pid page)

-- Trees, while table n may be in none: each process has a root of its own, and every other table lies below one root on the
-- one way to a page that its process has mapped. Frame 0, which is never a table, stands for none.
module _ {mode : ℕ} where
  pub record IsRootedBut (c : Picture mode) (n : ℕ) : Type 0 where
    pub forest : IsForest c.frames
    pub roots : (pid r : ℕ) → c.root pid ≡ Some r → IsRoot (top_level mode) c.frames r
    pub apart : (p q r : ℕ) → c.root p ≡ Some r → c.root q ≡ Some r → p ≡ q
    pub numbers : (pid r : ℕ) → c.root pid ≡ Some r → (1 ≤ pid) × (pid ≤ process_limit)
    pub used : (m : ℕ) → IsTable c.frames m → (m ≡ n) ⊎ IsUsed c (IsMapped c) m

-- frame n holds what stands behind a page: it is the zero page, or that of the page of a file or an object
module _ {mode : ℕ} where
  abbrev pub IsBehind : Picture mode → Backing → ℕ → Type 0
  IsBehind c Anon n = n ≡ 0
  IsBehind c (Private p) n = c.place (File p) ≡ Frame (record { 0 = n })
  IsBehind c (Shared p) n = c.place (File p) ≡ Frame (record { 0 = n })
  IsBehind c (Common p) n = c.place (Object p) ≡ Frame (record { 0 = n })

-- a permission's bit is set in an entry only where the region has it
pub record IsWithin (attr : Attr) (e : ℕ) : Type 0 where
  pub reads : can_read e ≡ true → Permission.can_read attr.prot ≡ true
  pub writes : can_write e ≡ true → Permission.can_write attr.prot ≡ true
  pub executes : can_execute e ≡ true → Permission.can_execute attr.prot ≡ true

-- What a leaf lets be done. A write is let through to a frame that nobody else has, or to that of a shared page.
module _ {mode : ℕ} where
  pub record IsLeafFor (c : Picture mode) (attr : Attr) (e : ℕ) : Type 0 where
    pub within : IsWithin attr e
    pub sole : is_private e ≡ true → can_write e ≡ true → count_of c.frames (frame_of e) ≡ 1
    pub common : is_private e ≡ false → can_write e ≡ true → is_shared attr.backing ≡ true

-- the entry of a mapped page whose bytes lie in a frame
module _ {mode : ℕ} where
  pub record IsResident (c : Picture mode) (attr : Attr) (e : ℕ) : Type 0 where
    pub framed : is_valid e ≡ false → has_bit e 1 ≡ false
    pub inside : is_past_end c.files attr.backing ≡ false
    pub private : is_private e ≡ true → is_shared attr.backing ≡ false
    pub behind : is_private e ≡ false → IsBehind c attr.backing (frame_of e)
    pub leaf : is_valid e ≡ true → IsLeafFor c attr e

-- the entry of a mapped page whose bytes lie in a slot
module _ {mode : ℕ} where
  pub record IsSwapped (c : Picture mode) (attr : Attr) (e : ℕ) : Type 0 where
    pub swapped : is_swapped e ≡ true
    pub common : is_private e ≡ false
    pub inside : is_past_end c.files attr.backing ≡ false
    pub not_shared : is_shared attr.backing ≡ false

-- the entry of a page, by what the page is
module _ {mode : ℕ} where
  pub data IsEntryFor (c : Picture mode) (attr : Option Attr) (e : ℕ) : Type 0 where
    Nothing : e ≡ 0 → IsEntryFor c attr e
    Resident : (a : Attr) → attr ≡ Some a → IsResident c a e → IsEntryFor c attr e
    Away : (a : Attr) → attr ≡ Some a → IsSwapped c a e → IsEntryFor c attr e

-- Objects, by what the pages of processes are: those that name one page of an object are at one page number, since a fork keeps
-- the page numbers, and the numbers of objects are bounded.
pub record AreObjects (at : Maps) : Type 0 where
  pub one_page : (p q j k object page : ℕ) → names (at p j) object page ≡ true → names (at q k) object page ≡ true → j ≡ k
  pub below : (pid page object : ℕ) → uses (at pid page) object ≡ true → object < object_limit

-- grants: an entry lets nothing be done that the region of its page doesn't
module _ {mode : ℕ} where
  pub record IsGranting (c : Picture mode) : Type 0 where
    pub entries : (pid page : ℕ) → IsPage (top_level mode) page → IsEntryFor c (c.at pid page) (entry c pid page)
    pub user : (pid : ℕ) → IsUserMap mode (c.at pid)
    pub readable : (pid : ℕ) → IsReadableMap (c.at pid)
    pub objects : AreObjects c.at

-- a file page inside its file, or a page of an object that a process names
module _ {mode : ℕ} where
  abbrev pub IsPageFor : Picture mode → PageKey → Type 0
  IsPageFor c (File p) = IsPageOf c.files p.file p.page
  IsPageFor c (Object p) = is_named c.at p.object p.page ≡ true

-- places: each page of a file or an object lies in a cache frame or a slot of its own or at home; each cache frame holds one, and
-- each slot in use holds one or own copies
module _ {mode : ℕ} where
  pub record HasPlaces (c : Picture mode) : Type 0 where
    pub cached : (p : PageKey) (n : ℕ) → c.place p ≡ Frame (record { 0 = n }) → role_of c.frames n ≡ Role.Cache
    pub held : (n : ℕ) → role_of c.frames n ≡ Role.Cache → (p : PageKey) × (c.place p ≡ Frame (record { 0 = n }))
    pub apart : (p q : PageKey) → c.place p ≡ c.place q → c.place p ≢ Home → p ≡ q
    pub slotted : (p : PageKey) (k : ℕ) → c.place p ≡ Slot (record { 0 = k }) → c.slots.count k ≡ 1
    pub used : (k : ℕ) → 0 < c.slots.count k → IsOwned c (InSlot k) ⊎ ((p : PageKey) × (c.place p ≡ Slot (record { 0 = k })))
    pub inside : (p : PageKey) → c.place p ≢ Home → IsPageFor c p

-- dirty: a leaf over a cache frame has D only where its page is touched; a touched page isn't at home, and one in a slot is touched.
-- A page of an object is touched where it was stored to at all.
module _ {mode : ℕ} where
  pub record IsDirtySound (c : Picture mode) : Type 0 where
    pub dirty : (pid page : ℕ) (p : PageKey) → IsPage (top_level mode) page → is_valid (entry c pid page) ≡ true → is_private (entry c pid page) ≡ false
        → is_dirty (entry c pid page) ≡ true → c.place p ≡ Frame (record { 0 = frame_of (entry c pid page) }) → c.touched p ≡ true
    pub held : (p : PageKey) → c.touched p ≡ true → c.place p ≢ Home
    pub slotted : (p : PageKey) (k : ℕ) → c.place p ≡ Slot (record { 0 = k }) → c.touched p ≡ true

-- Within a call: the share count of seat x may be off by d, and table m in no tree.
module _ {mode : ℕ} where
  pub record IsFitBut (c : Picture mode) (x : Seat) (d m : ℕ) : Type 0 where
    pub counted : IsCountedBut c x d
    pub rooted : IsRootedBut c m
    pub granting : IsGranting c
    pub places : HasPlaces c
    pub dirty : IsDirtySound c

-- between two calls, and wherever a frame is asked for: no count is off, and every table is in a tree
module _ {mode : ℕ} where
  abbrev pub IsFit : Picture mode → Type 0
  IsFit c = IsFitBut c nowhere 0 0
