-- What memory holds, by functions: the frames, the processes by their numbers, and the pages of files and objects.
use Rattle.vm_types.specs.declared.mode.Levels as Levels
use Rattle.std.specs.Prelude.{◌≡◌, ◌<◌, ◌≢◌, ℕ, Bool, true, false, List, [], Option, Some, None, is_some, slice_index_or}
use Rattle.std.specs.Option.{option_map}
use Rattle.vm_types.specs.Limits.{top_level}
use Rattle.vm_types.specs.declared.object.PageKey.{PageKey}
use Rattle.vm_types.specs.declared.number.FrameNo.{FrameNo}
use Rattle.vm_types.specs.declared.region.Attr.{Attr}
use Rattle.vm_types.specs.Files.{Files}
use Rattle.vm_types.specs.View.{View}
use Rattle.sized_stores.specs.Store.{files_of}
use Rattle.frames.specs.declared.role.Role.{Role}
use Rattle.frames.specs.declared.role.Role.TheVariants.{Free, Zero, Table, Private, Cache}
use Rattle.frames.specs.FrameTable.{FrameTable, bytes_of, role_of, count_of}
use Rattle.swap.specs.Slots.{SlotTable, slots_of}
use Rattle.page_tables.specs.Tree.{page_entry}
use Rattle.regions.specs.declared.run.Run.{Run}
use Rattle.regions.specs.RunList.{attr_at}
use Rattle.page_cache.specs.declared.place.Place.{Place}
use Rattle.page_cache.specs.declared.place.Place.TheVariants.{Home, Frame, Slot}
use Rattle.page_cache.specs.CacheTable.{place_of, is_touched}
use Rattle.residency.specs.Seats.{Seat, InFrame, InSlot, seat}
use Rattle.residency.specs.declared.kernel.Core.{Core}
pub use Rattle.residency.specs.Seats.{is_private, is_swapped}

pub record Picture (mode : ℕ) : Type 0 where
  pub frames : FrameTable
  pub slots : SlotTable
  -- the root table of each process
  pub root : ℕ → Option ℕ
  -- what each page of each process is: process, page
  pub at : ℕ → ℕ → Option Attr
  -- the page at which its processes have a private frame
  pub page_of : ℕ → ℕ
  -- where each page of a file or an object is, and which are touched
  pub place : PageKey → Place
  pub touched : PageKey → Bool
  pub files : Files

abbrev pub number_of_frame : FrameNo → ℕ
number_of_frame n = n.0

-- what a page is by the regions of a process, where it lives
abbrev pub attr_where : Option ℕ → List Run → ℕ → Option Attr
attr_where None runs page = None
attr_where (Some root) runs page = attr_at runs page

abbrev pub root_in : List (Option FrameNo) → ℕ → Option ℕ
root_in roots pid = option_map number_of_frame (slice_index_or roots pid None)

module _ {M : Type 0} {m : Levels.Ghosts M} {D E : Type 0} where
  abbrev pub picture_of : Core D E M m → Picture m.mode
  picture_of c = record {
    frames = c.frames;
    slots = slots_of c.swap;
    root = root_in c.roots.items;
    at = λ pid page. attr_where (root_in c.roots.items pid) (slice_index_or c.regions.items pid []) page;
    page_of = λ n. slice_index_or c.page_of.items n 0;
    place = place_of c.cache;
    touched = is_touched c.cache;
    files = files_of c.store;
  }

module _ {mode : ℕ} where
  abbrev pub is_live : Picture mode → ℕ → Bool
  is_live c pid = is_some (c.root pid)

module _ (mode : ℕ) where
  abbrev pub entry_under : FrameTable → Option ℕ → ℕ → ℕ
  entry_under t None page = 0
  entry_under t (Some root) page = page_entry t (top_level mode) root page

-- the number that stands for a page of a process, 0 where a table is missing or the process doesn't live
module _ {mode : ℕ} where
  unfoldable pub entry : Picture mode → ℕ → ℕ → ℕ
  entry c pid page = entry_under mode c.frames (c.root pid) page

abbrev pub bytes_in : FrameTable → SlotTable → Seat → List ℕ
bytes_in t s (InFrame n) = bytes_of t n
bytes_in t s (InSlot k) = s.bytes k

-- the own copy that an entry names
abbrev pub own_in : FrameTable → SlotTable → ℕ → Option (List ℕ)
own_in t s e = option_map (bytes_in t s) (seat e)

abbrev pub view_of : Option (List ℕ) → Option Attr → Option View
view_of own None = None
view_of own (Some attr) = Some (record { attr = attr; own = own })

-- a page of a process, as the process has it
module _ {mode : ℕ} where
  unfoldable pub view : Picture mode → ℕ → ℕ → Option View
  view c pid page = view_of (own_in c.frames c.slots (entry c pid page)) (c.at pid page)

-- the share count of a seat
module _ {mode : ℕ} where
  abbrev pub count_in : Picture mode → Seat → ℕ
  count_in c (InFrame n) = count_of c.frames n
  count_in c (InSlot k) = c.slots.count k

-- the page at which processes have a seat: that of a frame is noted, that of a slot is told
module _ {mode : ℕ} where
  abbrev pub page_in : Picture mode → (ℕ → ℕ) → Seat → ℕ
  page_in c slot_page (InFrame n) = c.page_of n
  page_in c slot_page (InSlot k) = slot_page k

-- the seat of an own copy: a private frame, or a slot in use that holds no page of a file or an object
module _ {mode : ℕ} where
  abbrev pub IsOwned : Picture mode → Seat → Type 0
  IsOwned c (InFrame n) = role_of c.frames n ≡ Private
  IsOwned c (InSlot k) = (0 < c.slots.count k) × ((p : PageKey) → c.place p ≢ Slot (record { 0 = k }))

-- the bytes of a page of a file or an object that isn't at home
abbrev pub bytes_at : FrameTable → SlotTable → Place → Option (List ℕ)
bytes_at t s Home = None
bytes_at t s (Frame n) = Some (bytes_of t n.0)
bytes_at t s (Slot k) = Some (s.bytes k.0)

-- the bytes of a page of a file or an object in memory or swap; none where it is at home
module _ {mode : ℕ} where
  unfoldable pub held : Picture mode → PageKey → Option (List ℕ)
  held c p = bytes_at c.frames c.slots (c.place p)

-- whether a frame holds a page of a process or of a file
abbrev pub is_data : Role → Bool
is_data Free = false
is_data Zero = false
is_data Table = false
is_data Private = true
is_data Cache = true
