-- Where each page of a file or an object is, and which are touched. The frames and then the slots are numbered as nodes.
use Rattle.std.specs.Prelude.{◌≡◌, ◌≢◌, ℕ, ◌-◌, ◌<◌, ◌≤◌, Bool, true, false, nat_lt, if◌then◌else◌, List, length, Option, Some, None, slice_index_or}
use Rattle.vm_types.specs.declared.object.PageKey.{PageKey}
use Rattle.page_cache.specs.declared.place.Place.{Place}
use Rattle.page_cache.specs.declared.place.Place.TheVariants.{Home, Frame, Slot}
use Rattle.page_cache.specs.Nodes.{first_node}

-- what each node holds, and whether that page is touched
pub record CacheTable : Type 0 where
  pub frames : ℕ
  pub pages : List (Option PageKey)
  pub touched : List Bool

abbrev pub cache_frames : CacheTable → ℕ
cache_frames t = t.frames

abbrev pub slot_count : CacheTable → ℕ
slot_count t = length t.pages - t.frames

-- the place that a node is
abbrev pub place_in : ℕ → Option ℕ → Place
place_in frames None = Home
place_in frames (Some node) = if nat_lt node frames then Frame (record { 0 = node }) else Slot (record { 0 = node - frames })

-- the place of a page
unfoldable pub place_of : CacheTable → PageKey → Place
place_of t page = place_in t.frames (first_node t.pages page)

abbrev pub is_marked : List Bool → Option ℕ → Bool
is_marked touched None = false
is_marked touched (Some node) = slice_index_or touched node false

-- whether a page is touched
unfoldable pub is_touched : CacheTable → PageKey → Bool
is_touched t page = is_marked t.touched (first_node t.pages page)

-- a place of this memory and this swap device
abbrev pub IsInside : CacheTable → Place → Type 0
IsInside t Home = Unit {0}
IsInside t (Frame n) = n.0 < cache_frames t
IsInside t (Slot n) = n.0 < slot_count t

-- no other page has this frame or this slot
abbrev pub IsFreeFor : CacheTable → PageKey → Place → Type 0
IsFreeFor t page Home = Unit {0}
IsFreeFor t page (Frame n) = (p : PageKey) → p ≢ page → place_of t p ≢ Frame n
IsFreeFor t page (Slot n) = (p : PageKey) → p ≢ page → place_of t p ≢ Slot n

-- what is true at all times
pub record IsSoundCache (t : CacheTable) : Type 0 where
  pub least_frames : 8 ≤ cache_frames t
  pub most_frames : cache_frames t ≤ 65536
  pub most_slots : slot_count t ≤ 65536
  pub inside : (page : PageKey) → IsInside t (place_of t page)
  -- no two pages have one frame or one slot
  pub apart : (p q : PageKey) → place_of t p ≡ place_of t q → place_of t p ≢ Home → p ≡ q
  pub touched_held : (page : PageKey) → is_touched t page ≡ true → place_of t page ≢ Home

-- every page at home and untouched, with so many frames and slots
pub record IsNewCache (t : CacheTable) (frames slots : ℕ) : Type 0 where
  pub frames_are : cache_frames t ≡ frames
  pub slots_are : slot_count t ≡ slots
  pub at_home : (page : PageKey) → place_of t page ≡ Home
  pub untouched : (page : PageKey) → is_touched t page ≡ false

-- all is as it was but for one page
pub record SameButForPage (page : PageKey) (old new : CacheTable) : Type 0 where
  pub frames : cache_frames new ≡ cache_frames old
  pub slots : slot_count new ≡ slot_count old
  pub places : (p : PageKey) → p ≢ page → place_of new p ≡ place_of old p
  pub touched : (p : PageKey) → p ≢ page → is_touched new p ≡ is_touched old p
