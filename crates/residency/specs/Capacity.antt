-- How much memory and swap is in use, against what a state needs.
use Rattle.std.specs.Prelude.{ℕ, ◌+◌, ◌<◌, ◌≤◌, Bool, true, false, if◌then◌else◌, Option}
use Rattle.vm_types.specs.Limits.{user_end, file_limit, file_page_limit, object_limit}
use Rattle.vm_types.specs.Capacity.{tables_of, has_own, object_page_limit}
use Rattle.vm_types.specs.Counting.{count_below, sum_below}
use Rattle.vm_types.specs.View.{View}
use Rattle.vm_types.specs.declared.object.PageKey.TheVariants.{File, Object}
use Rattle.vm_types.specs.declared.refusal.Stall.{Stall}
use Rattle.vm_types.specs.declared.refusal.Stall.TheVariants.{NoFrames, NoSwap, SwapDevice, StoreDevice}
use Rattle.residency.specs.Picture.{Picture, is_live, view}
use Rattle.frames.specs.FrameTable.{FrameTable, frame_count, role_of}
use Rattle.frames.specs.declared.role.Role.{Role}
use Rattle.frames.specs.declared.role.Role.TheVariants.{Free, Zero, Table, Private, Cache}

abbrev pub is_table : Role → Bool
is_table Free = false
is_table Zero = false
is_table Table = true
is_table Private = false
is_table Cache = false

-- how many frames are tables
unfoldable pub table_frames : FrameTable → ℕ
table_frames t = count_below (λ n. is_table (role_of t n)) (frame_count t)

-- how many tables these processes may have
module _ (mode : ℕ) where
  unfoldable pub tables_over : (ℕ → Bool) → (ℕ → ℕ → Option View) → ℕ
  tables_over live views = sum_below (λ pid. if live pid then tables_of mode (views pid) else 0) 65

-- their own copies, the touched file pages, and the pages of objects that were stored to
module _ (mode : ℕ) where
  unfoldable pub copies_over : (ℕ → ℕ → Option View) → (ℕ → ℕ → Bool) → (ℕ → ℕ → Bool) → ℕ
  copies_over views touched stored =
      sum_below (λ pid. count_below (λ page. has_own (views pid page)) (user_end mode)) 65
      + sum_below (λ file. count_below (touched file) file_page_limit) file_limit
      + sum_below (λ object. count_below (stored object) object_page_limit) object_limit

-- whether a file page is touched
module _ {mode : ℕ} where
  abbrev pub touched_file : Picture mode → ℕ → ℕ → Bool
  touched_file c file page = c.touched (File (record { file = file; page = page }))

-- whether a page of an object was stored to
module _ {mode : ℕ} where
  abbrev pub stored_object : Picture mode → ℕ → ℕ → Bool
  stored_object c object page = c.touched (Object (record { object = object; page = page }))

-- why no frame was to be had, by what processes see, which files are touched and which objects were stored to
module _ {mode : ℕ} where
  unfoldable pub IsShort : Picture mode → Stall → Type 0
  IsShort c NoFrames = frame_count c.frames ≤ tables_over mode (is_live c) (view c) + 2
  IsShort c NoSwap = c.slots.total < copies_over mode (view c) (touched_file c) (stored_object c)
  IsShort c SwapDevice = Unit {0}
  IsShort c StoreDevice = Unit {0}
