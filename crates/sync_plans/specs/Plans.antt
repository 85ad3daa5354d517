-- A plan: calls to be made of a device, one after the other. What the device holds after some of them, and what a stop may
-- leave of it. Call k of kind 1 writes row k to its sector, one of kind 2 syncs. One of kind 3 writes page `from` of those that
-- are lent to the eight sectors from its own on, one of kind 4 what the eight sectors from `from` on of the image hold, and one of kind 5 zeros to the sectors of
-- `from` pages.
use Rattle.std.specs.Prelude.{ℕ, zero, suc, min, ◌+◌, ◌-◌, ◌*◌, ◌<◌, ◌≤◌, ◌≡◌, ◌⊎◌, Bool, false, leb, ltb, ◌&&◌, ◌||◌, ◌==◌, if◌then◌else◌, IsTrue, List, [], Option, Some, None, length, replicate, slice_get, slice_index_or}
use Rattle.disk_model.specs.Sectors.{part_of, sector_bytes}
use Rattle.disk_model.specs.Stop.{Image, MayLeave}
use Rattle.sync_plans.specs.declared.call.Call.{Call}

-- what these sectors hold
abbrev pub row : List (List ℕ) → Image
row sectors n = slice_index_or sectors n []

-- sector n is one of those of so many pages from `first` on
abbrev pub is_of_pages : ℕ → ℕ → ℕ → Bool
is_of_pages first pages n = leb first n && ltb n (first + 8 * pages)

-- how many pages a call of kind 3, 4 or 5 writes
abbrev pub pages_written : Call → ℕ
pages_written call = if call.kind == 5 then call.from else 1

abbrev pub writes_to : Option Call → ℕ → Bool
writes_to None n = false
writes_to (Some call) n = if call.kind == 1 then (n == call.sector) else (leb 3 call.kind && is_of_pages call.sector (pages_written call) n)

-- what a call of kind 3, 4 or 5 writes to sector n
abbrev pub page_bytes : (ℕ → List ℕ) → Image → Call → ℕ → List ℕ
page_bytes pages first call n = if call.kind == 3 then part_of (pages call.from) (n - call.sector)
    else (if call.kind == 4 then first (call.from + (n - call.sector)) else replicate sector_bytes 0)

-- what call k writes to sector n, in a plan of these rows, with these pages lent, for a device that held `first`
abbrev pub written_bytes : List (List ℕ) → (ℕ → List ℕ) → Image → ℕ → Option Call → ℕ → List ℕ
written_bytes rows pages first k None n = []
written_bytes rows pages first k (Some call) n = if call.kind == 1 then row rows k else page_bytes pages first call n

abbrev pub is_sync_call : Option Call → Bool
is_sync_call None = false
is_sync_call (Some call) = call.kind == 2

-- how many calls a plan may have that is made in the first two of these lists and given in the others: as many as the shortest has places
abbrev pub room_of : List Call → List (List ℕ) → List Call → List (List ℕ) → ℕ
room_of made made_rows calls rows = min (min (length made) (length made_rows)) (min (length calls) (length rows))

-- a write of one of so many sectors or of pages of them, or a sync
pub record IsCall (sectors : ℕ) (call : Call) : Type 0 where
  pub kind : (1 ≤ call.kind) × (call.kind ≤ 5)
  pub sector : call.kind ≡ 1 → call.sector < sectors
  pub page : 3 ≤ call.kind → call.sector + 8 * pages_written call ≤ sectors
  pub copied : call.kind ≡ 4 → call.from + 8 ≤ sectors

-- the first `used` calls are such
abbrev pub AreCalls : ℕ → List Call → ℕ → Type 0
AreCalls sectors calls used = (k : ℕ) (call : Call) → k < used → slice_get calls k ≡ Some call → IsCall sectors call

-- sector n is written among the first k calls, and not synced after that
abbrev pub is_left_unsynced : List Call → ℕ → ℕ → Bool
is_left_unsynced calls zero n = false
is_left_unsynced calls (suc k) n = if is_sync_call (slice_get calls k) then false else (writes_to (slice_get calls k) n || is_left_unsynced calls k n)

abbrev pub IsLeftUnsynced : List Call → ℕ → ℕ → Type 0
IsLeftUnsynced calls k n = IsTrue (is_left_unsynced calls k n)

-- what a device that held `first` holds after the first k calls
abbrev pub image_after : List Call → List (List ℕ) → (ℕ → List ℕ) → Image → ℕ → Image
image_after calls rows pages first zero n = first n
image_after calls rows pages first (suc k) n = if writes_to (slice_get calls k) n then written_bytes rows pages first k (slice_get calls k) n else image_after calls rows pages first k n

-- sector n is written by one of the m calls from call k on
abbrev pub is_written : List Call → ℕ → ℕ → ℕ → Bool
is_written calls k zero n = false
is_written calls k (suc m) n = writes_to (slice_get calls (k + m)) n || is_written calls k m n

-- Each of the first `used` calls that names where its bytes lie finds them there when it is made: a page that is named is lent,
-- and of the sectors of the image that are named none was written by a call before, so that the device still holds these bytes.
pub record AreSources (pages : ℕ → List ℕ) (calls : List Call) (used : ℕ) : Type 0 where
  pub lent : (k : ℕ) (call : Call) → k < used → slice_get calls k ≡ Some call → call.kind ≡ 3 → length (pages call.from) ≡ 4096
  pub unwritten : (k : ℕ) (call : Call) → k < used → slice_get calls k ≡ Some call → call.kind ≡ 4 → (i : ℕ) → i < 8 → is_written calls 0 k (call.from + i) ≡ false

-- What a stop may leave of a device that held `first`, with nothing unsynced, and of which the first `used` calls are
-- made in their order: after k of them any bytes in each sector written since the last sync, and all others as they are
-- then, which is also what a stop in the midst of a sync leaves; in the midst of m of them that are made together, none of
-- them a sync, also any bytes in the sectors that they write.
pub data StopLeaves (calls : List Call) (rows : List (List ℕ)) (pages : ℕ → List ℕ) (first : Image) (used : ℕ) (image : Image) : Type 0 where
  After : (k : ℕ) → k ≤ used → MayLeave (image_after calls rows pages first k) (IsLeftUnsynced calls k) image → StopLeaves calls rows pages first used image
  Within : (k m : ℕ) → k + m ≤ used → ((j : ℕ) → j < m → is_sync_call (slice_get calls (k + j)) ≡ false)
      → MayLeave (image_after calls rows pages first k) (λ n. IsLeftUnsynced calls k n ⊎ IsTrue (is_written calls k m n)) image → StopLeaves calls rows pages first used image
