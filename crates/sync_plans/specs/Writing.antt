-- What is asked of a plan as a device that lists its writes and syncs, and what it comes to.
use Rattle.std.specs.Prelude.{ℕ, ◌+◌, ◌<◌, ◌≤◌, ◌≡◌, ◌⊎◌, true, false, List, Some, length, replicate, slice_get, Result, OnOk, OnErr}
use Rattle.disk_model.specs.declared.sector_disk.DiskFault.{DiskFault}
use Rattle.disk_model.specs.Sectors.{part_of, sector_bytes}
use Rattle.disk_model.specs.Stop.{HasCause, IsOfPage, IsOfPages, ChangesOnly, ChangesPage, ChangesPages, Elapses}
use Rattle.sync_plans.specs.declared.call.Call.{Call}
use Rattle.sync_plans.specs.declared.plan_disk.PlanDisk.{PlanDisk}
use Rattle.sync_plans.specs.Plans.{row, IsCall, AreCalls, AreSources}
use Rattle.sync_plans.specs.Device.{Lists}
use Rattle.sync_plans.specs.PlanDisk.{pages_of, content_of, listed_unsynced, listed_left, plan_moment, IsLost}

-- A plan begins for a device that holds such an image, with such pages lent and room for so many calls:
pub record Begins (held : List (List ℕ)) (pages : ℕ → List ℕ) (places : ℕ) (d : PlanDisk) : Type 0 where
  pub image : d.image.now ≡ held
  pub lent : pages_of d ≡ pages
  pub room : d.room ≡ places
  -- none is listed, and no write is lost.
  pub used : d.used ≡ 0
  pub kept : (k : ℕ) → IsLost d k → ⊥

-- The listed calls are copied to the front of these lists,
pub record CopiesPlan (d : PlanDisk) (calls : List Call) (rows : List (List ℕ)) : Type 0 where
  pub same_calls : (k : ℕ) → k < d.used → slice_get calls k ≡ slice_get d.calls.now k
  -- with the rows that they write,
  pub same_rows : (k : ℕ) (call : Call) → k < d.used → slice_get d.calls.now k ≡ Some call → call.kind ≡ 1 → row rows k ≡ row d.rows.now k
  -- and are calls of the device there, that find the bytes that they name.
  pub all : AreCalls (length d.image.now) calls d.used
  pub sources : AreSources (pages_of d) calls d.used

-- A call that may be listed
pub record IsListable (d : PlanDisk) (call : Call) : Type 0 where
  -- is one of a device of as many sectors as the image has,
  pub is : IsCall (length d.image.now) call
  -- and finds its bytes where it names them: in a lent page, or in sectors of the image that no listed call writes.
  pub lent : call.kind ≡ 3 → length (pages_of d call.from) ≡ 4096
  pub unwritten : call.kind ≡ 4 → (d.untouched.low ≤ call.from) × (call.from + 8 ≤ d.untouched.high)

-- the image, the lent pages and the room stay, no sector is named to the device, and none is lost
pub record KeepsPlan (old new : PlanDisk) : Type 0 where
  pub image : new.image.now ≡ old.image.now
  pub lent : new.lent ≡ old.lent
  pub room : new.room ≡ old.room
  pub asked : new.asked ≡ old.asked
  pub lost : new.lost ≡ old.lost

-- the list is as it was
pub record KeepsList (old new : PlanDisk) : Type 0 where
  pub calls : new.calls.now ≡ old.calls.now
  pub rows : new.rows.now ≡ old.rows.now
  pub used : new.used ≡ old.used

module _ {T : Type 0} where
  -- A call is wanted in the list:
  pub record AddsCall (old new : PlanDisk) (call : Call) (bytes : List ℕ) (result : Result T DiskFault) : Type 0 where
    -- while there is room it is listed behind the others,
    pub lists : OnOk result (Lists old.calls.now new.calls.now old.rows.now new.rows.now old.used new.used call bytes)
    pub open_still : OnOk result ((old.full ≡ false) × (new.full ≡ false))
    -- and otherwise nothing is, and the list is full for good.
    pub unlisted : OnErr result (KeepsList old new)
    pub full : OnErr result (new.full ≡ true)
    pub keeps : KeepsPlan old new
    -- An error is told exactly where there is no room.
    pub cause : HasCause old.failures.number new.failures.number result

  -- These sectors are written to by calls:
  pub record PutsCalls (old new : PlanDisk) (sectors : ℕ → Type 0) (result : Result T DiskFault) : Type 0 where
    -- no others come to be unsynced, and while there is room these all do; none that was is synced, and a stop leaves what it might have
    -- left before, or what it may leave now;
    pub unsynced : (k : ℕ) → listed_unsynced new k → listed_unsynced old k ⊎ sectors k
    pub marked : OnOk result ((k : ℕ) → sectors k → listed_unsynced new k)
    pub still : (k : ℕ) → listed_unsynced old k → listed_unsynced new k
    pub time : Elapses (plan_moment old) (plan_moment new) (listed_left old) (listed_left new) (content_of new) (listed_unsynced new)
    -- the list is full only where that is told, and an error is told exactly where there is no room.
    pub full : OnErr result (new.full ≡ true)
    pub keeps : KeepsPlan old new
    pub cause : HasCause old.failures.number new.failures.number result

  -- Sector n is written:
  pub record PutsSector (old new : PlanDisk) (n : ℕ) (bytes : List ℕ) (result : Result T DiskFault) : Type 0 where
    -- it holds these bytes,
    pub written : OnOk result (content_of new n ≡ bytes)
    -- and all others hold theirs;
    pub others : ChangesOnly n (content_of old) (content_of new)
    -- where there is no room it does too;
    pub failed : OnErr result (content_of new ≡ content_of old)
    -- calls write to it alone.
    pub puts : PutsCalls old new (λ k. k ≡ n) result
    pub open puts use *

  -- A page is written to the eight sectors from n on:
  pub record PutsPage (old new : PlanDisk) (n : ℕ) (page : List ℕ) (result : Result T DiskFault) : Type 0 where
    -- they hold its parts,
    pub written : OnOk result ((i : ℕ) → i < 8 → content_of new (n + i) ≡ part_of page i)
    -- and all others what they held;
    pub others : ChangesPage n (content_of old) (content_of new)
    -- calls write to these alone.
    pub puts : PutsCalls old new (IsOfPage n) result
    pub open puts use *

  -- Zeros are written to the sectors of so many pages from n on:
  pub record PutsZeros (old new : PlanDisk) (n pages : ℕ) (result : Result T DiskFault) : Type 0 where
    -- they hold them,
    pub written : OnOk result ((k : ℕ) → IsOfPages n pages k → content_of new k ≡ replicate sector_bytes 0)
    -- and all others what they held;
    pub others : ChangesPages n pages (content_of old) (content_of new)
    -- calls write to these alone.
    pub puts : PutsCalls old new (IsOfPages n pages) result
    pub open puts use *
