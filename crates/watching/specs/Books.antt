-- How the books of frames balance.
use Rattle.std.specs.Prelude.{◌≡◌, ℕ, ◌+◌, ◌-◌, ◌<◌, ◌≤◌, ◌^◌}
use Rattle.watching.specs.declared.events.Event.{Event}
use Rattle.watching.specs.declared.events.Event.TheVariants.{Evicted, Released, Filled, Shared, TableMade, TableFreed, EntrySet}
use Rattle.watching.specs.declared.events.Refuge.{Refuge}
use Rattle.watching.specs.declared.events.Refuge.TheVariants as To
use Rattle.watching.specs.declared.events.Source.{Source}
use Rattle.watching.specs.declared.events.Source.TheVariants as From
use Rattle.watching.specs.declared.counts.Count.{Count}
use Rattle.watching.specs.declared.counts.FrameCounts.{FrameCounts}

-- Every frame that was filled was filled in one of four ways, and every one that was given up lost its page in one of two.
pub record IsBalanced (c : FrameCounts) : Type 0 where
  pub fills : c.filled.0 ≡ c.from_image.0 + c.from_slot.0 + c.zero_fills.0 + c.copies.0
  pub losses : c.evictions.0 ≡ c.to_slot.0 + c.dropped.0

-- No number of frames has come to its end: those that are sums of others, and those that calls gave back.
pub record HasCountRoom (c : FrameCounts) : Type 0 where
  pub fills : c.filled.0 < 2 ^ 64 - 1
  pub losses : c.evictions.0 < 2 ^ 64 - 1
  pub releases : c.released.0 < 2 ^ 64 - 1

-- how many frames are filled by what happened
abbrev pub fills : Event → ℕ
fills (Filled frame content source) = 1
fills (Evicted frame content refuge) = 0
fills (Released frame content) = 0
fills (Shared frame content now before) = 0
fills (TableMade frame place top) = 0
fills (TableFreed frame) = 0
fills (EntrySet pid page now before) = 0

-- how many frames are given up by it
abbrev pub losses : Event → ℕ
losses (Evicted frame content refuge) = 1
losses (Released frame content) = 0
losses (Filled frame content source) = 0
losses (Shared frame content now before) = 0
losses (TableMade frame place top) = 0
losses (TableFreed frame) = 0
losses (EntrySet pid page now before) = 0

-- how many frames calls give back by it
abbrev pub releases : Event → ℕ
releases (Released frame content) = 1
releases (Evicted frame content refuge) = 0
releases (Filled frame content source) = 0
releases (Shared frame content now before) = 0
releases (TableMade frame place top) = 0
releases (TableFreed frame) = 0
releases (EntrySet pid page now before) = 0

-- A frame that was filled from there is counted under that source.
abbrev pub IsFilledFrom : Source → FrameCounts → FrameCounts → Type 0
IsFilledFrom From.Zeros old new = new.zero_fills.0 ≡ old.zero_fills.0 + 1
IsFilledFrom (From.Frame frame) old new = new.copies.0 ≡ old.copies.0 + 1
IsFilledFrom (From.Slot slot) old new = new.from_slot.0 ≡ old.from_slot.0 + 1
IsFilledFrom From.Image old new = new.from_image.0 ≡ old.from_image.0 + 1

-- A page that went there is counted under that refuge.
abbrev pub IsLostTo : Refuge → FrameCounts → FrameCounts → Type 0
IsLostTo (To.Slot slot) old new = new.to_slot.0 ≡ old.to_slot.0 + 1
IsLostTo To.Home old new = new.dropped.0 ≡ old.dropped.0 + 1

-- What happened is counted once: as a frame that was filled, as one that was given up, as one that was given back, or as none of these.
pub record IsTallied (event : Event) (old new : FrameCounts) : Type 0 where
  pub filled : new.filled.0 ≡ old.filled.0 + fills event
  pub evictions : new.evictions.0 ≡ old.evictions.0 + losses event
  pub released : new.released.0 ≡ old.released.0 + releases event

-- It is counted under the cause that it names too.
abbrev pub IsOfCause : Event → FrameCounts → FrameCounts → Type 0
IsOfCause (Filled frame content source) old new = IsFilledFrom source old new
IsOfCause (Evicted frame content refuge) old new = IsLostTo refuge old new
IsOfCause (Released frame content) old new = Unit {0}
IsOfCause (Shared frame content now before) old new = Unit {0}
IsOfCause (TableMade frame place top) old new = Unit {0}
IsOfCause (TableFreed frame) old new = Unit {0}
IsOfCause (EntrySet pid page now before) old new = Unit {0}

-- a number went up by one, if it has not come to its end
abbrev pub IsOneMore : Count → Count → Type 0
IsOneMore old new = old.0 < 2 ^ 64 - 1 → new.0 ≡ old.0 + 1

-- The books of frames were kept on:
pub record KeepsBooks (old new : FrameCounts) : Type 0 where
  -- no number fell,
  pub filled : old.filled.0 ≤ new.filled.0
  pub evictions : old.evictions.0 ≤ new.evictions.0
  pub released : old.released.0 ≤ new.released.0
  -- and if they were balanced they are, as long as no number has come to its end.
  pub balance : HasCountRoom new → IsBalanced old → IsBalanced new

-- no frame was filled from a device
pub record ReadsNothing (old new : FrameCounts) : Type 0 where
  pub image : new.from_image ≡ old.from_image
  pub slot : new.from_slot ≡ old.from_slot
