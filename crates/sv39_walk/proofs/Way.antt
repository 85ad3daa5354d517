-- One step on the way to a page.
use Rattle.{std.proofs.Common.{◌≡◌, ℕ, zero, suc, ◌-◌, ◌<◌, true, false, refl, arith}, frames.specs.FrameTable.{FrameTable}, sv39_walk.specs.{Entry.{entry_at, frame_of}, Walk.{last_of, leads_on, index_of}}}

-- at the lowest level
pub last_of-zero : (t : FrameTable) (page table : ℕ) → last_of t page 0 table ≡ (0, entry_at t table (index_of page 0))
unfolding last_of
last_of-zero t page table = refl

-- an entry that doesn't lead on is the last
pub last_of-stop : (t : FrameTable) (page level table : ℕ) → 0 < level → leads_on t (entry_at t table (index_of page level)) ≡ false
    → last_of t page level table ≡ (level, entry_at t table (index_of page level))
unfolding last_of
last_of-stop t page zero table above e = absurd (omega arith)
last_of-stop t page (suc level) table above e = rw e

-- an entry that leads on is followed by one a level lower
pub last_of-next : (t : FrameTable) (page level table : ℕ) → 0 < level → leads_on t (entry_at t table (index_of page level)) ≡ true
    → last_of t page level table ≡ last_of t page (level - 1) (frame_of (entry_at t table (index_of page level)))
unfolding last_of
last_of-next t page zero table above e = absurd (omega arith)
last_of-next t page (suc level) table above e = let less : suc level - 1 ≡ level = omega arith in rw (e, less)
