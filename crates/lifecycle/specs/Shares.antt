-- What giving a child its shares leaves.
use Rattle.std.specs.Prelude.{◌≡◌, ◌≢◌, ℕ, ◌+◌, ◌-◌, ◌<◌, ◌≤◌, ◌⊎◌, true, false, Some, ◌&&◌, if◌then◌else◌}
use Rattle.vm_types.specs.Processes.{process_limit}
use Rattle.vm_types.specs.Limits.{top_level}
use Rattle.vm_types.specs.declared.object.PageKey.{PageKey}
use Rattle.frames.specs.FrameTable.{role_of}
use Rattle.sv39_walk.specs.Entry.{is_valid, can_read, can_write, can_execute, frame_of}
use Rattle.page_tables.specs.Tree.{IsPage, Points}
use Rattle.page_tables.specs.Places.{IsTableOf}
use Rattle.swap.specs.Slots.{IsInUse}
use Rattle.residency.specs.Seats.{Seat, seat, is_private, is_swapped}
use Rattle.residency.specs.Picture.{Picture, entry, view, held, count_in, IsOwned}
use Rattle.residency.specs.Steps.{SetsPage}
use Rattle.fault.specs.Changes.{KeepsTables, KeepsRoom}
use Rattle.ranges.specs.Steps.{SameButMemory}

-- An entry that lets no store through: a leaf's number without W, whose weight is 4, and any other number as it is.
abbrev pub without_write : ℕ → ℕ
without_write e = if is_valid e && can_write e then e - 4 else e

-- The entry of a page that was shared with a child: of a page in a frame of the process's own the one without W, and of any other
-- page the one that it had.
abbrev pub lowered_entry : ℕ → ℕ
lowered_entry e = if is_private e then without_write e else e

-- and the child's entry for it: the same one for a copy of the parent's own, and none for any other page
abbrev pub given_entry : ℕ → ℕ
given_entry e = if is_private e then without_write e else (if is_swapped e then e else 0)

-- The second is the first without W, where that is a leaf, and else the same: no other bit changes.
pub record Weakens (e e' : ℕ) : Type 0 where
  pub number : e' ≡ without_write e
  pub valid : is_valid e' ≡ is_valid e
  pub reads : can_read e' ≡ can_read e
  pub executes : can_execute e' ≡ can_execute e
  pub private : is_private e' ≡ is_private e
  pub frame : frame_of e' ≡ frame_of e
  pub unwritten : is_valid e ≡ true → can_write e' ≡ false

-- No leaf of one page of a process lets stores through now, and nothing else changed. No process sees that.
module _ {mode : ℕ} where
  pub record Withdraws (old new : Picture mode) (pid page number : ℕ) : Type 0 where
    pub sets : SetsPage old new pid page number
    pub lowered : number ≡ lowered_entry (entry old pid page)
    pub seated : seat number ≡ seat (entry old pid page)
    pub unwritten : is_valid number ≡ true → can_write number ≡ false
    pub views : (q p : ℕ) → view new q p ≡ view old q p
    pub held : (p : PageKey) → held new p ≡ held old p
    pub room : KeepsRoom old new
    pub tables : KeepsTables old new
    pub roles : (n : ℕ) → role_of new.frames n ≡ role_of old.frames n
    pub counts : (z : Seat) → count_in new z ≡ count_in old z
    pub pointers : (n i m : ℕ) → Points old.frames n i m → Points new.frames n i m

-- no leaf lets a store through to a seat
module _ {mode : ℕ} where
  abbrev pub IsUnwritten : Picture mode → Seat → Type 0
  IsUnwritten c y = (q p : ℕ) → IsPage (top_level mode) p → seat (entry c q p) ≡ Some y → is_valid (entry c q p) ≡ true → can_write (entry c q p) ≡ false

-- One more may share a seat: it is that of own copies, fewer than 64 share it, and no leaf lets a store through to it.
module _ {mode : ℕ} where
  pub record MayShare (c : Picture mode) (y : Seat) : Type 0 where
    pub owned : IsOwned c y
    pub few : count_in c y < process_limit
    pub unwritten : IsUnwritten c y

-- one more shares a seat, and no entry, table, view or byte is another one
module _ {mode : ℕ} where
  pub record RaisesSeat (old new : Picture mode) (y : Seat) : Type 0 where
    pub beside : SameButMemory old new
    pub room : KeepsRoom old new
    pub roles : (n : ℕ) → role_of new.frames n ≡ role_of old.frames n
    pub entries : (q p : ℕ) → entry new q p ≡ entry old q p
    pub views : (q p : ℕ) → view new q p ≡ view old q p
    pub held : (p : PageKey) → held new p ≡ held old p
    pub tables : KeepsTables old new
    pub rows : (q r row n : ℕ) → old.root q ≡ Some r → IsTableOf old.frames (top_level mode) r row n → IsTableOf new.frames (top_level mode) r row n
    pub raised : count_in new y ≡ count_in old y + 1
    pub others : (z : Seat) → z ≢ y → count_in new z ≡ count_in old z
    pub pointers : (n i m : ℕ) → Points old.frames n i m → Points new.frames n i m
    pub bytes : (k : ℕ) → IsInUse old.slots k → new.slots.bytes k ≡ old.slots.bytes k

-- Of the pages from low up to, not including, high, the child has a share of each own copy of the parent: its views are the
-- parent's, its entries are given from the parent's, which have no W where they name a frame, and of each seat there the count
-- is one more. All other entries, views and counts are as they were, and every role, table and file page.
module _ {mode : ℕ} where
  pub record SharesRow (old new : Picture mode) (parent child low high : ℕ) : Type 0 where
    pub beside : SameButMemory old new
    pub room : KeepsRoom old new
    pub roles : (n : ℕ) → role_of new.frames n ≡ role_of old.frames n
    pub lowered : (p : ℕ) → IsPage (top_level mode) p → low ≤ p → p < high → entry new parent p ≡ lowered_entry (entry old parent p)
    pub given : (p : ℕ) → IsPage (top_level mode) p → low ≤ p → p < high → entry new child p ≡ given_entry (entry old parent p)
    pub others : (q p : ℕ) → IsPage (top_level mode) p → ((q ≢ parent) × (q ≢ child)) ⊎ ((p < low) ⊎ (high ≤ p)) → entry new q p ≡ entry old q p
    pub shown : (p : ℕ) → IsPage (top_level mode) p → low ≤ p → p < high → view new child p ≡ view old parent p
    pub views : (q p : ℕ) → (q ≢ child) ⊎ ((p < low) ⊎ (high ≤ p)) → view new q p ≡ view old q p
    pub held : (p : PageKey) → held new p ≡ held old p
    pub tables : KeepsTables old new
    pub raised : (y : Seat) (p : ℕ) → IsPage (top_level mode) p → low ≤ p → p < high → seat (entry old parent p) ≡ Some y → count_in new y ≡ count_in old y + 1
    pub kept : (y : Seat) → ((p : ℕ) → IsPage (top_level mode) p → low ≤ p → p < high → seat (entry old parent p) ≢ Some y) → count_in new y ≡ count_in old y
    pub no_fewer : (y : Seat) → count_in old y ≤ count_in new y
    pub pointers : (n i m : ℕ) → Points old.frames n i m → Points new.frames n i m
    pub bytes : (k : ℕ) → IsInUse old.slots k → new.slots.bytes k ≡ old.slots.bytes k

-- the entries of the 512 pages of that row of a process stand in table n
module _ {mode : ℕ} where
  abbrev pub IsTableFor : Picture mode → ℕ → ℕ → ℕ → Type 0
  IsTableFor c pid row n = (r : ℕ) → c.root pid ≡ Some r → IsTableOf c.frames (top_level mode) r row n
