-- RISC-V Privileged Specification, "Virtual Address Translation Process", for any number of levels of
-- 512 entries each (`top` is one less than that number: 2 for Sv39, 3 for Sv48). Where the specification leaves a choice, ours is:
-- user mode, MXR clear; no PMA or PMP check but that tables and pages lie in memory, a page fault too where they don't; A
-- and D are kept by software, so a clear A, and a clear D at a store, is a page fault; A, D and U of a pointer aren't
-- looked at. The specification doesn't part its page faults by reasons: names and order of the reasons are our own.
use Rattle.std.specs.Prelude.{◌≡◌, refl, List, [], ◌∷◌, ℕ, zero, suc, ◌+◌, ◌-◌, ◌*◌, ◌/◌, ◌%◌, ◌^◌, Bool, true, false, ◌&&◌, ◌||◌, not, ◌==◌, nat_lt, nat_le, if◌then◌else◌, Result, Ok, Err}
use Rattle.vm_types.specs.Limits.{table_entries}
use Rattle.vm_types.specs.declared.access.Access.{Access}
use Rattle.vm_types.specs.declared.access.Access.TheVariants.{Load, Store, Fetch}
use Rattle.vm_types.specs.declared.number.Phys.{Phys}
use Rattle.sv39_walk.specs.declared.translation.WalkFault.{WalkFault}
use Rattle.sv39_walk.specs.declared.translation.WalkFault.TheVariants.{NonCanonical, Invalid, Reserved, TooDeep, Outside, Misaligned, Denied, NotAccessed, NotDirty}
use Rattle.frames.specs.FrameTable.{FrameTable, frame_count}
use Rattle.sv39_walk.specs.Entry.{is_valid, is_user, is_accessed, is_dirty, is_reserved, is_leaf, is_pointer, frame_of, grants, entry_at}

-- the number of the page that an address lies in
abbrev pub page_of : ℕ → ℕ
page_of addr = addr / 4096

-- the field VPN[level] of a page's number: its place in the table of that level
unfoldable pub index_of : ℕ → ℕ → ℕ
index_of page level = page / table_entries ^ level % table_entries

-- the bits of an address above its highest field all equal that field's highest bit, so they are all 0 or all 1
unfoldable pub is_canonical : ℕ → ℕ → Bool
is_canonical top addr = let high = addr / 2 ^ (9 * top + 20) in (high == 0) || (high + 1 == 2 ^ (44 - 9 * top))

-- a pointer leads on where the next table lies in memory
abbrev pub leads_on : FrameTable → ℕ → Bool
leads_on t e = is_pointer e && nat_lt (frame_of e) (frame_count t)

-- The entries on the way to a page: the first is that of the root, at the top level, and each that leads on is followed
-- by the entry of the table that it points to, one level lower. This is the last of them, with its level.
unfoldable pub last_of : FrameTable → ℕ → ℕ → ℕ → ℕ × ℕ
last_of t page zero table = (0, entry_at t table (index_of page 0))
last_of t page (suc level) table =
    let e = entry_at t table (index_of page (suc level)) in
    if leads_on t e then last_of t page level (frame_of e) else (suc level, e)

-- the frame of a page in a leaf of that level: the physical page number with its low bits replaced by the page's own
unfoldable pub frame_in : ℕ → ℕ → ℕ → ℕ
frame_in level e page = frame_of e / table_entries ^ level * table_entries ^ level + page % table_entries ^ level

abbrev pub is_store : Access → Bool
is_store Load = false
is_store Store = true
is_store Fetch = false

-- what the last entry says: the first test that holds gives the reason
unfoldable pub answer_of : ℕ → ℕ → Access → ℕ → ℕ → Result Phys WalkFault
answer_of count addr access level e =
    if not (is_valid e) then Err Invalid
    else if is_reserved e then Err Reserved
    else if not (is_leaf e) then Err (if level == 0 then TooDeep else Outside)
    else if not (frame_of e % table_entries ^ level == 0) then Err Misaligned
    else if not (is_user e) || not (grants access e) then Err Denied
    else if not (is_accessed e) then Err NotAccessed
    else if is_store access && not (is_dirty e) then Err NotDirty
    else if nat_le count (frame_in level e (page_of addr)) then Err Outside
    else Ok (record { 0 = frame_in level e (page_of addr) * 4096 + addr % 4096 })

-- where an access goes, by the bytes of all frames; a root outside memory is a reason too (our choice)
unfoldable pub translated : ℕ → FrameTable → ℕ → ℕ → Access → Result Phys WalkFault
translated top t root addr access =
    if not (is_canonical top addr) then Err NonCanonical
    else if nat_le (frame_count t) root then Err Outside
    else let last = last_of t (page_of addr) top root in answer_of (frame_count t) addr access last.0 last.1

-- the fields of the last user page of each mode, from the highest down
abbrev pub fields : ℕ → ℕ → List ℕ
fields page zero = index_of page 0 ∷ []
fields page (suc level) = index_of page (suc level) ∷ fields page level

pub last_of_sv39 : fields (page_of 0x3fffffffff) 2 ≡ 255 ∷ 511 ∷ 511 ∷ []
unfolding index_of
last_of_sv39 = refl

pub last_of_sv48 : fields (page_of 0x7fffffffffff) 3 ≡ 255 ∷ 511 ∷ 511 ∷ 511 ∷ []
unfolding index_of
last_of_sv48 = refl

-- the first address that Sv39 has no place for in its lower half is one of Sv48
pub above_sv39 : is_canonical 2 0x4000000000 ≡ false
unfolding is_canonical
above_sv39 = refl

pub inside_sv48 : is_canonical 3 0x4000000000 ≡ true
unfolding is_canonical
inside_sv48 = refl

pub above_sv48 : is_canonical 3 0x800000000000 ≡ false
unfolding is_canonical
above_sv48 = refl

pub top_of_sv48 : is_canonical 3 0xffff800000000000 ≡ true
unfolding is_canonical
top_of_sv48 = refl
