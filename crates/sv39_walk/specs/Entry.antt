-- An entry of a page table as a number. RISC-V Privileged Specification, "Sv39 page table entry".
use Rattle.std.specs.Prelude.{ℕ, ◌+◌, ◌*◌, ◌/◌, ◌%◌, ◌^◌, Bool, ◌&&◌, ◌||◌, not, ◌==◌, drop}
use Rattle.vm_types.specs.declared.access.Access.{Access}
use Rattle.vm_types.specs.declared.access.Access.TheVariants.{Load, Store, Fetch}
use Rattle.byteorder.specs.Endian.{little_number}
use Rattle.frames.specs.FrameTable.{FrameTable, bytes_of}

-- bit k of the entry
unfoldable pub has_bit : ℕ → ℕ → Bool
has_bit e k = e / 2 ^ k % 2 == 1

-- V
abbrev pub is_valid : ℕ → Bool
is_valid e = has_bit e 0

-- R, W and X
abbrev pub can_read : ℕ → Bool
can_read e = has_bit e 1

abbrev pub can_write : ℕ → Bool
can_write e = has_bit e 2

abbrev pub can_execute : ℕ → Bool
can_execute e = has_bit e 3

-- U
abbrev pub is_user : ℕ → Bool
is_user e = has_bit e 4

-- A and D
abbrev pub is_accessed : ℕ → Bool
is_accessed e = has_bit e 6

abbrev pub is_dirty : ℕ → Bool
is_dirty e = has_bit e 7

-- bit 8, which is left to software (RSW): the frame that the entry names is the process's own
abbrev pub is_private : ℕ → Bool
is_private e = has_bit e 8

-- an entry of a page that lies in a slot of the swap device: V is clear, so that all other bits are left to software, and bit 1 set
abbrev pub is_swapped : ℕ → Bool
is_swapped e = not (is_valid e) && has_bit e 1

-- PPN, bits 10 to 53
unfoldable pub frame_of : ℕ → ℕ
frame_of e = e / 2 ^ 10 % 2 ^ 44

-- bits 54 to 63
unfoldable pub high_bits : ℕ → ℕ
high_bits e = e / 2 ^ 54

-- Forms of a valid entry that are reserved. Bits 54 to 63 are those of Svpbmt and Svnapot and of later use: with
-- neither extension they must be zero, and we take an entry with one of them set as reserved.
abbrev pub is_reserved : ℕ → Bool
is_reserved e = (can_write e && not (can_read e)) || not (high_bits e == 0)

-- step 4 of the walk: a valid entry with R or X is a leaf
abbrev pub is_leaf : ℕ → Bool
is_leaf e = can_read e || can_execute e

-- and otherwise it points to the next table
abbrev pub is_pointer : ℕ → Bool
is_pointer e = is_valid e && not (is_reserved e) && not (is_leaf e)

-- the pointer to a table: its frame, and V
abbrev pub pointer_to : ℕ → ℕ
pointer_to n = n * 1024 + 1

-- what the access needs of a leaf
abbrev pub grants : Access → ℕ → Bool
grants Load e = can_read e
grants Store e = can_write e
grants Fetch e = can_execute e

-- entry i of the table in frame n: eight bytes, the lowest first (our choice: little-endian memory)
unfoldable pub entry_at : FrameTable → ℕ → ℕ → ℕ
entry_at t n i = little_number 8 (drop (8 * i) (bytes_of t n))
