-- A buffer of translations: for the root of a tree and a page the leaf that a walk found there. Number and places of its
-- lines are our own.
use Rattle.std.specs.Prelude.{ℕ, ◌+◌, ◌-◌, ◌*◌, ◌%◌, ◌^◌, min, ◌≡◌, ◌<◌, Bool, true, ◌&&◌, ◌||◌, not, ◌==◌, if◌then◌else◌, Option, Some, None, Ok, slice_index_or}
use Rattle.vm_types.specs.Limits.{top_level, user_end}
use Rattle.vm_types.specs.declared.access.Access.{Access}
use Rattle.vm_types.specs.declared.number.Phys.{Phys}
use Rattle.frames.specs.FrameTable.{FrameTable, frame_count}
use Rattle.sv39_walk.specs.Entry.{is_valid, is_user, is_accessed, is_dirty, is_reserved, is_leaf, frame_of, grants}
use Rattle.sv39_walk.specs.Walk.{is_store, last_of, page_of, translated}
use Rattle.memory.specs.declared.buffer.TranslationBuffer.{TranslationBuffer}
use Rattle.memory.specs.declared.line.Line.{Line}

-- the place of a page's line
abbrev pub line_place : ℕ → ℕ
line_place page = page % 64

-- the leaf that a line has for a page of a tree
abbrev pub leaf_for : Option Line → ℕ → ℕ → Option ℕ
leaf_for None root page = None
leaf_for (Some line) root page = if (line.root.0 == root) && (line.page == page) then Some line.leaf.0 else None

-- the leaf that is kept for a page of a tree
abbrev pub line_at : TranslationBuffer → ℕ → ℕ → Option ℕ
line_at b root page = leaf_for (slice_index_or b.lines (line_place page) None) root page

-- hits are the looks that found a line, and stay at the greatest value of a number of 64 bits
abbrev pub AreHits : ℕ → TranslationBuffer → Type 0
AreHits hits b = hits ≡ min b.found.number (2 ^ 64 - 1)

-- the leaf ends the walk to the page, at the lowest level, and names a frame of memory
pub record IsLine (mode : ℕ) (t : FrameTable) (root page leaf : ℕ) : Type 0 where
  pub inside : root < frame_count t
  pub last : last_of t page (top_level mode) root ≡ (0, leaf)
  pub target : frame_of leaf < frame_count t

-- each line is the leaf of its page in that memory
abbrev pub IsCoherent : ℕ → FrameTable → TranslationBuffer → Type 0
IsCoherent mode t b = (root page leaf : ℕ) → line_at b root page ≡ Some leaf → IsLine mode t root page leaf

-- whether a leaf lets an access in user mode go through
abbrev pub leaf_lets : Access → ℕ → Bool
leaf_lets access e =
    is_valid e && (not (is_reserved e) && (is_leaf e && (is_user e && (grants access e && (is_accessed e && (not (is_store access) || is_dirty e))))))

-- a line of the page lets the access go through, into that frame
abbrev pub Gives : TranslationBuffer → ℕ → ℕ → Access → ℕ → Type 0
Gives b root page access frame = (leaf : ℕ) × (line_at b root page ≡ Some leaf) × (leaf_lets access leaf ≡ true) × (frame ≡ frame_of leaf)

-- the address in that frame
abbrev pub address_in : ℕ → ℕ → Phys
address_in frame addr = record { 0 = frame * 4096 + addr % 4096 }

-- in each mode, in each memory in which the lines are leaves of their pages, the walk to an address of the page ends in that frame
abbrev pub Agrees : TranslationBuffer → ℕ → ℕ → Access → ℕ → Type 0
Agrees b root page access frame =
    (mode : ℕ) (t : FrameTable) (addr : ℕ) → IsCoherent mode t b → page_of addr ≡ page → page < user_end mode
    → translated (top_level mode) t root addr access ≡ Ok (address_in frame addr)
