-- Which pages name a frame, as it is noted.
use Rattle.std.specs.Prelude.{ℕ, ◌≡◌, ◌≢◌, ◌<◌, ◌⊎◌, ◌/◌, ◌%◌, true, false, length, slice_index_or}
use Rattle.std.specs.Int.{bit_at}
use Rattle.vm_types.specs.Limits.{top_level, user_end, table_entries}
use Rattle.frames.specs.FrameTable.{FrameTable, frame_count}
use Rattle.sv39_walk.specs.Entry.{frame_of, entry_at, is_private, is_swapped}
use Rattle.sv39_walk.specs.Walk.{index_of}
use Rattle.page_tables.specs.Tree.{IsTable, IsUnlinked, IsRoot, Way}
use Rattle.page_tables.specs.Places.{IsTableOf}
use Rattle.memory.specs.declared.notes.Note.{Note}
use Rattle.memory.specs.declared.notes.Notes.{Notes}

-- From the root, to which nothing points, the whole way to the page leads to that number, which isn't 0.
pub record IsNumberOf (mode : ℕ) (t : FrameTable) (root page number : ℕ) : Type 0 where
  pub lowest : ℕ
  pub inside : page < user_end mode
  pub unlinked : IsUnlinked t root
  pub way : Way t (top_level mode) root page (top_level mode) lowest
  pub table : IsTable t lowest
  pub here : entry_at t lowest (index_of page 0) ≡ number
  pub some : number ≢ 0

-- The page of that root's tree names frame n, not as its process's own: its entry is there, and isn't that of a page in a slot.
pub record NamesFrame (mode : ℕ) (t : FrameTable) (root page n : ℕ) : Type 0 where
  pub number : ℕ
  pub is : IsNumberOf mode t root page number
  pub framed : is_swapped number ≡ false
  pub common : is_private number ≡ false
  pub frame : frame_of number ≡ n

-- To put that number at a place of a lowest table brings no page to name a frame anew: it names none, or is a process's own, or names the
-- frame that the page there names already.
abbrev pub NamesNoMore : ℕ → FrameTable → ℕ → ℕ → ℕ → Type 0
NamesNoMore mode t table index number = number ≢ 0 → is_swapped number ≡ false → is_private number ≡ false
    → (root page : ℕ) → IsRoot (top_level mode) t root → page < user_end mode → IsTableOf t (top_level mode) root (page / table_entries) table → page % table_entries ≡ index
    → NamesFrame mode t root page (frame_of number)

-- roots whose numbers are equal modulo 64 are of one kind
abbrev pub HasKind : ℕ → ℕ → Type 0
HasKind kinds root = bit_at kinds (root % 64) ≡ 1

-- a note speaks of the pages of roots of its kinds, and of its page alone, where it has one
pub record Covers (note : Note) (root page : ℕ) : Type 0 where
  pub kind : HasKind note.kinds root
  pub page_is : (note.page ≡ 0) ⊎ (note.page ≡ page)

abbrev pub no_note : Note
no_note = record { kinds = 0; page = 0 }

-- there is a note for each frame, and, as long as they are whole, it covers each page that names the frame
pub record AreNoted (mode : ℕ) (t : FrameTable) (notes : Notes) : Type 0 where
  pub count : length notes.each.items ≡ frame_count t
  pub covers : notes.whole ≡ true → (root page n : ℕ) → NamesFrame mode t root page n → n < frame_count t → Covers (slice_index_or notes.each.items n no_note) root page
