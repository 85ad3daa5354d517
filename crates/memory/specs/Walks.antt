-- What the walk to a page comes to.
use Rattle.std.specs.Prelude.{ℕ, ◌≡◌, ◌≢◌, ◌/◌, Ok, IsErr, MatchOption}
use Rattle.vm_types.specs.Limits.{top_level, table_entries}
use Rattle.vm_types.specs.declared.access.Access.{Access}
use Rattle.frames.specs.FrameTable.{FrameTable}
use Rattle.sv39_walk.specs.Walk.{page_of, translated}
use Rattle.page_tables.specs.Tree.{missing_of}
use Rattle.page_tables.specs.Places.{IsTableOf}
use Rattle.memory.specs.Lines.{address_in}
use Rattle.memory.specs.declared.walking.WalkEnd.{WalkEnd}
use Rattle.memory.specs.declared.walking.WalkEnd.TheVariants.{Frame, Fault}

-- The access to each address of the page goes to that frame. Or none goes anywhere, and that is the lowest table on the page's way, or none is
-- there.
abbrev pub IsWalkTo : ℕ → FrameTable → ℕ → ℕ → Access → WalkEnd → Type 0
IsWalkTo mode t root page access (Frame n) = (addr : ℕ) → page_of addr ≡ page → translated (top_level mode) t root addr access ≡ Ok (address_in n.0 addr)
IsWalkTo mode t root page access (Fault table) = ((addr : ℕ) → page_of addr ≡ page → IsErr (translated (top_level mode) t root addr access))
    × MatchOption table (missing_of t (top_level mode) root page ≢ 0) (λ n. IsTableOf t (top_level mode) root (page / table_entries) n.0)
