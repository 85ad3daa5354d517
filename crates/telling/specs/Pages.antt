-- What is counted of a page by its entry.
use Rattle.std.specs.Prelude.{ℕ, Bool, not, ◌&&◌, ◌==◌, Option, None, Some}
use Rattle.sv39_walk.specs.Entry.{frame_of, is_swapped}
use Rattle.inspection.specs.declared.frame_views.FrameView.{FrameView}

-- whether an entry names frame 0, which holds zeros
abbrev pub is_over_zeros : ℕ → Bool
is_over_zeros e = not (e == 0) && not (is_swapped e) && (frame_of e == 0)

-- how many share the frame that an entry names
abbrev pub shares_in : Option FrameView → ℕ
shares_in None = 0
shares_in (Some view) = view.shares
