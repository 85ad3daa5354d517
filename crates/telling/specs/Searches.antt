-- How a search of the pages of all processes goes on.
use Rattle.std.specs.Prelude.{ℕ, ◌+◌, Bool, false, Option, None, Some}
use Rattle.residency.specs.Picture.{Picture}
use Rattle.inspection.specs.declared.frame_views.Holding.{Holding}
use Rattle.inspection.specs.declared.frame_views.Holding.TheVariants.{Page}
use Rattle.inspection.specs.declared.frame_views.Mapper.{Mapper}

-- the process of the page behind which it goes on, and the next page; the first ones of all at first
abbrev pub pid_behind : Option Mapper → ℕ
pid_behind None = 1
pid_behind (Some last) = last.pid

abbrev pub page_behind : Option Mapper → ℕ
page_behind None = 0
page_behind (Some last) = last.page + 1

-- whether what a frame holds was stored to and is not durable yet
module _ {mode : ℕ} where
  abbrev pub holds_touched : Picture mode → Holding → Bool
  holds_touched c (Page p) = c.touched p
  holds_touched c other = false
