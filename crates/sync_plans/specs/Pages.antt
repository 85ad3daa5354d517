-- The pages that a caller lends.
use Rattle.std.specs.Prelude.{ℕ, List, [], Option, Some, None, slice_get}
use Rattle.sync_plans.specs.declared.lent_pages.PageBytes.{PageBytes}

abbrev pub bytes_or_none : Option PageBytes → List ℕ
bytes_or_none None = []
bytes_or_none (Some p) = p.at.now

-- the bytes of page i of the list
abbrev pub lent_page : List PageBytes → ℕ → List ℕ
lent_page list i = bytes_or_none (slice_get list i)
