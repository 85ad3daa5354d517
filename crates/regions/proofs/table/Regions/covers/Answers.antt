use Rattle.{std.proofs.Common.{ℕ, ◌+◌, leb, sym, ◌∙◌, ap}, regions.proofs.SearchLemmas.{is_covered-gap}}
use Rattle.regions.proofs.table.Regions.covers.Goals as goal

pub returns : goal.returns
returns g c = ap (λ (n : ℕ). leb (c.args.first + c.args.pages) n) c.gap_from.ensures.found ∙ sym (is_covered-gap g.M.Levels.mode c.args.self.now c.args.first c.args.pages c.gap_from.ensures.maximal)
