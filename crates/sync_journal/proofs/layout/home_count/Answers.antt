use Rattle.std.proofs.Common.{ap, ◌∙◌, ◌/◌, min}
use Rattle.sync_journal.proofs.layout.home_count.Goals as goal

pub returns : goal.returns
returns c = c.min.ensures ∙ ap (λ n. min (n / 8) 1073741824) c.saturating_sub.ensures
