use Rattle.ranges.proofs.Names.{◌^◌, sym, ap}
use Rattle.ranges.proofs.rows.entry_pages.Goals as goal

pub returns-in-3 : goal.returns-in-3
returns-in-3 c = sym (ap (λ n. 512 ^ n) c.in-3.is)
