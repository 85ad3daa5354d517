use Rattle.ranges.proofs.{Joined.{four}, Names.{entry_at}}
use Rattle.ranges.proofs.entries.four_at.Goals as goal

pub returns : goal.returns
returns g c none = four (entry_at c.args.memory.now c.args.table.0) c.args.index
    (rw (← c.number_at.ensures, ← c.number_at-2.ensures, ← c.number_at-3.ensures, ← c.number_at-4.ensures) none)
