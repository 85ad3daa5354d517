use Rattle.pool_journal.specs.Giving.{GivesFirst}
use Rattle.pool_journal.proofs.giving.give_all.Given as goal

abbrev pub invariant-loop-j : goal.invariant-loop-j
invariant-loop-j l = GivesFirst l.j l.slots l.homes l.fn.map l.map
