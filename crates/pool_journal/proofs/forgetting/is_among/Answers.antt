use Rattle.std.proofs.Common.{◌∙◌}
use Rattle.pool_journal.proofs.{Marks.{exact}, Taken.{ranked}}
use Rattle.pool_journal.proofs.forgetting.is_among.Goals as goal

pub returns-then-homes-lt-MARKS : goal.returns-then-homes-lt-MARKS
returns-then-homes-lt-MARKS c =
    let between = c.is_between.ensures.inside c.if-not-is_between.false in
    c.has.ensures ∙ exact c.args.homes.now c.args.sieve.now c.args.home c.requires.rising c.requires.sieve between.1 between.2 c.if-homes-lt-MARKS.true

pub returns-else-homes-lt-MARKS : goal.returns-else-homes-lt-MARKS
returns-else-homes-lt-MARKS c = c.is_ok.ensures.value ∙ ranked c.args.homes.now c.args.home c.binary_search.result c.requires.rising c.binary_search.ensures.position
