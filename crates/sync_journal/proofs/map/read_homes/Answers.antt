use Rattle.sync_journal.proofs.{Maps.{bad_numbers}, Names.{length, get_or, ◌++◌, sym, ap, ◌∙◌, ◌≡◌, arith, length-take, take_at, get_or-take, post_of}}
use Rattle.sync_journal.proofs.map.read_homes.Goals as goal

pub returns-else-are_homes : goal.returns-else-are_homes
returns-else-are_homes c =
    let long : length c.read_numbers.new.homes ≡ c.read_u32-count.result = omega (arith, c.read_numbers.auto.homes, c.if-count-homes.false, length-take c.read_u32-count.result c.args.homes.now) in
    let whole = take_at c.read_numbers.new.homes (post_of 0 c.read_u32-count.result c.args.homes.now) c.read_u32-count.result long in
    bad_numbers (length c.args.homes.now) c.args.limit c.read_u32-count.result c.args.map.now _ c.read_u32-count.ensures (ap length whole ∙ long)
    (λ j below. ap (λ list. get_or list j 0) whole ∙ c.read_numbers.ensures j (omega arith)) c.if-are_homes.ensures.bad

pub returns-then-are_homes : goal.returns-then-are_homes
returns-then-are_homes c =
    let long : length c.read_numbers.new.homes ≡ c.read_u32-count.result = omega (arith, c.read_numbers.auto.homes, c.if-count-homes.false, length-take c.read_u32-count.result c.args.homes.now) in
    let whole = take_at c.read_numbers.new.homes (post_of 0 c.read_u32-count.result c.args.homes.now) c.read_u32-count.result long in
    let all = c.read_numbers.new.homes ++ post_of 0 c.read_u32-count.result c.args.homes.now in (
      c.read_u32-count.ensures,
      c.if-count-homes.false,
      λ j below. sym (get_or-take c.read_u32-count.result all j 0 below) ∙ ap (λ list. get_or list j 0) whole ∙ c.read_numbers.ensures j (omega arith),
      c.if-are_homes.ensures.good (length c.args.homes.now) (omega (arith, ap length whole, long, c.if-count-homes.false)),
    )
