use Rattle.inspection.proofs.{Names.{◌≡◌, sym, ◌∙◌, arith, Table, Zero, picture_of}, Trees.{no_table}}
use Rattle.inspection.proofs.tables.place_of_table.Goals as goal

pub returns-clause-none : goal.returns-clause-none
returns-clause-none g c =
    no_table (picture_of c.args.core.now) c.args.n.0 c.requires.fit.rooted (λ e. (let bad : Zero ≡ Table = sym c.args.core.now.sound.zero_role ∙ e in (cc)))
    (λ p least below. c.loop-number.invariant p least (omega (arith, below, c.loop-number-test.false)))
