use Rattle.page_tables.proofs.{Bits.{leaf_over, parked_over}, Names.{◌<◌, ◌^◌, ◌∙◌, sym, arith}}
use Rattle.page_tables.proofs.leaves.entry_over.Goals as goal

pub returns-then-is_barred-clause-over : goal.returns-then-is_barred-clause-over
returns-then-is_barred-clause-over c =
    let small : c.args.grant.frame.0 < 2 ^ 32 = omega arith in
    parked_over c.args.prot c.args.grant.frame.0 c.args.grant.private c.args.grant.write c.args.grant.dirty small (sym c.is_barred.ensures ∙ c.if-is_barred.true)

pub returns-clause-over : goal.returns-clause-over
returns-clause-over c =
    let small : c.args.grant.frame.0 < 2 ^ 32 = omega arith in
    leaf_over c.args.prot c.args.grant.frame.0 c.args.grant.private c.args.grant.write c.args.grant.dirty c.leaf.result.0 c.leaf.ensures.number small
    (λ write. c.requires.readable (c.requires.writable write)) (sym c.is_barred.ensures ∙ c.if-is_barred.false)

pub returns-clause-form : goal.returns-clause-form
returns-clause-form c = let leaf = (returns-clause-over c).leaf (sym c.is_barred.ensures ∙ c.if-is_barred.false) in (leaf.valid, leaf.leaf)
