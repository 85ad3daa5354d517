use Rattle.page_tables.proofs.{Names.{sym, ◌∙◌, arith}, Numbers.{valid_is_leaf}}
use Rattle.page_tables.proofs.forms.decode.Goals as goal

pub returns-then-is_valid-clause-form : goal.returns-then-is_valid-clause-form
returns-then-is_valid-clause-form c = valid_is_leaf c.args.number.0 c.requires (sym c.is_valid.ensures ∙ c.if-is_valid.true)

pub returns-in-2-clause-number : goal.returns-in-2-clause-number
returns-in-2-clause-number c = omega arith
