use Rattle.page_tables.proofs.{Names.{sym, ap, ◌∙◌, entry_at}, Places.{entry_in_row}}
use Rattle.page_tables.proofs.tables.number_in.Goals as goal

pub returns : goal.returns
returns c top root page row is = c.read_entry.ensures ∙ sym (entry_in_row c.args.frames.now top root page c.args.table.0 row ∙ ap (entry_at c.args.frames.now c.args.table.0) is)
