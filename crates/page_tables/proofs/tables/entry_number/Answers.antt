use Rattle.page_tables.proofs.{Ends.{entry_missing, entry_there}, Names.{sym, ap, ◌∙◌, entry_at, index_of}}
use Rattle.page_tables.proofs.tables.entry_number.Goals as goal

pub returns-then-level-gt0 : goal.returns-then-level-gt0
returns-then-level-gt0 g c = c.from_u64.ensures ∙ sym (entry_missing _ _ _ _ _ _ _ c.end_of_way-level.ensures c.if-level-gt0.true)

pub returns : goal.returns
returns g c =
    c.read_entry.ensures ∙ ap (entry_at c.args.frames.now c.end_of_way-level.result.1.0) (c.table_index.ensures.index ∙ ap (λ p. index_of p 0) c.get.ensures.number)
    ∙ sym (entry_there _ _ _ _ _ _ _ c.end_of_way-level.ensures c.if-level-gt0.false)
