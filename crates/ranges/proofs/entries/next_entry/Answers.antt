use Rattle.ranges.proofs.Names.{top_level, sym, ◌∙◌, entry_in_row}
use Rattle.ranges.proofs.entries.next_entry.Goals as goal

pub returns-clause-passed : goal.returns-clause-passed
returns-clause-passed g c root p row least below = entry_in_row c.args.memory.now (top_level g.M.Levels.mode) root p c.args.table.0 row ∙ c.next_set.ensures.passed p least below

pub returns-clause-found : goal.returns-clause-found
returns-clause-found g c root row below none =
    c.next_set.ensures.found below (sym (entry_in_row c.args.memory.now (top_level g.M.Levels.mode) root c.next_set.result c.args.table.0 row) ∙ none)
