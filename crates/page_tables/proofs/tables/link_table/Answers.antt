use Rattle.page_tables.{proofs.{Linking.{links}, Names.{top_level, ap, ◌∙◌, index_of}}, specs.{Change.{ChangesEntry}, Tree.{last_table}}}
use Rattle.page_tables.proofs.tables.link_table.Goals as goal

pub returns-clause-links : goal.returns-clause-links
returns-clause-links g c =
    let t = c.args.frames.now in
    let l = last_table t c.args.page (top_level g.M.Levels.mode) c.args.root.0 in
    let way = c.end_of_way-level.ensures in
    let index = c.table_index.ensures.index ∙ ap (λ p. index_of p c.end_of_way-level.result.0) c.get.ensures.number ∙ ap (index_of c.args.page) way.level in
    let change : ChangesEntry t c.write_entry.new.frames l.1 (index_of c.args.page l.0) c.pointer.result.0 =
    rw (← index, ← way.table) c.write_entry.ensures.change in
    links t c.write_entry.new.frames (top_level g.M.Levels.mode) c.args.root.0 c.args.page c.args.table.0 c.pointer.result.0 c.requires.forest c.requires.root c.requires.missing
    c.requires.spare c.requires.other c.pointer.ensures.pointer c.pointer.ensures.target change
