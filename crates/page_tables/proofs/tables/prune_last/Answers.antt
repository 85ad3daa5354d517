use Rattle.page_tables.proofs.Names.{top_level, ◌≡◌, ℕ, ◌+◌, ◌<◌, sym, ap, ◌∙◌, subst, arith, rules, index_of}
use Rattle.page_tables.{specs.{Tree.{Points, last_table, missing_of}, Change.{Prunes}}, proofs.{Linking.{pair}, Pruning.{empty_apart, otherwise, prunes, missing_up}, tables.prune_last.Given.{Over}}}
use Rattle.page_tables.proofs.tables.prune_last.Goals as goal

pub returns-then-table-root-clause-done : goal.returns-then-table-root-clause-done
returns-then-table-root-clause-done g c = search rules

pub returns-then-table-root-clause-in_levels : goal.returns-then-table-root-clause-in_levels
returns-then-table-root-clause-in_levels g c = omega (arith, c.end_of_way-level.ensures.missing, c.end_of_way-level.ensures.in_levels)

pub returns-then-not-is_empty-clause-in_levels : goal.returns-then-not-is_empty-clause-in_levels
returns-then-not-is_empty-clause-in_levels g c = omega (arith, c.end_of_way-level.ensures.missing, c.end_of_way-level.ensures.in_levels)

pub unlink-requires-clause-apart : goal.unlink-requires-clause-apart
unlink-requires-clause-apart g c = let on = (otherwise c.end_of_way-level.ensures.parent c.if-table-root.false).1 in empty_apart c.args.frames.now _ _ _ on (c.is_empty.ensures.0 c.if-not-is_empty.false)

abbrev Removed : (g : Over) → goal.After-unlink g → Type 0
Removed g c = Prunes c.args.frames.now c.unlink.new.frames (top_level g.M.Levels.mode) c.args.root.0 c.args.page
    × (missing_of c.unlink.new.frames (top_level g.M.Levels.mode) c.args.root.0 c.args.page ≡ missing_of c.args.frames.now (top_level g.M.Levels.mode) c.args.root.0 c.args.page + 1)
    × (missing_of c.args.frames.now (top_level g.M.Levels.mode) c.args.root.0 c.args.page < top_level g.M.Levels.mode)

removed : (g : Over) (c : goal.After-unlink g) → Removed g c
removed g c =
    let t = c.args.frames.now in
    let r = c.args.root.0 in
    let way = c.end_of_way-level.ensures in
    let l = last_table t c.args.page (top_level g.M.Levels.mode) r in
    let last = pair l.0 l.1 c.end_of_way-level.result.0 c.end_of_way-level.result.1.0 (sym way.level) (sym way.table) in
    let parent = otherwise way.parent c.if-table-root.false in
    let P : ℕ → Type 0 = λ j. Points t c.end_of_way-level.result.2.0 j c.end_of_way-level.result.1.0 in
    let on = subst P (sym (c.table_index.ensures.index ∙ ap (λ p. index_of p (c.end_of_way-level.result.0 + 1)) c.get.ensures.number)) parent.1 in
    let empty = c.is_empty.ensures.0 c.if-not-is_empty.false in
    let u = c.unlink.ensures in (
      prunes t c.unlink.new.frames (top_level g.M.Levels.mode) r c.args.page c.end_of_way-level.result.2.0 c.table_index.result c.end_of_way-level.result.1.0 c.end_of_way-level.result.0
          c.requires.forest c.requires.root last c.if-table-root.false empty on u.between u.cleared u.released u.free,
      missing_up t c.unlink.new.frames (top_level g.M.Levels.mode) r c.args.page c.end_of_way-level.result.2.0 c.table_index.result c.end_of_way-level.result.1.0 c.end_of_way-level.result.0
          c.requires.forest c.requires.root last c.if-table-root.false empty on u.between u.cleared u.released u.free,
      omega (arith, way.missing, parent.0),
    )

pub returns-clause-prunes : goal.returns-clause-prunes
returns-clause-prunes g c = (removed g c).0

pub returns-clause-higher : goal.returns-clause-higher
returns-clause-higher g c = λ e. (removed g c).1

pub returns-clause-in_levels : goal.returns-clause-in_levels
returns-clause-in_levels g c = let r = removed g c in omega (arith, r.1, r.2)
