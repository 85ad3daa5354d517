use Rattle.page_tables.proofs.{Ends.{ends_way, valid_points, way_done}, Names.{top_level, ◌≡◌, ◌-◌, ◌+◌, ◌<◌, false, inr, refl, sym, ap, ◌∙◌, arith, rules, entry_at, is_pointer, is_valid, index_of}, Ways.{last_at-next, last_at-stop}}
use Rattle.page_tables.proofs.tables.end_of_way.Goals as goal

pub returns-then-not-is_valid : goal.returns-then-not-is_valid
returns-then-not-is_valid g c =
    let t = c.args.frames.now in
    let index = c.table_index.ensures.index ∙ ap (λ p. index_of p c.loop-level.level) c.get-number.ensures.number in
    let entry = c.read_entry-entry.ensures ∙ ap (entry_at t c.loop-level.table.0) index in
    let invalid : is_valid (entry_at t c.loop-level.table.0 (index_of c.args.page c.loop-level.level)) ≡ false =
    ap is_valid (sym entry) ∙ sym c.is_valid.ensures ∙ c.if-not-is_valid.true in
    let stops : is_pointer (entry_at t c.loop-level.table.0 (index_of c.args.page c.loop-level.level)) ≡ false = rw invalid refl in
    ends_way t (top_level g.M.Levels.mode) c.args.root.0 c.args.page c.loop-level.level c.loop-level.table.0 c.loop-level.parent.0
    (sym (last_at-stop t c.args.page c.loop-level.level c.loop-level.table.0 c.loop-level-test.true stops) ∙ c.loop-level.invariant.2) c.loop-level.invariant.0 (search rules)
    c.loop-level.invariant.1 c.loop-level.invariant.3

pub frame_number-table-requires : goal.frame_number-table-requires
frame_number-table-requires g c =
    let t = c.args.frames.now in
    let index = c.table_index.ensures.index ∙ ap (λ p. index_of p c.loop-level.level) c.get-number.ensures.number in
    let points = valid_points t (top_level g.M.Levels.mode) c.args.root.0 c.args.page c.loop-level.level c.loop-level.table.0 c.read_entry-entry.result.0 c.requires.root c.loop-level.invariant.1
    c.loop-level-test.true c.loop-level.invariant.2 (c.read_entry-entry.ensures ∙ ap (entry_at t c.loop-level.table.0) index) (sym c.is_valid.ensures ∙ c.if-not-is_valid.false) in
    omega (arith, (c.requires.forest.onto_tables _ _ _ points).inside, c.len.ensures.sound.most)

pub loop-level-preserved : goal.loop-level-preserved
loop-level-preserved g c =
    let t = c.args.frames.now in
    let index = c.table_index.ensures.index ∙ ap (λ p. index_of p c.loop-level.level) c.get-number.ensures.number in
    let entry = c.read_entry-entry.ensures ∙ ap (entry_at t c.loop-level.table.0) index in
    let points = valid_points t (top_level g.M.Levels.mode) c.args.root.0 c.args.page c.loop-level.level c.loop-level.table.0 c.read_entry-entry.result.0 c.requires.root c.loop-level.invariant.1
    c.loop-level-test.true c.loop-level.invariant.2 entry (sym c.is_valid.ensures ∙ c.if-not-is_valid.false) in
    let next = c.frame_number-table.ensures in
    let here : c.loop-level.level - 1 + 1 ≡ c.loop-level.level = omega arith in
    let less : c.loop-level.level - 1 < top_level g.M.Levels.mode = omega (arith, c.loop-level.invariant.0) in (
      omega (arith, c.loop-level.invariant.0),
      rw next (c.requires.forest.onto_tables _ _ _ points),
      rw (next, entry) (sym (last_at-next t c.args.page c.loop-level.level c.loop-level.table.0 c.loop-level-test.true points.pointer) ∙ c.loop-level.invariant.2),
      inr (less, rw (next, here) points),
      omega (arith, c.loop-level.invariant.4),
    )

pub returns : goal.returns
returns g c =
    way_done c.args.frames.now (top_level g.M.Levels.mode) c.args.root.0 c.args.page c.loop-level.level c.loop-level.table.0 c.loop-level.parent.0 (omega arith)
    c.loop-level.invariant.2 (search rules) c.loop-level.invariant.1 c.loop-level.invariant.3
