use Rattle.{std.proofs.Common.{◌≡◌, refl, sym, ap, ◌∙◌, arith}, sv39_walk.{proofs.Way.{last_of-zero, last_of-stop, last_of-next}, specs.{Entry.{entry_at}, Walk.{last_of}}}}
use Rattle.sv39_walk.proofs.translation.last_entry.Goals as goal

pub loop-level-init : goal.loop-level-init
loop-level-init g c = (omega (arith, c.top_level-level.ensures.range), c.requires, ap (λ top. last_of c.args.frames.now c.args.page top c.args.root.0) c.top_level-level.ensures.level)

pub returns-in-None-clause-last : goal.returns-in-None-clause-last
returns-in-None-clause-last g c =
    let entry = c.read_entry-entry.ensures ∙ ap (entry_at c.args.frames.now c.loop-level.table.0) c.table_index.ensures.index in
    let stops = rw entry at c.in-None.ensures in
    let stop = sym (last_of-stop c.args.frames.now c.args.page c.loop-level.level c.loop-level.table.0 c.loop-level-test.true stops) ∙ c.loop-level.invariant.2 in
    entry ∙ ap (λ p. p.1) stop

pub returns-in-None-clause-level : goal.returns-in-None-clause-level
returns-in-None-clause-level g c =
    let entry = c.read_entry-entry.ensures ∙ ap (entry_at c.args.frames.now c.loop-level.table.0) c.table_index.ensures.index in
    let stops = rw entry at c.in-None.ensures in
    let stop = sym (last_of-stop c.args.frames.now c.args.page c.loop-level.level c.loop-level.table.0 c.loop-level-test.true stops) ∙ c.loop-level.invariant.2 in
    ap (λ p. p.0) stop

pub loop-level-preserved : goal.loop-level-preserved
loop-level-preserved g c =
    let entry = c.read_entry-entry.ensures ∙ ap (entry_at c.args.frames.now c.loop-level.table.0) c.table_index.ensures.index in
    let leads = rw entry at c.in-Some.ensures.0 in
    let next = rw entry at c.in-Some.ensures.1 in (
      omega (arith, c.loop-level.invariant.0),
      c.in-Some.ensures.2,
      rw next (sym (last_of-next c.args.frames.now c.args.page c.loop-level.level c.loop-level.table.0 c.loop-level-test.true leads) ∙ c.loop-level.invariant.2),
    )

pub returns-clause-last : goal.returns-clause-last
returns-clause-last g c =
    let zero : c.loop-level.level ≡ 0 = omega arith in
    let entry = c.read_entry.ensures ∙ ap (entry_at c.args.frames.now c.loop-level.table.0) c.table_index-2.ensures.index in
    let stop = sym (last_of-zero c.args.frames.now c.args.page c.loop-level.table.0) ∙ (rw zero at c.loop-level.invariant.2) in
    entry ∙ ap (λ p. p.1) stop

pub returns-clause-level : goal.returns-clause-level
returns-clause-level g c = let zero : c.loop-level.level ≡ 0 = omega arith in let stop = sym (last_of-zero c.args.frames.now c.args.page c.loop-level.table.0) ∙ (rw zero at c.loop-level.invariant.2) in ap (λ p. p.0) stop
