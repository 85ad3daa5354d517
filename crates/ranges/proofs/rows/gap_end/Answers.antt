use Rattle.ranges.proofs.{Gaps.{gap_none, in_span_of, is_whole}, Linked.{own_past}, Names.{top_level, sizes, ◌≡◌, ◌≢◌, ℕ, ◌+◌, ◌*◌, ◌/◌, ◌^◌, refl, sym, ap, ◌∙◌, subst, arith, same_Some, picture_of, missing_of, missing_of-is}}
use Rattle.ranges.proofs.rows.gap_end.Goals as goal

pub last_table-missing-requires-clause-root : goal.last_table-missing-requires-clause-root
last_table-missing-requires-clause-root g c = c.requires.rooted.roots c.args.pid c.root_of-root.result.0 c.root_of-root.ensures

pub span_end-requires : goal.span_end-requires
span_end-requires g c = let levels = (sizes g.M.Levels.mode).levels.1 in omega (arith, c.last_table-missing.ensures.range, levels)

pub returns-then-missing-eq0-clause-whole : goal.returns-then-missing-eq0-clause-whole
returns-then-missing-eq0-clause-whole g c =
    let r = c.root_of-root.result.0 in
    let missing = missing_of-is c.args.core.now.frames (top_level g.M.Levels.mode) r c.args.page ∙ sym (ap (λ x. x.0) c.last_table-missing.ensures.last) in
    is_whole (picture_of c.args.core.now) c.args.pid r c.root_of-root.ensures c.args.page c.args.page refl (missing ∙ c.if-missing-eq0.true)

pub returns-clause-further : goal.returns-clause-further
returns-clause-further g c = own_past c.args.page c.span_end.result c.last_table-missing.result.0 c.span_end.ensures

pub returns-clause-gap : goal.returns-clause-gap
returns-clause-gap g c p from below =
    let t = c.args.core.now.frames in
    let missing = missing_of-is t (top_level g.M.Levels.mode) c.root_of-root.result.0 c.args.page ∙ sym (ap (λ x. x.0) c.last_table-missing.ensures.last) in
    gap_none (picture_of c.args.core.now) c.args.pid c.root_of-root.result.0 c.root_of-root.ensures c.last_table-missing.result.0 c.args.page p missing c.if-missing-eq0.false
    (sym (in_span_of c.args.page p c.span_end.result c.span_end.result c.last_table-missing.result.0 from below (omega arith) c.span_end.ensures))

pub returns-clause-end : goal.returns-clause-end
returns-clause-end g c r e =
    let t = c.args.core.now.frames in
    let is = same_Some c.root_of-root.result.0 r (sym c.root_of-root.ensures ∙ e) in
    let missing = missing_of-is t (top_level g.M.Levels.mode) c.root_of-root.result.0 c.args.page ∙ sym (ap (λ x. x.0) c.last_table-missing.ensures.last) in
    let same = ap (λ x. missing_of t (top_level g.M.Levels.mode) x c.args.page) (sym is) ∙ missing in
    subst (λ (x : ℕ). (x ≢ 0) × (c.span_end.result ≡ (c.args.page / 512 ^ x + 1) * 512 ^ x)) (sym same) (c.if-missing-eq0.false, c.span_end.ensures)
