use Rattle.ranges.proofs.Names.{top_level, sizes, same_Some, ◌≡◌, ℕ, ◌+◌, ◌*◌, ◌/◌, ◌^◌, refl, sym, ap, ◌∙◌, subst, arith, rules, min, max, missing_of-is, Prunes-refl, IsTableOf, Picture, picture_of}
use Rattle.ranges.proofs.{ClearedPages.{same_beside}, Gaps.{is_whole, table_at}, Pruned.{passes_missing, root_pruned}}
use Rattle.ranges.proofs.clearing.clear_next.Goals as goal

pub last_table-missing-requires-clause-root : goal.last_table-missing-requires-clause-root
last_table-missing-requires-clause-root g c = c.requires.fit.rooted.roots c.args.pid c.root_of-top_table.result.0 c.root_of-top_table.ensures

pub clear_table-requires-clause-part : goal.clear_table-requires-clause-part
clear_table-requires-clause-part g c =
    let old : Picture g.M.Levels.mode = picture_of c.args.core.now in
    let r = c.root_of-top_table.result.0 in
    let row = table_at old.frames (top_level g.M.Levels.mode) r c.args.start c.last_table-missing.result.1.0 c.last_table-missing.result.0 c.last_table-missing.ensures.last
    c.if-missing-eq0.true c.last_table-missing.ensures.table in
    record {
      further = omega (arith, c.min-stop.ensures, c.table_end.ensures, c.requires.some);
      high = omega (arith, c.min-stop.ensures, c.requires.high);
      one_table = omega (arith, c.min-stop.ensures, c.table_end.ensures);
      table = λ r' root. subst (λ (x : ℕ). IsTableOf old.frames (top_level g.M.Levels.mode) x (c.args.start / 512) c.last_table-missing.result.1.0)
          (same_Some r r' (sym c.root_of-top_table.ensures ∙ root)) row;
    }

pub prune-requires-clause-root : goal.prune-requires-clause-root
prune-requires-clause-root g c = c.requires.fit.rooted.roots c.args.pid c.root_of-top_table.result.0 c.root_of-top_table.ensures

pub span_end-requires : goal.span_end-requires
span_end-requires g c = let levels = (sizes g.M.Levels.mode).levels.1 in omega (arith, c.last_table-missing.ensures.range, levels)

pub returns : goal.returns
returns g c =
    let r = c.root_of-top_table.result.0 in
    let missing = missing_of-is c.args.core.now.frames (top_level g.M.Levels.mode) r c.args.start ∙ sym (ap (λ x. x.0) c.last_table-missing.ensures.last) in
    passes_missing c.args.core.now _ c.args.pid r c.args.start c.args.end c.min-stop-2.result c.span_end.result c.last_table-missing.result.0 c.requires c.root_of-top_table.ensures
    c.prune.ensures.prunes (same_beside (picture_of c.args.core.now) c.prune.new.memory) c.prune.ensures.pruned missing c.if-missing-eq0.false c.span_end.ensures c.min-stop-2.ensures (search rules) (search rules)

pub returns-then-missing-top_level : goal.returns-then-missing-top_level
returns-then-missing-top_level g c =
    let t = c.args.core.now.frames in
    let r = c.root_of-top_table.result.0 in
    let tree = c.requires.fit.rooted in
    let missing = missing_of-is t (top_level g.M.Levels.mode) r c.args.start ∙ sym (ap (λ x. x.0) c.last_table-missing.ensures.last) in
    passes_missing c.args.core.now _ c.args.pid r c.args.start c.args.end c.min-stop-2.result c.span_end.result c.last_table-missing.result.0 c.requires c.root_of-top_table.ensures
    (Prunes-refl t (top_level g.M.Levels.mode) r c.args.start tree.forest) (same_beside (picture_of c.args.core.now) t)
    (root_pruned t (top_level g.M.Levels.mode) r c.args.start tree.forest (tree.roots c.args.pid r c.root_of-top_table.ensures).table
    (missing ∙ c.if-missing-top_level.true ∙ c.top_level.ensures.level)) missing c.if-missing-eq0.false c.span_end.ensures c.min-stop-2.ensures (search rules) (search rules)

pub returns-then-missing-eq0 : goal.returns-then-missing-eq0
returns-then-missing-eq0 g c =
    let r = c.root_of-top_table.result.0 in
    let missing = missing_of-is c.args.core.now.frames (top_level g.M.Levels.mode) r c.args.start ∙ sym (ap (λ x. x.0) c.last_table-missing.ensures.last) in
    let whole = is_whole (picture_of c.args.core.now) c.args.pid r c.root_of-top_table.ensures c.args.start c.args.start refl (missing ∙ c.if-missing-eq0.true) in
    record {
      cleans = c.clear_table.ensures;
      further = omega (arith, c.min-stop.ensures, c.table_end.ensures, c.requires.some);
      within = omega (arith, c.min-stop.ensures);
      ends = λ x lives. subst (λ (m : ℕ). c.min-stop.result ≡ min c.args.end ((c.args.start / 512 ^ max 1 m + 1) * 512 ^ max 1 m)) (sym (whole x lives)) (c.min-stop.ensures ∙ ap (min c.args.end) c.table_end.ensures);
    }
