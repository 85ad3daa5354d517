use Rattle.ranges.proofs.{ClearedPages.{same_beside, tables-refl, tables_then, pages_none, pages_then}, Gaps.{in_row_of, user_inside}, Names.{top_level, ◌≡◌, ℕ, ◌+◌, ◌-◌, ◌*◌, ◌/◌, ◌%◌, inl, refl, ◌∙◌}}
use Rattle.ranges.{proofs.{Names.{subst, arith, rules, IsTableOf, Picture, picture_of}, Pruned.{fit_pruned, clears_pruned, cleared_block, cleared_still}}, specs.Steps.{Clears}}
use Rattle.ranges.proofs.clearing.clear_table.Goals as goal

pub loop-index-init : goal.loop-index-init
loop-index-init g c =
    let old : Picture g.M.Levels.mode = picture_of c.args.core.now in
    let first = c.table_start-first.ensures in
    let get = c.get.ensures.number in
    let row : c.args.part.now.first / 512 ≡ c.table_start-first.result / 512 = omega (arith, first) in
    let index : c.table_start-first.result + (c.get.result - c.table_start-first.result) ≡ c.args.part.now.first = omega (arith, first, get) in
    let place = subst (λ (x : ℕ). IsTableOf old.frames (top_level g.M.Levels.mode) c.root_of-root.result.0 x c.args.part.now.table.0) row (c.requires.part.table c.root_of-root.result.0 c.root_of-root.ensures) in
    let pages = pages_none c.args.core.now c.args.part.now.pid c.args.part.now.first (c.table_start-first.result + (c.get.result - c.table_start-first.result)) c.requires.fit
    (λ page h least below. absurd (omega (arith, index, least, below))) in
    let tables = tables-refl c.args.core.now.frames in
    search rules

pub clear_at-index-requires-clause-row : goal.clear_at-index-requires-clause-row
clear_at-index-requires-clause-row g c =
    let k = c.loop-index.invariant in
    let first = c.table_start-first.ensures in
    let begins : c.table_start-first.result % 512 ≡ 0 = omega (arith, first) in
    search rules

pub loop-index-preserved : goal.loop-index-preserved
loop-index-preserved g c =
    let k = c.loop-index.invariant in
    let step = c.clear_at-index.ensures in
    let low = k.low in
    let further = step.further in
    let place = step.places (c.table_start-first.result / 512) c.args.part.now.table.0 k.place in
    let root_is = step.clears.beside.root c.args.part.now.pid ∙ k.root_is in
    let pages = pages_then c.args.core.now c.loop-index.core c.clear_at-index.new.core c.args.part.now.pid c.args.part.now.first (c.table_start-first.result + c.loop-index.index) (c.table_start-first.result + c.clear_at-index.result)
    c.requires.fit low (omega (arith, further)) k.pages step.pages in
    let tables = tables_then c.args.core.now.frames c.loop-index.core.frames c.clear_at-index.new.core.frames k.tables step.tables in
    search rules

pub prune-requires-clause-root : goal.prune-requires-clause-root
prune-requires-clause-root g c = c.loop-index.invariant.pages.fit.rooted.roots c.args.part.now.pid c.root_of-root.result.0 c.loop-index.invariant.root_is

pub returns : goal.returns
returns g c =
    let old : Picture g.M.Levels.mode = picture_of c.args.core.now in
    let mid : Picture g.M.Levels.mode = picture_of c.loop-index.core in
    let new : Picture g.M.Levels.mode = record mid { frames = c.prune.new.memory } in
    let r = c.root_of-root.result.0 in
    let k = c.loop-index.invariant in
    let part = c.requires.part in
    let high = k.high in
    let end : c.table_start-first.result + c.loop-index.index ≡ c.args.part.now.end = omega (arith, c.table_start-first.ensures, high, c.loop-index-test.false, part.further) in
    let clears : Clears old mid c.args.part.now.pid c.args.part.now.first c.args.part.now.end = subst (λ (x : ℕ). Clears old mid c.args.part.now.pid c.args.part.now.first x) end k.pages.clears in
    let same = same_beside mid c.prune.new.memory in
    record {
      pages = record {
        clears = clears_pruned mid new c.args.part.now.pid r c.args.part.now.first k.pages.fit c.loop-index.core.sound k.root_is c.prune.ensures.prunes same old c.args.part.now.first c.args.part.now.end (omega arith) part.further clears;
        fit = fit_pruned mid new c.args.part.now.pid r c.args.part.now.first k.pages.fit c.loop-index.core.sound k.root_is c.prune.ensures.prunes same;
        rest = search rules;
        refused = search rules;
      };
      cleared = λ low le cleared. cleared_block mid new c.args.part.now.pid r c.args.part.now.first k.pages.fit c.loop-index.core.sound k.root_is c.prune.ensures.prunes same low c.args.part.now.end le
          (cleared_still old mid c.args.part.now.pid low c.args.part.now.first c.args.part.now.end clears k.tables cleared) clears.gone c.prune.ensures.pruned
          (user_inside g.M.Levels.mode c.args.part.now.first c.args.part.now.end part.further part.high) 1 (omega arith) (inl refl)
          (λ p from below. in_row_of c.args.part.now.first p c.args.part.now.end ((c.args.part.now.first / 512 + 1) * 512) from below c.requires.part.one_table refl);
    }
