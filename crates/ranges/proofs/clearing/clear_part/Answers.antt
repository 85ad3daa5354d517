use Rattle.ranges.{proofs.{ClearedPages.{pages_none, pages_then}, Names.{◌≡◌, ℕ, ◌≤◌, sym, subst, arith, Picture, picture_of}}, specs.{RowsCleared.{ClearsPages}, Steps.{IsCleared}}}
use Rattle.ranges.proofs.clearing.clear_part.Goals as goal

pub loop-page-init : goal.loop-page-init
loop-page-init g c =
    let begins = c.get-page.ensures.number in
    record {
      low = omega (arith, begins);
      high = omega (arith, begins, c.requires.some);
      pages = pages_none c.args.core.now c.args.pid _ _ c.requires.fit (λ page h least under. absurd (omega (arith, begins, least, under)));
      cleared = λ low le cleared. subst (λ (x : ℕ). IsCleared (picture_of c.args.core.now) c.args.pid low x) (sym begins) cleared;
    }

pub loop-page-preserved : goal.loop-page-preserved
loop-page-preserved g c =
    let mid : Picture g.M.Levels.mode = picture_of c.loop-page.core in
    let k = c.loop-page.invariant in
    let begins = k.low in
    let next = c.clear_next-page.ensures in
    let further : c.loop-page.page ≤ c.clear_next-page.result = omega (arith, next.further, c.user_page.ensures) in
    record {
      low = omega (arith, begins, further);
      high = next.within;
      pages = pages_then c.args.core.now c.loop-page.core c.clear_next-page.new.core c.args.pid c.args.start c.loop-page.page c.clear_next-page.result c.requires.fit begins further k.pages
          (subst (λ (x : ℕ). ClearsPages c.loop-page.core c.clear_next-page.new.core c.args.pid x c.clear_next-page.result) c.user_page.ensures next.pages);
      cleared = λ low le cleared. (
          next.cleared low (omega (arith, le, begins, c.user_page.ensures)) (subst (λ (x : ℕ). IsCleared mid c.args.pid low x) (sym c.user_page.ensures) (k.cleared low le cleared)));
    }

pub returns : goal.returns
returns g c =
    let end : c.loop-page.page ≡ c.args.end = omega (arith, c.loop-page.invariant.high, c.loop-page-test.false) in
    record {
      pages = subst (λ (x : ℕ). ClearsPages c.args.core.now c.loop-page.core c.args.pid c.args.start x) end c.loop-page.invariant.pages;
      cleared = λ low le cleared. subst (λ (x : ℕ). IsCleared (picture_of c.loop-page.core) c.args.pid low x) end (c.loop-page.invariant.cleared low le cleared);
    }
