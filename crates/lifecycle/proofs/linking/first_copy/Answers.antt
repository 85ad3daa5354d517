use Rattle.lifecycle.proofs.Names.{user_pages_fit, inl, inr, ◌+◌, ◌/◌, sym, ap, ◌∙◌, arith, cases_eq, cases_lt, seat, Picture, picture_of, entry, seat-none, none_passed}
use Rattle.lifecycle.proofs.{Live.{live_root}, Names.{same_table}, Passed.{number_in_part, page_form}}
use Rattle.lifecycle.proofs.linking.first_copy.Goals as goal

pub decode-requires : goal.decode-requires
decode-requires g c =
    page_form (picture_of c.args.core.now) c.args.part.now.pid c.loop-page.page c.number_in.result.0 c.requires.fit.rooted c.requires.live
    (number_in_part (picture_of c.args.core.now) c.args.part.now c.loop-page.page c.number_in.result.0 c.requires.live c.requires.part c.loop-page.invariant.from c.loop-page-test.true c.number_in.ensures)

pub returns-then-is_own-clause-some : goal.returns-then-is_own-clause-some
returns-then-is_own-clause-some g c =
    let old : Picture g.M.Levels.mode = picture_of c.args.core.now in
    let is = c.decode.ensures.number ∙ number_in_part old c.args.part.now c.loop-page.page c.number_in.result.0 c.requires.live c.requires.part c.loop-page.invariant.from c.loop-page-test.true c.number_in.ensures in
    record {
      row = ap (λ x. x / 512) c.user_page.ensures ∙ sym (same_table c.args.part.now.first c.loop-page.page c.args.part.now.end c.loop-page.invariant.from c.loop-page-test.true c.requires.part.one_table);
      copy = (
        omega (arith, c.user_page.ensures, c.loop-page-test.true, c.requires.part.high, user_pages_fit g.M.Levels.mode),
        λ none. c.is_own.ensures.own c.if-is_own.true (ap seat (is ∙ ap (entry old c.args.part.now.pid) (sym c.user_page.ensures)) ∙ none),
      );
    }

pub loop-page-preserved : goal.loop-page-preserved
loop-page-preserved g c =
    let old : Picture g.M.Levels.mode = picture_of c.args.core.now in
    let k = c.loop-page.invariant in
    let r = live_root ((picture_of c.args.core.now).root c.args.part.now.pid) c.requires.live in
    let is = c.decode.ensures.number ∙ number_in_part old c.args.part.now c.loop-page.page c.number_in.result.0 c.requires.live c.requires.part k.from c.loop-page-test.true c.number_in.ensures in
    let from = k.from in
    let step = c.next_entry-page.ensures in
    let within = step.within in
    record {
      from = omega (arith, from, step.from);
      none = λ page least below. elim (cases_lt page c.loop-page.page) [
        | inl before ↦ k.none page least before
        | inr over ↦ elim (cases_eq page c.loop-page.page) [
          | inl e ↦ ap (λ x. seat (entry old c.args.part.now.pid x)) e ∙ ap seat (sym is) ∙ c.is_own.ensures.other c.if-is_own.false
          | inr ne ↦ ap seat (none_passed old c.args.part.now.pid r.0 c.args.part.now.table.0 c.args.part.now.first (c.loop-page.page + 1) c.next_entry-page.result c.args.part.now.end
              r.1 (c.requires.part.table r.0 r.1) (omega (arith, from)) within c.requires.part.one_table step.passed page (omega (arith, over, ne)) below) ∙ seat-none
        ]
      ];
    }

pub returns : goal.returns
returns g c = record { some = tt; none = λ page from below. c.loop-page.invariant.none page from (omega (arith, below, c.loop-page-test.false)) }
