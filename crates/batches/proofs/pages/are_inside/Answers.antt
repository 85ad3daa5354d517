use Rattle.{std.proofs.{Common.{◌≡◌, true, false, sym, ◌∙◌, arith}, lemmas.Option.{slice_get_within, slice_get-get_or}}, stores.specs.Store.{files_of}, batches.proofs.Listed.{inside_more}}
use Rattle.batches.proofs.pages.are_inside.Goals as goal

pub loop-page-preserved : goal.loop-page-preserved
loop-page-preserved g c = inside_more (files_of c.args.store.now) c.args.pages.now c.loop-page.page-index (record { file = 0; page = 0 })
    (c.check_page.ensures.0 c.if-not-check_page.false) c.loop-page.invariant

pub returns-clause-all : goal.returns-clause-all
returns-clause-all g c = λ _ i p at_i. c.loop-page.invariant i p (omega (arith, slice_get_within c.args.pages.now i p at_i, c.loop-page-test.false)) at_i

pub returns-then-not-check_page-clause-one : goal.returns-then-not-check_page-clause-one
returns-then-not-check_page-clause-one g c = λ _. (
  c.loop-page.page-index,
  _,
  slice_get-get_or c.args.pages.now c.loop-page.page-index (record { file = 0; page = 0 }) c.loop-page-test.true,
  λ page. let no : true ≡ false = sym (c.check_page.ensures.1 page) ∙ c.if-not-check_page.true in cc,
)
