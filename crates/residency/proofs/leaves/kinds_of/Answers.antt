use Rattle.residency.{proofs.{LeafSteps.{over_names}, Names.{◌%◌, subst, arith, bit_at_ones}}, specs.{Contents.{HasContent}, Picture.{picture_of}, declared.contents.Content.{Content}}}
use Rattle.residency.proofs.leaves.kinds_of.Goals as goal

pub returns-in-Own : goal.returns-in-Own
returns-in-Own g c = λ pid r page root h over. bit_at_ones 64 (r % 64) (omega arith)

pub returns-in-Page : goal.returns-in-Page
returns-in-Page g c = λ pid r page root h over.
    let s = c.args.search.now in
    let placed = subst (λ (h : Content). HasContent (picture_of c.args.core.now) s.frame.0 h) c.in-Page.is c.requires.holds in
    c.kinds_over.ensures r page
    (over_names (picture_of c.args.core.now) s.change s.frame.0 pid r page c.requires.has.fit root h (c.requires.has.fit.places.cached c.in-Page.field-0 s.frame.0 placed) over)
