use Rattle.residency.proofs.Names.{refl, ap, sym, ◌∙◌, subst, arith, rules, false≢true}
use Rattle.residency.{specs.{Picture.{picture_of, is_data}, declared.contents.Content.{Content}, Contents.{HasContent}}, proofs.{LeafSteps.{over_names, over_own, over_user}, Refusing.{inside_of}}}
use Rattle.residency.proofs.leaves.find_in.Goals as goal

pub find_at-requires-clause-only : goal.find_at-requires-clause-only
find_at-requires-clause-only g c =
    let s = c.args.search.now in
    let own = subst (λ (h : Content). HasContent (picture_of c.args.core.now) s.frame.0 h) c.in-Own.is c.requires.holds in
    record {
      user = (let u = (c.in-Some.ensures.known.0 refl).1 in omega (arith, u, c.in-Some.ensures.found));
      one = λ k h over. sym (over_own (picture_of c.args.core.now) s.change s.frame.0 c.args.process.pid k c.requires.lives.fit h over s.above own.0) ∙ own.1 ∙ sym c.in-Some.ensures.found;
    }

pub page_over-requires : goal.page_over-requires
page_over-requires g c =
    let core = c.args.core.now in
    let s = c.args.search.now in
    let placed = subst (λ (h : Content). HasContent (picture_of core) s.frame.0 h) c.in-Page.is c.requires.holds in
    inside_of core.frames s.frame.0 core.sound (ap is_data (c.requires.lives.fit.places.cached c.in-Page.page s.frame.0 placed))

pub find_at-requires-in-Some-page_over-clause-only : goal.find_at-requires-in-Some-page_over-clause-only
find_at-requires-in-Some-page_over-clause-only g c =
    let s = c.args.search.now in
    let placed = subst (λ (h : Content). HasContent (picture_of c.args.core.now) s.frame.0 h) c.in-Page.is c.requires.holds in
    record {
      user = search rules;
      one = λ k h over. c.in-Some-page_over.ensures.one c.args.process.root.0 k
          (over_names (picture_of c.args.core.now) s.change s.frame.0 c.args.process.pid c.args.process.root.0 k c.requires.lives.fit c.requires.lives.root h
          (c.requires.lives.fit.places.cached c.in-Page.page s.frame.0 placed) over);
    }

pub returns-in-None : goal.returns-in-None
returns-in-None g c =
    let s = c.args.search.now in
    let own = subst (λ (h : Content). HasContent (picture_of c.args.core.now) s.frame.0 h) c.in-Own.is c.requires.holds in
    record {
      some = search rules;
      none = λ k low h over.
          let e = over_own (picture_of c.args.core.now) s.change s.frame.0 c.args.process.pid k c.requires.lives.fit h over s.above own.0 in
          let u = over_user (picture_of c.args.core.now) s.change s.frame.0 c.args.process.pid k c.requires.lives.fit h over in
          false≢true (c.in-None.ensures.known.1 (omega (arith, u.0, e, own.1), omega (arith, u.1, e, own.1)));
    }
