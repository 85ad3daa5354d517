use Rattle.residency.proofs.Names.{user_pages_fit, ◌≡◌, ◌≢◌, refl, sym, ap, ◌∙◌, subst, arith, rules, Zero, Private, Cache, FrameTable, IsHeld, SameButFor, role_of, Home, place_of, is_touched}
use Rattle.residency.specs.{declared.leaves.Change.TheVariants.{Forget}, Picture.{Picture, picture_of, is_data}}
use Rattle.residency.proofs.{Cleaning.{Untouches, all_placed}, Forgotten.{none_over, fit_forgotten, forgets_framed}, LeafSteps.{names_over}, Leaving.{leaves_frame}, Refusing.{above_of, inside_of}}
use Rattle.residency.proofs.kernel.Core.forget_frame.Goals as goal

pub forget_pages-requires-clause-inside : goal.forget_pages-requires-clause-inside
forget_pages-requires-clause-inside g c =
    inside_of c.args.self.now.frames c.args.frame.0 c.args.self.now.sound (ap is_data (c.requires.fit.places.cached c.args.page c.args.frame.0 c.requires.placed))

pub forget_pages-requires-clause-none : goal.forget_pages-requires-clause-none
forget_pages-requires-clause-none g c = λ root page names.
    let old : Picture g.M.Levels.mode = picture_of c.args.self.now in
    let cache = c.requires.fit.places.cached c.args.page c.args.frame.0 c.requires.placed in
    let nonzero = above_of c.args.self.now.frames c.args.frame.0 c.args.self.now.sound (ap is_data cache) in
    let over = names_over old c.args.frame.0 root page c.requires.fit c.args.self.now.sound.zero_role names in
    let l = names.is.inside in
    none_over old c.args.page c.args.frame.0 c.requires.fit c.requires.bare c.requires.placed (omega (arith, nonzero)) Forget over.0 page (omega (arith, l, user_pages_fit g.M.Levels.mode)) over.1

pub release-requires : goal.release-requires
release-requires g c =
    let cache = c.requires.fit.places.cached c.args.page c.args.frame.0 c.requires.placed in
    subst (λ (t : FrameTable). IsHeld t c.args.frame.0) (sym c.forget_pages.ensures.same)
    (record { inside = inside_of c.args.self.now.frames c.args.frame.0 c.args.self.now.sound (ap is_data cache); handed_out = rw cache refl })

pub returns : goal.returns
returns g c =
    let old : Picture g.M.Levels.mode = picture_of c.args.self.now in
    let mid : Picture g.M.Levels.mode = record old { place = place_of c.clean.new.self; touched = is_touched c.clean.new.self } in
    let new : Picture g.M.Levels.mode = record old { frames = c.release.new.self; place = place_of c.set_place.new.self; touched = is_touched c.set_place.new.self } in
    let key = c.args.page in
    let n = c.args.frame.0 in
    let cache = c.requires.fit.places.cached key n c.requires.placed in
    let nonzero : n ≢ 0 = λ zero. (let bad : Zero ≡ Cache = sym c.args.self.now.sound.zero_role ∙ ap (role_of c.args.self.now.frames) (sym zero) ∙ cache in (cc)) in
    let u : Untouches old mid key = search (rules, all_placed c.args.self.now.cache c.clean.new.self key c.clean.ensures.others c.clean.ensures.placed) in
    let frames = subst (λ (t : FrameTable). SameButFor n t c.release.new.self) c.forget_pages.ensures.same c.release.ensures.change.others in
    let free = c.release.ensures.alone (λ own. (let bad : Private ≡ Cache = sym own ∙ ap (λ (t : FrameTable). role_of t n) c.forget_pages.ensures.same ∙ cache in (cc))) in
    let leaves = leaves_frame old c.release.new.self c.clean.new.self c.set_place.new.self key n Home (c.clean.ensures.placed ∙ c.requires.placed) nonzero c.set_place.ensures.placed c.set_place.ensures.others c.set_place.ensures.touched frames free in
    record { forgets = forgets_framed old mid new c.args.page n c.requires.fit c.requires.bare c.requires.placed (omega (arith, nonzero)) u leaves; fit = fit_forgotten old mid new c.args.page n c.requires.fit c.requires.bare c.requires.placed (omega (arith, nonzero)) u leaves; rest = search rules }
