use Rattle.residency.{proofs.{Forgotten.{fit_forgotten_slot, forgets_slotted}, Homing.{Homes}, Names.{refl, ◌∙◌, arith, rules, slots_of, place_of, is_touched}}, specs.Picture.{Picture, picture_of}}
use Rattle.residency.proofs.kernel.Core.forget_slot.Goals as goal

pub release-requires : goal.release-requires
release-requires g c = (let one = c.requires.fit.places.slotted c.args.page c.args.slot.0 c.requires.placed in omega (arith, one))

pub returns : goal.returns
returns g c =
    let old : Picture g.M.Levels.mode = picture_of c.args.self.now in
    let new : Picture g.M.Levels.mode = record old { slots = slots_of c.release.new.self; place = place_of c.set_place.new.self; touched = is_touched c.set_place.new.self } in
    let homes : Homes old new c.args.page c.args.slot.0 = record {
      was = c.requires.placed;
      frames = refl;
      slots = c.release.ensures.releases;
      root = λ p. refl;
      at = λ p k. refl;
      page_of = λ m. refl;
      files = λ f. refl;
      placed = c.set_place.ensures.placed;
      others = λ p ne. c.set_place.ensures.others.places p ne ∙ c.clean.ensures.others.places p ne;
      now = c.set_place.ensures.touched ∙ c.clean.ensures.untouched;
      rest = λ p ne. c.set_place.ensures.others.touched p ne ∙ c.clean.ensures.others.touched p ne;
    } in
    record { forgets = forgets_slotted old new c.args.page c.args.slot.0 c.requires.fit homes; fit = fit_forgotten_slot old new c.args.page c.args.slot.0 c.requires.fit homes; rest = search rules }
