use Rattle.msync.proofs.{Homing.{settles_homed}, Names.{rules, inr, refl, sym, ◌∙◌, arith, false≢true, File, slots_of, place_of, is_touched, Picture, picture_of, Homes, fit_homed}}
use Rattle.msync.proofs.settling.settle_in_slot.Goals as goal

pub set_place-requires-clause-kept : goal.set_place-requires-clause-kept
set_place-requires-clause-kept g c = λ touched. absurd (false≢true (sym c.clean.ensures.untouched ∙ touched))

pub release-requires : goal.release-requires
release-requires g c = (let one = c.requires.fit.places.slotted (File c.args.page) c.args.slot.0 c.requires.placed in omega (arith, one))

pub returns : goal.returns
returns g c =
    let old : Picture g.M.Levels.mode = picture_of c.args.core.now in
    let new : Picture g.M.Levels.mode = record old { slots = slots_of c.release.new.self; place = place_of c.set_place.new.self; touched = is_touched c.set_place.new.self } in
    let homes : Homes old new (File c.args.page) c.args.slot.0 = record {
      was = c.requires.placed;
      frames = refl;
      slots = c.release.ensures.releases;
      root = λ p. refl;
      at = λ p k. refl;
      page_of = λ m. refl;
      files = λ f. refl;
      placed = c.set_place.ensures.placed;
      others = λ p ne. c.set_place.ensures.others.places p ne ∙ c.clean.ensures.others.places p ne;
      now = c.set_place.ensures.touched ∙ c.clean.ensures.untouched;
      rest = λ p ne. c.set_place.ensures.others.touched p ne ∙ c.clean.ensures.others.touched p ne;
    } in
    record {
      fit = fit_homed old new (File c.args.page) c.args.slot.0 c.requires.fit homes;
      beside = search rules;
      swap = inr tt;
      settles = settles_homed old new c.args.page c.args.slot.0 c.requires.fit homes;
    }
