use Rattle.residency.proofs.Names.{◌≡◌, ◌≢◌, inr, refl, sym, ap, ◌∙◌, arith, rules, Zero, Private, Cache, role_of, Home, place_of, is_touched}
use Rattle.residency.{specs.{Picture.{Picture, picture_of}, Parts.{nowhere}}, proofs.{Leaving.{leaves_frame, fit_home, left_spares, unnamed_of, home_held}, Sparing.{forgotten_spares, spares_then}}}
use Rattle.residency.proofs.evicting.send_home.Goals as goal

pub returns : goal.returns
returns g c =
    let old : Picture g.M.Levels.mode = picture_of c.args.core.now in
    let mid : Picture g.M.Levels.mode = picture_of c.forget_leaves.new.core in
    let new : Picture g.M.Levels.mode = record mid { frames = c.release.new.self; place = place_of c.set_place.new.self; touched = is_touched c.set_place.new.self } in
    let page = c.args.page in
    let v = c.args.victim.0 in
    let fit = c.forget_leaves.ensures.fit in
    let ch = c.forget_leaves.ensures.changes in
    let clear = unnamed_of mid v c.forget_leaves.ensures.clear in
    let untouched = ch.beside.touched page ∙ c.requires.untouched in
    let was = ch.beside.place page ∙ c.requires.placed in
    let cache = fit.places.cached page v was in
    let free = c.release.ensures.alone (λ own. (let bad : Private ≡ Cache = sym own ∙ cache in (cc))) in
    let above : v ≢ 0 = λ zero. (let bad : Zero ≡ Cache = sym c.args.core.now.sound.zero_role ∙ sym (ap (role_of c.args.core.now.frames) zero) ∙ sym (ch.roles v) ∙ cache in (cc)) in
    let leaves = leaves_frame mid c.release.new.self c.forget_leaves.new.core.cache c.set_place.new.self page v Home was above c.set_place.ensures.placed c.set_place.ensures.others c.set_place.ensures.touched c.release.ensures.change.others free in
    record {
      free = free;
      fit = fit_home mid new page v fit leaves untouched clear;
      spares = λ k. spares_then v k old mid new (forgotten_spares v k old mid c.requires.fit (c.requires.fit.places.cached page v c.requires.placed) ch)
          (left_spares mid new page v Home nowhere 0 fit leaves clear k (inr (home_held new page c.set_place.ensures.placed, untouched)));
      plain = search rules;
      swap = search rules;
    }

pub release-requires : goal.release-requires
release-requires g c =
    let ch = c.forget_leaves.ensures.changes in
    let cache = c.forget_leaves.ensures.fit.places.cached c.args.page c.args.victim.0 (ch.beside.place c.args.page ∙ c.requires.placed) in
    record { inside = (let e = ch.frames in let inside = c.requires.inside in omega (arith, e, inside)); handed_out = rw cache refl }
