use Rattle.fault.proofs.{Forms.{mapped_page, used_inside, resident_used, resident_page, seat_kept}, Names.{is_some, ℕ, Bool, sym, ap, ◌∙◌, subst, arith, IsFrame, frame_of, Picture, picture_of, entry, IsBehind}, Settling.{shows_set}}
use Rattle.{fault.specs.Leaves.{IsFullEntry}, residency.specs.Picture.{is_private}}
use Rattle.fault.proofs.showing.regrant.Goals as goal

pub set_full-requires-clause-root : goal.set_full-requires-clause-root
set_full-requires-clause-root g c = c.requires.spot.linked.fit.rooted.roots c.args.spot.now.pid c.args.spot.now.root.0 c.requires.spot.root

pub set_full-requires-clause-frame : goal.set_full-requires-clause-frame
set_full-requires-clause-frame g c =
    record {
      inside = (let old : Picture g.M.Levels.mode = picture_of c.args.core.now in
          let is = c.frame_number.ensures ∙ ap frame_of c.number_at-was.ensures in
          subst (λ (x : ℕ). IsFrame old.frames x) (sym is) (used_inside old.frames (frame_of (entry old c.args.spot.now.pid c.args.spot.now.page)) c.args.core.now.sound
          (resident_used old c.args.spot.now.pid c.args.spot.now.page c.args.attr.now c.args.core.now.sound c.requires.spot.linked.fit (mapped_page old c.args.spot.now.pid c.args.spot.now.page c.args.attr.now c.requires.spot.linked.fit.granting c.requires.attr)
          c.requires.attr c.requires.resident c.requires.here)));
      behind = λ common.
          let old : Picture g.M.Levels.mode = picture_of c.args.core.now in
          let e = c.number_at-was.ensures in
          let resident = resident_page old c.args.spot.now.pid c.args.spot.now.page c.args.attr.now c.requires.spot.linked.fit.granting (mapped_page old c.args.spot.now.pid c.args.spot.now.page c.args.attr.now c.requires.spot.linked.fit.granting c.requires.attr) c.requires.attr c.requires.resident c.requires.here in
          let P : ℕ → Type 0 = λ x. IsBehind old c.args.attr.now.backing x in
          subst P (sym (c.frame_number.ensures ∙ ap frame_of e)) (resident.behind (sym (c.is_private.ensures ∙ ap is_private e) ∙ common));
    }

pub frame_number-requires : goal.frame_number-requires
frame_number-requires g c =
    let old : Picture g.M.Levels.mode = picture_of c.args.core.now in
    let is = ap frame_of c.number_at-was.ensures in
    let low = used_inside old.frames (frame_of (entry old c.args.spot.now.pid c.args.spot.now.page)) c.args.core.now.sound
    (resident_used old c.args.spot.now.pid c.args.spot.now.page c.args.attr.now c.args.core.now.sound c.requires.spot.linked.fit (mapped_page old c.args.spot.now.pid c.args.spot.now.page c.args.attr.now c.requires.spot.linked.fit.granting c.requires.attr)
    c.requires.attr c.requires.resident c.requires.here) in
    let most = c.args.core.now.sound.most in
    omega (arith, is, low, most)

pub set_full-requires-clause-user : goal.set_full-requires-clause-user
set_full-requires-clause-user g c = ((c.requires.spot.linked.fit.granting.user c.args.spot.now.pid).user_pages c.args.spot.now.page (ap is_some c.requires.attr)).1

pub returns : goal.returns
returns g c =
    let old : Picture g.M.Levels.mode = picture_of c.args.core.now in
    let pid = c.args.spot.now.pid in
    let page = c.args.spot.now.page in
    let a = c.args.attr.now in
    let was = entry old pid page in
    let granting = c.requires.spot.linked.fit.granting in
    let sets = c.set_full.ensures.sets in
    let own = c.is_private.ensures ∙ ap is_private c.number_at-was.ensures in
    let is = c.frame_number.ensures ∙ ap frame_of c.number_at-was.ensures in
    let resident = resident_page old pid page a granting (mapped_page old pid page a granting c.requires.attr) c.requires.attr c.requires.resident c.requires.here in
    let shows = shows_set c.requires.spot c.requires.attr c.set_full.ensures
    (seat_kept was sets.0 a c.frame_number.result.0 c.is_private.result _ _ sets.1 own (λ _. is) c.requires.here)
    (λ p. resident.private (sym own ∙ p)) (λ common. subst (λ (x : ℕ). IsBehind old a.backing x) (sym is) (resident.behind (sym own ∙ common))) resident.inside in
    let now = entry (picture_of c.set_full.new.core) pid page in
    let Q : Bool → Type 0 = λ x. IsFullEntry old a (frame_of was) x now in
    record { enters = shows.enters; files = shows.files; entry = subst Q own (subst (λ (x : ℕ). IsFullEntry old a x c.is_private.result now) is shows.entry) }
