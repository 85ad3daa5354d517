use Rattle.residency.proofs.Names.{user_pages_fit, ◌≡◌, ◌+◌, ◌*◌, ◌^◌, ◌<◌, rules, get_or, refl, ap, ◌∙◌, arith, Free, Private, role_of}
use Rattle.residency.{specs.{Seats.{InFrame}, Picture.{Picture, picture_of, is_data}}, proofs.{Handing.{seat_whole, away_number, all_given}, Moves.{same_beside}, Refusing.{inside_of}}}
use Rattle.residency.proofs.shares.give_share.Goals as goal

pub set-requires-clause-root : goal.set-requires-clause-root
set-requires-clause-root g c = c.requires.share.fit.rooted.roots c.args.process.pid c.args.process.root.0 c.requires.has.lives

pub set-requires-clause-whole : goal.set-requires-clause-whole
set-requires-clause-whole g c = seat_whole (picture_of c.args.core.now) c.args.process.pid c.args.process.root.0 c.args.page (InFrame c.args.frame.0) c.requires.has.lives c.requires.has.from

pub release-requires : goal.release-requires
release-requires g c =
    let role = c.requires.share.fit.counted.1.named c.args.process.pid c.args.page (InFrame c.args.frame.0) (omega (arith, c.requires.has.user, user_pages_fit g.M.Levels.mode)) c.requires.has.from in
    let same : role_of c.set.new.memory c.args.frame.0 ≡ Private = ap (λ rs. get_or rs c.args.frame.0 Free) c.set.ensures.sets.kept.roles ∙ role in
    let inside = inside_of c.args.core.now.frames c.args.frame.0 c.args.core.now.sound (ap is_data role) in
    record { inside = (let frames = c.set.ensures.sets.kept.frames in rw frames inside); handed_out = rw same refl }

pub returns : goal.returns
returns g c =
    let old : Picture g.M.Levels.mode = picture_of c.args.core.now in
    let mid : Picture g.M.Levels.mode = record old { frames = c.set.new.memory } in
    let new : Picture g.M.Levels.mode = record old { frames = c.release.new.self } in
    let low : c.args.slot.0 < 2 ^ 32 = search rules in
    let given = all_given old mid new c.args.slot.0 c.args.process.pid c.args.process.root.0 c.args.page c.args.frame.0 (c.args.slot.0 * 1024 + 2) c.requires.share c.requires.has.lives (omega (arith, c.requires.has.user, user_pages_fit g.M.Levels.mode)) c.requires.has.from
    (away_number c.args.slot.0 low) c.set.ensures.sets (same_beside old c.set.new.memory) c.release.ensures.change (same_beside mid c.release.new.self) c.requires.same in
    search (rules, given.0, given.1, given.2, given.3, given.4)
