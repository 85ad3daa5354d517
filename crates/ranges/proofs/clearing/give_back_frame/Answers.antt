use Rattle.ranges.proofs.Names.{◌≡◌, ℕ, ap, ◌∙◌, subst, arith, rules, Private, Releases, role_of, frame_of, InFrame, seat, Picture, picture_of, seat_own, used_inside}
use Rattle.ranges.proofs.{Returning.{lacks_some, fit_frame, gives_frame}, Sharing.{private_used, held_private}}
use Rattle.ranges.proofs.clearing.give_back_frame.Goals as goal

pub frame_number-requires : goal.frame_number-requires
frame_number-requires g c =
    let lacks = lacks_some (picture_of c.args.core.now) (seat c.args.number.0) (InFrame (frame_of c.args.number.0)) (seat_own c.args.number.0 c.requires.own) c.requires.lacks in
    omega (arith, used_inside c.args.core.now.frames (frame_of c.args.number.0) c.args.core.now.sound (private_used _ lacks.1), c.args.core.now.sound.most)

pub release-requires : goal.release-requires
release-requires g c =
    let lacks = lacks_some (picture_of c.args.core.now) (seat c.args.number.0) (InFrame (frame_of c.args.number.0)) (seat_own c.args.number.0 c.requires.own) c.requires.lacks in
    let role : role_of c.args.core.now.frames c.frame_number.result.0 ≡ Private = ap (role_of c.args.core.now.frames) c.frame_number.ensures ∙ lacks.1 in
    held_private c.args.core.now.frames c.frame_number.result.0 (used_inside c.args.core.now.frames c.frame_number.result.0 c.args.core.now.sound (private_used _ role)) role

pub returns : goal.returns
returns g c =
    let old : Picture g.M.Levels.mode = picture_of c.args.core.now in
    let is = seat_own c.args.number.0 c.requires.own in
    let lacks = lacks_some old (seat c.args.number.0) (InFrame (frame_of c.args.number.0)) is c.requires.lacks in
    let released = subst (λ (n : ℕ). Releases c.args.core.now.frames c.release.new.self n) c.frame_number.ensures c.release.ensures.change in
    let fit = fit_frame old (frame_of c.args.number.0) lacks.0 lacks.1 c.release.new.self released (seat c.args.number.0) is in
    let gives = gives_frame old (frame_of c.args.number.0) lacks.0 lacks.1 c.release.new.self released (seat c.args.number.0) is in
    search rules
