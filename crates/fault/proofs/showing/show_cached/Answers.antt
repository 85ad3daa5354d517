use Rattle.fault.proofs.{Names.{is_some, ap, sym, ◌∙◌, false≢true, Picture, picture_of}, Settling.{shows_set}, Forms.{seat_over_common, used_inside, behind_used}}
use Rattle.fault.proofs.showing.show_cached.Goals as goal

pub set_full-requires-clause-root : goal.set_full-requires-clause-root
set_full-requires-clause-root g c = c.requires.spot.linked.fit.rooted.roots c.args.spot.now.pid c.args.spot.now.root.0 c.requires.spot.root

pub set_full-requires-clause-frame : goal.set_full-requires-clause-frame
set_full-requires-clause-frame g c =
    record {
      inside = (let old : Picture g.M.Levels.mode = picture_of c.args.core.now in
          used_inside old.frames c.args.cache_frame.0 c.args.core.now.sound (behind_used old c.args.attr.now.backing c.args.cache_frame.0 c.args.core.now.sound c.requires.spot.linked.fit.places c.requires.behind));
      behind = λ _. c.requires.behind;
    }

pub set_full-requires-clause-user : goal.set_full-requires-clause-user
set_full-requires-clause-user g c = ((c.requires.spot.linked.fit.granting.user c.args.spot.now.pid).user_pages c.args.spot.now.page (ap is_some c.requires.attr)).1

pub returns : goal.returns
returns g c =
    let sets = c.set_full.ensures.sets in
    shows_set c.requires.spot c.requires.attr c.set_full.ensures (seat_over_common sets.0 c.args.attr.now c.args.cache_frame.0 _ _ sets.1 ∙ sym c.requires.none)
    (λ own. absurd (false≢true own)) (λ _. c.requires.behind) c.requires.inside
