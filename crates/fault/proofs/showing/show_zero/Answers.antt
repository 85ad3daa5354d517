use Rattle.fault.proofs.Names.{is_some, false, refl, sym, ap, ◌∙◌, subst, arith, false≢true, Backing, is_past_end, Picture, picture_of, entry, IsBehind}
use Rattle.fault.{specs.Leaves.{IsFullEntry}, proofs.{Settling.{shows_set}, Forms.{seat_over_common, seat_zero}}}
use Rattle.fault.proofs.showing.show_zero.Goals as goal

pub set_full-requires-clause-root : goal.set_full-requires-clause-root
set_full-requires-clause-root g c = c.requires.spot.linked.fit.rooted.roots c.args.spot.now.pid c.args.spot.now.root.0 c.requires.spot.root

pub set_full-requires-clause-frame : goal.set_full-requires-clause-frame
set_full-requires-clause-frame g c =
    record {
      inside = (let least = c.args.core.now.sound.least in omega (arith, least));
      behind = λ _. let P : Backing → Type 0 = λ b. IsBehind (picture_of c.args.core.now) b 0 in subst P (sym c.requires.anonymous) refl;
    }

pub set_full-requires-clause-user : goal.set_full-requires-clause-user
set_full-requires-clause-user g c = ((c.requires.spot.linked.fit.granting.user c.args.spot.now.pid).user_pages c.args.spot.now.page (ap is_some c.requires.attr)).1

pub returns : goal.returns
returns g c =
    let old : Picture g.M.Levels.mode = picture_of c.args.core.now in
    let sets = c.set_full.ensures.sets in
    let shows = shows_set c.requires.spot c.requires.attr c.set_full.ensures
    (seat_over_common sets.0 c.args.attr.now 0 _ _ sets.1 ∙ sym (seat_zero (entry old c.args.spot.now.pid c.args.spot.now.page) c.requires.none))
    (λ own. absurd (false≢true own)) (λ _. let P : Backing → Type 0 = λ b. IsBehind old b 0 in subst P (sym c.requires.anonymous) refl)
    (ap (λ b. is_past_end old.files b) c.requires.anonymous) in
    let P : Backing → Type 0 = λ b. IsFullEntry old (record { prot = c.args.attr.now.prot; backing = b }) 0 false (entry (picture_of c.set_full.new.core) c.args.spot.now.pid c.args.spot.now.page) in
    record { enters = shows.enters; files = shows.files; entry = subst P c.requires.anonymous shows.entry }
