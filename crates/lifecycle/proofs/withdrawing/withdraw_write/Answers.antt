use Rattle.lifecycle.proofs.Names.{user_pages_fit, ◌≡◌, ◌≢◌, ℕ, ◌+◌, true, None, refl, sym, ap, ◌∙◌, subst, arith, rules, is_valid, number_of, seat, Picture, picture_of, entry, place_at, same_beside}
use Rattle.lifecycle.{specs.{ChildShares.{IsOwnEntry}, Shares.{Weakens}}, proofs.{Copies.{seat_names}, Live.{live_root}, Passed.{in_row}, Weaker.{weaker_seat}, Lowered.{fit_lowered, withdraws, places_set}}}
use Rattle.lifecycle.proofs.withdrawing.withdraw_write.Goals as goal

pub returns : goal.returns
returns g c =
    let t = c.args.tables.now in
    let q = c.requires in
    let old : Picture g.M.Levels.mode = picture_of c.args.core.now in
    let new : Picture g.M.Levels.mode = record old { frames = c.set_in.new.memory } in
    let page = t.first + c.args.index in
    let r = live_root (old.root t.parent) q.live in
    let user = q.place.user in
    let place = in_row old t.parent t.from.0 t.first c.args.index q.place.begins q.in_table q.place.place in
    let own : seat (entry old t.parent page) ≢ None = λ none. q.own.own (ap seat q.before ∙ none) in
    let valid : is_valid (entry old t.parent page) ≡ true = ap is_valid (sym q.before) ∙ c.in-Some.ensures.valid in
    let W : ℕ → Type 0 = λ x. Weakens x (number_of c.in-Some.after) in
    let sets = c.set_in.ensures.sets r.0 page (q.fit.rooted.roots t.parent r.0 r.1) (omega (arith, user, user_pages_fit g.M.Levels.mode)) (place r.0 r.1) (place_at t.first c.args.index q.place.begins q.in_table) in
    let withdrawn = withdraws old new t.parent r.0 page (number_of c.in-Some.after) q.fit r.1 (omega (arith, user, user_pages_fit g.M.Levels.mode)) valid own
    (subst W q.before c.in-Some.ensures.weaker) sets (same_beside old c.set_in.new.memory) in
    let names : IsOwnEntry c.in-Some.after = record { form = search rules; own = λ none. own (sym withdrawn.seated ∙ none) } in
    let fit = fit_lowered old new t.parent r.0 page (number_of c.in-Some.after) q.fit r.1 (omega (arith, user, user_pages_fit g.M.Levels.mode)) valid own
    (subst W q.before c.in-Some.ensures.weaker) sets (same_beside old c.set_in.new.memory) in
    let places = places_set old new 0 r.0 page (number_of c.in-Some.after) q.fit.rooted (λ q. refl) sets in
    search rules

pub set_in-requires-clause-placed : goal.set_in-requires-clause-placed
set_in-requires-clause-placed g c =
    let t = c.args.tables.now in
    let q = c.requires in
    let r = live_root ((picture_of c.args.core.now).root t.parent) q.live in
    let user = q.place.user in
    let place = in_row (picture_of c.args.core.now) t.parent t.from.0 t.first c.args.index q.place.begins q.in_table q.place.place in
    (r.0, (t.first + c.args.index), q.fit.rooted.roots t.parent r.0 r.1, omega (arith, user, user_pages_fit g.M.Levels.mode), place r.0 r.1, place_at t.first c.args.index q.place.begins q.in_table)

pub set_in-requires-clause-names : goal.set_in-requires-clause-names
set_in-requires-clause-names g c =
    seat_names g.M.Levels.mode c.args.core.now.frames c.args.tables.now.from.0 c.args.index (number_of c.in-Some.after)
    (λ none. c.requires.own.own (sym (weaker_seat (number_of c.args.before) (number_of c.in-Some.after) c.in-Some.ensures.weaker) ∙ none))
