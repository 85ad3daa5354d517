use Rattle.residency.proofs.Names.{user_pages_fit, ◌≡◌, ℕ, refl, ap, sym, ◌∙◌, subst, arith, number_of}
use Rattle.residency.{specs.{Picture.{Picture, picture_of, entry}, Leaves.{concerns, IsChanged}}, proofs.{Entries.{entry-of}, LeafSteps.{over_whole, one_changed}, Moves.{same_beside}}}
use Rattle.residency.proofs.leaves.change_at.Goals as goal

pub entry-requires-clause-root : goal.entry-requires-clause-root
entry-requires-clause-root g c = c.requires.lives.fit.rooted.roots c.args.process.pid c.args.process.root.0 c.requires.lives.root

pub changed-entry-requires-clause-concerned : goal.changed-entry-requires-clause-concerned
changed-entry-requires-clause-concerned g c =
    ap (concerns c.args.search.now.change) (c.entry.ensures.entry ∙ sym (entry-of (picture_of c.args.core.now) c.args.process.pid c.args.process.root.0 c.args.page c.requires.lives.root)) ∙ c.requires.over.concerned

pub set-requires-clause-root : goal.set-requires-clause-root
set-requires-clause-root g c = c.requires.lives.fit.rooted.roots c.args.process.pid c.args.process.root.0 c.requires.lives.root

pub set-requires-clause-whole : goal.set-requires-clause-whole
set-requires-clause-whole g c =
    over_whole (picture_of c.args.core.now) c.args.search.now.change c.args.search.now.frame.0 c.args.process.pid c.args.process.root.0 c.args.page c.requires.lives.root c.requires.over

pub returns : goal.returns
returns g c =
    let old : Picture g.M.Levels.mode = picture_of c.args.core.now in
    let new : Picture g.M.Levels.mode = record old { frames = c.set.new.memory } in
    let is : number_of c.entry.result ≡ entry old c.args.process.pid c.args.page = c.entry.ensures.entry ∙ sym (entry-of old c.args.process.pid c.args.process.root.0 c.args.page c.requires.lives.root) in
    let P : ℕ → Type 0 = λ x. IsChanged c.args.search.now.change x (number_of c.changed-entry.result) in
    let done = one_changed old new c.args.search.now.change c.args.search.now.frame.0 c.args.process.pid c.args.process.root.0 c.args.page (number_of c.changed-entry.result) c.requires.lives.fit c.requires.lives.root
    (let small = c.requires.user in omega (arith, small, user_pages_fit g.M.Levels.mode)) c.requires.over c.requires.filed (subst P is c.changed-entry.ensures.changed) c.set.ensures.sets (same_beside old c.set.new.memory) in
    record { clear = done.2; entries = record { changes = done.1; fit = done.0; beside = record { store = refl; swap = refl; cache = refl; roots = refl; regions = refl; page_of = refl; clock = refl; keep = refl; looks = refl; refused = refl } } }
