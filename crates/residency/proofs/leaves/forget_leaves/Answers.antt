use Rattle.residency.proofs.Names.{user_pages_fit, sym, ap, subst, arith, rules, FrameTable}
use Rattle.residency.{specs.{Picture.{Picture, picture_of, is_data}, Parts.{IsFit}, declared.leaves.Change.TheVariants.{Forget}, Leaves.{ChangesLeaves, IsClear}}, proofs.{LeafSteps.{names_over}, Refusing.{above_of}}}
use Rattle.residency.proofs.leaves.forget_leaves.Goals as goal

pub invariant_of-search : goal.invariant_of-search
invariant_of-search g c =
    let nonzero = above_of c.args.core.now.frames c.args.frame.0 c.args.core.now.sound (ap is_data (c.requires.fit.places.cached c.args.page c.args.frame.0 c.requires.placed)) in record { above = omega (arith, nonzero) }

pub change_all-requires-clause-has : goal.change_all-requires-clause-has
change_all-requires-clause-has g c = record { fit = c.requires.fit; inside = c.requires.inside; role = ap is_data (c.requires.fit.places.cached c.args.page c.args.frame.0 c.requires.placed) }

pub change_all-requires-clause-held : goal.change_all-requires-clause-held
change_all-requires-clause-held g c = record { holds = c.requires.placed; filed = λ forgets. c.requires.fit.places.cached c.args.page c.args.frame.0 c.requires.placed }

pub forget_pages-requires-clause-none : goal.forget_pages-requires-clause-none
forget_pages-requires-clause-none g c = λ root page names.
    let core = c.change_all.new.core in
    let over = names_over (picture_of core) c.args.frame.0 root page c.change_all.ensures.fit core.sound.zero_role names in
    let l = names.is.inside in
    c.change_all.ensures.clear over.0 page (omega (arith, l, user_pages_fit g.M.Levels.mode)) over.1

pub returns : goal.returns
returns g c =
    let mid : Picture g.M.Levels.mode = picture_of c.change_all.new.core in
    let P : FrameTable → Type 0 = λ t. IsClear (record mid { frames = t }) Forget c.args.frame.0 in
    let Q : FrameTable → Type 0 = λ t. ChangesLeaves Forget c.args.frame.0 (picture_of c.args.core.now) (record mid { frames = t }) in
    let R : FrameTable → Type 0 = λ t. IsFit (record mid { frames = t }) in
    let done = c.change_all.ensures in
    let same = sym c.forget_pages.ensures.same in
    record { clear = subst P same done.clear; above = done.above; entries = record { changes = subst Q same done.changes; fit = subst R same done.fit; beside = search rules } }
