use Rattle.residency.{proofs.{LeafSteps.{over_lives, if_none}, Lives.{dead_process, live_process}, Names.{user_pages_fit, IfSome, ◌≡◌, ℕ, true, Option, Some, None, is_some, sym, ◌∙◌, arith, false≢true}}, specs.Picture.{picture_of}}
use Rattle.residency.proofs.leaves.has_leaf_in.Goals as goal

pub returns-in_default-clause-none : goal.returns-in_default-clause-none
returns-in_default-clause-none g c = λ f page h over.
    let core = c.args.core.now in
    over_lives (picture_of core) c.args.search.now.change c.args.search.now.frame.0 c.args.pid page
    (dead_process core c.args.pid c.requires.number c.index.result.now c.index.ensures c.in_default.is) over

pub returns-then-not-is_kind-clause-none : goal.returns-then-not-is_kind-clause-none
returns-then-not-is_kind-clause-none g c = λ f page h over.
    let core = c.args.core.now in
    let lives = live_process core c.args.pid c.requires.number c.index.result.now c.index.ensures c.in-Some.root c.in-Some.is in
    c.is_kind.ensures.other c.if-not-is_kind.true (c.requires.among.roots c.args.pid c.in-Some.root.0 page lives h over)

picked : (r : Option ℕ) (P : ℕ → Type 0) → IfSome r P → is_some r ≡ true → (k : ℕ) × P k
picked None P holds some = absurd (false≢true some)
picked (Some k) P holds some = (k, holds)

pub returns-clause-some : goal.returns-clause-some
returns-clause-some g c = λ yes.
    let found = picked c.find_in.result _ c.find_in.ensures.some (sym c.is_some.ensures ∙ yes) in
    (c.args.pid, found.0, omega (arith, found.1.user, user_pages_fit g.M.Levels.mode), found.1.over)

pub returns-clause-none : goal.returns-clause-none
returns-clause-none g c = λ no_leaf page h over. if_none c.find_in.result _ c.find_in.ensures.none (sym c.is_some.ensures ∙ no_leaf) page (omega arith) h over
