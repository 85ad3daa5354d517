use Rattle.inspection.proofs.{Entries.{beside_zero}, Names.{user_end, inl, inr, refl, sym, ◌∙◌, arith, cases_lt, false≢true, user_inside, picture_of, entry-of}}
use Rattle.inspection.proofs.pages.next_entry.Goals as goal

pub loop-page-init : goal.loop-page-init
loop-page-init g c = record {
  above = omega (arith, c.max-at.ensures);
  from = omega (arith, c.max-at.ensures);
  passed = λ k from below inside. beside_zero (picture_of c.args.core.now) c.args.pid k c.requires.fit.granting inside (inl (omega (arith, c.max-at.ensures, from, below)));
}

pub entry_number-entry-requires-clause-root : goal.entry_number-entry-requires-clause-root
entry_number-entry-requires-clause-root g c = c.requires.fit.rooted.roots c.args.pid c.in_ok-root.root.0 (sym c.in_ok-root.ensures)

pub returns-then-next-at-clause-some : goal.returns-then-next-at-clause-some
returns-then-next-at-clause-some g c =
    let p = picture_of c.args.core.now in
    let inv = c.loop-page.invariant in
    let at = c.in-Some.ensures.found in
    let user = (c.in-Some.ensures.known.0 refl).1 in
    let number = c.entry_number-entry.ensures ∙ sym (entry-of p c.args.pid c.in_ok-root.root.0 c.in-Some.page (sym c.in_ok-root.ensures)) in
    record {
      from = (let from = inv.from in omega (arith, at, from));
      number = number;
      some = λ none. c.past_empty-next.ensures.some (omega (arith, c.if-next-at.true, at)) (sym number ∙ none);
      none_before = λ k from below. inv.passed k from (omega (arith, below, at)) (user_inside g.M.Levels.mode k (user_end g.M.Levels.mode) (omega (arith, below, at, user)) (omega arith));
    }

pub returns-clause-none : goal.returns-clause-none
returns-clause-none g c k from inside =
    let inv = c.loop-page.invariant in
    elim (cases_lt k c.loop-page.at) [
      | inl before ↦ inv.passed k from before inside
      | inr late ↦ elim (cases_lt k (user_end g.M.Levels.mode)) [
        | inl user ↦ (let above = inv.above in absurd (false≢true (c.in_default.ensures.known.1 (above, omega (arith, late, user)))))
        | inr past ↦ beside_zero (picture_of c.args.core.now) c.args.pid k c.requires.fit.granting inside (inr past)
      ]
    ]
