use Rattle.sync_journal.proofs.Names.{◌≡◌, ◌∙◌, ap, arith, ⊎_elim, length, take, get_or, get_or-take, length-take-le, cases_eq, eqb-false}
use Rattle.sync_journal.proofs.map.are_homes.Goals as goal

pub loop-j-preserved : goal.loop-j-preserved
loop-j-preserved c =
    let homes = c.args.homes.now in
    let j = c.loop-j.j in
    let inv = c.loop-j.invariant in
    let long : length (take j homes) ≡ j = length-take-le j homes (omega arith) in (
      λ k below. ⊎_elim (λ here. (let at = ap (λ m. get_or homes m 0) here in omega (arith, at, c.if-from-limit.false, c.from.ensures))) (λ other. inv.0 k (omega (arith, below, other))) (cases_eq k j),
      λ i k less below same. ⊎_elim
          (λ here. eqb-false _ _ (c.if-contains.ensures.cases i 0 (omega arith) (omega (arith, less, here, long))) (get_or-take j homes i 0 (omega (arith, less, here)) ∙ same ∙ ap (λ m. get_or homes m 0) here))
          (λ other. inv.1 i k less (omega (arith, below, other)) same)
          (cases_eq k j),
    )
