use Rattle.sync_journal.proofs.{Images.{no_place, named_next, other_next, within_more}, Names.{◌<◌, ◌+◌, ◌∙◌, ℕ, Option, get_or, sym, subst, arith, IfSome}, commits.place.Goals.{then-homes-j, else-homes-j}}
use Rattle.sync_journal.proofs.commits.place.Goals as goal

pub loop-j-init : goal.loop-j-init
loop-j-init c = (sym (no_place (λ k. get_or c.args.homes.now k 0) c.args.home), tt)

pub loop-j-preserved : goal.loop-j-preserved
loop-j-preserved c =
    let names : ℕ → ℕ = λ k. get_or c.args.homes.now k 0 in
    let P : Option ℕ → Type 0 = λ o. IfSome o (λ k. k < c.loop-j.j + 1) in
    elim c.if-homes-j.branch [
      | then-homes-j w ↦ (w.found-is ∙ sym (named_next names c.args.home c.loop-j.j w.if-homes-j.true), subst P (sym w.found-is) (omega arith))
      | else-homes-j w ↦ (
        w.found-is ∙ c.loop-j.invariant.0 ∙ sym (other_next names c.args.home c.loop-j.j w.if-homes-j.false),
        subst P (sym w.found-is) (within_more c.loop-j.found c.loop-j.j c.loop-j.invariant.1),
      )
    ]
