use Rattle.file_store.proofs.Names.{◌≡◌, ℕ, subst, ⊎_elim, arith, get_or, None, Some, cases_eq}
use Rattle.file_store.proofs.directory.overlaps_any.Goals as goal

pub loop-other-preserved : goal.loop-other-preserved
loop-other-preserved c = λ f h a less is in_a in_entry. ⊎_elim
    (λ same. c.shares.ensures.none c.if-shares.false h a (subst (λ (k : ℕ). get_or c.args.entries.now k None ≡ Some a) same is) in_a in_entry)
    (λ ne. c.loop-other.invariant f h a (omega (arith, less, ne)) is in_a in_entry)
    (cases_eq f c.loop-other.other-index)

pub returns-clause-none : goal.returns-clause-none
returns-clause-none c = λ _ f h a less is in_a in_entry. c.loop-other.invariant f h a (omega (arith, less, c.loop-other-test.false)) is in_a in_entry
