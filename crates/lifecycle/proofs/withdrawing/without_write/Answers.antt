use Rattle.lifecycle.{proofs.{Names.{◌≡◌, ◌-◌, true, sym, ap, ◌∙◌, subst, arith, is_valid, is_leaf, can_write, IsEntry, number_of, Entry}, Weaker.{weaker_leaf, weaker_other, still_leaf}}, specs.Shares.{Weakens}}
use Rattle.lifecycle.proofs.withdrawing.without_write.Goals as goal

pub returns-in_default : goal.returns-in_default
returns-in_default c = record { form = tt; valid = tt; weaker = tt; same = weaker_other c.args.before c.in_default.not-Leaf }

pub returns-clause-weaker : goal.returns-clause-weaker
returns-clause-weaker c =
    let form = subst (λ (x : Entry). IsEntry x) c.in-Leaf.is c.requires in
    let write : can_write c.in-Leaf.leaf.0 ≡ true = sym c.is_writable.ensures ∙ c.if-not-is_writable.false in
    let number : c.without_write.result.0 ≡ c.in-Leaf.leaf.0 - 4 = omega (arith, c.without_write.ensures) in
    rw number (subst (λ (x : Entry). Weakens (number_of x) (c.in-Leaf.leaf.0 - 4)) (sym c.in-Leaf.is) (weaker_leaf c.in-Leaf.leaf.0 form.0 write))

pub returns-clause-form : goal.returns-clause-form
returns-clause-form c =
    let form = subst (λ (x : Entry). IsEntry x) c.in-Leaf.is c.requires in
    still_leaf (number_of c.args.before) c.without_write.result.0 (returns-clause-weaker c)
    (ap (λ x. is_valid (number_of x)) c.in-Leaf.is ∙ form.0) (ap (λ x. is_leaf (number_of x)) c.in-Leaf.is ∙ form.1)
