use Rattle.{fault.proofs.Names.{refl, sym, ap, ◌∙◌, subst, false≢true, Backing, picture_of, IsBehind}, residency.specs.Picture.{is_private}}
use Rattle.fault.proofs.granting.grant_store.Goals as goal

pub grant_own-requires-clause-in_memory : goal.grant_own-requires-clause-in_memory
grant_own-requires-clause-in_memory g c common = (0, (let P : Backing → Type 0 = λ b. IsBehind (picture_of c.args.core.now) b 0 in subst P (sym c.in-Anon.is) refl))

pub grant_own-requires-then-is_private-clause-in_memory : goal.grant_own-requires-then-is_private-clause-in_memory
grant_own-requires-then-is_private-clause-in_memory g c common =
    absurd (false≢true (sym common ∙ sym (ap is_private c.requires.was) ∙ sym c.is_private.ensures ∙ c.if-is_private.true))
