use Rattle.memory.proofs.Names.{◌≡◌, ◌+◌, ◌*◌, ◌/◌, ◌%◌, ◌^◌, ℕ, true, false, inl, inr, refl, sym, ap, ◌∙◌, subst, arith, eq-eqb, ne_eqb, has_bit, frame_of, is_private, is_swapped, IsEntry, number_of, Entry, parked_frame, parked_private}
use Rattle.memory.proofs.notes.named.Goals as goal

no_bit : (e k : ℕ) → e / 2 ^ k % 2 ≡ 0 → has_bit e k ≡ false
unfolding has_bit
no_bit e k h = ne_eqb (e / 2 ^ k % 2) 1 (λ one. omega (arith, one, h))

a_bit : (e k : ℕ) → e / 2 ^ k % 2 ≡ 1 → has_bit e k ≡ true
unfolding has_bit
a_bit e k h = eq-eqb (e / 2 ^ k % 2) 1 h

swapped_is : (n : ℕ) → is_swapped (n * 1024 + 2) ≡ true
swapped_is n =
    let low : (n * 1024 + 2) / 1 % 2 ≡ 0 = omega arith in
    let next : (n * 1024 + 2) / 2 % 2 ≡ 1 = omega arith in
    rw (no_bit (n * 1024 + 2) 0 low, a_bit (n * 1024 + 2) 1 next) refl

pub returns-in-Swapped-clause-none : goal.returns-in-Swapped-clause-none
returns-in-Swapped-clause-none c = λ none. inr (inl (ap (λ (e : Entry). is_swapped (number_of e)) c.in-Swapped.is ∙ swapped_is c.in-Swapped.field-0.0))

pub returns-then-private-clause-none : goal.returns-then-private-clause-none
returns-then-private-clause-none c = λ none.
    inr (inr (ap (λ (e : Entry). is_private (number_of e)) c.in-Parked.is ∙ parked_private c.in-Parked.frame.0 c.in-Parked.private ∙ c.if-private.true))

pub returns-else-private-clause-some : goal.returns-else-private-clause-some
returns-else-private-clause-some c =
    c.from.ensures
    ∙ sym (ap (λ (e : Entry). frame_of (number_of e)) c.in-Parked.is ∙ parked_frame c.in-Parked.frame.0 c.in-Parked.private (subst (λ (e : Entry). IsEntry e) c.in-Parked.is c.requires))
