use Rattle.std.proofs.Common.{ap, sym, get_or, ◌∙◌, ◌≡◌, ◌≢◌, ◌⊎◌, ◌<◌, ◌≤◌, ◌-◌, ◌*◌, ℕ, Bool, true, false, length, ⊎_elim, inl, inr, arith}
use Rattle.std.proofs.lemmas.Bool.{cases_eq}
use Rattle.pool_journal.specs.{Blocks.{IsGivenFrom}, Maps.{entries_of, IsMapOf}}
use Rattle.pool_journal.proofs.map.SlotMap.counted.Goals as goal

pub returns : goal.returns
returns c = λ blocks some is. record {
  some = c.counted_in.ensures.some;
  most = c.counted_in.ensures.most blocks some (ap (λ xs. length xs) c.deref.ensures.value ∙ is.0);
  rest = λ body r past before. (let long = ap (λ xs. length xs) c.deref.ensures.value in here body r past (omega (arith, before, is.0, long)));
  least = ⊎_elim (λ one. inl one) (λ used. inr (given blocks is used (cases_eq (entries_of c.args.self.now false used.0) 0))) c.counted_in.ensures.least;
}
  where
    Used : Type 0
    Used = (r : ℕ) × (504 * (c.counted_in.result - 1) ≤ r) × (r < length c.deref.result.now) × ((get_or c.deref.result.now r 0 ≡ 0) × (get_or c.deref-2.result.now r 0 ≡ 0) → ⊥)

    given : (blocks : ℕ) → IsMapOf blocks c.args.self.now → (used : Used) → (entries_of c.args.self.now false used.0 ≡ 0) ⊎ (entries_of c.args.self.now false used.0 ≢ 0)
        → IsGivenFrom blocks (entries_of c.args.self.now) (c.counted_in.result - 1)
    given blocks is used (inr some) = let long = ap (λ xs. length xs) c.deref.ensures.value in (false, used.0, used.1, omega (arith, used.2, is.0, long), some)
    given blocks is used (inl none) = let long = ap (λ xs. length xs) c.deref.ensures.value in (
      true,
      used.0,
      used.1,
      omega (arith, used.2, is.0, long),
      λ none'. used.3 (ap (λ xs. get_or xs used.0 0) c.deref.ensures.value ∙ none, ap (λ xs. get_or xs used.0 0) c.deref-2.ensures.value ∙ none'),
    )

    here : (body : Bool) (r : ℕ) → 504 * c.counted_in.result ≤ r → r < length c.deref.result.now → entries_of c.args.self.now body r ≡ 0
    here false r past before = ap (λ xs. get_or xs r 0) (sym c.deref.ensures.value) ∙ (c.counted_in.ensures.rest r past before).0
    here true r past before = ap (λ xs. get_or xs r 0) (sym c.deref-2.ensures.value) ∙ (c.counted_in.ensures.rest r past before).1
