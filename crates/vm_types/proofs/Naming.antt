-- Who names a page of an object: some process at some page, as the two searches of `is_named` find it.
use Rattle.std.proofs.{Common.{◌≡◌, ℕ, zero, suc, ◌<◌, ◌||◌, Bool, true, false, refl, sym, ap, ◌∙◌, arith, inl, inr}, lemmas.Bool.{cases_Bool, cases_eq, false≢true}}
use Rattle.vm_types.specs.{Counting.{any_below}, Limits.{widest_end}, Objects.{Maps, names, is_named}}

-- a search finds what is there
pub any-at : (f : ℕ → Bool) (n k : ℕ) → k < n → f k ≡ true → any_below f n ≡ true
unfolding any_below
any-at f zero k below is = absurd (omega (arith, below))
any-at f (suc n) k below is = elim (cases_eq k n) [
  | inl e ↦ rw (ap f (sym e) ∙ is) refl
  | inr ne ↦ rw (any-at f n k (omega (arith, below, ne)) is) (or_true (f n))
]
  where
    or_true : (a : Bool) → (a || true) ≡ true
    or_true true = refl
    or_true false = refl

-- what a process has at a page is named
pub named-at : (f : Maps) (object page p k : ℕ) → p < 65 → k < widest_end → names (f p k) object page ≡ true → is_named f object page ≡ true
unfolding is_named
named-at f object page p k low high is =
    any-at (λ q. any_below (λ j. names (f q j) object page) widest_end) 65 p low (any-at (λ j. names (f p j) object page) widest_end k high is)

-- what a search finds is there
pub any-where : (f : ℕ → Bool) (n : ℕ) → any_below f n ≡ true → (k : ℕ) × (k < n) × (f k ≡ true)
unfolding any_below
any-where f zero is = absurd (false≢true is)
any-where f (suc n) is = elim (cases_Bool (f n)) [
  | inl t ↦ (n, omega arith, t)
  | inr f' ↦ (let rest : any_below f n ≡ true = rw f' at is in let found = any-where f n rest in (found.0, (let lt = found.1 in omega (arith, lt)), found.2))
]

-- a process and its page that name a page of an object
pub named-where : (f : Maps) (object page : ℕ) → is_named f object page ≡ true → (p : ℕ) × (k : ℕ) × (p < 65) × (k < widest_end) × (names (f p k) object page ≡ true)
unfolding is_named
named-where f object page is =
    let who = any-where (λ p. any_below (λ k. names (f p k) object page) widest_end) 65 is in
    let at = any-where (λ k. names (f who.0 k) object page) widest_end who.2 in
    (who.0, at.0, who.1, at.1, at.2)
