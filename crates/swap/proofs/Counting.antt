-- How many numbers pass a test, when one of them changes.
use Rattle.{std.proofs.{Common.{◌≡◌, ◌≢◌, ℕ, zero, suc, ◌+◌, ◌<◌, ◌≤◌, Bool, true, false, if◌then◌else◌, inl, inr, refl, ap, ◌∙◌, arith}, lemmas.Bool.{cases_eq}}, vm_types.specs.Counting.{count_below}}

pub same : (f g : ℕ → Bool) (n : ℕ) → ((k : ℕ) → k < n → f k ≡ g k) → count_below f n ≡ count_below g n
unfolding count_below
same f g zero alike = refl
same f g (suc n) alike =
    let here : f n ≡ g n = alike n (omega arith) in
    let below : count_below f n ≡ count_below g n = same f g n (λ k lt. alike k (omega (arith, lt))) in
    ap (λ (b : Bool). (if b then 1 else 0) + count_below f n) here ∙ ap (λ m. (if g n then 1 else 0) + m) below

pub every : (f : ℕ → Bool) (n : ℕ) → ((k : ℕ) → k < n → f k ≡ true) → count_below f n ≡ n
unfolding count_below
every f zero pass = refl
every f (suc n) pass =
    let below : count_below f n ≡ n = every f n (λ k lt. pass k (omega (arith, lt))) in
    rw (pass n (omega arith)) (omega (arith, below))

-- one of them no longer passes
pub one_less : (f g : ℕ → Bool) (x n : ℕ) → x < n → f x ≡ true → g x ≡ false → ((k : ℕ) → k ≢ x → f k ≡ g k) → count_below f n ≡ count_below g n + 1
unfolding count_below
one_less f g x zero below passes fails alike = omega (arith, below)
one_less f g x (suc n) below passes fails alike = elim (cases_eq n x) [
  | inl e ↦ (
      let rest : count_below f n ≡ count_below g n = same f g n (λ k lt. alike k (omega (arith, lt, e))) in
      let f_here : f n ≡ true = ap f e ∙ passes in
      let g_here : g n ≡ false = ap g e ∙ fails in
      rw f_here (rw g_here (omega (arith, rest))))
  | inr ne ↦ (
      let rest : count_below f n ≡ count_below g n + 1 = one_less f g x n (omega (arith, below, ne)) passes fails alike in
      rw (alike n ne) (omega (arith, rest)))
]

pub at_most : (f : ℕ → Bool) (n : ℕ) → count_below f n ≤ n
unfolding count_below
at_most f zero = omega arith
at_most f (suc n) = let below = at_most f n in elim (f n) as (λ b. (if b then 1 else 0) + count_below f n ≤ suc n) [ true ↦ omega (arith, below) | false ↦ omega (arith, below) ]

-- one of them does not pass
pub not_all : (f : ℕ → Bool) (x n : ℕ) → x < n → f x ≡ false → count_below f n < n
unfolding count_below
not_all f x zero below fails = omega (arith, below)
not_all f x (suc n) below fails = elim (cases_eq n x) [
  | inl e ↦ (let here : f n ≡ false = ap f e ∙ fails in let most = at_most f n in rw here (omega (arith, most)))
  | inr ne ↦ (
      let rest = not_all f x n (omega (arith, below, ne)) fails in
      elim (f n) as (λ b. (if b then 1 else 0) + count_below f n < suc n) [ true ↦ omega (arith, rest) | false ↦ omega (arith, rest) ])
]

-- none of them passes
pub none : (f : ℕ → Bool) (n : ℕ) → count_below f n ≡ 0 → (k : ℕ) → k < n → f k ≡ false
unfolding count_below
none f zero is k below = absurd (omega (arith, below))
none f (suc n) is k below = elim (cases_eq k n) [
  | inl e ↦ ap f e ∙ fails (f n) (count_below f n) is
  | inr ne ↦ none f n (rest (f n) (count_below f n) is) k (omega (arith, below, ne))
]
  where
    fails : (b : Bool) (m : ℕ) → (if b then 1 else 0) + m ≡ 0 → b ≡ false
    fails true m bad = absurd (omega (arith, bad))
    fails false m good = refl

    rest : (b : Bool) (m : ℕ) → (if b then 1 else 0) + m ≡ 0 → m ≡ 0
    rest true m bad = absurd (omega (arith, bad))
    rest false m good = omega (arith, good)

pub none_pass : (f : ℕ → Bool) (n : ℕ) → ((k : ℕ) → k < n → f k ≡ false) → count_below f n ≡ 0
unfolding count_below
none_pass f zero fail = refl
none_pass f (suc n) fail =
    let below : count_below f n ≡ 0 = none_pass f n (λ k lt. fail k (omega (arith, lt))) in
    rw (fail n (omega arith)) (omega (arith, below))
