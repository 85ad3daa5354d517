-- How many numbers below a limit pass a test, by a list of those that do.
use Rattle.std.proofs.{Common.{◌≡◌, ◌≢◌, ℕ, zero, suc, ◌+◌, ◌<◌, ◌≤◌, Bool, true, false, not, ◌&&◌, eqb, refl, sym, ap, ◌∙◌, inl, inr, arith}, lemmas.Bool.{cases_eq, cases_lt, cases_Bool, and_parts, not-true, eqb-false, eq-eqb, ne_eqb}}
use Rattle.{std.proofs.{Math.Bool.{and-true, and-false}, lemmas.Bool.{false_from_ne_true}}, vm_types.specs.Counting.{any_below, count_below}}

-- all that pass but one
abbrev without : (ℕ → Bool) → ℕ → ℕ → Bool
without passes x k = passes k && not (eqb k x)

without-other : (passes : ℕ → Bool) (x k : ℕ) → k ≢ x → without passes x k ≡ passes k
without-other passes x k ne = rw (ne_eqb k x ne) (and-true (passes k))

without-self : (passes : ℕ → Bool) (x k : ℕ) → k ≡ x → without passes x k ≡ false
without-self passes x k e = rw (eq-eqb k x e) (and-false (passes k))

without-above : (passes : ℕ → Bool) (x c : ℕ) → c ≤ x → count_below (without passes x) c ≡ count_below passes c
unfolding count_below
without-above passes x zero le = refl
without-above passes x (suc c) le =
    let ne : c ≢ x = omega arith in
    rw (without-other passes x c ne, without-above passes x c (omega arith)) refl

without-one : (passes : ℕ → Bool) (x c : ℕ) → x < c → passes x ≡ true → count_below (without passes x) c + 1 ≡ count_below passes c
unfolding count_below
without-one passes x zero less here = absurd (omega arith)
without-one passes x (suc c) less here = elim (cases_eq c x) [
  | inl e ↦ rw (without-self passes x c e, ap passes e ∙ here, without-above passes x c (omega arith)) (omega arith)
  | inr ne ↦ (let ih = without-one passes x c (omega arith) here in rw (without-other passes x c ne) (omega (arith, ih)))
]

without-none : (passes : ℕ → Bool) (x c : ℕ) → passes x ≡ false → count_below (without passes x) c ≡ count_below passes c
unfolding count_below
without-none passes x zero fails = refl
without-none passes x (suc c) fails = elim (cases_eq c x) [
  | inl e ↦ rw (without-self passes x c e, ap passes e ∙ fails, without-none passes x c fails) refl
  | inr ne ↦ rw (without-other passes x c ne, without-none passes x c fails) refl
]

without-less : (passes : ℕ → Bool) (x c : ℕ) → count_below passes c ≤ count_below (without passes x) c + 1
without-less passes x c = elim (cases_lt x c) [
  | inl less ↦ elim (cases_Bool (passes x)) [
    | inl here ↦ omega (arith, without-one passes x c less here)
    | inr fails ↦ omega (arith, without-none passes x c fails)
  ]
  | inr above ↦ omega (arith, without-above passes x c above)
]

count-none : (passes : ℕ → Bool) (c : ℕ) → ((k : ℕ) → k < c → passes k ≡ false) → count_below passes c ≡ 0
unfolding count_below
count-none passes zero none = refl
count-none passes (suc c) none = rw (none c (omega arith), count-none passes c (λ k below. none k (omega arith))) refl

-- no more pass than there are
pub count-most : (passes : ℕ → Bool) (c : ℕ) → count_below passes c ≤ c
unfolding count_below
count-most passes zero = omega arith
count-most passes (suc c) = let rest = count-most passes c in elim (cases_Bool (passes c)) [
  | inl here ↦ rw here (omega (arith, rest))
  | inr fails ↦ rw fails (omega (arith, rest))
]

-- m different numbers that pass
pub count-at_least : (m : ℕ) (f : ℕ → ℕ) (passes : ℕ → Bool) (c : ℕ) → ((i : ℕ) → i < m → (f i < c) × (passes (f i) ≡ true))
    → ((i j : ℕ) → i < j → j < m → f i ≢ f j) → m ≤ count_below passes c
count-at_least zero f passes c all apart = omega arith
count-at_least (suc m) f passes c all apart =
    let last = all m (omega arith) in
    let rest = count-at_least m f (without passes (f m)) c (λ i below. (let here = all i (omega arith) in (here.0, without-other passes (f m) (f i) (apart i m below (omega arith)) ∙ here.1))) (λ i j ij jm. apart i j ij (omega arith)) in
    omega (arith, rest, without-one passes (f m) c last.0 last.1)

-- all numbers that pass are among m
pub count-at_most : (m : ℕ) (f : ℕ → ℕ) (passes : ℕ → Bool) (c : ℕ) → ((k : ℕ) → k < c → passes k ≡ true → (i : ℕ) × (i < m) × (f i ≡ k))
    → count_below passes c ≤ m
count-at_most zero f passes c all =
    let none = count-none passes c (λ k below. false_from_ne_true (passes k) (λ here. let found = all k below here in omega (arith, found.1))) in
    omega (arith, none)
count-at_most (suc m) f passes c all =
    let rest : (k : ℕ) → k < c → without passes (f m) k ≡ true → (i : ℕ) × (i < m) × (f i ≡ k) =
    λ k below here. (
    let parts = and_parts (passes k) (not (eqb k (f m))) here in
    let found = all k below parts.0 in
    let other : found.0 ≢ m = λ e. eqb-false k (f m) (not-true (eqb k (f m)) parts.1) (sym found.2 ∙ ap f e) in
    (found.0, omega (arith, found.1), found.2)
    ) in
    omega (arith, count-at_most m f (without passes (f m)) c rest, without-less passes (f m) c)

pub any_below-none : (passes : ℕ → Bool) (n : ℕ) → ((i : ℕ) → i < n → passes i ≡ false) → any_below passes n ≡ false
unfolding any_below
any_below-none passes zero none = refl
any_below-none passes (suc n) none = rw (none n (omega arith), any_below-none passes n (λ i below. none i (omega arith))) refl
