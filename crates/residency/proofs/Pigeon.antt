-- Things that have codes of their own are no more than the codes.
use Rattle.residency.proofs.Names.{◌≡◌, ◌≢◌, ℕ, zero, suc, ◌+◌, ◌<◌, ◌≤◌, Bool, true, false, ◌==◌, ◌&&◌, inl, inr, if◌then◌else◌, refl, sym, ap, ◌∙◌, arith, eq-eqb, cases_Bool, eqb-true, and_parts, count_below, sum_below, one_less}
use Rattle.residency.proofs.Counts.{count-same, sum-below, sum-one}

-- a place in a row of a group
pub record Code : Type 0 where
  pub group : ℕ
  pub row : ℕ
  pub place : ℕ

abbrev pub code : ℕ → ℕ → ℕ → Code
code a b i = record { group = a; row = b; place = i }

abbrev code_eq : Code → Code → Bool
code_eq x y = (x.group == y.group) && ((x.row == y.row) && (x.place == y.place))

code_same : (x : Code) → code_eq x x ≡ true
code_same x = rw (eq-eqb x.group x.group refl) (rw (eq-eqb x.row x.row refl) (rw (eq-eqb x.place x.place refl) refl))

code_is : (x y : Code) → code_eq x y ≡ true → x ≡ y
code_is x y t =
    let h = and_parts (x.group == y.group) ((x.row == y.row) && (x.place == y.place)) t in
    let i = and_parts (x.row == y.row) (x.place == y.place) h.1 in
    let e : x ≡ code y.group x.row x.place = ap (λ z. code z x.row x.place) (eqb-true x.group y.group h.0) in
    let f : code y.group y.row x.place ≡ y = ap (λ z. code y.group y.row z) (eqb-true x.place y.place i.1) in
    e ∙ ap (λ z. code y.group z x.place) (eqb-true x.row y.row i.0) ∙ f

-- so many groups, rows in each, and places in each row
module _ (groups : ℕ) (rows : ℕ → ℕ) (places : ℕ → ℕ → ℕ) where
  abbrev pub is_inside : Code → Type 0
  is_inside x = (x.group < groups) × (x.row < rows x.group) × (x.place < places x.group x.row)

  -- how many codes pass
  unfoldable pub passing : (Code → Bool) → ℕ
  passing Q = sum_below (λ a. sum_below (λ b. count_below (λ i. Q (code a b i)) (places a b)) (rows a)) groups

  one_code_less : (P Q : Code → Bool) (x : Code) → is_inside x → P x ≡ true → Q x ≡ false → ((y : Code) → y ≢ x → P y ≡ Q y) → passing P ≡ passing Q + 1
  unfolding passing
  one_code_less P Q x (a, b, i) here gone others =
      let in_row : (Code → Bool) → ℕ → ℕ → ℕ = λ F g r. count_below (λ k. F (code g r k)) (places g r) in
      let in_group : (Code → Bool) → ℕ → ℕ = λ F g. sum_below (in_row F g) (rows g) in
      sum-one (in_group P) (in_group Q) x.group groups a
      (sum-one (in_row P x.group) (in_row Q x.group) x.row (rows x.group) b
      (one_less (λ k. P (code x.group x.row k)) (λ k. Q (code x.group x.row k)) x.place (places x.group x.row) i here gone (λ k ne. others (code x.group x.row k) (λ e. ne (ap (λ (y : Code). y.place) e))))
      (λ r ne. count-same (λ k. P (code x.group r k)) (λ k. Q (code x.group r k)) (places x.group r) (λ k. others (code x.group r k) (λ e. ne (ap (λ (y : Code). y.row) e)))))
      (λ g ne. sum-below (in_row P g) (in_row Q g) (rows g) (rows g) (omega arith)
      (λ r _. count-same (λ k. P (code g r k)) (λ k. Q (code g r k)) (places g r) (λ k. others (code g r k) (λ e. ne (ap (λ (y : Code). y.group) e)))))

  abbrev without : (Code → Bool) → Code → Code → Bool
  without P x y = if code_eq y x then false else P y

  without-other : (P : Code → Bool) (x y : Code) → y ≢ x → without P x y ≡ P y
  without-other P x y ne = elim (cases_Bool (code_eq y x)) [ inl t ↦ absurd (ne (code_is y x t)) | inr f ↦ rw f refl ]

  pub pigeons : (passes : ℕ → Bool) (of : (k : ℕ) → passes k ≡ true → Code) (n : ℕ) (Q : Code → Bool)
      → ((k : ℕ) (h : passes k ≡ true) → is_inside (of k h)) → ((k : ℕ) (h : passes k ≡ true) → k < n → Q (of k h) ≡ true)
      → ((j k : ℕ) (h : passes j ≡ true) (i : passes k ≡ true) → j < n → k < n → of j h ≡ of k i → j ≡ k)
      → count_below passes n ≤ passing Q
  unfolding count_below
  pigeons passes of zero Q inner holds apart = omega arith
  pigeons passes of (suc n) Q inner holds apart = elim (cases_Bool (passes n)) [
    | inl t ↦ (
        let x = of n t in
        let rest = pigeons passes of n (without Q x) inner
        (λ k h below. without-other Q x (of k h) (λ same. (let is = apart k n h t (omega (arith, below)) (omega arith) same in omega (arith, is, below))) ∙ holds k h (omega (arith, below))) (λ j k h i lt lt'. apart j k h i (omega (arith, lt)) (omega (arith, lt'))) in
        let more = one_code_less Q (without Q x) x (inner n t) (holds n t (omega arith)) (rw (code_same x) refl) (λ y ne. sym (without-other Q x y ne)) in
        rw t (omega (arith, rest, more)))
    | inr f ↦ (
        let rest = pigeons passes of n Q inner (λ k h below. holds k h (omega (arith, below))) (λ j k h i lt lt'. apart j k h i (omega (arith, lt)) (omega (arith, lt'))) in
        rw f (omega (arith, rest)))
  ]
