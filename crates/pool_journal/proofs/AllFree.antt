-- How many slots a map gives to no home: all of them exactly where it gives none to one.
use Rattle.std.proofs.Common.{◌≡◌, ◌≤◌, ◌<◌, ◌+◌, ◌*◌, ◌∷◌, ◌==◌, ℕ, zero, suc, Bool, true, false, [], length, if◌then◌else◌, refl, ap, ◌∙◌, ⊎_elim, arith, add-one}
use Rattle.std.proofs.lemmas.{Bool.{cases_eq, eqb-true, eq-eqb}, List.{length-append}}
use Rattle.pool_journal.specs.{Journal.{free_count}, Maps.{free_among}, Recovering.{GivesNone}, declared.slot.Slot.{Slot}}

module _ (names : ℕ → ℕ) (body : Bool) where
  abbrev pub counts : ℕ → ℕ
  counts n = length (free_among names body n)

  pub one_or_none : (b : Bool) (s : Slot) → length (if b then s ∷ [] else []) ≡ if b then 1 else 0
  one_or_none true s = refl
  one_or_none false s = refl

  one_more : (n : ℕ) → counts (suc n) ≡ counts n + (if names n == 0 then 1 else 0)
  unfolding free_among
  one_more n = length-append (free_among names body n) _ ∙ ap (λ k. counts n + k) (one_or_none (names n == 0) (record { second = body; place = n }))

  pub counts_more : (n : ℕ) → counts (n + 1) ≡ counts n + (if names n == 0 then 1 else 0)
  counts_more n = rw add-one (one_more n)

  pub few_free : (n : ℕ) → counts n ≤ n
  unfolding free_among
  few_free zero = omega arith
  few_free (suc n) = step (few_free n) (names n == 0) refl
    where
      step : counts n ≤ n → (b : Bool) → (names n == 0) ≡ b → counts (suc n) ≤ suc n
      step few true is = (let more = one_more n ∙ ap (λ b. counts n + (if b then 1 else 0)) is in omega (arith, more, few))
      step few false is = (let more = one_more n ∙ ap (λ b. counts n + (if b then 1 else 0)) is in omega (arith, more, few))

  pub all_free : (n : ℕ) → counts n ≡ n → (j : ℕ) → j < n → names j ≡ 0
  all_free zero all j none = absurd (omega (arith, none))
  all_free (suc n) all j below = step (λ before. all_free n before j) (names n == 0) refl
    where
      step : (counts n ≡ n → j < n → names j ≡ 0) → (b : Bool) → (names n == 0) ≡ b → names j ≡ 0
      step earlier true is = (let more = one_more n ∙ ap (λ b. counts n + (if b then 1 else 0)) is in
          ⊎_elim (λ last. ap names last ∙ eqb-true (names n) 0 is) (λ other. earlier (omega (arith, more, all)) (omega (arith, below, other))) (cases_eq j n))
      step earlier false is = (let more = one_more n ∙ ap (λ b. counts n + (if b then 1 else 0)) is in let few = few_free n in absurd (omega (arith, more, few, all)))

  pub none_given : (n : ℕ) → ((j : ℕ) → j < n → names j ≡ 0) → counts n ≡ n
  unfolding free_among
  none_given zero none = refl
  none_given (suc n) none =
      let more = one_more n ∙ ap (λ b. counts n + (if b then 1 else 0)) (eq-eqb (names n) 0 (none n (omega arith))) in
      let before = none_given n (λ j below. none j (omega (arith, below))) in
      omega (arith, more, before)

module _ (m : ℕ) (entries : Bool → ℕ → ℕ) where
  pub in_all : free_count m entries ≡ length (free_among (entries false) false (504 * m)) + length (free_among (entries true) true (504 * m))
  in_all = length-append (free_among (entries false) false (504 * m)) (free_among (entries true) true (504 * m))

  pub all_counted : GivesNone m entries → free_count m entries ≡ 2 * (504 * m)
  all_counted none =
      let one = none_given (entries false) false (504 * m) (none false) in
      let two = none_given (entries true) true (504 * m) (none true) in
      omega (arith, in_all, one, two)

  pub none_left : 2 * (504 * m) ≤ free_count m entries → GivesNone m entries
  none_left all = each
    where
      full : (length (free_among (entries false) false (504 * m)) ≡ 504 * m) × (length (free_among (entries true) true (504 * m)) ≡ 504 * m)
      full = let one = few_free (entries false) false (504 * m) in let two = few_free (entries true) true (504 * m) in (omega (arith, all, in_all, one, two), omega (arith, all, in_all, one, two))

      each : GivesNone m entries
      each false r below = all_free (entries false) false (504 * m) full.0 r below
      each true r below = all_free (entries true) true (504 * m) full.1 r below
