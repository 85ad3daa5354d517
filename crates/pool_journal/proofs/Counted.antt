-- How many slots a map leaves free and how many it gives to homes, before and after some are given.
use Rattle.std.proofs.Common.{◌≡◌, ◌≢◌, ◌⊎◌, ◌≤◌, ◌<◌, ◌+◌, ◌*◌, ◌++◌, ◌∷◌, [], ℕ, zero, suc, Bool, true, false, List, length, refl, sym, ap, ◌∙◌, ⊎_elim, inl, inr, arith, if◌then◌else◌, ◌==◌}
use Rattle.std.proofs.lemmas.{Bool.{cases_eq, cases_lt, Decides.{nat_tests}}, List.{length-append}}
use Rattle.std.specs.Prelude.{nat_lt}
use Rattle.pool_journal.{proofs.{Taken.{live_same}, Thinned.{is_given}}, specs.{Giving.{slot_at, live_among, GivesFirst}, Journal.{free_count, live_count}, Maps.{entries_of, free_among}}}
use Rattle.pool_journal.specs.declared.{map.SlotMap.{SlotMap}, slot.Slot.{Slot}}

-- a place is free or given
free_or_live : (names : ℕ → ℕ) (body : Bool) (n : ℕ) → length (free_among names body n) + live_among names n ≡ n
unfolding free_among live_among
free_or_live names body zero = refl
free_or_live names body (suc n) = step (free_or_live names body n) (names n == 0)
  where
    step : length (free_among names body n) + live_among names n ≡ n → (b : Bool)
        → length (free_among names body n ++ (if b then record { second = body; place = n } ∷ [] else [])) + (live_among names n + (if b then 0 else 1)) ≡ suc n
    step all true = let long = length-append (free_among names body n) (record { second = body; place = n } ∷ []) in omega (arith, long, all)
    step all false = let long = length-append (free_among names body n) [] in omega (arith, long, all)

pub free_and_live : (m : ℕ) (entries : Bool → ℕ → ℕ) → free_count m entries + live_count m entries ≡ 1008 * m
free_and_live m entries =
    let long = length-append (free_among (entries false) false (504 * m)) (free_among (entries true) true (504 * m)) in
    let one = free_or_live (entries false) false (504 * m) in
    let two = free_or_live (entries true) true (504 * m) in
    omega (arith, long, one, two)

-- so many fit
pub not_full : (a b : ℕ) → nat_lt a b ≡ false → b ≤ a
not_full a b is = ⊎_elim (λ less. (let yes' : nat_lt a b ≡ true = grind (arith, nat_tests) in let bad : true ≡ false = sym yes' ∙ is in cc)) (λ most. most) (cases_lt a b)

-- no place is given
live_none : (names : ℕ → ℕ) (n : ℕ) → ((r : ℕ) → names r ≡ 0) → live_among names n ≡ 0
unfolding live_among
live_none names zero none = refl
live_none names (suc n) none = step (live_none names n none) (ap (λ x. x == 0) (none n))
  where
    step : live_among names n ≡ 0 → (names n == 0) ≡ true → live_among names n + (if names n == 0 then 0 else 1) ≡ 0
    step before free = let e = ap {B = ℕ} (λ b. if b then 0 else 1) free in omega (arith, before, e)

pub none_live : (m : ℕ) (entries : Bool → ℕ → ℕ) → ((body : Bool) (r : ℕ) → entries body r ≡ 0) → live_count m entries ≡ 0
none_live m entries none = (let one = live_none (entries false) (504 * m) (none false) in let two = live_none (entries true) (504 * m) (none true) in omega (arith, one, two))

-- all places but one are given to the same
one_live : (names others : ℕ → ℕ) (p n : ℕ) → ((r : ℕ) → r ≢ p → others r ≡ names r) → live_among others n ≤ live_among names n + 1
unfolding live_among
one_live names others p zero same = omega arith
one_live names others p (suc n) same = ⊎_elim
    (λ at. here (names n == 0) (others n == 0) (live_same others names n (λ r below. same r (λ here. omega (arith, here, below, at)))))
    (λ other. there (one_live names others p n same) (ap (λ x. x == 0) (same n other)))
    (cases_eq n p)
  where
    here : (a b : Bool) → live_among others n ≡ live_among names n → live_among others n + (if b then 0 else 1) ≤ live_among names n + (if a then 0 else 1) + 1
    here true true e = omega (arith, e)
    here true false e = omega (arith, e)
    here false true e = omega (arith, e)
    here false false e = omega (arith, e)

    there : live_among others n ≤ live_among names n + 1 → (others n == 0) ≡ (names n == 0)
        → live_among others n + (if others n == 0 then 0 else 1) ≤ live_among names n + (if names n == 0 then 0 else 1) + 1
    there before same' = let e = ap {B = ℕ} (λ b. if b then 0 else 1) same' in omega (arith, before, e)

-- Slots are given to homes, one after another.
module _ (m n : ℕ) (slots : List Slot) (homes : List ℕ) (old new : SlotMap) (given : GivesFirst n slots homes old new) where
  abbrev Among : ℕ → Bool → ℕ → Type 0
  Among i body r = (j : ℕ) × (j < i) × (r ≡ (slot_at slots j).place) × (body ≡ (slot_at slots j).second)

  abbrev Beside : ℕ → Bool → ℕ → Type 0
  Beside i body r = (j : ℕ) → j < i → r ≡ (slot_at slots j).place → body ≡ (slot_at slots j).second → ⊥

  pick : (i : ℕ) (body : Bool) (r : ℕ) → Among i body r ⊎ Beside i body r → ℕ
  pick i body r (inl slot) = entries_of new body r
  pick i body r (inr none) = entries_of old body r

  -- what the slots are given to once the first i of them are
  upto : ℕ → Bool → ℕ → ℕ
  upto i body r = pick i body r (is_given i slots body r)

  upto_new : (i : ℕ) (body : Bool) (r : ℕ) → Among i body r → upto i body r ≡ entries_of new body r
  unfolding pick upto
  upto_new i body r slot = from (is_given i slots body r)
    where
      from : (d : Among i body r ⊎ Beside i body r) → pick i body r d ≡ entries_of new body r
      from (inl found) = refl
      from (inr none) = absurd (none slot.0 slot.1 slot.2 slot.3)

  upto_old : (i : ℕ) (body : Bool) (r : ℕ) → Beside i body r → upto i body r ≡ entries_of old body r
  unfolding pick upto
  upto_old i body r none = from (is_given i slots body r)
    where
      from : (d : Among i body r ⊎ Beside i body r) → pick i body r d ≡ entries_of old body r
      from (inl slot) = absurd (none slot.0 slot.1 slot.2 slot.3)
      from (inr other) = refl

  -- one slot more
  next_same : (i : ℕ) (body : Bool) (r : ℕ) → (r ≡ (slot_at slots i).place → body ≡ (slot_at slots i).second → ⊥) → upto (suc i) body r ≡ upto i body r
  next_same i body r other = ⊎_elim
      (λ slot. upto_new (suc i) body r (slot.0, omega (arith, slot.1), slot.2, slot.3) ∙ sym (upto_new i body r slot))
      (λ none. upto_old (suc i) body r (λ j below place second. ⊎_elim
      (λ at. other (place ∙ ap (λ k. (slot_at slots k).place) at) (second ∙ ap (λ k. (slot_at slots k).second) at))
      (λ apart. none j (omega (arith, below, apart)) place second) (cases_eq j i)) ∙ sym (upto_old i body r none))
      (is_given i slots body r)

  next_live : (i : ℕ) (b : Bool) → (slot_at slots i).second ≡ b → live_count m (upto (suc i)) ≤ live_count m (upto i) + 1
  next_live i false is =
      let one = one_live (upto i false) (upto (suc i) false) (slot_at slots i).place (504 * m) (λ r other. next_same i false r (λ place second. other place)) in
      let two = live_same (upto (suc i) true) (upto i true) (504 * m) (λ r below. next_same i true r (λ place second. (let bad = second ∙ is in cc))) in
      omega (arith, one, two)
  next_live i true is =
      let one = one_live (upto i true) (upto (suc i) true) (slot_at slots i).place (504 * m) (λ r other. next_same i true r (λ place second. other place)) in
      let two = live_same (upto (suc i) false) (upto i false) (504 * m) (λ r below. next_same i false r (λ place second. (let bad = second ∙ is in cc))) in
      omega (arith, one, two)

  upto_live : (i : ℕ) → live_count m (upto i) ≤ live_count m (entries_of old) + i
  upto_live zero =
      let one = live_same (upto 0 false) (entries_of old false) (504 * m) (λ r inside. upto_old 0 false r (λ j below. absurd (omega (arith, below)))) in
      let two = live_same (upto 0 true) (entries_of old true) (504 * m) (λ r inside. upto_old 0 true r (λ j below. absurd (omega (arith, below)))) in
      omega (arith, one, two)
  upto_live (suc i) = (let before = upto_live i in let more = next_live i (slot_at slots i).second refl in omega (arith, before, more))

  all_new : (body : Bool) (r : ℕ) → upto n body r ≡ entries_of new body r
  all_new body r = ⊎_elim (λ slot. upto_new n body r slot) (λ none. upto_old n body r none ∙ sym (given.others body r none)) (is_given n slots body r)

  -- no more are given than before and these
  pub given_live : live_count m (entries_of new) ≤ live_count m (entries_of old) + n
  given_live =
      let one = live_same (upto n false) (entries_of new false) (504 * m) (λ r below. all_new false r) in
      let two = live_same (upto n true) (entries_of new true) (504 * m) (λ r below. all_new true r) in
      let all = upto_live n in
      omega (arith, one, two, all)
