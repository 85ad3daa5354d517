-- Which homes keep their slots.
use Rattle.std.proofs.Common.{◌≡◌, ◌≢◌, ◌⊎◌, ◌+◌, ◌-◌, ◌<◌, ◌≤◌, ℕ, zero, suc, Option, Some, None, Result, Ok, Err, Bool, true, false, List, length, get_or, is_some, is_ok, refl, sym, ap, subst, ◌∙◌, ⊎_elim, inl, inr, arith, if◌then◌else◌, ◌==◌}
use Rattle.std.proofs.lemmas.{Bool.{cases_eq, cases_lt, eq-eqb, Decides.{nat_tests}}, List.Sorted.{searched}}
use Rattle.std.specs.{List.Sorted.{IsBinarySearchResult}, Ordering.{nat_cmp}, Prelude.{MatchResult, nat_lt}}
use Rattle.pool_journal.specs.Giving.{AreRising, number_but, live_among}
use mir.Val.{bool_byte}
use Rattle.sync_journal.{proofs.Images.{Means, place_means}, specs.Map.{home_rank}}

-- of rising homes a later one is no lower
pub up : (homes : List ℕ) → AreRising homes → (i j : ℕ) → i ≤ j → j < length homes → get_or homes i 0 ≤ get_or homes j 0
up homes rising i j le below = ⊎_elim (λ same. (let e : get_or homes i 0 ≡ get_or homes j 0 = ap (λ k. get_or homes k 0) same in omega (arith, e)))
    (λ other. (let less : get_or homes i 0 < get_or homes j 0 = rising i j (omega (arith, le, other)) below in omega (arith, less)))
    (cases_eq i j)

-- a search among rising homes finds those that have a place there
pub ranked : (homes : List ℕ) (h : ℕ) (r : Result ℕ ℕ) → AreRising homes → IsBinarySearchResult (λ y. nat_cmp y h) homes r
    → is_ok r ≡ is_some (home_rank homes h)
ranked homes h r rising searches = here r (home_rank homes h) (searched homes h r searches (up homes rising)) (place_means (λ j. get_or homes j 0) h (length homes))
  where
    here : (r : Result ℕ ℕ) (o : Option ℕ)
        → MatchResult r (λ i. (i < length homes) × (get_or homes i 0 ≡ h))
        (λ i. (i ≤ length homes) × ((k : ℕ) → k < i → get_or homes k 0 < h) × ((k : ℕ) → i ≤ k → k < length homes → h < get_or homes k 0))
        → Means (λ j. get_or homes j 0) h (length homes) o → is_ok r ≡ is_some o
    here (Ok i) (Some j) found means = refl
    here (Ok i) None found means = absurd (means i found.0 found.1)
    here (Err i) None gap means = refl
    here (Err i) (Some j) gap means = ⊎_elim (λ before. (let low : get_or homes j 0 < h = gap.1 j before in absurd (omega (arith, low, means.1))))
        (λ after. (let high : h < get_or homes j 0 = gap.2 j after means.0 in absurd (omega (arith, high, means.1))))
        (cases_lt j i)

-- one that lies before the first of them or behind the last one is none of them
pub not_ranked : (homes : List ℕ) (h : ℕ) → AreRising homes → (0 < length homes → get_or homes 0 0 ≤ h → h ≤ get_or homes (length homes - 1) 0 → ⊥) → home_rank homes h ≡ None
not_ranked homes h rising out = here (home_rank homes h) refl (place_means (λ j. get_or homes j 0) h (length homes))
  where
    here : (o : Option ℕ) → home_rank homes h ≡ o → Means (λ j. get_or homes j 0) h (length homes) o → home_rank homes h ≡ None
    here None is means = is
    here (Some j) is means =
        let low = up homes rising 0 j (omega arith) means.0 in
        let high = up homes rising j (length homes - 1) (let within = means.0 in omega (arith, within)) (let within = means.0 in omega (arith, within)) in
        let at = means.1 in
        absurd (out (let within = means.0 in omega (arith, within)) (omega (arith, low, at)) (omega (arith, high, at)))

-- how many are given depends on the first n places alone
pub live_same : (names others : ℕ → ℕ) (n : ℕ) → ((j : ℕ) → j < n → names j ≡ others j) → live_among names n ≡ live_among others n
unfolding live_among
live_same names others zero same = refl
live_same names others (suc n) same =
    ap (λ k. k + (if names n == 0 then 0 else 1)) (live_same names others n (λ j below. same j (omega (arith, below))))
    ∙ ap (λ number. live_among others n + (if number == 0 then 0 else 1)) (same n (omega arith))

-- one more, where a number is above 0
one_if : (number : ℕ) → bool_byte (nat_lt 0 number) ≡ if number == 0 then 0 else 1
one_if number = ⊎_elim
    (λ same. (let no' : nat_lt 0 number ≡ false = grind (arith, nat_tests) in ap bool_byte no' ∙ sym (ap (λ b. if b then 0 else 1) (eq-eqb number 0 same))))
    (λ other. (let yes' : nat_lt 0 number ≡ true = grind (arith, nat_tests) in let no' : (number == 0) ≡ false = grind (arith, nat_tests) in
    ap bool_byte yes' ∙ sym (ap (λ b. if b then 0 else 1) no')))
    (cases_eq number 0)

-- a number is left, or becomes 0
pub but_either : (homes : List ℕ) (number : ℕ) → (number_but homes number ≡ 0) ⊎ (number_but homes number ≡ number)
but_either homes zero = inl refl
but_either homes (suc h) = here (is_some (home_rank homes h))
  where
    here : (b : Bool) → ((if b then 0 else suc h) ≡ 0) ⊎ ((if b then 0 else suc h) ≡ suc h)
    here true = inl refl
    here false = inr refl

-- it is left where no home from the first to the last one is its
pub but_left : (homes : List ℕ) (number : ℕ) → AreRising homes → (0 < length homes → get_or homes 0 0 < number → number ≤ get_or homes (length homes - 1) 0 + 1 → ⊥) → number_but homes number ≡ number
but_left homes zero rising out = refl
but_left homes (suc h) rising out = ap (λ o. if is_some o then 0 else suc h) (not_ranked homes h rising (λ some low high. out some (omega (arith, low)) (omega (arith, high))))

-- one slot less is given where one place changes to 0
one_gone : (was now : ℕ) → (now ≡ 0) ⊎ (now ≡ was) → bool_byte (nat_lt now was) + (if now == 0 then 0 else 1) ≡ if was == 0 then 0 else 1
one_gone was now (inl none) = subst (λ k. bool_byte (nat_lt k was) + (if k == 0 then 0 else 1) ≡ if was == 0 then 0 else 1) (sym none) (let e = one_if was in omega (arith, e))
one_gone was now (inr same) = subst (λ k. bool_byte (nat_lt k was) + (if k == 0 then 0 else 1) ≡ if was == 0 then 0 else 1) (sym same)
    (let no' : nat_lt was was ≡ false = grind (arith, nat_tests) in let e = ap bool_byte no' in omega (arith, e))

pub byte_most : (b : Bool) → bool_byte b ≤ 1
byte_most true = omega arith
byte_most false = omega arith

pub live_less : (names others : ℕ → ℕ) (p n : ℕ) → p < n → ((r : ℕ) → r ≢ p → others r ≡ names r) → (others p ≡ 0) ⊎ (others p ≡ names p)
    → bool_byte (nat_lt (others p) (names p)) + live_among others n ≡ live_among names n
unfolding live_among
live_less names others p zero below same here = absurd (omega (arith, below))
live_less names others p (suc n) below same here = ⊎_elim
    (λ last. (let e = live_same others names n (λ r less. same r (λ at. omega (arith, at, less, last))) in
    let f = one_gone (names p) (others p) here in
    let g = ap {B = ℕ} (λ k. if others k == 0 then 0 else 1) last in
    let h = ap {B = ℕ} (λ k. if names k == 0 then 0 else 1) last in
    omega (arith, e, f, g, h)))
    (λ other. (let e = live_less names others p n (omega (arith, below, other)) same here in
    let f = ap {B = ℕ} (λ x. if x == 0 then 0 else 1) (same n (λ at. other at)) in
    omega (arith, e, f)))
    (cases_eq n p)
