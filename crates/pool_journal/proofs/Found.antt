-- Places of a number among others.
use Rattle.std.proofs.Common.{◌≡◌, ◌+◌, ◌*◌, ◌<◌, ◌≤◌, ◌≢◌, ℕ, zero, suc, Option, Some, None, Bool, true, false, List, length, get_or, take, refl, sym, ap, subst, ◌∙◌, ⊎_elim, arith, if◌then◌else◌, ◌==◌, ◌++◌, ◌∷◌, [], add-one}
use Rattle.std.proofs.lemmas.{Bool.{cases_eq, cases_lt, eq-eqb, Decides.{nat_tests}}, List.{append_assoc, append-nil, length-take-le, take_all, take-append-le, take-take}}
use Rattle.pool_journal.specs.{Maps.{entries_of, IsMapOf, free_among}, Pools.{first_among, some_or}, declared.{map.SlotMap.{SlotMap}, slot.Slot.{Slot}}}
use mir.Val.{bool_byte}

eqb-ne : (m n : ℕ) → m ≢ n → (m == n) ≡ false
eqb-ne m n other = grind (arith, nat_tests)

-- a place that was found stays the first
pub first_stays : (names : ℕ → ℕ) (x j r n : ℕ) → first_among names x j ≡ Some r → j ≤ n → first_among names x n ≡ Some r
unfolding first_among
first_stays names x j r zero found most = (let same : j ≡ 0 = omega (arith, most) in subst (λ n. first_among names x n ≡ Some r) same found)
first_stays names x j r (suc n) found most = ⊎_elim
    (λ same. subst (λ n. first_among names x n ≡ Some r) same found)
    (λ other. ap (λ o. some_or o (if names n == x then Some n else None)) (first_stays names x j r n found (omega (arith, most, other))))
    (cases_eq j (suc n))

-- one that comes after none is the first
pub first_here : (names : ℕ → ℕ) (x j : ℕ) → first_among names x j ≡ None → names j ≡ x → first_among names x (j + 1) ≡ Some j
unfolding first_among
first_here names x j none here = rw add-one (ap (λ o. some_or o (if names j == x then Some j else None)) none ∙ ap (λ b. if b then Some j else None) (eq-eqb (names j) x here))

pub none_more : (names : ℕ → ℕ) (x j : ℕ) → first_among names x j ≡ None → names j ≢ x → first_among names x (j + 1) ≡ None
unfolding first_among
none_more names x j none other = rw add-one (ap (λ o. some_or o (if names j == x then Some j else None)) none ∙ ap (λ b. if b then Some j else None) (eqb-ne (names j) x other))

-- nor do more places that do not name it
pub none_over : (names : ℕ → ℕ) (x j k : ℕ) → first_among names x j ≡ None → ((i : ℕ) → i < k → names (j + i) ≡ x → ⊥) → first_among names x (j + k) ≡ None
none_over names x j zero none others = let same : j ≡ j + 0 = omega arith in subst (λ n. first_among names x n ≡ None) same none
none_over names x j (suc k) none others =
    let same : j + k + 1 ≡ j + suc k = omega arith in
    subst (λ n. first_among names x n ≡ None) same (none_more names x (j + k) (none_over names x j k none (λ i below. others i (omega (arith, below)))) (others k (omega arith)))

-- the free places of one more
pub free_more : (names : ℕ → ℕ) (body : Bool) (j : ℕ) → free_among names body (j + 1) ≡ free_among names body j ++ (if names j == 0 then record { second = body; place = j } ∷ [] else [])
unfolding free_among
free_more names body j = rw add-one refl

-- where no place is free none is listed
pub none_free : (names : ℕ → ℕ) (body : Bool) (n : ℕ) → first_among names 0 n ≡ None → free_among names body n ≡ []
unfolding first_among free_among
none_free names body zero none = refl
none_free names body (suc n) none = step (first_among names 0 n) (names n == 0) none (none_free names body n)
  where
    step : (o : Option ℕ) (b : Bool) → some_or o (if b then Some n else None) ≡ None → (o ≡ None → free_among names body n ≡ [])
        → free_among names body n ++ (if b then record { second = body; place = n } ∷ [] else []) ≡ []
    step None false is before = ap (λ l. l ++ []) (before refl)
    step None true is before = absurd (cc)
    step (Some r) b is before = absurd (cc)

-- one, where it is 0
pub one_where : (b : Bool) → bool_byte b ≡ if b then 1 else 0
one_where true = refl
one_where false = refl

pub one_most : (b : Bool) → (if b then 1 else 0) ≤ 1
one_most true = omega arith
one_most false = omega arith

-- those of more places begin with those of fewer
free_grows : (names : ℕ → ℕ) (body : Bool) (j n : ℕ) → j ≤ n → (rest : List Slot) × (free_among names body n ≡ free_among names body j ++ rest)
unfolding free_among
free_grows names body j zero most = ([], (let none : j ≡ 0 = omega (arith, most) in ap (λ k. free_among names body k) (sym none) ∙ sym (append-nil (free_among names body j))))
free_grows names body j (suc n) most = ⊎_elim
    (λ same. ([], ap (λ k. free_among names body k) (sym same) ∙ sym (append-nil (free_among names body j))))
    (λ other.
    let before = free_grows names body j n (omega (arith, most, other)) in
    let last : List Slot = if names n == 0 then record { second = body; place = n } ∷ [] else [] in
    (before.0 ++ last, ap (λ l. l ++ last) before.1 ∙ append_assoc (free_among names body j) before.0 last))
    (cases_eq j (suc n))

-- a list is cut off behind so many, which may be all that it has so far,
pub taken_here : (most : ℕ) (xs now : List Slot) (names : ℕ → ℕ) (body : Bool) (j n : ℕ) → now ≡ xs ++ free_among names body j → length now ≡ most → j ≤ n → now ≡ take most (xs ++ free_among names body n)
taken_here most xs now names body j n is long below =
    let more = free_grows names body j n below in
    sym (ap (λ l. take most (xs ++ l)) more.1 ∙ ap (take most) (sym (append_assoc xs (free_among names body j) more.0)) ∙ ap (λ l. take most (l ++ more.0)) (sym is)
    ∙ take-append-le most now more.0 (omega (arith, long)) ∙ take_all most now (omega (arith, long)))

-- and may be cut off before more is put to it
pub taken_twice : (most : ℕ) (xs ys : List Slot) → take most (take most xs ++ ys) ≡ take most (xs ++ ys)
taken_twice most xs ys = ⊎_elim
    (λ less. (let long = length-take-le most xs (omega (arith, less)) in take-append-le most (take most xs) ys (omega (arith, long)) ∙ take-take most most xs (omega arith) ∙ sym (take-append-le most xs ys (omega (arith, less)))))
    (λ few. ap (λ l. take most (l ++ ys)) (take_all most xs few))
    (cases_lt most (length xs))

-- what a body lists
pub body_free : (map : SlotMap) (second : Bool) (numbers : List ℕ) (m : ℕ) → IsMapOf m map → (second ≡ false → numbers ≡ map.first.items) → (second ≡ true → numbers ≡ map.second.items)
    → free_among (λ r. get_or numbers r 0) second (length numbers) ≡ free_among (entries_of map second) second (504 * m)
body_free map false numbers m fits first other = ap (λ xs. free_among (λ r. get_or xs r 0) false (length xs)) (first refl) ∙ ap (free_among (entries_of map false) false) fits.0
body_free map true numbers m fits first other = ap (λ xs. free_among (λ r. get_or xs r 0) true (length xs)) (other refl) ∙ ap (free_among (entries_of map true) true) fits.1
