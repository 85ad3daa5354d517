-- The slots that a map gives to no home, in one order or another: they are apart.
use Rattle.std.proofs.Common.{◌≡◌, ◌+◌, ◌*◌, ◌<◌, ◌≤◌, ◌-◌, ◌++◌, ◌∷◌, [], ℕ, zero, suc, Bool, true, false, not, List, length, take, refl, sym, ap, subst, ◌∙◌, ⊎_elim, arith, if◌then◌else◌, ◌==◌}
use Rattle.std.{proofs.lemmas.{Bool.{cases_eq, cases_lt, eqb-true, Decides.{nat_tests}}, List.{append-nil, get_or_append_left, get_or-append_right, get_or-take, length-append, length-take}}, specs.Prelude.{nat_lt}}
use Rattle.pool_journal.specs.{Giving.{slot_at, AreApart, AreFree}, Journal.{free_count}, Maps.{free_among, free_slots, behind}}
use Rattle.pool_journal.specs.declared.slot.Slot.{Slot}

-- slots of one body in rising order, that are given to none
pub record IsFreeList (names : ℕ → ℕ) (body : Bool) (n : ℕ) (slots : List Slot) : Type 0 where
  pub of_body : (j : ℕ) → j < length slots → (slot_at slots j).second ≡ body
  pub below : (j : ℕ) → j < length slots → (slot_at slots j).place < n
  pub free : (j : ℕ) → j < length slots → names (slot_at slots j).place ≡ 0
  pub rising : (i j : ℕ) → i < j → j < length slots → (slot_at slots i).place < (slot_at slots j).place

left_at : (xs ys : List Slot) (j : ℕ) → j < length xs → slot_at (xs ++ ys) j ≡ slot_at xs j
left_at xs ys j below = get_or_append_left xs ys (record { second = false; place = 0 }) j below

right_at : (xs ys : List Slot) (j : ℕ) → length xs ≤ j → slot_at (xs ++ ys) j ≡ slot_at ys (j - length xs)
right_at xs ys j from = get_or-append_right xs ys (length xs) j (record { second = false; place = 0 }) refl from

last_at : (xs : List Slot) (s : Slot) (j : ℕ) → j ≡ length xs → slot_at (xs ++ s ∷ []) j ≡ s
last_at xs s j at = right_at xs (s ∷ []) j (omega (arith, at)) ∙ (let none : j - length xs ≡ 0 = omega (arith, at) in ap (λ k. slot_at (s ∷ []) k) none)

-- one place more
one_more : (names : ℕ → ℕ) (body : Bool) (n : ℕ) (xs : List Slot) → IsFreeList names body n xs → names n ≡ 0
    → IsFreeList names body (suc n) (xs ++ record { second = body; place = n } ∷ [])
one_more names body n xs are free = record {
  of_body = λ j within. ⊎_elim (λ before. ap (λ s. s.second) (left_at xs _ j before)
      ∙ are.of_body j before) (λ from. ap (λ s. s.second) (last_at xs _ j (at j within from))) (cases_lt j (length xs));
  below = λ j within. ⊎_elim (λ before. (let e = ap (λ s. s.place) (left_at xs (here ∷ []) j before) in let less = are.below j before in
      omega (arith, e, less)))
      (λ from. (let e = ap (λ s. s.place) (last_at xs here j (at j within from)) in omega (arith, e))) (cases_lt j (length xs));
  free = λ j within. ⊎_elim (λ before. ap (λ s. names s.place) (left_at xs _ j before)
      ∙ are.free j before) (λ from. ap (λ s. names s.place) (last_at xs _ j (at j within from)) ∙ free) (cases_lt j (length xs));
  rising = λ i j less within.
      let long = length-append xs (here ∷ []) in
      let first : i < length xs = omega (arith, less, within, long) in
      let e = ap (λ s. s.place) (left_at xs (here ∷ []) i first) in
      ⊎_elim (λ before. (let e' = ap (λ s. s.place) (left_at xs (here ∷ []) j before) in let rises = are.rising i j less before in omega (arith, e, e', rises)))
      (λ from. (let e' = ap (λ s. s.place) (last_at xs here j (at j within from)) in let low = are.below i first in
      omega (arith, e, e', low))) (cases_lt j (length xs));
}
  where
    here : Slot
    here = record { second = body; place = n }

    at : (j : ℕ) → j < length (xs ++ here ∷ []) → length xs ≤ j → j ≡ length xs
    at j within from = let long = length-append xs (here ∷ []) in omega (arith, within, from, long)

one_past : (names : ℕ → ℕ) (body : Bool) (n : ℕ) (xs : List Slot) → IsFreeList names body n xs → IsFreeList names body (suc n) (xs ++ [])
one_past names body n xs are = subst (IsFreeList names body (suc n)) (sym (append-nil xs)) (record {
  of_body = are.of_body;
  below = λ j within. (let less = are.below j within in omega (arith, less));
  free = are.free;
  rising = are.rising;
})

pub free_list : (names : ℕ → ℕ) (body : Bool) (n : ℕ) → IsFreeList names body n (free_among names body n)
unfolding free_among
free_list names body zero = record {
  of_body = λ j none. absurd (omega (arith, none));
  below = λ j none. absurd (omega (arith, none));
  free = λ j none. absurd (omega (arith, none));
  rising = λ i j less none. absurd (omega (arith, none));
}
free_list names body (suc n) = step (free_list names body n) (names n == 0) refl
  where
    step : IsFreeList names body n (free_among names body n) → (b : Bool) → (names n == 0) ≡ b
        → IsFreeList names body (suc n) (free_among names body n ++ (if b then record { second = body; place = n } ∷ [] else []))
    step are true is = one_more names body n (free_among names body n) are (eqb-true (names n) 0 is)
    step are false is = one_past names body n (free_among names body n) are

-- two slots are the same one
abbrev pub IsSame : Slot → Slot → Type 0
IsSame s t = (s.place ≡ t.place) × (s.second ≡ t.second)

same_as : (s s' t t' : Slot) → s ≡ s' → t ≡ t' → IsSame s t → IsSame s' t'
same_as s s' t t' e e' same = (sym (ap (λ x. x.place) e) ∙ same.0 ∙ ap (λ x. x.place) e', sym (ap (λ x. x.second) e) ∙ same.1 ∙ ap (λ x. x.second) e')

-- no slot of one list is one of the other
abbrev pub AreBeside : List Slot → List Slot → Type 0
AreBeside xs ys = (i j : ℕ) → i < length xs → j < length ys → IsSame (slot_at xs i) (slot_at ys j) → ⊥

-- what lists one after another are if each of them is
module _ (xs ys : List Slot) where
  after : (j : ℕ) → j < length (xs ++ ys) → length xs ≤ j → j - length xs < length ys
  after j within from = let long = length-append xs ys in omega (arith, within, from, long)

  pub both_free : (m : ℕ) (entries : Bool → ℕ → ℕ) → AreFree m entries xs → AreFree m entries ys → AreFree m entries (xs ++ ys)
  both_free m entries one two j within = ⊎_elim
      (λ before. subst (λ (s : Slot). (s.place < 504 * m) × (entries s.second s.place ≡ 0)) (sym (left_at xs ys j before)) (one j before))
      (λ from. subst (λ (s : Slot). (s.place < 504 * m) × (entries s.second s.place ≡ 0)) (sym (right_at xs ys j from)) (two (j - length xs) (after j within from)))
      (cases_lt j (length xs))

  pub both_apart : AreApart xs → AreApart ys → AreBeside xs ys → AreApart (xs ++ ys)
  both_apart one two beside i j less within place second = ⊎_elim
      (λ before. (let first : i < length xs = omega (arith, less, before) in
      let same = same_as _ _ _ _ (left_at xs ys i first) (left_at xs ys j before) (place, second) in one i j less before same.0 same.1))
      (λ from. ⊎_elim
      (λ before. beside i (j - length xs) before (after j within from) (same_as _ _ _ _ (left_at xs ys i before) (right_at xs ys j from) (place, second)))
      (λ from'. (let same = same_as _ _ _ _ (right_at xs ys i from') (right_at xs ys j from) (place, second) in
      two (i - length xs) (j - length xs) (omega (arith, less, from')) (after j within from) same.0 same.1))
      (cases_lt i (length xs)))
      (cases_lt j (length xs))

  pub both_beside : (zs : List Slot) → AreBeside zs xs → AreBeside zs ys → AreBeside zs (xs ++ ys)
  both_beside zs one two i j within in_both same = ⊎_elim
      (λ before. one i j within before (same_as _ _ _ _ refl (left_at xs ys j before) same))
      (λ from. two i (j - length xs) within (after j in_both from) (same_as _ _ _ _ refl (right_at xs ys j from) same))
      (cases_lt j (length xs))

-- The places before one are passed over.
module _ (p : ℕ) (names : ℕ → ℕ) where
  behind_before : (r : ℕ) → r < p → behind p names r ≡ 1
  behind_before r less = (let is : nat_lt r p ≡ true = grind (arith, nat_tests) in ap (λ b. if b then 1 else names r) is)

  pub behind_from : (r : ℕ) → p ≤ r → behind p names r ≡ names r
  behind_from r from = (let is : nat_lt r p ≡ false = grind (arith, nat_tests) in ap (λ b. if b then 1 else names r) is)

  pub behind_free : (r : ℕ) → behind p names r ≡ 0 → (p ≤ r) × (names r ≡ 0)
  behind_free r is = ⊎_elim (λ less. absurd (let one = behind_before r less in omega (arith, one, is)))
      (λ from. (from, sym (behind_from r from) ∙ is)) (cases_lt r p)

  -- of those before it none is listed,
  pub none_behind : (body : Bool) (n : ℕ) → n ≤ p → free_among (behind p names) body n ≡ []
  unfolding free_among
  none_behind body zero most = refl
  none_behind body (suc n) most =
      ap (λ l. l ++ (if behind p names n == 0 then record { second = body; place = n } ∷ [] else [])) (none_behind body n (omega (arith, most)))
      ∙ ap (λ x. if x == 0 then record { second = body; place = n } ∷ [] else []) (behind_before n (omega (arith, most)))

  none_more : (a b : ℕ) → a ≡ b → 0 + a ≡ b
  none_more a b e = omega (arith, e)

  -- and they are what the others lack of all
  pub behind_long : (body : Bool) (n : ℕ) → p ≤ n → length (free_among (behind p names) body n) + length (free_among names body p) ≡ length (free_among names body n)
  unfolding free_among
  behind_long body zero most =
      let none : p ≡ 0 = omega (arith, most) in
      let e : length (free_among names body p) ≡ 0 = ap (λ k. length (free_among names body k)) none in omega (arith, e)
  behind_long body (suc n) most = ⊎_elim
      (λ same. ap (λ l. length l + length (free_among names body p)) (none_behind body (suc n) (omega (arith, same))) ∙ none_more _ _ (ap (λ k. length (free_among names body k)) same))
      (λ other. (let here : ℕ → List Slot = λ x. if x == 0 then record { second = body; place = n } ∷ [] else [] in
      let before = behind_long body n (omega (arith, most, other)) in
      let same = ap (λ x. length (here x)) (behind_from n (omega (arith, most, other))) in
      let ours = length-append (free_among (behind p names) body n) (here (behind p names n)) in
      let all = length-append (free_among names body n) (here (names n)) in
      omega (arith, before, same, ours, all)))
      (cases_eq p (suc n))

-- the slots that are free depend on the places that are looked at alone
pub free_same : (names others : ℕ → ℕ) (body : Bool) (n : ℕ) → ((r : ℕ) → r < n → names r ≡ others r) → free_among names body n ≡ free_among others body n
unfolding free_among
free_same names others body zero same = refl
free_same names others body (suc n) same =
    ap (λ l. l ++ (if names n == 0 then record { second = body; place = n } ∷ [] else [])) (free_same names others body n (λ r below. same r (omega (arith, below))))
    ∙ ap (λ x. free_among others body n ++ (if x == 0 then record { second = body; place = n } ∷ [] else [])) (same n (omega arith))

-- Of such lists
module _ (names others : ℕ → ℕ) (a b : Bool) (n k : ℕ) (xs ys : List Slot) (one : IsFreeList names a n xs) (two : IsFreeList others b k ys) where
  pub list_free : (m : ℕ) (entries : Bool → ℕ → ℕ) → n ≤ 504 * m → ((r : ℕ) → names r ≡ 0 → entries a r ≡ 0) → AreFree m entries xs
  list_free m entries most free j within = (
    (let low = one.below j within in omega (arith, low, most)),
    ap (λ body. entries body (slot_at xs j).place) (one.of_body j within) ∙ free (slot_at xs j).place (one.free j within),
  )

  pub list_apart : AreApart xs
  list_apart i j less within place second = let rises = one.rising i j less within in omega (arith, rises, place)

  pub bodies_beside : (a ≡ b → ⊥) → AreBeside xs ys
  bodies_beside differ i j in_xs in_ys same = differ (sym (one.of_body i in_xs) ∙ same.1 ∙ two.of_body j in_ys)

  pub places_beside : ((r s : ℕ) → names r ≡ 0 → s < k → r ≡ s → ⊥) → AreBeside xs ys
  places_beside differ i j in_xs in_ys same = differ (slot_at xs i).place (slot_at ys j).place (one.free i in_xs) (two.below j in_ys) same.0

-- the first of a list
module _ (n : ℕ) (slots : List Slot) where
  of_all : (j : ℕ) → j < length (take n slots) → j < length slots
  of_all j within = let long = length-take n slots in omega (arith, long, within)

  first_at : (j : ℕ) → j < length (take n slots) → slot_at (take n slots) j ≡ slot_at slots j
  first_at j within = let long = length-take n slots in get_or-take n slots j (record { second = false; place = 0 }) (omega (arith, long, within))

  pub first_apart : AreApart slots → AreApart (take n slots)
  first_apart apart i j less within place second =
      let same = same_as _ _ _ _ (first_at i (omega (arith, less, within))) (first_at j within) (place, second) in
      apart i j less (of_all j within) same.0 same.1

  pub first_free : (m : ℕ) (entries : Bool → ℕ → ℕ) → AreFree m entries slots → AreFree m entries (take n slots)
  first_free m entries free j within = subst (λ (s : Slot). (s.place < 504 * m) × (entries s.second s.place ≡ 0)) (sym (first_at j within)) (free j (of_all j within))

-- how many there are, in whichever order
pub free_long : (m : ℕ) (entries : Bool → ℕ → ℕ) (first : Bool) → length (free_slots m entries first (not first)) ≡ free_count m entries
free_long m entries false = refl
free_long m entries true =
    let ours = length-append (free_among (entries true) true (504 * m)) (free_among (entries false) false (504 * m)) in
    let theirs = length-append (free_among (entries false) false (504 * m)) (free_among (entries true) true (504 * m)) in
    omega (arith, ours, theirs)

-- and no more than there are slots
few_among : (names : ℕ → ℕ) (body : Bool) (n : ℕ) → length (free_among names body n) ≤ n
unfolding free_among
few_among names body zero = omega arith
few_among names body (suc n) = step (few_among names body n) (names n == 0)
  where
    step : length (free_among names body n) ≤ n → (b : Bool) → length (free_among names body n ++ (if b then record { second = body; place = n } ∷ [] else [])) ≤ suc n
    step most true = let long = length-append (free_among names body n) (record { second = body; place = n } ∷ []) in omega (arith, long, most)
    step most false = let long = length-append (free_among names body n) [] in omega (arith, long, most)

pub free_most : (m : ℕ) (entries : Bool → ℕ → ℕ) → free_count m entries ≤ 1008 * m
free_most m entries =
    let long = length-append (free_among (entries false) false (504 * m)) (free_among (entries true) true (504 * m)) in
    let one = few_among (entries false) false (504 * m) in
    let two = few_among (entries true) true (504 * m) in
    omega (arith, long, one, two)
