-- The slots that a map gives to no home, from a place of one body on and round to it.
use Rattle.std.proofs.Common.{◌≡◌, ◌*◌, ◌≤◌, ◌++◌, ◌∙◌, ℕ, Bool, true, false, not, List, length, get_or, take, refl, sym, ap, arith, if◌then◌else◌}
use Rattle.std.{proofs.lemmas.List.{get_or-take, length-append, length-take, length-take-le}, specs.Prelude.{nat_lt, min}}
use Rattle.pool_journal.proofs.Free.{IsFreeList, free_list, free_long, free_same, behind_free, behind_from, behind_long, both_free, both_apart, both_beside, list_free, list_apart, bodies_beside, places_beside, first_apart, first_free}
use Rattle.pool_journal.specs.{Giving.{AreApart, AreFree}, Journal.{free_count}, Maps.{entries_of, IsMapOf, free_among, behind, slots_round}}
use Rattle.pool_journal.specs.declared.{map.SlotMap.{SlotMap}, slot.Slot.{Slot}}

-- A body of a map
module _ (map : SlotMap) (body : Bool) (numbers : List ℕ) (first : body ≡ false → numbers ≡ map.first.items) (second : body ≡ true → numbers ≡ map.second.items) where
  -- is as long as the other one,
  pub body_long : length map.first.items ≡ length map.second.items → length numbers ≡ length map.first.items
  body_long alike = of_body body first second
    where
      of_body : (b : Bool) → (b ≡ false → numbers ≡ map.first.items) → (b ≡ true → numbers ≡ map.second.items) → length numbers ≡ length map.first.items
      of_body false one two = ap (λ xs. length xs) (one refl)
      of_body true one two = ap (λ xs. length xs) (two refl) ∙ sym alike

  -- and says what the map says of it.
  body_says : (r : ℕ) → get_or numbers r 0 ≡ entries_of map body r
  body_says r = of_body body first second
    where
      of_body : (b : Bool) → (b ≡ false → numbers ≡ map.first.items) → (b ≡ true → numbers ≡ map.second.items) → get_or numbers r 0 ≡ entries_of map b r
      of_body false one two = ap (λ xs. get_or xs r 0) (one refl)
      of_body true one two = ap (λ xs. get_or xs r 0) (two refl)

  -- So it lists its slots from a place on,
  pub body_from : (m p : ℕ) → IsMapOf m map → free_among (behind p (λ r. get_or numbers r 0)) body (length numbers) ≡ free_among (behind p (entries_of map body)) body (504 * m)
  body_from m p fits = ap (free_among (behind p (λ r. get_or numbers r 0)) body) (body_long (fits.0 ∙ sym fits.1) ∙ fits.0)
      ∙ free_same (behind p (λ r. get_or numbers r 0)) (behind p (entries_of map body)) body (504 * m) (λ r below. ap (λ x. if nat_lt r p then 1 else x) (body_says r))

  -- all of them,
  pub body_all : (m : ℕ) → IsMapOf m map → free_among (behind 0 (λ r. get_or numbers r 0)) body (length numbers) ≡ free_among (entries_of map body) body (504 * m)
  body_all m fits = body_from m 0 fits ∙ free_same (behind 0 (entries_of map body)) (entries_of map body) body (504 * m) (λ r below. behind_from 0 (entries_of map body) r (omega arith))

  -- and those before a place.
  pub body_before : (p : ℕ) → p ≤ length numbers → free_among (behind 0 (λ r. get_or (take p numbers) r 0)) body (length (take p numbers)) ≡ free_among (entries_of map body) body p
  body_before p inside = ap (free_among (behind 0 (λ r. get_or (take p numbers) r 0)) body) (length-take-le p numbers inside)
      ∙ free_same (behind 0 (λ r. get_or (take p numbers) r 0)) (entries_of map body) body p
      (λ r below. behind_from 0 (λ r. get_or (take p numbers) r 0) r (omega arith) ∙ get_or-take p numbers r 0 below ∙ body_says r)

-- Those from a place on, of the other body, and before that place:
module _ (m : ℕ) (entries : Bool → ℕ → ℕ) (first : Bool) (p : ℕ) (inside : p ≤ 504 * m) where
  abbrev xs : List Slot
  xs = free_among (behind p (entries first)) first (504 * m)

  abbrev ys : List Slot
  ys = free_among (entries (not first)) (not first) (504 * m)

  abbrev zs : List Slot
  zs = free_among (entries first) first p

  one : IsFreeList (behind p (entries first)) first (504 * m) xs
  one = free_list (behind p (entries first)) first (504 * m)

  two : IsFreeList (entries (not first)) (not first) (504 * m) ys
  two = free_list (entries (not first)) (not first) (504 * m)

  three : IsFreeList (entries first) first p zs
  three = free_list (entries first) first p

  differ : (b : Bool) → b ≡ not b → ⊥
  differ true e = cc
  differ false e = cc

  -- they are free,
  round_free : AreFree m entries (slots_round m entries first (not first) p)
  round_free = both_free xs (ys ++ zs) m entries
      (list_free _ _ _ _ _ _ xs xs one one m entries (omega arith) (λ r is. (behind_free p (entries first) r is).1))
      (both_free ys zs m entries (list_free _ _ _ _ _ _ ys ys two two m entries (omega arith) (λ r is. is))
      (list_free _ _ _ _ _ _ zs zs three three m entries inside (λ r is. is)))

  -- none stands there twice,
  round_apart : AreApart (slots_round m entries first (not first) p)
  round_apart = both_apart xs (ys ++ zs) (list_apart _ _ _ _ _ _ xs xs one one)
      (both_apart ys zs (list_apart _ _ _ _ _ _ ys ys two two) (list_apart _ _ _ _ _ _ zs zs three three)
      (bodies_beside _ _ _ _ _ _ ys zs two three (λ e. differ first (sym e))))
      (both_beside ys zs xs (bodies_beside _ _ _ _ _ _ xs ys one two (differ first))
      (places_beside _ _ _ _ _ _ xs zs one three (λ r s is below same. (let from = (behind_free p (entries first) r is).0 in omega (arith, from, below, same)))))

  -- and they are all
  round_long : length (slots_round m entries first (not first) p) ≡ free_count m entries
  round_long =
      let all = length-append xs (ys ++ zs) in
      let rest = length-append ys zs in
      let ours = behind_long p (entries first) first (504 * m) inside in
      let both = length-append (free_among (entries first) first (504 * m)) ys in
      let long = free_long m entries first in
      omega (arith, all, rest, ours, both, long)

  -- So are the first of them.
  pub taken_free : (n : ℕ) → AreFree m entries (take n (slots_round m entries first (not first) p))
  taken_free n = first_free n (slots_round m entries first (not first) p) m entries round_free

  pub taken_apart : (n : ℕ) → AreApart (take n (slots_round m entries first (not first) p))
  taken_apart n = first_apart n (slots_round m entries first (not first) p) round_apart

  pub taken_long : (n : ℕ) → length (take n (slots_round m entries first (not first) p)) ≡ min n (free_count m entries)
  taken_long n = length-take n (slots_round m entries first (not first) p) ∙ ap (min n) round_long
