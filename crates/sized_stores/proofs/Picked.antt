-- Pages of a list that are picked: new ones, or others, one page after the other.
use Rattle.std.proofs.Common.{ℕ, ◌≡◌, ◌<◌, ◌≤◌, ◌+◌, ⊎_elim, Bool, true, false, not, List, [], ◌∷◌, ◌++◌, length, get_or, slice_get, Option, Some, refl, sym, ap, subst, ◌∙◌, arith}
use Rattle.std.proofs.lemmas.{Bool.{cases_eq, true≢false}, List.{get_or_push, get_or_append_left, length_push}, Option.{same_Some, slice_get_within}}
use Rattle.std.specs.Bool.{beq}
use Rattle.vm_types.specs.declared.file.{FileInfo.{FileInfo}, FilePage.{FilePage}}
use Rattle.sized_stores.specs.Listing.{is_new_in, AreTooManyPicked, PicksPages}
use Rattle.sized_stores.proofs.Rows.{pushed}

-- two tests say the same
pub same_tests : (a b : Bool) → not (beq a b) ≡ false → a ≡ b
same_tests true true is = refl
same_tests true false is = absurd (true≢false is)
same_tests false true is = absurd (true≢false is)
same_tests false false is = refl

pub other_tests : (a b : Bool) → not (beq a b) ≡ true → a ≡ b → ⊥
other_tests true true is same = true≢false (sym is)
other_tests true false is same = true≢false same
other_tests false true is same = true≢false (sym same)
other_tests false false is same = true≢false (sym is)

-- The places of a list that a predicate picks rise, and each holds the page that is picked:
pub record ArePicked (files : ℕ → Option FileInfo) (new : Bool) (list pages : List FilePage) (places : List ℕ) : Type 0 where
  pub long : length pages ≡ length places
  pub rise : (i j : ℕ) → i < j → j < length places → get_or places i 0 < get_or places j 0
  pub each : (i : ℕ) (p : FilePage) → slice_get pages i ≡ Some p → (slice_get list (get_or places i 0) ≡ Some p) × (is_new_in files p ≡ new)

-- Those of the first n pages of the list are picked, no more than a limit:
pub record PicksFirst (files : ℕ → Option FileInfo) (new : Bool) (list : List FilePage) (n limit : ℕ) (pages : List FilePage) (places : List ℕ) : Type 0 where
  pub are : ArePicked files new list pages places
  pub open are use *
  pub below : (j : ℕ) → j < length places → get_or places j 0 < n
  pub all : (i : ℕ) (p : FilePage) → i < n → slice_get list i ≡ Some p → is_new_in files p ≡ new → (j : ℕ) × (j < length places) × (get_or places j 0 ≡ i)
  pub few : length pages ≤ limit

module _ (files : ℕ → Option FileInfo) (new : Bool) (list : List FilePage) where
  -- a place in a list of them with another behind it
  place_before : (places : List ℕ) (n j : ℕ) → j < length places → get_or (places ++ n ∷ []) j 0 ≡ get_or places j 0
  place_before places n j inside = get_or_append_left places (n ∷ []) 0 j inside

  place_last : (places : List ℕ) (n j : ℕ) → j ≡ length places → get_or (places ++ n ∷ []) j 0 ≡ n
  place_last places n j last = get_or_push places n 0 j (sym last)

  -- the page at n is picked too
  picked_more : (n limit : ℕ) (p : FilePage) (pages : List FilePage) (places : List ℕ) → slice_get list n ≡ Some p → is_new_in files p ≡ new
      → PicksFirst files new list n limit pages places → ArePicked files new list (pages ++ p ∷ []) (places ++ n ∷ [])
  picked_more n limit p pages places at is picks = record {
    long = length_push pages p ∙ ap (λ k. k + 1) picks.long ∙ sym (length_push places n);
    rise = λ i j less inside.
        let long : length (places ++ n ∷ []) ≡ length places + 1 = length_push places n in
        let before : i < length places = omega (arith, less, inside, long) in
        let lower : get_or (places ++ n ∷ []) i 0 ≡ get_or places i 0 = place_before places n i before in
        ⊎_elim
        (λ (last : j ≡ length places). (let e : get_or (places ++ n ∷ []) j 0 ≡ n = place_last places n j last in let under = picks.below i before in omega (arith, e, lower, under)))
        (λ other.
        (let inner : j < length places = omega (arith, inside, long, other) in
        let e : get_or (places ++ n ∷ []) j 0 ≡ get_or places j 0 = place_before places n j inner in
        let rises = picks.rise i j less inner in omega (arith, e, lower, rises)))
        (cases_eq j (length places));
    each = λ i q there. ⊎_elim
        (λ (before : slice_get pages i ≡ Some q).
        let inside : i < length places = (let long = picks.long in omega (arith, slice_get_within pages i q before, long)) in
        (ap (slice_get list) (place_before places n i inside) ∙ (picks.each i q before).0, (picks.each i q before).1))
        (λ last. (ap (slice_get list) (place_last places n i (last.0 ∙ picks.long)) ∙ at ∙ ap Some last.1, ap (is_new_in files) (sym last.1) ∙ is))
        (pushed pages p q i there);
  }

  picks_more : (n limit : ℕ) (p : FilePage) (pages : List FilePage) (places : List ℕ) → slice_get list n ≡ Some p → is_new_in files p ≡ new → length pages < limit
      → PicksFirst files new list n limit pages places → PicksFirst files new list (n + 1) limit (pages ++ p ∷ []) (places ++ n ∷ [])
  picks_more n limit p pages places at is room picks = record {
    are = picked_more n limit p pages places at is picks;
    below = λ j inside. ⊎_elim
        (λ (last : j ≡ length places). (let e : get_or (places ++ n ∷ []) j 0 ≡ n = place_last places n j last in omega (arith, e)))
        (λ other.
        (let inner : j < length places = omega (arith, inside, length_push places n, other) in
        let e : get_or (places ++ n ∷ []) j 0 ≡ get_or places j 0 = place_before places n j inner in
        let under = picks.below j inner in omega (arith, e, under)))
        (cases_eq j (length places));
    all = λ i q less there is_one. ⊎_elim
        (λ (last : i ≡ n). (length places, omega (arith, length_push places n), place_last places n (length places) refl ∙ sym last))
        (λ other.
        (let before = picks.all i q (omega (arith, less, other)) there is_one in
        (before.0, omega (arith, length_push places n, before.1), place_before places n before.0 before.1 ∙ before.2)))
        (cases_eq i n);
    few = omega (arith, length_push pages p, room);
  }

  pub picks_next : (n limit : ℕ) (p : FilePage) (pages pages_then : List FilePage) (places places_then : List ℕ) → slice_get list n ≡ Some p → is_new_in files p ≡ new → length pages < limit
      → pages_then ≡ pages ++ p ∷ [] → places_then ≡ places ++ n ∷ [] → PicksFirst files new list n limit pages places → PicksFirst files new list (n + 1) limit pages_then places_then
  picks_next n limit p pages pages_then places places_then at is room more_pages more_places picks =
      subst (λ (l : List FilePage). PicksFirst files new list (n + 1) limit l places_then) (sym more_pages)
      (subst (λ (l : List ℕ). PicksFirst files new list (n + 1) limit (pages ++ p ∷ []) l) (sym more_places) (picks_more n limit p pages places at is room picks))

  -- or it is none of those
  pub picks_other : (n limit : ℕ) (p : FilePage) (pages : List FilePage) (places : List ℕ) → slice_get list n ≡ Some p → (is_new_in files p ≡ new → ⊥)
      → PicksFirst files new list n limit pages places → PicksFirst files new list (n + 1) limit pages places
  picks_other n limit p pages places at is_not picks = record {
    are = picks.are;
    below = λ j inside. (let under = picks.below j inside in omega (arith, under));
    all = λ i q less there is_one. ⊎_elim
        (λ (last : i ≡ n). absurd (is_not (ap (is_new_in files) (same_Some p q (sym at ∙ ap (slice_get list) (sym last) ∙ there)) ∙ is_one)))
        (λ other. picks.all i q (omega (arith, less, other)) there is_one)
        (cases_eq i n);
    few = picks.few;
  }

  pub picks_all : (n limit : ℕ) (pages : List FilePage) (places : List ℕ) → length list ≤ n → PicksFirst files new list n limit pages places → PicksPages files new list pages places
  picks_all n limit pages places whole picks = record {
    long = picks.long;
    rise = picks.rise;
    each = picks.each;
    all = λ i p there is. picks.all i p (omega (arith, slice_get_within list i p there, whole)) there is;
  }

  pub picks_too_many : (n limit : ℕ) (p : FilePage) (pages : List FilePage) (places : List ℕ) → slice_get list n ≡ Some p → is_new_in files p ≡ new → length pages ≡ limit
      → PicksFirst files new list n limit pages places → AreTooManyPicked files new list limit
  picks_too_many n limit p pages places at is full picks =
      let are : ArePicked files new list (pages ++ p ∷ []) (places ++ n ∷ []) = picked_more n limit p pages places at is picks in
      (pages ++ p ∷ [], places ++ n ∷ [], omega (arith, length_push pages p, full), are.long, are.rise, are.each)
