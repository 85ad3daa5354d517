-- A map is thinned by the homes of a commit, or emptied when the rest was copied home, and then gives its slots to these homes.
use Rattle.std.proofs.Common.{◌≡◌, ◌≢◌, ◌⊎◌, ◌<◌, ◌+◌, ℕ, zero, suc, Bool, true, false, List, length, get_or, Option, Some, None, refl, sym, ap, subst, ◌∙◌, ⊎_elim, inl, inr, arith, ◌==◌, if◌then◌else◌, is_some}
use Rattle.std.proofs.lemmas.Bool.{cases_eq, Decides.{nat_tests}}
use Rattle.disk_model.specs.{Sectors.{part_of}, Stop.{Image}}
use Rattle.pool_journal.{proofs.{Loose.{Gives, slot_gives, slot_alike}, Slots.{GivesFree}}, specs.{Commit.{thinned, IsThinned, GivesHomes}, Giving.{number_but, slot_at, AreFree}, Pools.{pool_slot, pool_home, pool_stands, slot_by, IsLooseHome}}}
use Rattle.pool_journal.specs.declared.slot.Slot.{Slot}
use Rattle.sync_journal.{proofs.Images.{Means, place_means}, specs.Map.{home_rank}}

-- one that keeps its slot is none of them
but_none : (homes : List ℕ) (x h : ℕ) → number_but homes x ≡ suc h → home_rank homes h ≡ None
but_none homes zero h is = absurd (omega (arith, is))
but_none homes (suc g) h is = here (home_rank homes g) refl
  where
    here : (o : Option ℕ) → home_rank homes g ≡ o → home_rank homes h ≡ None
    here None none = (let kept : number_but homes (suc g) ≡ suc g = ap (λ o. if is_some o then 0 else suc g) none in
        let same : g ≡ h = omega (arith, kept, is) in subst (λ k. home_rank homes k ≡ None) same none)
    here (Some j) some = (let lost : number_but homes (suc g) ≡ 0 = ap (λ o. if is_some o then 0 else suc g) some in absurd (omega (arith, lost, is)))

-- of a home that is none of them a number says the same
but_test : (homes : List ℕ) (x h : ℕ) → home_rank homes h ≡ None → (number_but homes x == suc h) ≡ (x == suc h)
but_test homes zero h none = refl
but_test homes (suc g) h none = here (home_rank homes g) refl
  where
    here : (o : Option ℕ) → home_rank homes g ≡ o → (number_but homes (suc g) == suc h) ≡ (suc g == suc h)
    here None left = ap (λ o. (if is_some o then 0 else suc g) == suc h) left
    here (Some j) some =
        let differ : suc g ≢ suc h = λ same. (let e : g ≡ h = omega (arith, same) in let bad : Some j ≡ None = sym some ∙ ap (home_rank homes) e
        ∙ none in cc) in
        let one : (suc g == suc h) ≡ false = grind (arith, nat_tests) in
        let two : (0 == suc h) ≡ false = grind (arith, nat_tests) in
        ap (λ o. (if is_some o then 0 else suc g) == suc h) some ∙ two ∙ sym one

-- a home of the list has a place in it
has_place : (homes : List ℕ) (j : ℕ) → j < length homes → home_rank homes (get_or homes j 0) ≡ None → ⊥
has_place homes j inside none = subst (Means (λ k. get_or homes k 0) (get_or homes j 0) (length homes)) none (place_means
    (λ k. get_or homes k 0) (get_or homes j 0) (length homes)) j inside refl

pub none_had : (homes : List ℕ) (was thin : Bool → ℕ → ℕ) → ((body : Bool) (r : ℕ) → thin body r ≡ thinned homes was body r) → (body : Bool) (r j : ℕ) → j < length homes → thin body r ≡ suc (get_or homes j 0) → ⊥
none_had homes was thin is body r j inside names = has_place homes j inside (but_none homes (was body r) (get_or homes j 0) (sym (is body r) ∙ names))

pub same_slots : (m : ℕ) (homes : List ℕ) (was : Bool → ℕ → ℕ) (h : ℕ) → home_rank homes h ≡ None → slot_by m (thinned homes was) h ≡ slot_by m was h
same_slots m homes was h none = slot_alike m (thinned homes was) was h (λ body r below. but_test homes (was body r) h none)

-- homes that are copied to are loose
pub loose_home : (m : ℕ) (homes : List ℕ) (was : Bool → ℕ → ℕ) (k : ℕ) → IsLooseHome m (thinned homes was) k → IsLooseHome m was k
loose_home m homes was k home =
    let gives = subst (Gives m (thinned homes was) home.0) home.2 (slot_gives m (thinned homes was) home.0) in
    (home.0, home.1, sym (same_slots m homes was home.0 (but_none homes (was home.1.0 home.1.1) home.0 gives.1)) ∙ home.2, home.3)

-- a map that gives no slot
no_slot : (m : ℕ) (entries : Bool → ℕ → ℕ) (h : ℕ) → ((body : Bool) (r : ℕ) → entries body r ≡ 0) → slot_by m entries h ≡ None
no_slot m entries h none = here (slot_by m entries h) refl (slot_gives m entries h)
  where
    here : (o : Option (Bool × ℕ)) → slot_by m entries h ≡ o → Gives m entries h o → slot_by m entries h ≡ None
    here None is gives = is
    here (Some slot) is gives = absurd (omega (arith, gives.1, none slot.0 slot.1))

-- where the others keep their slots
pub kept : (m : ℕ) (was thin : Bool → ℕ → ℕ) (homes : List ℕ) (content staged : Image) → ((body : Bool) (r : ℕ) → thin body r ≡ thinned homes was body r)
    → IsThinned m was thin homes content staged
kept m was thin homes content staged is = record {
  free = λ body r none. is body r ∙ ap (number_but homes) none;
  taken = none_had homes was thin is;
  moved = λ h none. inl (slot_alike m thin (thinned homes was) h (λ body r below. ap (λ x. x == suc h) (is body r)) ∙ same_slots m homes was h none);
}

-- a home whose page was copied home, where the map gives no slot
pub brought : (m : ℕ) (was now : Bool → ℕ → ℕ) (content staged : Image) (h : ℕ) → ((body : Bool) (r : ℕ) → now body r ≡ 0)
    → ((slot : Bool × ℕ) → slot_by m was h ≡ Some slot → (i : ℕ) → i < 8 → staged (pool_home m h + i) ≡ content (pool_slot m slot.0 slot.1 + i))
    → (slot_by m now h ≡ slot_by m was h) ⊎ ((slot_by m now h ≡ None) × ((i : ℕ) → i < 8 → staged (pool_home m h + i) ≡ content (pool_stands m h (slot_by m was h) + i)))
brought m was now content staged h none holds = here (slot_by m was h) refl
  where
    here : (o : Option (Bool × ℕ)) → slot_by m was h ≡ o
        → (slot_by m now h ≡ slot_by m was h) ⊎ ((slot_by m now h ≡ None) × ((i : ℕ) → i < 8 → staged (pool_home m h + i) ≡ content (pool_stands m h (slot_by m was h) + i)))
    here None is = inl (no_slot m now h none ∙ sym is)
    here (Some slot) is = inr (no_slot m now h none, λ i below. holds slot is i below ∙ ap (λ o. content (pool_stands m h o + i)) (sym is))

-- and where the others were
pub copied : (m : ℕ) (was thin : Bool → ℕ → ℕ) (homes : List ℕ) (content staged : Image) → ((body : Bool) (r : ℕ) → thin body r ≡ 0)
    → ((h : ℕ) (slot : Bool × ℕ) → slot_by m (thinned homes was) h ≡ Some slot → (i : ℕ) → i < 8
    → staged (pool_home m h + i) ≡ content (pool_slot m slot.0 slot.1 + i)) → IsThinned m was thin homes content staged
copied m was thin homes content staged none holds = record {
  free = λ body r free. none body r;
  taken = λ body r j inside names. omega (arith, names, none body r);
  moved = λ h left. brought m was thin content staged h none (λ slot is. holds h slot (same_slots m homes was h left ∙ is));
}

-- a slot is one of the first n or none of them
pub is_given : (n : ℕ) (slots : List Slot) (body : Bool) (r : ℕ) → ((j : ℕ) × (j < n) × (r ≡ (slot_at slots j).place) × (body ≡ (slot_at slots j).second))
    ⊎ ((j : ℕ) → j < n → r ≡ (slot_at slots j).place → body ≡ (slot_at slots j).second → ⊥)
is_given zero slots body r = inr (λ j none. absurd (omega (arith, none)))
is_given (suc n) slots body r = ⊎_elim (λ found. inl (found.0, omega (arith, found.1), found.2, found.3))
    (λ none. ⊎_elim
    (λ place. ⊎_elim (λ second. inl (n, omega arith, place, second)) (λ other. inr (λ j below at of_body. ⊎_elim (λ last. other (of_body
    ∙ ap (λ k. (slot_at slots k).second) last))
    (λ before. none j (omega (arith, below, before)) at of_body) (cases_eq j n))) (same_body body (slot_at slots n).second))
    (λ other. inr (λ j below at of_body. ⊎_elim (λ last. other (at ∙ ap (λ k. (slot_at slots k).place) last))
    (λ before. none j (omega (arith, below, before)) at of_body) (cases_eq j n)))
    (cases_eq r (slot_at slots n).place))
    (is_given n slots body r)
  where
    same_body : (a b : Bool) → (a ≡ b) ⊎ (a ≡ b → ⊥)
    same_body true true = inl refl
    same_body false false = inl refl
    same_body true false = inr (λ e. cc)
    same_body false true = inr (λ e. cc)

-- The slots are given to the homes,
module _ (m : ℕ) (was thin now : Bool → ℕ → ℕ) (homes : List ℕ) (content staged : Image) (slots : List Slot) (thins : IsThinned m was thin homes content staged) (long : length slots ≡ length homes)
    (are : AreFree m was slots) (given : (j : ℕ) → j < length slots → now (slot_at slots j).second (slot_at slots j).place ≡ suc (get_or homes j 0))
    (others : (body : Bool) (r : ℕ) → ((j : ℕ) → j < length slots → r ≡ (slot_at slots j).place → body ≡ (slot_at slots j).second → ⊥) → now body r ≡ thin body r) where
  abbrev IsSlot : Bool → ℕ → Type 0
  IsSlot body r = (j : ℕ) × (j < length slots) × (r ≡ (slot_at slots j).place) × (body ≡ (slot_at slots j).second)

  to_home : (body : Bool) (r : ℕ) (slot : IsSlot body r) → now body r ≡ suc (get_or homes slot.0 0)
  to_home body r slot = ap (λ k. now body k) slot.2 ∙ ap (λ b. now b (slot_at slots slot.0).place) slot.3 ∙ given slot.0 slot.1

  was_free : (body : Bool) (r : ℕ) (slot : IsSlot body r) → thin body r ≡ 0
  was_free body r slot =
      let s = slot_at slots slot.0 in ap (λ k. thin body k) slot.2 ∙ ap (λ b. thin b s.place) slot.3 ∙ thins.free s.second s.place (are slot.0 slot.1).1

  pub gives_free : GivesFree m thin now homes
  gives_free body r below = ⊎_elim (λ slot. inr (slot.0, omega (arith, slot.1, long), to_home body r slot, was_free body r slot)) (λ none. inl (others body r none)) (is_given (length slots) slots body r)

  -- and hold their pages.
  pub gives_homes : (told : ℕ → Type 0) (pages : ℕ → List ℕ) → ((j i : ℕ) → j < length slots → told j → i < 8 → staged (pool_slot m (slot_at slots j).second (slot_at slots j).place + i) ≡ part_of (pages j) i)
      → GivesHomes m was thin now homes told pages content staged
  gives_homes told pages holds = record {
    given = λ body r below. ⊎_elim
        (λ slot. inr (
          slot.0,
          omega (arith, slot.1, long),
          to_home body r slot,
          was_free body r slot,
          λ is i low. ap (λ k. staged (pool_slot m body k + i)) slot.2 ∙ ap (λ b. staged (pool_slot m b (slot_at slots slot.0).place + i)) slot.3 ∙ holds slot.0 i slot.1 is low,
        ))
        (λ none. inl (others body r none))
        (is_given (length slots) slots body r);
    placed = λ j inside. (let within : j < length slots = omega (arith, inside, long) in
        ((slot_at slots j).second, (slot_at slots j).place, (are j within).0, given j within));
    taken = λ body r below j inside names. thins.taken body r j inside names;
    moved = thins.moved;
  }
