-- What stands when a commit's slots are written and its map gives them to its homes.
use Rattle.std.proofs.Common.{◌≡◌, ◌≢◌, ◌⊎◌, ◌≤◌, ◌<◌, ◌+◌, ◌*◌, ℕ, suc, Bool, false, List, length, get_or, Option, Some, None, refl, sym, ap, subst, ◌∙◌, ⊎_elim, inl, inr, arith, ◌==◌}
use Rattle.std.proofs.lemmas.Bool.{cases_eq, cases_lt, Decides.{nat_tests}}
use Rattle.disk_model.specs.{Sectors.{part_of}, Stop.{Image}}
use Rattle.pool_journal.{proofs.Loose.{Gives, slot_gives, slot_alike, firm_page}, specs.{Commit.{GivesHomes, KeepsOthers}, Giving.{AreRising}, Pools.{pool_home, pool_stands, slot_by, IsLoose, pool_gate}}}
use Rattle.sync_journal.{proofs.Images.{Means, place_means}, specs.{Commit.{sector_or}, Map.{home_rank}}}

-- A map gives a slot to what the thinned one gives it to, or that gives it to none and it is given to a home of the commit.
abbrev pub GivesFree : ℕ → (Bool → ℕ → ℕ) → (Bool → ℕ → ℕ) → List ℕ → Type 0
GivesFree m thin now homes = (body : Bool) (r : ℕ) → r < 504 * m
    → (now body r ≡ thin body r) ⊎ ((j : ℕ) × (j < length homes) × (now body r ≡ suc (get_or homes j 0)) × (thin body r ≡ 0))

module _ (m : ℕ) (second : Bool) (was thin now : Bool → ℕ → ℕ) (homes : List ℕ) (content staged : Image) (given : GivesFree m thin now homes)
    (moved : (h : ℕ) → home_rank homes h ≡ None → (slot_by m thin h ≡ slot_by m was h)
    ⊎ ((slot_by m thin h ≡ None) × ((i : ℕ) → i < 8 → staged (pool_home m h + i) ≡ content (pool_stands m h (slot_by m was h) + i))))
    (but : (k : ℕ) → pool_gate + 8 ≤ k → IsLoose m second was k ⊎ (staged k ≡ content k)) where
  -- any other home has the slot that the thinned map gives it
  same_test : (h : ℕ) → home_rank homes h ≡ None → (body : Bool) (r : ℕ) → r < 504 * m → (now body r == suc h) ≡ (thin body r == suc h)
  same_test h none body r below = ⊎_elim (λ same. ap (λ x. x == suc h) same)
      (λ slot. (let differs : now body r ≢ suc h = λ is. others slot.0 slot.1 (omega (arith, slot.2, is)) in
      let free : thin body r ≢ suc h = λ is. omega (arith, slot.3, is) in
      let one : (now body r == suc h) ≡ false = grind (arith, nat_tests) in let two : (thin body r == suc h) ≡ false = grind (arith, nat_tests) in one
      ∙ sym two))
      (given body r below)
    where
      others : (j : ℕ) → j < length homes → get_or homes j 0 ≡ h → ⊥
      others j inside = subst (Means (λ k. get_or homes k 0) h (length homes)) none (place_means (λ k. get_or homes k 0) h (length homes)) j inside

  -- and stands as it did
  pub old_page : KeepsOthers m was now homes content staged
  old_page h i none below = ap (λ o. staged (pool_stands m h o + i)) (slot_alike m now thin h (same_test h none))
      ∙ ⊎_elim (λ same. ap (λ o. staged (pool_stands m h o + i)) same ∙ firm_page m second was content staged but h i below)
      (λ home. ap (λ o. staged (pool_stands m h o + i)) home.0 ∙ home.1 i below)
      (moved h none)

module _ (m : ℕ) (second : Bool) (was thin now : Bool → ℕ → ℕ) (homes : List ℕ) {told : ℕ → Type 0} (pages : ℕ → List ℕ) (content staged : Image) (rising : AreRising homes)
    (gives : GivesHomes m was thin now homes told pages content staged) (but : (k : ℕ) → pool_gate + 8 ≤ k → IsLoose m second was k ⊎ (staged k ≡ content k)) where
  -- a place in rising homes is one
  one_place : (i j : ℕ) → i < length homes → j < length homes → get_or homes i 0 ≡ get_or homes j 0 → i ≡ j
  one_place i j one two same = ⊎_elim (λ e. e)
      (λ differ. ⊎_elim (λ less. (let rises = rising i j less two in absurd (omega (arith, rises, same))))
      (λ from. (let rises = rising j i (omega (arith, differ, from)) one in absurd (omega (arith, rises, same)))) (cases_lt i j))
      (cases_eq i j)

  -- a home of the commit stands in a slot that holds its page, where that is told
  pub new_page : (h j i : ℕ) → told j → i < 8 → j < length homes → get_or homes j 0 ≡ h → staged (pool_stands m h (slot_by m now h) + i) ≡ part_of (pages j) i
  new_page h j i of below inside is = here (slot_by m now h) (slot_gives m now h)
    where
      here : (o : Option (Bool × ℕ)) → Gives m now h o → staged (pool_stands m h o + i) ≡ part_of (pages j) i
      here None none = (let at = gives.placed j inside in absurd (none at.0 at.1 at.2 (at.3 ∙ ap suc is)))
      here (Some place) found = ⊎_elim
          (λ same. absurd (gives.taken place.0 place.1 found.0 j inside (sym same ∙ found.1 ∙ ap suc (sym is))))
          (λ slot. (let one : slot.0 ≡ j = one_place slot.0 j slot.1 inside (let e = found.1 in omega (arith, slot.2, e, is)) in slot.4 (subst told (sym one) of) i below
          ∙ ap (λ k. part_of (pages k) i) one))
          (gives.given place.0 place.1 found.0)

  -- So the map now stands for what the old one stood for, with the new pages for the homes.
  pub now_stands : ((j : ℕ) → told j) → (h i : ℕ) → i < 8
      → staged (pool_stands m h (slot_by m now h) + i) ≡ sector_or pages (content (pool_stands m h (slot_by m was h) + i)) i (home_rank homes h)
  now_stands all h i below = here (home_rank homes h) refl (place_means (λ j. get_or homes j 0) h (length homes))
    where
      here : (o : Option ℕ) → home_rank homes h ≡ o → Means (λ j. get_or homes j 0) h (length homes) o
          → staged (pool_stands m h (slot_by m now h) + i) ≡ sector_or pages (content (pool_stands m h (slot_by m was h) + i)) i o
      here None is means = old_page m second was thin now homes content staged
          (λ body r less. ⊎_elim (λ same. inl same) (λ slot. inr (slot.0, slot.1, slot.2, slot.3)) (gives.given body r less)) gives.moved but h i is below
      here (Some j) is means = new_page h j i (all j) below means.0 means.1
