-- A map that is thinned by the homes of a commit, before its slots are copied home.
use Rattle.std.proofs.Common.{length, ◌≡◌, ◌⊎◌, ◌≤◌, ◌<◌, ◌+◌, ◌*◌, ℕ, suc, Bool, List, Option, Some, None, refl, sym, ap, ◌∙◌, ⊎_elim, inl, inr, arith, ◌==◌, true, false}
use Rattle.std.{proofs.lemmas.{Bool.{Decides.{nat_tests}}}, specs.Prelude.{nat_lt, min}}
use Rattle.pool_journal.proofs.{Loose.{Gives, slot_gives, slot_alike}, Taken.{but_either, live_same}}
use Rattle.pool_journal.specs.{Commit.{thinned, IsFull, IsMoved}, Copying.{IsCopiedHome}, Filling.{AreSlots, IsFilled}, Giving.{number_but, slot_at, AreApart, AreFree}, Journal.{live_count}}
use Rattle.pool_journal.specs.{Pools.{pool_home, slot_by, IsLooseHome, IsLooseSlot, IsSingle}, declared.slot.Slot.{Slot}}
use Rattle.sync_journal.specs.Layout.{IsPageSector}

-- a number is kept or taken
pub but_most : (homes : List ℕ) (x : ℕ) → number_but homes x ≤ x
but_most homes x = ⊎_elim (λ none. omega (arith, none)) (λ same. omega (arith, same)) (but_either homes x)

-- Of the slots that a map gives
module _ (m : ℕ) (entries : Bool → ℕ → ℕ) where
  -- the homes are loose,
  is_loose : (body : Bool) (r h k : ℕ) → r < 504 * m → entries body r ≡ suc h → IsPageSector (pool_home m h) k → IsLooseHome m entries k
  is_loose body r h k below names page = here (slot_by m entries h) refl (slot_gives m entries h)
    where
      here : (o : Option (Bool × ℕ)) → slot_by m entries h ≡ o → Gives m entries h o → IsLooseHome m entries k
      here None none gives = absurd (gives body r below names)
      here (Some slot) some gives = (h, slot, some, page)

  -- and what is copied is moved.
  pub copied_moved : (k : ℕ) → IsCopiedHome m entries k → IsMoved m entries k
  copied_moved k copied = ⊎_elim
      (λ slot. inl (copied.0, copied.1, copied.2, (λ none. omega (arith, none, copied.3.1)), slot))
      (λ home. inr (is_loose copied.0 copied.1 copied.3.0 k copied.2 copied.3.1 home))
      copied.3.2

module _ (m : ℕ) (was thin : Bool → ℕ → ℕ) (homes : List ℕ) (is : (body : Bool) (r : ℕ) → thin body r ≡ number_but homes (was body r)) where
  pub alike : (h : ℕ) → slot_by m thin h ≡ slot_by m (thinned homes was) h
  alike h = slot_alike m thin (thinned homes was) h (λ body r below. ap (λ x. x == suc h) (is body r))

  pub thin_loose : (k : ℕ) → IsLooseHome m thin k → IsLooseHome m (thinned homes was) k
  thin_loose k home = (home.0, home.1, sym (alike home.0) ∙ home.2, home.3)

  -- what is copied is moved
  pub thin_moved : (k : ℕ) → IsCopiedHome m thin k → IsMoved m (thinned homes was) k
  thin_moved k copied = copied_moved m (thinned homes was) k (copied.0, copied.1, copied.2, (copied.3.0, sym (is copied.0 copied.1) ∙ copied.3.1, copied.3.2))

  -- and as many slots are taken
  pub thin_full : nat_lt (504 * m) (live_count m thin + length homes) ≡ true → IsFull m was homes
  thin_full full =
      let one = live_same (thin false) (thinned homes was false) (504 * m) (λ r below. is false r) in
      let two = live_same (thin true) (thinned homes was true) (504 * m) (λ r below. is true r) in
      let more : 504 * m < live_count m thin + length homes = grind (arith, nat_tests) in
      omega (arith, one, two, more)

  -- each slot is given to what it was, or to none
  pub thin_either : (body : Bool) (r : ℕ) → (thin body r ≡ was body r) ⊎ (thin body r ≡ 0)
  thin_either body r = ⊎_elim (λ none. inr (is body r ∙ none)) (λ same. inl (is body r ∙ same)) (but_either homes (was body r))

  -- no home has two slots where none had
  pub thin_single : IsSingle m was → IsSingle m thin
  thin_single single a b r s low below same = ⊎_elim (λ none. inl (is a r ∙ none))
      (λ one. ⊎_elim (λ none. inl (same ∙ is b s ∙ none))
      (λ two. ⊎_elim (λ none. inl (is a r ∙ one ∙ none)) (λ place. inr place)
      (single a b r s low below (sym one ∙ sym (is a r) ∙ same ∙ is b s ∙ two)))
      (but_either homes (was b s)))
      (but_either homes (was a r))

-- as many are listed as are asked for, where there are so many
pub least : (long n all : ℕ) → long ≡ min n all → n ≤ all → long ≡ n
least long n all is few = omega (arith, is, few)

-- The slots that are listed for a commit
module _ (m : ℕ) (was : Bool → ℕ → ℕ) (slots : List Slot) (are : AreFree m was slots) where
  -- are those of a pool,
  pub are_slots : AreApart slots → AreSlots m slots
  are_slots apart = record {
    inside = λ j below. (are j below).0;
    apart = λ i j less below same. apart i j less below (ap (λ s. s.place) same) (ap (λ s. s.second) same);
  }

  -- and what is filled of them is loose.
  pub filled_loose : (k : ℕ) → IsFilled m slots (length slots) k → IsLooseSlot m was k
  filled_loose k filled = let slot = slot_at slots filled.0 in (slot.second, slot.place, (are filled.0 filled.1).0, (are filled.0 filled.1).1, filled.2)
