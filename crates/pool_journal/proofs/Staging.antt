-- What the parts of a commit come to before the gate: the homes' pages stand in free slots, and what was copied home stays.
use Rattle.std.proofs.Common.{◌≡◌, ◌⊎◌, ◌≤◌, ◌<◌, ◌+◌, ℕ, suc, Bool, List, length, ap, ◌∙◌, ⊎_elim, inl, inr, arith, slice_index, get_or, sym}
use Rattle.std.proofs.lemmas.Bool.{cases_lt}
use Rattle.disk_model.{specs.Stop.{Image}}
use Rattle.pool_journal.proofs.{Loose.{no_map, no_home, map_low}, Slots.{old_page}, Thinned.{is_given, gives_free, gives_homes}}
use Rattle.pool_journal.specs.Commit.{IsThinned, GivesHomes, KeepsOthers, TakesFree, IsTaken}
use Rattle.pool_journal.specs.{Filling.{HoldsSlots, IsFilled}, Giving.{slot_at, AreFree, GivesFirst, AreRising}, Maps.{entries_of}, Pools.{pool_slot, pool_home, IsLoose, IsLooseSlot, IsPoolMap, IsSingle}, Room.{ChangesNext}}
use Rattle.pool_journal.specs.declared.{map.SlotMap.{SlotMap}, pool.PoolJournal.{PoolJournal}, slot.Slot.{Slot}}

-- a journal that changes its next map alone, and what slots it takes
pub only_next : (was now : PoolJournal) → ChangesNext was now → now ≡ record { sizes = was.sizes; second = was.second; map = was.map; next = now.next; free = was.free; taken = now.taken }
only_next was now changes =
    ap (λ sizes. record { sizes = sizes; second = now.second; map = now.map; next = now.next; free = now.free; taken = now.taken }) changes.sizes
    ∙ ap (λ second. record { sizes = was.sizes; second = second; map = now.map; next = now.next; free = now.free; taken = now.taken }) changes.second
    ∙ ap (λ map. record { sizes = was.sizes; second = was.second; map = map; next = now.next; free = now.free; taken = now.taken }) changes.map
    ∙ ap (λ free. record { sizes = was.sizes; second = was.second; map = was.map; next = now.next; free = free; taken = now.taken }) changes.free

-- what was copied home stays where homes are written no more
pub later_thinned : (m : ℕ) (was thin : Bool → ℕ → ℕ) (homes : List ℕ) (content copied staged : Image) → ((k : ℕ) → pool_home m 0 ≤ k → staged k ≡ copied k)
    → IsThinned m was thin homes content copied → IsThinned m was thin homes content staged
later_thinned m was thin homes content copied staged same thins = record {
  free = thins.free;
  taken = thins.taken;
  moved = λ h none. ⊎_elim (λ kept. inl kept) (λ home. inr (home.0, λ i below. same (pool_home m h + i) (omega arith) ∙ home.1 i below)) (thins.moved h none);
}

-- and the new pages stay where slots are
pub later_held : (m : ℕ) (was : Bool → ℕ → ℕ) (second : Bool) (slots : List Slot) (n : ℕ) (told : ℕ → Type 0) (pages : ℕ → List ℕ) (filled staged : Image) → length slots ≡ n → AreFree m was slots
    → ((k : ℕ) → IsPoolMap m second k ⊎ (staged k ≡ filled k)) → HoldsSlots m slots n told pages filled → HoldsSlots m slots n told pages staged
later_held m was second slots n told pages filled staged long are same holds j i below is small =
    let slot = slot_at slots j in
    let inside = (are j (omega (arith, below, long))).0 in
    ⊎_elim (λ map. absurd (no_map m second slot.second slot.place (pool_slot m slot.second slot.place + i) inside (omega arith, omega (arith, small)) map))
    (λ e. e ∙ holds j i below is small) (same (pool_slot m slot.second slot.place + i))

-- no slot is given to a home past the last one
pub given_most : (n : ℕ) (slots : List Slot) (homes : List ℕ) (old new : SlotMap) (most : ℕ) → GivesFirst n slots homes old new → length slots ≡ n
    → ((body : Bool) (r : ℕ) → entries_of old body r ≤ most) → ((j : ℕ) → j < n → slice_index homes j < most) → (body : Bool) (r : ℕ) → entries_of new body r ≤ most
given_most n slots homes old new most given long before inside body r = ⊎_elim
    (λ slot. (let within : slot.0 < n = omega (arith, slot.1, long) in
    let is : entries_of new body r ≡ suc (slice_index homes slot.0) = ap (λ k. entries_of new body k) slot.2 ∙ ap (λ b. entries_of new b (slot_at slots slot.0).place) slot.3 ∙ given.given slot.0 within in
    let low = inside slot.0 within in omega (arith, is, low)))
    (λ none. (let same = given.others body r (λ j below. none j (omega (arith, below, long))) in let low = before body r in omega (arith, same, low)))
    (is_given (length slots) slots body r)

-- no home has two slots where none had, and these had none
pub given_single : (m n : ℕ) (slots : List Slot) (homes : List ℕ) (old new : SlotMap) → GivesFirst n slots homes old new → length slots ≡ n → n ≡ length homes → AreRising homes → IsSingle m (entries_of old)
    → ((body : Bool) (r j : ℕ) → j < length homes → entries_of old body r ≡ suc (get_or homes j 0) → ⊥) → IsSingle m (entries_of new)
given_single m n slots homes old new given long all rising single none_had a b r s low below same =
    ⊎_elim (λ one. ⊎_elim (λ two. inr (both one two)) (λ free. absurd (none_had b s one.0 (omega (arith, one.1, long, all)) (sym (kept b s free) ∙ sym same ∙ is a r one)))
    (is_given (length slots) slots b s))
    (λ free. ⊎_elim (λ two. absurd (none_had a r two.0 (omega (arith, two.1, long, all)) (sym (kept a r free) ∙ same ∙ is b s two)))
    (λ free'. ⊎_elim (λ none. inl (kept a r free ∙ none)) (λ place. inr place) (single a b r s low below (sym (kept a r free) ∙ same ∙ kept b s free')))
    (is_given (length slots) slots b s))
    (is_given (length slots) slots a r)
  where
    Slots : Bool → ℕ → Type 0
    Slots body place = (j : ℕ) × (j < length slots) × (place ≡ (slot_at slots j).place) × (body ≡ (slot_at slots j).second)

    is : (body : Bool) (place : ℕ) (slot : Slots body place) → entries_of new body place ≡ suc (slice_index homes slot.0)
    is body place slot = ap (λ k. entries_of new body k) slot.2 ∙ ap (λ b. entries_of new b (slot_at slots slot.0).place) slot.3 ∙ given.given slot.0 (omega (arith, slot.1, long))

    kept : (body : Bool) (place : ℕ) → ((j : ℕ) → j < length slots → place ≡ (slot_at slots j).place → body ≡ (slot_at slots j).second → ⊥) → entries_of new body place ≡ entries_of old body place
    kept body place free = given.others body place (λ j within. free j (omega (arith, within, long)))

    order : (i j : ℕ) → j < length homes → slice_index homes i ≡ slice_index homes j → i < j → ⊥
    order i j within e less = let rises = rising i j less within in omega (arith, rises, e)

    both : Slots a r → Slots b s → (a ≡ b) × (r ≡ s)
    both one two =
        let e : slice_index homes one.0 ≡ slice_index homes two.0 = (let e' = sym (is a r one) ∙ same ∙ is b s two in omega (arith, e')) in
        let at : one.0 ≡ two.0 = ⊎_elim (λ less. absurd (order one.0 two.0 (omega (arith, two.1, long, all)) e less))
        (λ more. ⊎_elim (λ less. absurd (order two.0 one.0 (omega (arith, one.1, long, all)) (sym e) less)) (λ more'. omega (arith, more, more')) (cases_lt two.0 one.0)) (cases_lt one.0 two.0) in
        (one.3 ∙ ap (λ j. (slot_at slots j).second) at ∙ sym two.3, one.2 ∙ ap (λ j. (slot_at slots j).place) at ∙ sym two.2)

-- Slots that a map gives to none are given to homes, and each other slot to what it was, or to none.
module _ (m : ℕ) (was : Bool → ℕ → ℕ) (slots : List Slot) (homes : List ℕ) (old new : SlotMap) (long : length slots ≡ length homes) (are : AreFree m was slots) (given : GivesFirst (length homes) slots homes old new) where
  -- No page that stood in a slot is written over,
  pub takes_free : ((body : Bool) (r : ℕ) → (entries_of old body r ≡ was body r) ⊎ (entries_of old body r ≡ 0)) → TakesFree m was (entries_of new)
  takes_free kept body r below = ⊎_elim
      (λ slot. inr (inl (ap (was body) slot.2 ∙ ap (λ b. was b (slot_at slots slot.0).place) slot.3 ∙ (are slot.0 slot.1).1)))
      (λ none. (let same = given.others body r (λ j within. none j (omega (arith, within, long))) in
      ⊎_elim (λ e. inl (same ∙ e)) (λ free. inr (inr (same ∙ free))) (kept body r)))
      (is_given (length slots) slots body r)

  -- and what is filled is taken.
  pub filled_taken : (k : ℕ) → IsFilled m slots (length homes) k → IsTaken m was (entries_of new) k
  filled_taken k filled =
      let slot = slot_at slots filled.0 in
      let is = are filled.0 (let within = filled.1 in omega (arith, within, long)) in
      (slot.second, slot.place, is.0, is.1, (λ none. (let to = given.given filled.0 filled.1 in omega (arith, to, none))), filled.2)

-- The next map gives the slots to the homes:
module _ (m : ℕ) (was : Bool → ℕ → ℕ) (second : Bool) (thin now : SlotMap) (homes : List ℕ) (slots : List Slot) (content copied filled staged : Image)
    (thins : IsThinned m was (entries_of thin) homes content copied) (fills : (k : ℕ) → IsLooseSlot m was k ⊎ (filled k ≡ copied k)) (maps : (k : ℕ) → IsPoolMap m second k ⊎ (staged k ≡ filled k))
    (long : length slots ≡ length homes) (are : AreFree m was slots) (given : GivesFirst (length homes) slots homes thin now) where
  homes_stay : (k : ℕ) → pool_home m 0 ≤ k → staged k ≡ copied k
  homes_stay k high = ⊎_elim (λ map. absurd (map_low m second k map high))
      (λ e. ⊎_elim (λ slot. absurd (no_home m slot.0 slot.1 k slot.2 slot.4 high)) (λ e'. e ∙ e') (fills k)) (maps k)

  still : IsThinned m was (entries_of thin) homes content staged
  still = later_thinned m was (entries_of thin) homes content copied staged homes_stay thins

  to_homes : (j : ℕ) → j < length slots → entries_of now (slot_at slots j).second (slot_at slots j).place ≡ suc (get_or homes j 0)
  to_homes j below = given.given j (omega (arith, below, long))

  no_others : (body : Bool) (r : ℕ) → ((j : ℕ) → j < length slots → r ≡ (slot_at slots j).place → body ≡ (slot_at slots j).second → ⊥) → entries_of now body r ≡ entries_of thin body r
  no_others body r none = given.others body r (λ j below. none j (omega (arith, below, long)))

  -- the new pages stand there,
  pub staged_gives : (told : ℕ → Type 0) (pages : ℕ → List ℕ) → HoldsSlots m slots (length homes) told pages filled → GivesHomes m was (entries_of thin) (entries_of now) homes told pages content staged
  staged_gives told pages holds = gives_homes m was (entries_of thin) (entries_of now) homes content staged slots still long are to_homes no_others told pages
      (λ j i below is small. later_held m was second slots (length homes) told pages filled staged long are maps holds j i (omega (arith, below, long)) is small)

  -- and whatever was written to them, the other homes stand as they did.
  pub staged_others : (named : Bool) → ((k : ℕ) → IsLoose m named was k ⊎ (staged k ≡ content k)) → KeepsOthers m was (entries_of now) homes content staged
  staged_others named but = old_page m named was (entries_of thin) (entries_of now) homes content staged
      (gives_free m was (entries_of thin) (entries_of now) homes content staged slots still long are to_homes no_others) still.moved (λ k from. but k)
