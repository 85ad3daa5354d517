-- Slots and homes that are made zeros.
use Rattle.std.proofs.Common.{◌≡◌, ◌⊎◌, ◌<◌, ◌≤◌, ◌+◌, ◌-◌, ◌*◌, ◌/◌, ◌∙◌, ℕ, suc, Bool, true, false, List, length, get_or, take, replicate, Option, Some, None, refl, sym, ap, subst, ⊎_elim, inl, inr, arith}
use Rattle.std.proofs.lemmas.{Bool.{cases_eq}, List.{drop-replicate, take-replicate}}
use Rattle.disk_model.proofs.{Naming.{once_apart, once_named, once_wider}, Rows.{of_pages}}
use Rattle.disk_model.specs.{Moments.{Touches}, Sectors.{sector_bytes, part_of}, Stop.{ChangesPages, Elapses, IsOfPages, Names, NamesOnce}, declared.sector_disk.SectorDisk.{Ghosts}}
use Rattle.pool_journal.proofs.{Copied.{slot_below}, Loose.{Gives, slot_gives}}
use Rattle.pool_journal.specs.{Blanking.{IsBlanked, AreBlank, IsGivenAmong, IsBlankedSlot, AreSlotsBlank}, Maps.{entries_of, IsMapOf}, Pools.{pool_slot, pool_home, pool_stands, slot_by}, declared.map.SlotMap.{SlotMap}}
use Rattle.sync_journal.{proofs.Runs.{of_more, one_more}, specs.{Layout.{IsPageSector}, Runs.{RunsOnDevice}}}

-- a part of a page of zeros
part_zeros : (i : ℕ) → i < 8 → part_of (replicate 4096 0) i ≡ replicate sector_bytes 0
part_zeros i small = ap (take 512) (drop-replicate (512 * i) 4096 0) ∙ take-replicate 512 (4096 - 512 * i) 0 (omega (arith, small))

-- the numbers of a body
pub body_numbers : (map : SlotMap) (second : Bool) (numbers : List ℕ) → (second ≡ false → numbers ≡ map.first.items) → (second ≡ true → numbers ≡ map.second.items)
    → (r : ℕ) → get_or numbers r 0 ≡ entries_of map second r
body_numbers map false numbers first second r = ap (λ xs. get_or xs r 0) (first refl)
body_numbers map true numbers first second r = ap (λ xs. get_or xs r 0) (second refl)

-- and its places
pub body_inside : (blocks : ℕ) (map : SlotMap) (second : Bool) (numbers : List ℕ) (place : ℕ) → IsMapOf blocks map → (second ≡ false → numbers ≡ map.first.items)
    → (second ≡ true → numbers ≡ map.second.items) → place < length numbers → place < 504 * blocks
body_inside blocks map false numbers place fits first second below = (let long : length numbers ≡ 504 * blocks = ap length (first refl) ∙ fits.0 in omega (arith, below, long))
body_inside blocks map true numbers place fits first second below = (let long : length numbers ≡ 504 * blocks = ap length (second refl) ∙ fits.1 in omega (arith, below, long))

-- The slots of a body, one after another.
module _ {D : Type 0} (g : Ghosts D) (m : ℕ) (body : Bool) (numbers : ℕ → ℕ) (first count : ℕ) where
  -- from old to new those before place p were made zeros
  pub record BlanksBefore (p : ℕ) (old new : D) : Type 0 where
    pub run : RunsOnDevice g (IsBlankedSlot m body numbers first count (504 * m)) old new
    pub zeros : g.keeps_model new → AreSlotsBlank m body numbers first count p (g.content new)
    pub once : NamesOnce (IsBlankedSlot m body numbers first count p) (g.asked old) (g.asked new)
    pub calm : g.failures new ≡ g.failures old

  one_before : (p k : ℕ) → IsBlankedSlot m body numbers first count p k → IsBlankedSlot m body numbers first count (p + 1) k
  one_before p k was = (was.0, omega (arith, was.1), was.2, was.3)

  -- one that is given to another home, or to none, stays
  pub blanks_passed : (p : ℕ) (old new : D) → (IsGivenAmong first count (numbers p) → ⊥) → BlanksBefore p old new → BlanksBefore (p + 1) old new
  blanks_passed p old new other so_far = record {
    run = so_far.run;
    zeros = λ keeps r i below given. ⊎_elim
        (λ here. absurd (other (subst (λ s. IsGivenAmong first count (numbers s)) here given)))
        (λ before. so_far.zeros keeps r i (omega (arith, below, before)) given)
        (cases_eq r p);
    once = once_wider (IsBlankedSlot m body numbers first count p) (IsBlankedSlot m body numbers first count (p + 1)) (g.asked old) (g.asked new) (one_before p) so_far.once;
    calm = so_far.calm;
  }

  -- and any other is written
  module _ (p at : ℕ) (below : p < 504 * m) (given : IsGivenAmong first count (numbers p)) (is : at ≡ pool_slot m body p) (old mid new : D)
      (so_far : BlanksBefore p old mid) (run : RunsOnDevice g (IsPageSector at) mid new) (asks : Names (IsPageSector at) (g.asked mid) (g.asked new)) where
    pub slot_run : RunsOnDevice g (IsBlankedSlot m body numbers first count (504 * m)) old new
    slot_run = one_more g (IsBlankedSlot m body numbers first count (504 * m)) old mid new so_far.run
        (of_more g (IsPageSector at) (IsBlankedSlot m body numbers first count (504 * m)) mid new (λ k here. (p, below, given, (omega (arith, here.0, is), omega (arith, here.1, is)))) run)

    pub slot_once : NamesOnce (IsBlankedSlot m body numbers first count (p + 1)) (g.asked old) (g.asked new)
    slot_once = once_apart (IsBlankedSlot m body numbers first count p) (IsPageSector at) (IsBlankedSlot m body numbers first count (p + 1)) (g.asked old) (g.asked mid) (g.asked new)
        (one_before p) (λ k here. (p, omega arith, given, (omega (arith, here.0, is), omega (arith, here.1, is)))) (λ k was here. omega (arith, was.1, was.3.1, here.0, is))
        so_far.once (once_named (IsPageSector at) (IsPageSector at) (g.asked mid) (g.asked new) (λ k here. here) asks)

    pub slot_failed : NamesOnce (IsBlankedSlot m body numbers first count (504 * m)) (g.asked old) (g.asked new)
    slot_failed = once_wider (IsBlankedSlot m body numbers first count (p + 1)) (IsBlankedSlot m body numbers first count (504 * m)) (g.asked old) (g.asked new)
        (λ k was. (was.0, omega (arith, was.1, below), was.2, was.3)) slot_once

    slot_zeros : g.keeps_model new → ((i : ℕ) → i < 8 → g.content new (at + i) ≡ part_of (replicate 4096 0) i) → AreSlotsBlank m body numbers first count (p + 1) (g.content new)
    slot_zeros keeps written r i before blank small = ⊎_elim
        (λ here. ap (λ s. g.content new (pool_slot m body s + i)) here ∙ ap (λ k. g.content new (k + i)) (sym is) ∙ written i small ∙ part_zeros i small)
        (λ other. (let less : r < p = omega (arith, before, other) in
        ⊎_elim (λ here. (let low = here.0 in absurd (omega (arith, low, less, small, is)))) (λ stays. stays ∙ so_far.zeros (run.kept keeps) r i less blank small)
        ((run.touches keeps).content (pool_slot m body r + i))))
        (cases_eq r p)

    pub blanks_slot : (g.keeps_model new → (i : ℕ) → i < 8 → g.content new (at + i) ≡ part_of (replicate 4096 0) i) → g.failures new ≡ g.failures mid → BlanksBefore (p + 1) old new
    blanks_slot written calm = record { run = slot_run; zeros = λ keeps. slot_zeros keeps (written keeps); once = slot_once; calm = calm ∙ so_far.calm }

-- a row of pages written
pub pages_run : {D : Type 0} (g : Ghosts D) (n pages : ℕ) (old new : D) → g.sector_count new ≡ g.sector_count old → (g.keeps_model new → g.keeps_model old) → g.failures old ≤ g.failures new
    → (g.keeps_model new → ChangesPages n pages (g.content old) (g.content new))
    → (g.keeps_model new → (k : ℕ) → g.unsynced new k → g.unsynced old k ⊎ IsOfPages n pages k)
    → (g.keeps_model new → Elapses (g.moment old) (g.moment new) (g.left_since old) (g.left_since new) (g.content new) (g.unsynced new))
    → RunsOnDevice g (IsOfPages n pages) old new
pages_run {D} g n pages old new size kept later changes marks time = record { size = size; kept = kept; later = later; touches = touches }
  where
    same : g.keeps_model new → (k : ℕ) → IsOfPages n pages k ⊎ (g.content new k ≡ g.content old k)
    same keeps k = ⊎_elim (λ inside. inl inside) (λ out. inr ((changes keeps).others k out)) (of_pages n pages k)

    touches : g.keeps_model new → Touches g (IsOfPages n pages) old new
    touches keeps = record {
      content = same keeps;
      unsynced = marks keeps;
      later = (time keeps).later;
      moments = λ t c le left. ⊎_elim (λ o. inl o)
          (λ may. inr (record { kept = λ k. ⊎_elim (λ u. inl (marks keeps k u)) (λ e. ⊎_elim (λ w. inl (inr w)) (λ e'. inr (e ∙ e')) (same keeps k)) (may.kept k) }))
          ((time keeps).nothing_else t c le left);
    }

-- The homes, then the slots of both bodies.
module _ {D : Type 0} (g : Ghosts D) (m : ℕ) (entries : Bool → ℕ → ℕ) (first count at pages : ℕ) (is : at ≡ pool_home m first) (all : pages ≡ count) where
  home_blanked : (k : ℕ) → IsOfPages at pages k → IsBlanked m entries first count k
  home_blanked k of =
      let h = (k - pool_home m 0) / 8 in (
        h,
        omega (arith, of.0, is),
        omega (arith, of.0, of.1, is, all),
        inl (omega (arith, of.0, is), omega (arith, of.0, is)),
      )

  slot_blanked : (body : Bool) (k : ℕ) → IsBlankedSlot m body (entries body) first count (504 * m) k → IsBlanked m entries first count k
  slot_blanked body k slot =
      let number = entries body slot.0 in
      let low = slot.2.0 in
      let high = slot.2.1 in
      let named : number ≡ suc (number - 1) = omega (arith, low) in
      (number - 1, omega (arith, low), omega (arith, low, high), inr (body, slot.0, slot.1, named, slot.3))

  -- slots lie before homes
  home_or_slot : (body : Bool) (k : ℕ) → IsOfPages at pages k → IsBlankedSlot m body (entries body) first count (504 * m) k → ⊥
  home_or_slot body k of slot = (let low = slot_below m body slot.0 slot.1 in let inside = slot.3.1 in omega (arith, low, inside, of.0, is))

  -- and the first body before the second
  first_or_second : (k : ℕ) → IsBlankedSlot m false (entries false) first count (504 * m) k → IsBlankedSlot m true (entries true) first count (504 * m) k → ⊥
  first_or_second k one two = (let below = one.1 in let inside = one.3.1 in let behind = two.3.0 in omega (arith, below, inside, behind))

  module _ (old homes : D) (run : RunsOnDevice g (IsOfPages at pages) old homes) (once : NamesOnce (IsOfPages at pages) (g.asked old) (g.asked homes)) where
    pub homes_run : RunsOnDevice g (IsBlanked m entries first count) old homes
    homes_run = of_more g (IsOfPages at pages) (IsBlanked m entries first count) old homes home_blanked run

    pub homes_once : NamesOnce (IsBlanked m entries first count) (g.asked old) (g.asked homes)
    homes_once = once_wider (IsOfPages at pages) (IsBlanked m entries first count) (g.asked old) (g.asked homes) home_blanked once

    module _ (mid : D) (one : RunsOnDevice g (IsBlankedSlot m false (entries false) first count (504 * m)) homes mid)
        (one_once : NamesOnce (IsBlankedSlot m false (entries false) first count (504 * m)) (g.asked homes) (g.asked mid)) where
      pub first_run : RunsOnDevice g (IsBlanked m entries first count) old mid
      first_run = one_more g (IsBlanked m entries first count) old homes mid homes_run
          (of_more g (IsBlankedSlot m false (entries false) first count (504 * m)) (IsBlanked m entries first count) homes mid (slot_blanked false) one)

      abbrev IsDone : ℕ → Type 0
      IsDone k = IsOfPages at pages k ⊎ IsBlankedSlot m false (entries false) first count (504 * m) k

      done_once : NamesOnce IsDone (g.asked old) (g.asked mid)
      done_once = once_apart (IsOfPages at pages) (IsBlankedSlot m false (entries false) first count (504 * m)) IsDone (g.asked old) (g.asked homes) (g.asked mid)
          (λ k of. inl of) (λ k slot. inr slot) (home_or_slot false) once one_once

      done_blanked : (k : ℕ) → IsDone k → IsBlanked m entries first count k
      done_blanked k = ⊎_elim (home_blanked k) (slot_blanked false k)

      pub first_once : NamesOnce (IsBlanked m entries first count) (g.asked old) (g.asked mid)
      first_once = once_wider IsDone (IsBlanked m entries first count) (g.asked old) (g.asked mid) done_blanked done_once

      module _ (new : D) (two : RunsOnDevice g (IsBlankedSlot m true (entries true) first count (504 * m)) mid new)
          (two_once : NamesOnce (IsBlankedSlot m true (entries true) first count (504 * m)) (g.asked mid) (g.asked new)) where
        pub both_run : RunsOnDevice g (IsBlanked m entries first count) old new
        both_run = one_more g (IsBlanked m entries first count) old mid new first_run
            (of_more g (IsBlankedSlot m true (entries true) first count (504 * m)) (IsBlanked m entries first count) mid new (slot_blanked true) two)

        pub both_once : NamesOnce (IsBlanked m entries first count) (g.asked old) (g.asked new)
        both_once = once_apart IsDone (IsBlankedSlot m true (entries true) first count (504 * m)) (IsBlanked m entries first count) (g.asked old) (g.asked mid) (g.asked new)
            done_blanked (slot_blanked true) (λ k done slot. ⊎_elim (λ of. home_or_slot true k of slot) (λ other. first_or_second k other slot) done) done_once two_once

  -- what stands for each home is zeros then
  module _ (homes mid new : D) (zeros : (k : ℕ) → IsOfPages at pages k → g.content homes k ≡ replicate sector_bytes 0)
      (one : Touches g (IsBlankedSlot m false (entries false) first count (504 * m)) homes mid) (one_zeros : AreSlotsBlank m false (entries false) first count (504 * m) (g.content mid))
      (two : Touches g (IsBlankedSlot m true (entries true) first count (504 * m)) mid new) (two_zeros : AreSlotsBlank m true (entries true) first count (504 * m) (g.content new)) where
    home_zeros : (k : ℕ) → IsOfPages at pages k → g.content new k ≡ replicate sector_bytes 0
    home_zeros k of = ⊎_elim (λ slot. absurd (home_or_slot true k of slot)) (λ e. e) (two.content k)
        ∙ ⊎_elim (λ slot. absurd (home_or_slot false k of slot)) (λ e. e) (one.content k) ∙ zeros k of

    body_zeros : (body : Bool) → AreSlotsBlank m body (entries body) first count (504 * m) (g.content new)
    body_zeros true r i below given small = two_zeros r i below given small
    body_zeros false r i below given small = ⊎_elim (λ slot. absurd (first_or_second (pool_slot m false r + i) (r, below, given, (omega arith, omega (arith, small))) slot)) (λ e. e) (two.content (pool_slot m false r + i))
        ∙ one_zeros r i below given small

    pub all_blank : AreBlank m entries first count (g.content new)
    all_blank h i from before small = here (slot_by m entries h) (slot_gives m entries h)
      where
        here : (o : Option (Bool × ℕ)) → Gives m entries h o → g.content new (pool_stands m h o + i) ≡ replicate sector_bytes 0
        here None none = home_zeros (pool_home m h + i) (omega (arith, from, is), omega (arith, before, small, is, all))
        here (Some slot) gives = body_zeros slot.0 slot.1 i gives.0 (omega (arith, gives.1, from), omega (arith, gives.1, before)) small
