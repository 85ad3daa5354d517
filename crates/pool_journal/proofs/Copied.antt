-- Pages of slots copied to their homes.
use Rattle.std.proofs.Common.{◌≡◌, ◌<◌, ◌≤◌, ◌+◌, ◌*◌, ◌^◌, ◌∙◌, ℕ, zero, suc, Bool, true, false, List, length, get_or, Option, Some, None, refl, sym, ap, subst, ⊎_elim, inl, inr, arith, ◌==◌, if◌then◌else◌}
use Rattle.std.proofs.lemmas.Bool.{cases_eq, eqb-true, eqb-false}
use Rattle.disk_model.proofs.Naming.{once_apart}
use Rattle.disk_model.specs.{Moments.{Touches}, Stop.{Image, NamesOnce}}
use Rattle.disk_model.specs.declared.sector_disk.SectorDisk.{Ghosts}
use Rattle.pool_journal.specs.{Copying.{IsHomeOf, IsCopyOf, HoldsCopy, IsBodyHome, IsBodyCopy, HoldsBody, IsSingleBody, IsCopiedHome, HoldsHomes}, Maps.{entries_of, IsMapOf}}
use Rattle.pool_journal.specs.{Pools.{pool_slot, pool_home, pool_home_count, first_among, first_slot, some_or, slot_by, IsLooseHome, IsSingle}, declared.map.SlotMap.{SlotMap}}
use Rattle.pool_journal.specs.{Sizes.{HasPool}, declared.sizes.PoolSizes.{PoolSizes}}
use Rattle.sync_journal.{proofs.Runs.{of_more, one_more}, specs.{Runs.{RunsOnDevice}}}

-- what is found is the first place of a number
abbrev pub IsFirst : (ℕ → ℕ) → ℕ → ℕ → Option ℕ → Type 0
IsFirst names x n None = (s : ℕ) → s < n → names s ≡ x → ⊥
IsFirst names x n (Some r) = (r < n) × (names r ≡ x) × ((s : ℕ) → s < r → names s ≡ x → ⊥)

pub first_is : (names : ℕ → ℕ) (x n : ℕ) → IsFirst names x n (first_among names x n)
unfolding first_among
first_is names x zero = λ s below. absurd (omega (arith, below))
first_is names x (suc n) = from (first_among names x n) (first_is names x n)
  where
    from : (o : Option ℕ) → IsFirst names x n o → IsFirst names x (suc n) (some_or o (if names n == x then Some n else None))
    from (Some r) found = (omega (arith, found.0), found.1, found.2)
    from None none = here (names n == x) refl
      where
        here : (b : Bool) → (names n == x) ≡ b → IsFirst names x (suc n) (if b then Some n else None)
        here true is = (omega arith, eqb-true (names n) x is, none)
        here false is = λ s below named. ⊎_elim (λ same. eqb-false (names n) x is (subst (λ p. names p ≡ x) same named)) (λ other. none s (omega (arith, below, other)) named) (cases_eq s n)

-- a number that stands at some place stands at a first one
pub some_first : (names : ℕ → ℕ) (x n r : ℕ) → r < n → names r ≡ x → (s : ℕ) × (first_among names x n ≡ Some s)
some_first names x n r below is = from (first_among names x n) (first_is names x n)
  where
    from : (o : Option ℕ) → IsFirst names x n o → (s : ℕ) × (o ≡ Some s)
    from (Some s) found = (s, refl)
    from None none = absurd (none r below is)

pub found_first : (names : ℕ → ℕ) (x n r : ℕ) → first_among names x n ≡ Some r → IsFirst names x n (Some r)
found_first names x n r e = subst (IsFirst names x n) e (first_is names x n)

-- slots lie before homes
pub slot_below : (m : ℕ) (body : Bool) (r : ℕ) → r < 504 * m → pool_slot m body r + 8 ≤ pool_home m 0
slot_below m false r below = omega (arith, below)
slot_below m true r below = omega (arith, below)

-- and homes on the device
pub home_inside : (m sectors h : ℕ) → h < pool_home_count m sectors → pool_home m h + 8 ≤ sectors
home_inside m sectors h below = omega (arith, below)

pub home_low : (m sectors h : ℕ) → h < pool_home_count m sectors → h < 2 ^ 30
home_low m sectors h below = omega (arith, below)

-- the device has its pool still
pub still_pool : {D : Type 0} (g : Ghosts D) (sizes : PoolSizes) (old new : D) → g.sector_count new ≡ g.sector_count old → HasPool g sizes old → HasPool g sizes new
still_pool g sizes old new same has = record { sized = has.sized; room = subst (λ n. pool_home sizes.blocks 0 ≤ n) (sym same) has.room; homes = has.homes ∙ ap (pool_home_count sizes.blocks) (sym same) }

-- the homes of slots from a place on hold what the first of these held
abbrev pub HoldsFrom : ℕ → Bool → List ℕ → ℕ → Image → Image → Type 0
HoldsFrom m body numbers from old new = (h r i : ℕ) → from ≤ r → r < length numbers → get_or numbers r 0 ≡ suc h → ((s : ℕ) → from ≤ s → s < r → get_or numbers s 0 ≡ suc h → ⊥) → i < 8
    → new (pool_home m h + i) ≡ old (pool_slot m body r + i)

-- A body is copied from its last slot on.
module _ {D : Type 0} (g : Ghosts D) (m : ℕ) (body : Bool) (numbers : List ℕ) (long : length numbers ≡ 504 * m) where
  module _ (p q : ℕ) (at : q ≡ p + 1) (below : p < length numbers) (old mid new : D) where
    pub held_more : Touches g (IsBodyHome m numbers) old mid → HoldsFrom m body numbers q (g.content old) (g.content mid)
        → Touches g (IsHomeOf m (get_or numbers p 0)) mid new → HoldsCopy m body p (get_or numbers p 0) (g.content mid) (g.content new) → HoldsFrom m body numbers p (g.content old) (g.content new)
    held_more run so_far last copied h r i from inside is none small = ⊎_elim
        (λ same. subst (λ s. g.content new (pool_home m h + i) ≡ g.content old (pool_slot m body s + i)) (sym same)
        (copied h i (ap (λ s. get_or numbers s 0) (sym same) ∙ is) small ∙ slot_stays))
        (λ other. home_stays (λ e. none p (omega arith) (omega (arith, from, other)) e) ∙ so_far h r i (omega (arith, from, other, at)) inside is (λ s after before e. none s (omega (arith, after, at)) before e) small)
        (cases_eq r p)
      where
        slot_stays : g.content mid (pool_slot m body p + i) ≡ g.content old (pool_slot m body p + i)
        slot_stays = (let low = slot_below m body p (omega (arith, below, long)) in
            ⊎_elim (λ home. (let first = home.2.2.0 in absurd (omega (arith, low, small, first)))) (λ e. e) (run.content (pool_slot m body p + i)))

        home_stays : (get_or numbers p 0 ≡ suc h → ⊥) → g.content new (pool_home m h + i) ≡ g.content mid (pool_home m h + i)
        home_stays another = ⊎_elim
            (λ home. (let low = home.2.0 in let high = home.2.1 in let same : home.0 ≡ h = omega (arith, low, high, small) in absurd (another (home.1 ∙ ap suc same))))
            (λ e. e) (last.content (pool_home m h + i))

    pub homes_more : RunsOnDevice g (IsBodyHome m numbers) old mid → RunsOnDevice g (IsHomeOf m (get_or numbers p 0)) mid new → RunsOnDevice g (IsBodyHome m numbers) old new
    homes_more run last = one_more g (IsBodyHome m numbers) old mid new run (of_more g (IsHomeOf m (get_or numbers p 0)) (IsBodyHome m numbers) mid new (λ k home. (p, below, home)) last)

    pub copies_more : IsSingleBody numbers → NamesOnce (IsBodyCopy m body numbers q) (g.asked old) (g.asked mid) → NamesOnce (IsCopyOf m body p (get_or numbers p 0)) (g.asked mid) (g.asked new)
        → NamesOnce (IsBodyCopy m body numbers p) (g.asked old) (g.asked new)
    copies_more single = once_apart (IsBodyCopy m body numbers q) (IsCopyOf m body p (get_or numbers p 0)) (IsBodyCopy m body numbers p) (g.asked old) (g.asked mid) (g.asked new)
        (λ k was. (was.0, omega (arith, was.1, at), was.2, was.3)) (λ k here. (p, omega arith, below, here)) (λ k was here. two k was.0 was.1 was.2 was.3 here)
      where
        two : (k r : ℕ) → q ≤ r → r < length numbers → IsCopyOf m body r (get_or numbers r 0) k → IsCopyOf m body p (get_or numbers p 0) k → ⊥
        two k r after inside was here = (
            let low_r = slot_below m body r (omega (arith, inside, long)) in
            let low_p = slot_below m body p (omega (arith, below, long)) in
            ⊎_elim
            (λ slot. ⊎_elim (λ slot'. omega (arith, slot.0, slot'.1, after, at)) (λ home'. omega (arith, slot.1, home'.0, low_r)) here.2)
            (λ home. ⊎_elim (λ slot'. omega (arith, home.0, slot'.1, low_p))
            (λ home'. (let same : was.0 ≡ here.0 = omega (arith, home.0, home.1, home'.0, home'.1) in
            ⊎_elim (λ none. (let some = was.1 in omega (arith, none, some))) (λ one. omega (arith, one, after, at))
            (single r p inside below (was.1 ∙ ap suc same ∙ sym here.1))))
            here.2)
            was.2)

-- all of it is
pub all_held : (m : ℕ) (body : Bool) (numbers : List ℕ) (old new : Image) → HoldsFrom m body numbers 0 old new → HoldsBody m body numbers old new
all_held m body numbers old new held h r i e small =
    let found = found_first (λ s. get_or numbers s 0) (suc h) (length numbers) r e in
    held h r i (omega arith) found.0 found.1 (λ s from before is. found.2 s before is) small

-- Both bodies are.
module _ {D : Type 0} (g : Ghosts D) (m : ℕ) (map : SlotMap) (fits : IsMapOf m map) where
  pub first_loose : (k : ℕ) → IsBodyHome m map.first.items k → IsLooseHome m (entries_of map) k
  first_loose k home = (
      let h = home.2.0 in
      let s = some_first (entries_of map false) (suc h) (504 * m) home.0 (omega (arith, home.1, fits.0)) home.2.1 in
      (h, (false, s.0), ap (λ o. first_slot o (first_among (entries_of map true) (suc h) (504 * m))) s.1, home.2.2))

  pub second_loose : (k : ℕ) → IsBodyHome m map.second.items k → IsLooseHome m (entries_of map) k
  second_loose k home = from (first_among (entries_of map false) (suc home.2.0) (504 * m)) refl
    where
      from : (o : Option ℕ) → first_among (entries_of map false) (suc home.2.0) (504 * m) ≡ o → IsLooseHome m (entries_of map) k
      from (Some r) e = (home.2.0, (false, r), ap (λ o. first_slot o (first_among (entries_of map true) (suc home.2.0) (504 * m))) e, home.2.2)
      from None e = (let s = some_first (entries_of map true) (suc home.2.0) (504 * m) home.0 (omega (arith, home.1, fits.1)) home.2.1 in
          (home.2.0, (true, s.0), ap (λ o. first_slot o (first_among (entries_of map true) (suc home.2.0) (504 * m))) e ∙ ap (first_slot None) s.1, home.2.2))

  module _ (old mid new : D) where
    pub homes_held : Touches g (IsBodyHome m map.second.items) old mid → HoldsBody m true map.second.items (g.content old) (g.content mid)
        → Touches g (IsBodyHome m map.first.items) mid new → HoldsBody m false map.first.items (g.content mid) (g.content new) → HoldsHomes m (entries_of map) (g.content old) (g.content new)
    homes_held run second last first h i slot e small = from (first_among (entries_of map false) (suc h) (504 * m)) (first_among (entries_of map true) (suc h) (504 * m)) refl refl e
      where
        slot_stays : (r : ℕ) → r < 504 * m → g.content mid (pool_slot m false r + i) ≡ g.content old (pool_slot m false r + i)
        slot_stays r below = (let low = slot_below m false r below in
            ⊎_elim (λ home. (let at = home.2.2.0 in absurd (omega (arith, low, small, at)))) (λ e. e) (run.content (pool_slot m false r + i)))

        home_stays : first_among (entries_of map false) (suc h) (504 * m) ≡ None → g.content new (pool_home m h + i) ≡ g.content mid (pool_home m h + i)
        home_stays none = ⊎_elim
            (λ home. (let low = home.2.2.0 in let high = home.2.2.1 in let same : home.2.0 ≡ h = omega (arith, low, high, small) in
            absurd (subst (IsFirst (entries_of map false) (suc h) (504 * m)) none (first_is (entries_of map false) (suc h) (504 * m)) home.0 (omega (arith, home.1, fits.0)) (home.2.1 ∙ ap suc same))))
            (λ e. e) (last.content (pool_home m h + i))

        from : (o p : Option ℕ) → first_among (entries_of map false) (suc h) (504 * m) ≡ o → first_among (entries_of map true) (suc h) (504 * m) ≡ p → first_slot o p ≡ Some slot
            → g.content new (pool_home m h + i) ≡ g.content old (pool_slot m slot.0 slot.1 + i)
        from (Some r) p at other is = (let pair : ◌≡◌ {A = Bool × ℕ} (false, r) slot = cc in
            subst (λ (s : Bool × ℕ). g.content new (pool_home m h + i) ≡ g.content old (pool_slot m s.0 s.1 + i)) pair
            (first h r i (ap (first_among (entries_of map false) (suc h)) fits.0 ∙ at) small ∙ slot_stays r (found_first (entries_of map false) (suc h) (504 * m) r at).0))
        from None (Some r) none at is = (let pair : ◌≡◌ {A = Bool × ℕ} (true, r) slot = cc in
            subst (λ (s : Bool × ℕ). g.content new (pool_home m h + i) ≡ g.content old (pool_slot m s.0 s.1 + i)) pair
            (home_stays none ∙ second h r i (ap (first_among (entries_of map true) (suc h)) fits.1 ∙ at) small))
        from None None none other is = cc

    pub run_both : RunsOnDevice g (IsBodyHome m map.second.items) old mid → RunsOnDevice g (IsBodyHome m map.first.items) mid new → RunsOnDevice g (IsLooseHome m (entries_of map)) old new
    run_both run last = one_more g (IsLooseHome m (entries_of map)) old mid new (of_more g (IsBodyHome m map.second.items) (IsLooseHome m (entries_of map)) old mid second_loose run)
        (of_more g (IsBodyHome m map.first.items) (IsLooseHome m (entries_of map)) mid new first_loose last)

    pub once_both : IsSingle m (entries_of map) → NamesOnce (IsBodyCopy m true map.second.items 0) (g.asked old) (g.asked mid) → NamesOnce (IsBodyCopy m false map.first.items 0) (g.asked mid) (g.asked new)
        → NamesOnce (IsCopiedHome m (entries_of map)) (g.asked old) (g.asked new)
    once_both single = once_apart (IsBodyCopy m true map.second.items 0) (IsBodyCopy m false map.first.items 0) (IsCopiedHome m (entries_of map)) (g.asked old) (g.asked mid) (g.asked new)
        (λ k was. (true, was.0, omega (arith, was.2, fits.1), was.3)) (λ k was. (false, was.0, omega (arith, was.2, fits.0), was.3))
        (λ k was here. two k was.0 here.0 (omega (arith, was.2, fits.1)) (omega (arith, here.2, fits.0)) was.3 here.3)
      where
        apart : true ≡ false → ⊥
        apart e = cc

        two : (k r s : ℕ) → r < 504 * m → s < 504 * m → IsCopyOf m true r (get_or map.second.items r 0) k → IsCopyOf m false s (get_or map.first.items s 0) k → ⊥
        two k r s below_r below_s was here = (
            let low_r = slot_below m true r below_r in
            let low_s = slot_below m false s below_s in
            ⊎_elim
            (λ slot. ⊎_elim (λ slot'. omega (arith, slot.0, slot'.1, below_s)) (λ home'. omega (arith, slot.1, home'.0, low_r)) here.2)
            (λ home. ⊎_elim (λ slot'. omega (arith, home.0, slot'.1, low_s))
            (λ home'. (let same : was.0 ≡ here.0 = omega (arith, home.0, home.1, home'.0, home'.1) in
            ⊎_elim (λ none. (let some = was.1 in omega (arith, none, some))) (λ one. apart one.0)
            (single true false r s below_r below_s (was.1 ∙ ap suc same ∙ sym here.1))))
            here.2)
            was.2)

  pub first_single : IsSingle m (entries_of map) → IsSingleBody map.first.items
  first_single single r s below_r below_s same = ⊎_elim (λ none. inl none) (λ one. inr one.1) (single false false r s (omega (arith, below_r, fits.0)) (omega (arith, below_s, fits.0)) same)

  pub second_single : IsSingle m (entries_of map) → IsSingleBody map.second.items
  second_single single r s below_r below_s same = ⊎_elim (λ none. inl none) (λ one. inr one.1) (single true true r s (omega (arith, below_r, fits.1)) (omega (arith, below_s, fits.1)) same)

-- a slot that a home has is one of the pool's
pub slot_inside : (m : ℕ) (entries : Bool → ℕ → ℕ) (h : ℕ) (slot : Bool × ℕ) → slot_by m entries h ≡ Some slot → slot.1 < 504 * m
slot_inside m entries h slot e = from (first_among (entries false) (suc h) (504 * m)) (first_among (entries true) (suc h) (504 * m)) (first_is (entries false) (suc h) (504 * m)) (first_is (entries true) (suc h) (504 * m)) e
  where
    from : (o p : Option ℕ) → IsFirst (entries false) (suc h) (504 * m) o → IsFirst (entries true) (suc h) (504 * m) p → first_slot o p ≡ Some slot → slot.1 < 504 * m
    from (Some r) p found other is = (let pair : ◌≡◌ {A = Bool × ℕ} (false, r) slot = cc in subst (λ (s : Bool × ℕ). s.1 < 504 * m) pair found.0)
    from None (Some r) none found is = (let pair : ◌≡◌ {A = Bool × ℕ} (true, r) slot = cc in subst (λ (s : Bool × ℕ). s.1 < 504 * m) pair found.0)
    from None None none other is = (let bad : ⊥ = cc in absurd bad)
