-- What a map says stands doesn't depend on what is loose.
use Rattle.std.proofs.Common.{◌≡◌, ◌⊎◌, ◌≤◌, ◌<◌, ◌+◌, ◌*◌, ◌-◌, ◌/◌, ◌%◌, ℕ, zero, suc, Bool, true, false, not, List, Option, Some, None, IsSome, refl, sym, ap, subst, ◌∙◌, ⊎_elim, inl, inr, arith, ◌==◌, if◌then◌else◌}
use Rattle.std.{proofs.lemmas.Bool.{cases_eq, cases_lt, eqb-false, eqb-true, Decides.{nat_tests}}, specs.Prelude.{nat_lt, min}}
use Rattle.byteorder.specs.Endian.{little_number}
use Rattle.disk_model.{proofs.Pieces.{joined-same}, specs.{Stop.{Image}, declared.sector_disk.SectorDisk.{Ghosts}}}
use Rattle.pool_journal.specs.Pools.{pool, IsPoolRest, pool_start, pool_slot, pool_home, pool_block, pool_counted, block_number, within, pool_entry}
use Rattle.pool_journal.specs.Pools.{some_or, first_among, first_slot, slot_by, pool_stands, pool_under, pool_named, pool_standing, IsPoolMap, IsLoose, pool_gate}
use Rattle.sync_journal.specs.{Layout.{IsPageSector}, Layouts.{HomesStandAs}}

-- places that pass the same test have the same first
pub first_alike : (names others : ℕ → ℕ) (x n : ℕ) → ((j : ℕ) → j < n → (names j == x) ≡ (others j == x)) → first_among names x n ≡ first_among others x n
unfolding first_among
first_alike names others x zero same = refl
first_alike names others x (suc n) same =
    ap (λ o. some_or o (if names n == x then Some n else None)) (first_alike names others x n (λ j below. same j (omega (arith, below))))
    ∙ ap (λ b. some_or (first_among others x n) (if b then Some n else None)) (same n (omega arith))

-- and names the number, which no place does where there is none
abbrev pub Finds : (ℕ → ℕ) → ℕ → ℕ → Option ℕ → Type 0
Finds names x n None = (j : ℕ) → j < n → names j ≡ x → ⊥
Finds names x n (Some j) = (j < n) × (names j ≡ x)

pub first_finds : (names : ℕ → ℕ) (x n : ℕ) → Finds names x n (first_among names x n)
unfolding first_among
first_finds names x zero = λ j none. absurd (omega (arith, none))
first_finds names x (suc n) = from (first_among names x n) (first_finds names x n)
  where
    from : (o : Option ℕ) → Finds names x n o → Finds names x (suc n) (some_or o (if names n == x then Some n else None))
    from (Some j) found = (omega (arith, found.0), found.1)
    from None none = here (names n == x) refl
      where
        here : (b : Bool) → (names n == x) ≡ b → Finds names x (suc n) (if b then Some n else None)
        here false is = λ j below same. ⊎_elim (λ last. eqb-false (names n) x is (ap names (sym last) ∙ same))
            (λ before. none j (omega (arith, below, before)) same) (cases_eq j n)
        here true is = (omega arith, eqb-true (names n) x is)

-- a map's block, and so what it gives, is as its sectors are
module _ (m n : ℕ) (second : Bool) (content image : Image) (maps : (k : ℕ) → IsPoolMap m second k → image k ≡ content k) where
  same_block : (q : ℕ) → q < m → pool_block m second image q ≡ pool_block m second content q
  same_block q below = joined-same 8 (λ i. image (pool_start m second + 8 * (m - 1 - q) + i)) (λ i. content (pool_start m second + 8 * (m - 1 - q) + i))
      (λ i in_block. maps (pool_start m second + 8 * (m - 1 - q) + i) (omega arith, omega (arith, below, in_block)))

  pub same_entry : (body : Bool) (r : ℕ) → r < 504 * m → pool_entry m n second image body r ≡ pool_entry m n second content body r
  unfolding pool_entry
  same_entry body r below =
      let q : r / 504 < m = omega (arith, below) in
      ap (λ (first : List ℕ). if nat_lt (r / 504) (min (little_number 4 first) m) then within n (block_number body (r % 504) (pool_block m second image
      (r / 504))) else 0) (same_block 0 (omega (arith, below)))
      ∙ ap (λ (block : List ℕ). if nat_lt (r / 504) (pool_counted m second content) then within n (block_number body (r % 504) block) else 0) (same_block
      (r / 504) q)

-- a slot that a map gives to a home, where there is one
abbrev pub Gives : ℕ → (Bool → ℕ → ℕ) → ℕ → Option (Bool × ℕ) → Type 0
Gives m entries h None = (body : Bool) (r : ℕ) → r < 504 * m → entries body r ≡ suc h → ⊥
Gives m entries h (Some slot) = (slot.1 < 504 * m) × (entries slot.0 slot.1 ≡ suc h)

pub slot_gives : (m : ℕ) (entries : Bool → ℕ → ℕ) (h : ℕ) → Gives m entries h (slot_by m entries h)
slot_gives m entries h = from (first_among (entries false) (suc h) (504 * m)) (first_among (entries true) (suc h) (504 * m)) (first_finds (entries false)
    (suc h) (504 * m)) (first_finds (entries true) (suc h) (504 * m))
  where
    neither : Finds (entries false) (suc h) (504 * m) None → Finds (entries true) (suc h) (504 * m) None → Gives m entries h None
    neither one two false r below same = one r below same
    neither one two true r below same = two r below same

    from : (o p : Option ℕ) → Finds (entries false) (suc h) (504 * m) o → Finds (entries true) (suc h) (504 * m) p → Gives m entries h (first_slot o p)
    from (Some r) p found other = found
    from None (Some r) found other = other
    from None None found other = neither found other

-- a home whose number no slot has is given none
pub none_at : (m : ℕ) (entries : Bool → ℕ → ℕ) (h : ℕ) → ((body : Bool) (r : ℕ) → r < 504 * m → entries body r ≡ suc h → ⊥) → slot_by m entries h ≡ None
none_at m entries h none = here (slot_by m entries h) (slot_gives m entries h)
  where
    here : (o : Option (Bool × ℕ)) → Gives m entries h o → o ≡ None
    here None gives = refl
    here (Some slot) gives = absurd (none slot.0 slot.1 gives.0 gives.1)

-- and one whose number a slot has is given one
pub some_at : (m : ℕ) (entries : Bool → ℕ → ℕ) (h : ℕ) (body : Bool) (r : ℕ) → r < 504 * m → entries body r ≡ suc h → IsSome (slot_by m entries h)
some_at m entries h body r below number = here (slot_by m entries h) (slot_gives m entries h)
  where
    here : (o : Option (Bool × ℕ)) → Gives m entries h o → IsSome o
    here None gives = absurd (gives body r below number)
    here (Some slot) gives = refl

-- maps whose slots pass the same test give a home the same slot
pub slot_alike : (m : ℕ) (names others : Bool → ℕ → ℕ) (h : ℕ) → ((body : Bool) (r : ℕ) → r < 504 * m → (names body r == suc h) ≡ (others body r == suc h))
    → slot_by m names h ≡ slot_by m others h
slot_alike m names others h same =
    ap (λ o. first_slot o (first_among (names true) (suc h) (504 * m))) (first_alike (names false) (others false) (suc h) (504 * m) (same false))
    ∙ ap (first_slot (first_among (others false) (suc h) (504 * m))) (first_alike (names true) (others true) (suc h) (504 * m) (same true))

pub slot_same : (m : ℕ) (names others : Bool → ℕ → ℕ) (h : ℕ) → ((body : Bool) (r : ℕ) → r < 504 * m → names body r ≡ others body r)
    → slot_by m names h ≡ slot_by m others h
slot_same m names others h same = slot_alike m names others h (λ body r below. ap (λ x. x == suc h) (same body r below))

-- where the parts lie: two slots are one or apart
pub same_place : (m : ℕ) (a b : Bool) (r s k : ℕ) → r < 504 * m → s < 504 * m → IsPageSector (pool_slot m a r) k → IsPageSector (pool_slot m b s) k
    → (a ≡ b) × (r ≡ s)
same_place m false false r s k one two first second = (refl, omega (arith, first.0, first.1, second.0, second.1))
same_place m true true r s k one two first second = (refl, omega (arith, first.0, first.1, second.0, second.1))
same_place m false true r s k one two first second = absurd (omega (arith, one, first.1, second.0))
same_place m true false r s k one two first second = absurd (omega (arith, two, second.1, first.0))

pub no_map : (m : ℕ) (second a : Bool) (r k : ℕ) → r < 504 * m → IsPageSector (pool_slot m a r) k → IsPoolMap m second k → ⊥
no_map m false false r k below slot map = omega (arith, slot.0, map.1)
no_map m false true r k below slot map = omega (arith, slot.0, map.1)
no_map m true false r k below slot map = omega (arith, below, slot.1, map.0)
no_map m true true r k below slot map = omega (arith, slot.0, map.1)

pub no_home : (m : ℕ) (a : Bool) (r k : ℕ) → r < 504 * m → IsPageSector (pool_slot m a r) k → pool_home m 0 ≤ k → ⊥
no_home m false r k below slot high = omega (arith, below, slot.1, high)
no_home m true r k below slot high = omega (arith, below, slot.1, high)

pub map_low : (m : ℕ) (second : Bool) (k : ℕ) → IsPoolMap m second k → pool_home m 0 ≤ k → ⊥
map_low m false k map high = omega (arith, map.1, high)
map_low m true k map high = omega (arith, map.1, high)

pub maps_apart : (m : ℕ) (second : Bool) (k : ℕ) → IsPoolMap m second k → IsPoolMap m (not second) k → ⊥
maps_apart m false k one two = omega (arith, one.1, two.0)
maps_apart m true k one two = omega (arith, one.0, two.1)

map_from : (m : ℕ) (b : Bool) (k : ℕ) → IsPoolMap m b k → pool_gate + 8 ≤ k
map_from m false k map = omega (arith, map.0)
map_from m true k map = omega (arith, map.0)

slot_from : (m : ℕ) (b : Bool) (r i : ℕ) → pool_gate + 8 ≤ pool_slot m b r + i
slot_from m false r i = omega arith
slot_from m true r i = omega arith

pub stands_from : (m h i : ℕ) (o : Option (Bool × ℕ)) → pool_gate + 8 ≤ pool_stands m h o + i
stands_from m h i None = omega arith
stands_from m h i (Some slot) = slot_from m slot.0 slot.1 i

-- A page that stands under a map is not loose under it.
pub firm_page : (m : ℕ) (second : Bool) (entries : Bool → ℕ → ℕ) (content image : Image) → ((k : ℕ) → pool_gate + 8 ≤ k
    → IsLoose m second entries k ⊎ (image k ≡ content k))
    → (h i : ℕ) → i < 8 → image (pool_stands m h (slot_by m entries h) + i) ≡ content (pool_stands m h (slot_by m entries h) + i)
firm_page m second entries content image but h i below = here (slot_by m entries h) refl (slot_gives m entries h)
  where
    here : (o : Option (Bool × ℕ)) → slot_by m entries h ≡ o → Gives m entries h o → image (pool_stands m h o + i) ≡ content (pool_stands m h o + i)
    here None is gives = ⊎_elim
        (⊎_elim (λ other. absurd (map_low m (not second) (pool_home m h + i) other (omega arith)))
        (⊎_elim (λ slot. absurd (no_home m slot.0 slot.1 (pool_home m h + i) slot.2 slot.4 (omega arith)))
        (λ home. (let same : home.0 ≡ h = omega (arith, home.3.0, home.3.1, below) in let none : Some home.1 ≡ None = sym home.2
        ∙ ap (slot_by m entries) same ∙ is in absurd (let bad = none in cc)))))
        (λ e. e) (but (pool_home m h + i) (omega arith))
    here (Some place) is gives =
        let at : IsPageSector (pool_slot m place.0 place.1) (pool_slot m place.0 place.1 + i) = (omega arith, omega (arith, below)) in ⊎_elim
        (⊎_elim (λ other. absurd (no_map m (not second) place.0 place.1 (pool_slot m place.0 place.1 + i) gives.0 at other))
        (⊎_elim (λ slot. (let one = same_place m slot.0 place.0 slot.1 place.1 (pool_slot m place.0 place.1 + i) slot.2 gives.0 slot.4 at in
        let free : entries place.0 place.1 ≡ 0 = subst (λ b. entries b place.1 ≡ 0) one.0 (subst (λ r. entries slot.0 r ≡ 0) one.1 slot.3) in
        absurd (omega (arith, free, gives.1))))
        (λ home. absurd (no_home m place.0 place.1 (pool_slot m place.0 place.1 + i) gives.0 at (omega (arith, home.3.0))))))
        (λ e. e) (but (pool_slot m place.0 place.1 + i) (slot_from m place.0 place.1 i))

-- nor are the sectors of that map
pub firm_map : (m : ℕ) (second : Bool) (entries : Bool → ℕ → ℕ) (content image : Image) → ((k : ℕ) → pool_gate + 8 ≤ k
    → IsLoose m second entries k ⊎ (image k ≡ content k)) → (k : ℕ) → IsPoolMap m second k → image k ≡ content k
firm_map m second entries content image but k map = ⊎_elim
    (⊎_elim (λ other. absurd (maps_apart m second k map other)) (⊎_elim (λ slot. absurd (no_map m second slot.0 slot.1 k slot.2 slot.4 map))
    (λ home. absurd (map_low m second k map (omega (arith, home.3.0))))))
    (λ e. e) (but k (map_from m second k map))

-- the gate is not loose, nor what lies past the homes
pub map_high : (m : ℕ) (b : Bool) (k : ℕ) → IsPoolMap m b k → k < pool_gate + 8 → ⊥
map_high m b k map low = let from = map_from m b k map in omega (arith, from, low)

slot_high : (m : ℕ) (b : Bool) (r k : ℕ) → IsPageSector (pool_slot m b r) k → k < pool_gate + 8 → ⊥
slot_high m b r k slot low = let from = slot_from m b r 0 in omega (arith, from, slot.0, low)

pub loose_high : (m : ℕ) (second : Bool) (entries : Bool → ℕ → ℕ) (k : ℕ) → IsLoose m second entries k → k < pool_gate + 8 → ⊥
loose_high m second entries k loose low = ⊎_elim (λ map. map_high m (not second) k map low) (⊎_elim (λ slot. slot_high m slot.0 slot.1 k slot.4 low)
    (λ home. omega (arith, home.3.0, low))) loose

-- of a map that names n homes
pub loose_low : (m n : ℕ) (second : Bool) (entries : Bool → ℕ → ℕ) → ((body : Bool) (r : ℕ) → r < 504 * m → entries body r ≤ n) → (k : ℕ)
    → IsLoose m second entries k → pool_home m n ≤ k → ⊥
loose_low m n second entries few k loose high = ⊎_elim (λ map. map_low m (not second) k map (omega (arith, high)))
    (⊎_elim (λ slot. no_home m slot.0 slot.1 k slot.2 slot.4 (omega (arith, high)))
    (λ home. (let gives = subst (Gives m entries home.0) home.2 (slot_gives m entries home.0) in let most = few home.1.0 home.1.1 gives.0 in
    omega (arith, home.3.1, most, gives.1, high)))) loose

within_most : (n number : ℕ) → within n number ≤ n
within_most n number = ⊎_elim
    (λ more. (let is : nat_lt n number ≡ true = grind (arith, nat_tests) in let e = ap (λ b. if b then 0 else number) is in omega (arith, e)))
    (λ few. (let is : nat_lt n number ≡ false = grind (arith, nat_tests) in let e = ap (λ b. if b then 0 else number) is in omega (arith, e, few)))
    (cases_lt n number)

pub entry_most : (m n : ℕ) (second : Bool) (image : Image) (body : Bool) (r : ℕ) → pool_entry m n second image body r ≤ n
unfolding pool_entry
entry_most m n second image body r = most (nat_lt (r / 504) (pool_counted m second image)) _ (within_most n (block_number body (r % 504)
    (pool_block m second image (r / 504))))
  where
    most : (b : Bool) (number : ℕ) → number ≤ n → (if b then number else 0) ≤ n
    most true number few = few
    most false number few = omega arith

-- Between two commits a stop leaves images that stand for the same, whatever is written to what is loose.
module _ {D : Type 0} (g : Ghosts D) (m n : ℕ) (second : Bool) (entries : Bool → ℕ → ℕ) (d : D) (rest : IsPoolRest g m n second entries d) where
  pub same_by : (h : ℕ) → slot_by m (pool_entry m n second (g.content d)) h ≡ slot_by m entries h
  same_by h = slot_same m (pool_entry m n second (g.content d)) entries h rest.map

  pub still_loose : (k : ℕ) → IsLoose m second entries k → IsLoose m second (pool_entry m n second (g.content d)) k
  still_loose k = ⊎_elim (λ other. inl other)
      (⊎_elim (λ slot. inr (inl (slot.0, slot.1, slot.2, rest.map slot.0 slot.1 slot.2 ∙ slot.3, slot.4)))
      (λ home. inr (inr (home.0, home.1, same_by home.0 ∙ home.2, home.3))))

  -- it names no home past the last one
  pub few : (body : Bool) (r : ℕ) → r < 504 * m → entries body r ≤ n
  few body r below = let most = entry_most m n second (g.content d) body r in omega (arith, most, rest.map body r below)

  -- where the homes stand
  pub stood : (h i : ℕ) → pool_standing m n (g.content d) h i ≡ g.content d (pool_stands m h (slot_by m entries h) + i)
  stood h i = ap (λ b. pool_under m n b (g.content d) h i) rest.gate ∙ ap (λ o. g.content d (pool_stands m h o + i)) (same_by h)

  -- an image that agrees but for loose sectors and the gate's block, and whose gate names the same map
  pub pool_stays : (image : Image) → pool_named image ≡ second → ((k : ℕ) → (IsPageSector pool_gate k → ⊥)
      → IsLoose m second entries k ⊎ (image k ≡ g.content d k))
      → HomesStandAs (pool m n) (g.sector_count d) (g.content d) image
  pool_stays image gate but = record {
    stands = record {
      each = λ h i below. ap (λ b. pool_under m n b image h i) gate
          ∙ ap (λ o. image (pool_stands m h o + i)) (slot_same m (pool_entry m n second image) entries h
          (λ body r less. same_entry m n second (g.content d) image (firm_map m second entries (g.content d) image off) body r less ∙ rest.map body r less))
          ∙ firm_page m second entries (g.content d) image off h i below
          ∙ sym (stood h i);
    };
    journal = λ bad. bad;
    outside = λ k. ⊎_elim
        (λ front. ⊎_elim (λ loose. absurd (loose_high m second entries k loose (omega (arith, front)))) (λ e. e) (but k (λ at. omega (arith, front, at.0))))
        (λ after. ⊎_elim (λ loose. absurd (loose_low m n second entries few k loose after)) (λ e. e) (but k (λ at. omega (arith, after, at.1))));
  }
    where
      off : (k : ℕ) → pool_gate + 8 ≤ k → IsLoose m second entries k ⊎ (image k ≡ g.content d k)
      off k from = but k (λ at. omega (arith, from, at.1))
