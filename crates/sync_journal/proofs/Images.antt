-- What images stand for.
use Rattle.sync_journal.proofs.{Maps.{same_map}, Names.{◌≡◌, ◌≢◌, ◌⊎◌, ◌<◌, ◌+◌, ℕ, zero, suc, Bool, true, false, List, length, get_or, Option, Some, None, if◌then◌else◌, ◌==◌, refl, sym, ap, subst, ◌∙◌, ⊎_elim, arith, add-one}}
use Rattle.sync_journal.{proofs.Names.{cases_eq, eqb-true, eqb-false, eq-eqb, nat_tests, IfSome, Image}, specs.{Gate.{is_open}, Layout.{Sizes, sizes_2, gate_sector, body_sector, home_at, home_sector}}}
use Rattle.sync_journal.specs.{Layout.{home_count, IsHomeSector, IsOutside}, Map.{place_among, home_rank, map_count, home_in, AreHomes, IsBadMap}, Standing.{place_or_home_in, place_or_home, map_of, standing_under}}
use Rattle.sync_journal.specs.{Standing.{standing_single, IsOpenFor, AreCopied}, Layouts.{IsKept, StandsForPages}, Commit.{one_journal}}

-- maps that name the same homes have them at the same places
pub place_same : (f g : ℕ → ℕ) (h n : ℕ) → ((j : ℕ) → j < n → f j ≡ g j) → place_among f h n ≡ place_among g h n
unfolding place_among
place_same f g h zero same = refl
place_same f g h (suc n) same =
    ap (λ name. if name == h then Some n else place_among f h n) (same n (omega arith))
    ∙ ap (λ rest. if g n == h then Some n else rest) (place_same f g h n (λ j below. same j (omega arith)))

-- the places of no home, and of one home more
pub no_place : (names : ℕ → ℕ) (h : ℕ) → place_among names h 0 ≡ None
unfolding place_among
no_place names h = refl

eqb-ne : (m n : ℕ) → m ≢ n → (m == n) ≡ false
eqb-ne m n other = grind (arith, nat_tests)

pub named_next : (names : ℕ → ℕ) (h n : ℕ) → names n ≡ h → place_among names h (n + 1) ≡ Some n
unfolding place_among
named_next names h n here = rw add-one (ap (λ b. if b then Some n else place_among names h n) (eq-eqb (names n) h here))

pub other_next : (names : ℕ → ℕ) (h n : ℕ) → names n ≢ h → place_among names h (n + 1) ≡ place_among names h n
unfolding place_among
other_next names h n other = rw add-one (ap (λ b. if b then Some n else place_among names h n) (eqb-ne (names n) h other))

pub within_more : (o : Option ℕ) (n : ℕ) → IfSome o (λ k. k < n) → IfSome o (λ k. k < n + 1)
within_more None n within = tt
within_more (Some k) n within = omega (arith, within)

-- what a place means
abbrev pub Means : (ℕ → ℕ) → ℕ → ℕ → Option ℕ → Type 0
Means names h n None = (j : ℕ) → j < n → names j ≡ h → ⊥
Means names h n (Some j) = (j < n) × (names j ≡ h)

carried : (names : ℕ → ℕ) (h n : ℕ) (o : Option ℕ) → names n ≢ h → Means names h n o → Means names h (suc n) o
carried names h n None other none = λ j below same. ⊎_elim (λ last. other (ap names (sym last) ∙ same)) (λ before. none j (omega arith) same) (cases_eq j n)
carried names h n (Some j) other found = (omega (arith, found.0), found.1)

stepped : (names : ℕ → ℕ) (h n : ℕ) (o : Option ℕ) (b : Bool) → (names n == h) ≡ b → Means names h n o → Means names h (suc n) (if b then Some n else o)
stepped names h n o true same means = (omega arith, eqb-true (names n) h same)
stepped names h n o false other means = carried names h n o (eqb-false (names n) h other) means

pub place_means : (names : ℕ → ℕ) (h n : ℕ) → Means names h n (place_among names h n)
unfolding place_among
place_means names h zero = λ j below. absurd (omega arith)
place_means names h (suc n) = stepped names h n (place_among names h n) (names n == h) refl (place_means names h n)

-- where no page stands in the journal, the homes stand
pub closed_place : (sizes : Sizes) (map : List ℕ) (h : ℕ) (gate : Bool) → gate ≡ false → standing_under sizes gate map h ≡ home_at sizes h
unfolding standing_under
closed_place sizes map h gate closed = ap (λ b. if b then place_or_home_in sizes h (place_among (home_in map) h (map_count map)) else home_at sizes h) closed

pub standing_closed : (image : Image) (h i : ℕ) → is_open image ≡ false → standing_single image h i ≡ image (home_sector h + i)
standing_closed image h i closed = ap (λ first. image (first + i)) (closed_place sizes_2 (map_of image) h (is_open image) closed)

-- where pages stand in it whose homes the map names, what the body holds for them, and the other homes
pub open_place : (sizes : Sizes) (homes map : List ℕ) (h : ℕ) (gate : Bool) → gate ≡ true → map_count map ≡ length homes → ((j : ℕ) → j < length homes → home_in map j ≡ get_or homes j 0)
    → standing_under sizes gate map h ≡ place_or_home_in sizes h (home_rank homes h)
unfolding standing_under
open_place sizes homes map h gate opened counts names =
    ap (λ b. if b then place_or_home_in sizes h (place_among (home_in map) h (map_count map)) else home_at sizes h) opened
    ∙ ap (λ n. place_or_home_in sizes h (place_among (home_in map) h n)) counts
    ∙ ap (λ place. place_or_home_in sizes h place) (place_same (home_in map) (λ j. get_or homes j 0) h (length homes) names)

pub standing_open : (homes : List ℕ) (image : Image) (h i : ℕ) → IsOpenFor homes image → standing_single image h i ≡ image (place_or_home h (home_rank homes h) + i)
standing_open homes image h i opens = ap (λ first. image (first + i)) (open_place sizes_2 homes (map_of image) h (is_open image) opens.gate opens.count opens.each)

-- an image with the same map is open for the same homes
pub open_as : (homes : List ℕ) (content image : Image) → IsOpenFor homes content → is_open image ≡ true → map_of image ≡ map_of content → IsOpenFor homes image
open_as homes content image opens gate same = record { gate = gate; count = ap map_count same ∙ opens.count; each = λ j below. ap (λ map. home_in map j) same ∙ opens.each j below }

-- a home that stands at no place has no sector among those of the homes
pub not_at_home : (homes : List ℕ) (h i : ℕ) → i < 8 → Means (λ j. get_or homes j 0) h (length homes) None → IsHomeSector homes (home_sector h + i) → ⊥
not_at_home homes h i below none at_home = none at_home.0 at_home.1 (omega (arith, at_home.2.0, at_home.2.1))

-- the sectors outside belong to no home
pub outside_homes : (sectors : ℕ) (homes : List ℕ) (k : ℕ) → AreHomes (home_count sectors) homes → IsOutside sectors k → IsHomeSector homes k → ⊥
outside_homes sectors homes k are outside at_home =
    let inside : get_or homes at_home.0 0 < home_count sectors = are.inside at_home.0 at_home.1 in
    ⊎_elim (λ front. omega (arith, front, at_home.2.0)) (λ after. omega (arith, after, inside, at_home.2.1)) outside

module _ (sectors : ℕ) (homes : List ℕ) (are : AreHomes (home_count sectors) homes) (content : Image) (opens : IsOpenFor homes content) where
  -- an image with the gate open, and the content but for homes that the body holds
  pub open_kept : (image : Image) → is_open image ≡ true → ((k : ℕ) → k ≢ gate_sector → IsHomeSector homes k ⊎ (image k ≡ content k))
      → IsKept one_journal sectors content (StandsForPages one_journal (standing_single content)) image
  open_kept image gate same = record {
    stands = record { each = each };
    journal = λ bad. record { gate = opens.gate; map = subst (IsBadMap 1023 (home_count sectors)) maps bad.map };
    outside = λ k outside. ⊎_elim (λ at_home. absurd (outside_homes sectors homes k are outside at_home)) (λ e. e) (same k (outside_gate k outside));
  }
    where
      outside_gate : (k : ℕ) → IsOutside sectors k → k ≢ gate_sector
      outside_gate k outside e = ⊎_elim (λ front. omega (arith, front, e)) (λ after. omega (arith, after, e)) outside

      maps : map_of image ≡ map_of content
      maps = same_map image content (λ k from below. ⊎_elim (λ at_home. absurd (omega (arith, below, at_home.2.0))) (λ e. e) (same k (omega (arith, from))))

      here : (h i : ℕ) → i < 8 → (o : Option ℕ) → Means (λ j. get_or homes j 0) h (length homes) o → image (place_or_home h o + i) ≡ content (place_or_home h o + i)
      here h i below None none = ⊎_elim (λ at_home. absurd (not_at_home homes h i below none at_home)) (λ e. e) (same (home_sector h + i) (omega arith))
      here h i below (Some j) found = let few = are.few in ⊎_elim (λ at_home. absurd (omega (arith, few, found.0, at_home.2.0))) (λ e. e) (same (body_sector j + i) (omega arith))

      each : (h i : ℕ) → i < 8 → standing_single image h i ≡ standing_single content h i
      each h i below = standing_open homes image h i (open_as homes content image opens gate maps)
          ∙ here h i below (home_rank homes h) (place_means (λ j. get_or homes j 0) h (length homes))
          ∙ sym (standing_open homes content h i opens)

  -- an image with the gate closed, and the content but for the homes, which hold what the body held
  pub closed_kept : (image : Image) → is_open image ≡ false → AreCopied homes (length homes) content image
      → ((k : ℕ) → k ≢ gate_sector → IsHomeSector homes k ⊎ (image k ≡ content k))
      → IsKept one_journal sectors content (StandsForPages one_journal (standing_single content)) image
  closed_kept image gate copied same = record {
    stands = record { each = λ h i below. standing_closed image h i gate ∙ here h i below (home_rank homes h) (place_means (λ j. get_or homes j 0) h (length homes)) ∙ sym (standing_open homes content h i opens) };
    journal = λ bad. absurd (never bad.gate);
    outside = λ k outside. ⊎_elim (λ at_home. absurd (outside_homes sectors homes k are outside at_home)) (λ e. e) (same k (outside_gate k outside));
  }
    where
      never : is_open image ≡ true → ⊥
      never opened = let e : true ≡ false = sym opened ∙ gate in cc

      outside_gate : (k : ℕ) → IsOutside sectors k → k ≢ gate_sector
      outside_gate k outside e = ⊎_elim (λ front. omega (arith, front, e)) (λ after. omega (arith, after, e)) outside

      here : (h i : ℕ) → i < 8 → (o : Option ℕ) → Means (λ j. get_or homes j 0) h (length homes) o → image (home_sector h + i) ≡ content (place_or_home h o + i)
      here h i below None none = ⊎_elim (λ at_home. absurd (not_at_home homes h i below none at_home)) (λ e. e) (same (home_sector h + i) (omega arith))
      here h i below (Some j) found = ap (λ home. image (home_sector home + i)) (sym found.1) ∙ copied j i found.0 below
