-- What gate and map of a store of an old layout say.
use Rattle.sync_journal.proofs.{Images.{Means, place_means, no_place, closed_place, open_place}, Names.{◌≡◌, ◌≤◌, ◌<◌, ◌+◌, ◌*◌, ℕ, Bool, true, false, List, [], ◌++◌, length, take, get_or, Option, Some, None, refl, sym, ap, subst, ◌∙◌, arith, length-take-le, get_or-take}}
use Rattle.sync_journal.{proofs.{Names.{take-append-le, get_or_append_left, MatchOption, Image, Names, NamesOnce, once_apart, once_named, inl, inr}, Phases.{not_bad}}, specs.{Layout.{IsPageSector, IsMapIn, home_count_in}, Map.{home_rank, map_count, home_in, IsBadMap}}}
use Rattle.sync_journal.specs.{Map.{AreFewHomes, AreNamed, IsWithinHomes, ReadsMap}, OldJournal.{old_homes, old_sizes, StandsAsFound, IsLookedAtIn, IsOldTable}, OldLayouts.{old_gate, is_old_open, sizes_under, holds_under, holds_in, old_home_count, old_place, old_standing, IsBadOld}}
use Rattle.sync_journal.specs.{Standing.{place_or_home_in, standing_under, map_in}, declared.{version.Version.{Version, TheVariants.{One, Two, Three}}, old_journal.OldJournal.{OldJournal}}}

-- What each layout's numbers come to: the pages of a body lie before the homes,
body_room : (layout : Version) (gate : Bool) → (sizes_under layout gate).body + 8 * (sizes_under layout gate).most ≤ (sizes_under layout gate).homes
body_room One gate = omega arith
body_room Two gate = omega arith
body_room Three false = omega arith
body_room Three true = omega arith

-- the gate before the map,
gate_first : (layout : Version) (gate : Bool) → old_gate layout < (sizes_under layout gate).map
gate_first One gate = omega arith
gate_first Two gate = omega arith
gate_first Three false = omega arith
gate_first Three true = omega arith

-- there is room for no more homes than in layout 2,
pub most_under : (layout : Version) (gate : Bool) → (sizes_under layout gate).most ≤ 1023
most_under One gate = omega arith
most_under Two gate = omega arith
most_under Three false = omega arith
most_under Three true = omega arith

-- and a device has as many homes whatever the gate holds.
pub count_under : (layout : Version) (gate : Bool) (sectors : ℕ) → home_count_in (sizes_under layout gate) sectors ≡ old_home_count layout sectors
count_under One gate sectors = refl
count_under Two gate sectors = refl
count_under Three false sectors = refl
count_under Three true sectors = refl

-- a map under either gate is one of the tables
pub is_table : (layout : Version) (gate : Bool) (k : ℕ) → IsMapIn (sizes_under layout gate) k → IsOldTable layout k
is_table layout false k inside = inr (inr inside)
is_table layout true k inside = inr (inl inside)

-- where a home stands under such a gate
abbrev pub place_under : Version → Bool → Image → ℕ → ℕ
place_under layout gate image h = standing_under (sizes_under layout gate) (holds_under layout gate) (map_in (sizes_under layout gate) image) h

-- Over an image whose gate was read.
module _ (layout : Version) (gate : Bool) (image : Image) (read : is_old_open layout image ≡ gate) where
  -- where no page stands in the journal
  pub closed_at : holds_under layout gate ≡ false → (h : ℕ) → old_place layout image h ≡ place_or_home_in (sizes_under layout gate) h (home_rank [] h)
  closed_at none h = ap (λ g. place_under layout g image h) read
      ∙ closed_place (sizes_under layout gate) (map_in (sizes_under layout gate) image) h (holds_under layout gate) none
      ∙ ap (λ o. place_or_home_in (sizes_under layout gate) h o) (sym (no_place (λ j. get_or [] j 0) h))

  pub not_held : holds_under layout gate ≡ false → (sectors : ℕ) → IsBadOld layout sectors image → ⊥
  not_held none sectors bad = let held : true ≡ false = sym bad.holds ∙ ap (holds_under layout) read ∙ none in cc

  -- where pages stand in it
  module _ (holds : holds_under layout gate ≡ true) where
    held : holds_in layout image ≡ true
    held = ap (holds_under layout) read ∙ holds

    pub is_bad : (sectors : ℕ) → IsBadMap (sizes_under layout gate).most (home_count_in (sizes_under layout gate) sectors) (map_in (sizes_under layout gate) image) → IsBadOld layout sectors image
    is_bad sectors bad = record {
      holds = held;
      map = subst (λ g. IsBadMap (sizes_under layout g).most (old_home_count layout sectors) (map_in (sizes_under layout g) image)) (sym read)
          (subst (λ n. IsBadMap (sizes_under layout gate).most n (map_in (sizes_under layout gate) image)) (count_under layout gate sectors) bad);
    }

    -- gate and map are looked at
    pub map_looked : (before mid now : ℕ → ℕ) → Names (λ k. k ≡ old_gate layout) before mid → NamesOnce (IsMapIn (sizes_under layout gate)) mid now → NamesOnce (IsLookedAtIn layout image) before now
    map_looked before mid now at_gate map = once_apart (λ k. k ≡ old_gate layout) (IsMapIn (sizes_under layout gate)) (IsLookedAtIn layout image) before mid now
        (λ k at. inl at) (λ k inside. inr (held, subst (λ g. IsMapIn (sizes_under layout g) k) (sym read) inside))
        (λ k at inside. let first = gate_first layout gate in omega (arith, at, first, inside.0))
        (once_named (λ k. k ≡ old_gate layout) (λ k. k ≡ old_gate layout) before mid (λ k at. at) at_gate) map

    -- and the first numbers of a list were read from its map
    module _ (sectors count : ℕ) (homes : List ℕ) (room : count ≤ length homes)
        (are : AreNamed (sizes_under layout gate).most (home_count_in (sizes_under layout gate) sectors) (map_in (sizes_under layout gate) image) homes count) where
      long : length (take count homes) ≡ count
      long = length-take-le count homes room

      counts : map_count (map_in (sizes_under layout gate) image) ≡ length (take count homes)
      counts = sym are.counted ∙ sym long

      names : (j : ℕ) → j < length (take count homes) → home_in (map_in (sizes_under layout gate) image) j ≡ get_or (take count homes) j 0
      names j below = let inside : j < count = omega (arith, below, long) in sym (are.each j inside) ∙ sym (get_or-take count homes j 0 inside)

      pub open_at : (h : ℕ) → old_place layout image h ≡ place_or_home_in (sizes_under layout gate) h (home_rank (take count homes) h)
      open_at h = ap (λ g. place_under layout g image h) read
          ∙ open_place (sizes_under layout gate) (take count homes) (map_in (sizes_under layout gate) image) h (holds_under layout gate) holds counts names

      pub named_good : IsBadOld layout sectors image → ⊥
      named_good bad = not_bad (sizes_under layout gate).most (home_count_in (sizes_under layout gate) sectors) (take count homes) (map_in (sizes_under layout gate) image) are.good counts names
          (subst (λ n. IsBadMap (sizes_under layout gate).most n (map_in (sizes_under layout gate) image)) (sym (count_under layout gate sectors))
          (subst (λ g. IsBadMap (sizes_under layout g).most (old_home_count layout sectors) (map_in (sizes_under layout g) image)) read bad.map))

-- the page that stands for a home
pub stands_there : (journal : OldJournal) (image : Image) (h i : ℕ) → StandsAsFound journal image
    → image (place_or_home_in (old_sizes journal) h (home_rank (old_homes journal) h) + i) ≡ old_standing journal.version image h i
stands_there journal image h i stands = ap (λ first. image (first + i)) (sym (stands.at h))

-- the homes that the first part of a list names
pub named_front : (most limit count : ℕ) (map front rest : List ℕ) → count ≤ length front → AreNamed most limit map front count → AreNamed most limit map (front ++ rest) count
named_front most limit count map front rest inside are = record {
  counted = are.counted;
  each = λ j below. get_or_append_left front rest 0 j (omega (arith, below, inside)) ∙ are.each j below;
  good = subst (λ list. AreFewHomes most limit list) (sym (take-append-le count front rest inside)) are.good;
}

-- what is read of a map
abbrev pub Reads : ℕ → ℕ → List ℕ → List ℕ → Option ℕ → Type 0
Reads len limit page homes found = MatchOption found (IsBadMap len limit page) (λ count. (count ≡ map_count page) × (count ≤ len) × ((j : ℕ) → j < count → get_or homes j 0 ≡ home_in page j) × AreFewHomes len limit (take count homes))

pub reads_few : (most len limit : ℕ) (page homes : List ℕ) (found : Option ℕ) → len ≡ most → Reads len limit page homes found → IsWithinHomes most found
reads_few most len limit page homes None same bad = tt
reads_few most len limit page homes (Some count) same e = omega (arith, e.1, same)

pub reads_map : (most len limit homes_limit : ℕ) (map page homes : List ℕ) (found : Option ℕ) → len ≡ most → limit ≡ homes_limit → page ≡ map
    → Reads len limit page homes found → ReadsMap most homes_limit map homes found
reads_map most len limit homes_limit map page homes None same limit_is page_is bad =
    subst (λ m. IsBadMap most homes_limit m) page_is (subst (λ n. IsBadMap most n page) limit_is (subst (λ n. IsBadMap n limit page) same bad))
reads_map most len limit homes_limit map page homes (Some count) same limit_is page_is e =
    subst (λ m. AreNamed most homes_limit m homes count) page_is (record {
      counted = e.0;
      each = e.2;
      good = subst (λ n. AreFewHomes most n (take count homes)) limit_is (subst (λ n. AreFewHomes n limit (take count homes)) same e.3);
    })

-- into the front of a list
pub reads_front : (most limit : ℕ) (map front rest : List ℕ) (found : Option ℕ) → length front ≡ most → IsWithinHomes most found → ReadsMap most limit map front found → ReadsMap most limit map (front ++ rest) found
reads_front most limit map front rest None long few bad = bad
reads_front most limit map front rest (Some count) long few are = named_front most limit count map front rest (omega (arith, few, long)) are

-- The pages of a list of homes, each in the body or in its home, have sectors of their own,
pub places_apart : (layout : Version) (gate : Bool) (homes : List ℕ) → length homes ≤ (sizes_under layout gate).most → (a b k : ℕ)
    → IsPageSector (place_or_home_in (sizes_under layout gate) a (home_rank homes a)) k → IsPageSector (place_or_home_in (sizes_under layout gate) b (home_rank homes b)) k → a ≡ b
places_apart layout gate homes few a b k = here (home_rank homes a) (home_rank homes b) (place_means names a (length homes)) (place_means names b (length homes))
  where
    names : ℕ → ℕ
    names = λ j. get_or homes j 0

    here : (o p : Option ℕ) → Means names a (length homes) o → Means names b (length homes) p
        → IsPageSector (place_or_home_in (sizes_under layout gate) a o) k → IsPageSector (place_or_home_in (sizes_under layout gate) b p) k → a ≡ b
    here None None is_a is_b at_a at_b = omega (arith, at_a.0, at_a.1, at_b.0, at_b.1)
    here None (Some i) is_a is_b at_a at_b = absurd (let room = body_room layout gate in omega (arith, at_a.0, at_b.1, is_b.0, few, room))
    here (Some j) None is_a is_b at_a at_b = absurd (let room = body_room layout gate in omega (arith, at_b.0, at_a.1, is_a.0, few, room))
    here (Some j) (Some i) is_a is_b at_a at_b = let same : j ≡ i = omega (arith, at_a.0, at_a.1, at_b.0, at_b.1) in sym is_a.1 ∙ ap names same ∙ is_b.1

-- and none before the body
pub place_behind : (layout : Version) (gate : Bool) (a k : ℕ) (o : Option ℕ) → IsPageSector (place_or_home_in (sizes_under layout gate) a o) k → (sizes_under layout gate).body ≤ k
place_behind layout gate a k None at = let room = body_room layout gate in omega (arith, at.0, room)
place_behind layout gate a k (Some j) at = omega (arith, at.0)
