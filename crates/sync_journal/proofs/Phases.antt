-- The moments of a commit's own part: the pages and the map staged, and the gate opened.
use Rattle.sync_journal.proofs.{Images.{Means, place_means, standing_closed, standing_open}, Maps.{counted, named, same_map}, Names.{◌≡◌, ◌≢◌, ◌⊎◌, ◌≤◌, ◌<◌, ◌+◌, ◌^◌, ℕ, true, false, List, [], length, get_or, Option, Some, None, refl}}
use Rattle.sync_journal.{proofs.{Names.{sym, ap, ◌∙◌, ⊎_elim, inl, inr, arith, Image, MayLeave, Touches, LeavesOnly, Ghosts, started, goes_on, weaker}, Replays.{open_or_closed}, Rests.{live_at_rest}}, specs.Commit.{sector_or, changed}}
use Rattle.sync_journal.specs.{Commit.{IsQuiet, IsLive, one_journal}, Gate.{is_open, is_open_sector}, Layout.{gate_sector, home_sector, body_sector, home_count, IsGate, IsJournalSector, IsOutside}, Layouts.{IsKept, IsSettled}}
use Rattle.sync_journal.specs.{Layouts.{StandsForEitherPages, StandsForPages}, Map.{map_bytes, home_rank, map_count, home_in, AreFewHomes, AreHomes, IsBadMap}, Standing.{place_or_home, map_of, standing_single, IsOpenFor, HoldsPages}}

-- the sectors outside are neither the gate nor the journal's
pub not_gate : (sectors k : ℕ) → IsOutside sectors k → k ≢ gate_sector
not_gate sectors k outside e = ⊎_elim (λ front. omega (arith, front, e)) (λ after. omega (arith, after, e)) outside

pub not_journal : (sectors k : ℕ) → IsOutside sectors k → IsJournalSector k → ⊥
not_journal sectors k outside inside = ⊎_elim (λ front. omega (arith, front, inside.0)) (λ after. omega (arith, after, inside.1)) outside

-- staging and opening leave the sectors outside
pub opened_outside : {D : Type 0} (g : Ghosts D) (sectors : ℕ) (old staged opened : D) → Touches g IsJournalSector old staged → Touches g IsGate staged opened
    → (k : ℕ) → IsOutside sectors k → g.content opened k ≡ g.content old k
opened_outside g sectors old staged opened stages opens k outside =
    ⊎_elim {C = g.content opened k ≡ g.content staged k} (λ at. absurd (not_gate sectors k outside at)) (λ e. e) (opens.content k)
    ∙ ⊎_elim {C = g.content staged k ≡ g.content old k} (λ inside. absurd (not_journal sectors k outside inside)) (λ e. e) (stages.content k)

-- a map of good homes isn't bad
pub not_bad : (most count : ℕ) (homes map : List ℕ) → AreFewHomes most count homes → map_count map ≡ length homes
    → ((j : ℕ) → j < length homes → home_in map j ≡ get_or homes j 0) → IsBadMap most count map → ⊥
not_bad most count homes map are counts names bad = ⊎_elim
    (λ many. let few = are.few in omega (arith, many, counts, few))
    (λ rest. ⊎_elim
    (λ none. let below : none.0 < length homes = omega (arith, none.1, counts) in omega (arith, none.2, names none.0 below, are.inside none.0 below))
    (λ twice. let below : twice.1 < length homes = omega (arith, twice.3, counts) in
    are.distinct twice.0 twice.1 twice.2 below (sym (names twice.0 (omega (arith, twice.2, below))) ∙ twice.4 ∙ names twice.1 below))
    rest)
    bad

-- an image with the gate closed, and the content outside the journal
pub before_kept : (sectors : ℕ) (content image : Image) → is_open content ≡ false → is_open image ≡ false
    → ((k : ℕ) → k ≢ gate_sector → IsJournalSector k ⊎ (image k ≡ content k)) → IsKept one_journal sectors content (StandsForPages one_journal (standing_single content)) image
before_kept sectors content image was gate same = record {
  stands = record {
    each = λ h i below. standing_closed image h i gate
        ∙ ⊎_elim (λ inside. absurd (omega (arith, inside.1))) (λ e. e) (same (home_sector h + i) (omega arith))
        ∙ sym (standing_closed content h i was);
  };
  journal = λ bad. absurd (never bad.gate);
  outside = λ k outside. ⊎_elim (λ inside. absurd (not_journal sectors k outside inside)) (λ e. e) (same k (not_gate sectors k outside));
}
  where
    never : is_open image ≡ true → ⊥
    never opened = let e : true ≡ false = sym opened ∙ gate in cc

-- an open gate before the map of these homes
pub opens_for : (count : ℕ) (homes : List ℕ) (image : Image) → AreHomes count homes → count ≤ 2 ^ 30 → is_open image ≡ true → map_of image ≡ map_bytes homes → IsOpenFor homes image
opens_for count homes image are small gate map = record {
  gate = gate;
  count = ap map_count map ∙ counted homes are.few;
  each = λ j below. ap (λ m. home_in m j) map ∙ named homes j below (let inside = are.inside j below in omega (arith, inside));
}

-- The content before, with its gate closed, and what stands when pages and map are staged.
module _ (sectors : ℕ) (homes : List ℕ) (are : AreHomes (home_count sectors) homes) (pages : ℕ → List ℕ) (content staged : Image)
    (was : is_open content ≡ false) (others : (k : ℕ) → IsJournalSector k ⊎ (staged k ≡ content k))
    (counts : map_count (map_of staged) ≡ length homes) (names : (j : ℕ) → j < length homes → home_in (map_of staged) j ≡ get_or homes j 0)
    (body : HoldsPages (length homes) pages staged) where
  abbrev pub After : ℕ → ℕ → List ℕ
  After = changed (standing_single content) homes pages

  -- an image as staged, with the gate open
  pub names_homes : (image : Image) → is_open image ≡ true → ((k : ℕ) → k ≢ gate_sector → image k ≡ staged k) → IsOpenFor homes image
  names_homes image gate same =
      let map = same_map image staged (λ k from below. same k (omega (arith, from))) in
      record { gate = gate; count = ap map_count map ∙ counts; each = λ j below. ap (λ m. home_in m j) map ∙ names j below }

  pub after_kept : (image : Image) → is_open image ≡ true → ((k : ℕ) → k ≢ gate_sector → image k ≡ staged k) → IsKept one_journal sectors content (StandsForPages one_journal After) image
  unfolding changed
  after_kept image gate same = record {
    stands = record {
      each = λ h i below. standing_open homes image h i (names_homes image gate same) ∙ here h i below (home_rank homes h) (place_means (λ j. get_or homes j 0) h (length homes));
    };
    journal = λ bad. absurd (let named = names_homes image gate same in not_bad 1023 (home_count sectors) homes (map_of image) are named.count named.each bad.map);
    outside = λ k outside. same k (not_gate sectors k outside) ∙ ⊎_elim (λ inside. absurd (not_journal sectors k outside inside)) (λ e. e) (others k);
  }
    where
      here : (h i : ℕ) → i < 8 → (o : Option ℕ) → Means (λ j. get_or homes j 0) h (length homes) o
          → image (place_or_home h o + i) ≡ sector_or pages (standing_single content h i) i o
      here h i below None none = same (home_sector h + i) (omega arith)
          ∙ ⊎_elim (λ inside. absurd (omega (arith, inside.1))) (λ e. e) (others (home_sector h + i))
          ∙ sym (standing_closed content h i was)
      here h i below (Some j) found = same (body_sector j + i) (omega arith) ∙ body j i found.0 below

  -- whatever the gate holds, before or after
  pub either_kept : (image : Image) → ((k : ℕ) → k ≢ gate_sector → image k ≡ staged k) → IsKept one_journal sectors content (StandsForEitherPages one_journal (standing_single content) After) image
  either_kept image same = ⊎_elim
      (λ gate. let kept = after_kept image gate same in record { stands = inr kept.stands; journal = kept.journal; outside = kept.outside })
      (λ gate. let kept = before_kept sectors content image was gate (λ k other. ⊎_elim (λ inside. inl inside) (λ e. inr (same k other ∙ e)) (others k)) in
      record { stands = inl kept.stands; journal = kept.journal; outside = kept.outside })
      (open_or_closed image)

-- The states: before, staged, and with the gate open.
module _ {D : Type 0} (g : Ghosts D) (homes : List ℕ) (pages : ℕ → List ℕ) (old staged : D)
    (only_now : (image : Image) → g.left_since old (g.moment old) image → MayLeave (g.content old) (g.unsynced old) image)
    (are : AreHomes (home_count (g.sector_count old)) homes) (quiet : IsQuiet g old) (stages : Touches g IsJournalSector old staged) where
  abbrev pub Before : Image → Type 0
  Before = IsKept one_journal (g.sector_count old) (g.content old) (StandsForPages one_journal (standing_single (g.content old)))

  abbrev pub Either : Image → Type 0
  Either = IsKept one_journal (g.sector_count old) (g.content old) (StandsForEitherPages one_journal (standing_single (g.content old)) (changed (standing_single (g.content old)) homes pages))

  -- an image with the content before outside the journal
  as_before : (image : Image) → ((k : ℕ) → IsJournalSector k ⊎ (image k ≡ g.content old k)) → Before image
  as_before image same = before_kept (g.sector_count old) (g.content old) image quiet.closed
      (ap is_open_sector (⊎_elim (λ inside. absurd (omega (arith, inside.0))) (λ e. e) (same gate_sector)) ∙ quiet.closed)
      (λ k other. same k)

  around_staging : (image : Image) → MayLeave (g.content old) (λ k. g.unsynced old k ⊎ IsJournalSector k) image → Before image
  around_staging image may = as_before image (λ k. ⊎_elim (⊎_elim (λ u. inl (quiet.synced k u)) (λ inside. inl inside)) (λ e. inr e) (may.kept k))

  pub while_staging : LeavesOnly g old staged Before
  while_staging = goes_on g IsJournalSector old old staged Before
      (started g old Before only_now (λ image may. around_staging image (record { kept = λ k. ⊎_elim (λ u. inl (inl u)) (λ e. inr e) (may.kept k) })))
      stages around_staging

  -- where the source failed
  pub staged_settled : IsSettled one_journal g (g.sector_count old) (g.content old) [] staged (standing_single (g.content old))
  staged_settled =
      let here = as_before (g.content staged) stages.content in
      record {
        rest = record { closed = ap is_open_sector (⊎_elim (λ inside. absurd (omega (arith, inside.0))) (λ e. e) (stages.content gate_sector)) ∙ quiet.closed; synced = unsynced };
        stands = here.stands;
        outside = here.outside;
        left = λ image may. as_before image (λ k. ⊎_elim (λ u. inl (unsynced k u)) (λ e. ⊎_elim (λ inside. inl inside) (λ e'. inr (e ∙ e')) (stages.content k)) (may.kept k));
      }
    where
      unsynced : (k : ℕ) → g.unsynced staged k → IsJournalSector k
      unsynced k u = ⊎_elim (λ before. quiet.synced k before) (λ inside. inside) (stages.unsynced k u)

  pub while_staging_either : LeavesOnly g old staged Either
  while_staging_either = weaker g old staged Before Either (λ image kept. record { stands = inl kept.stands; journal = kept.journal; outside = kept.outside }) while_staging

  module _ (opened : D) (body : HoldsPages (length homes) pages (g.content staged)) (map : map_of (g.content staged) ≡ map_bytes homes)
      (staged_synced : (k : ℕ) → g.unsynced staged k → ⊥) (opens : Touches g IsGate staged opened) where
    counts : map_count (map_of (g.content staged)) ≡ length homes
    counts = ap map_count map ∙ counted homes are.few

    names : (j : ℕ) → j < length homes → home_in (map_of (g.content staged)) j ≡ get_or homes j 0
    names j below = ap (λ m. home_in m j) map ∙ named homes j below (let inside = are.inside j below in omega (arith, inside))

    around_opening : (image : Image) → MayLeave (g.content staged) (λ k. g.unsynced staged k ⊎ IsGate k) image → Either image
    around_opening image may = either_kept (g.sector_count old) homes are pages (g.content old) (g.content staged) quiet.closed stages.content counts names body image
        (λ k other. ⊎_elim (⊎_elim (λ u. absurd (staged_synced k u)) (λ at. absurd (other at))) (λ e. e) (may.kept k))

    pub while_opening : LeavesOnly g old opened Either
    while_opening = goes_on g IsGate old staged opened Either while_staging_either opens around_opening

    module _ (gate : is_open (g.content opened) ≡ true) (opened_synced : (k : ℕ) → g.unsynced opened k → ⊥) (some : 0 < length homes) where
      -- an image with the content as the gate was opened
      after : (image : Image) → ((k : ℕ) → image k ≡ g.content opened k) → IsKept one_journal (g.sector_count old) (g.content old) (StandsForPages one_journal (changed (standing_single (g.content old)) homes pages)) image
      after image same = after_kept (g.sector_count old) homes are pages (g.content old) (g.content staged) quiet.closed stages.content counts names body image
          (ap is_open_sector (same gate_sector) ∙ gate)
          (λ k other. same k ∙ ⊎_elim (λ at. absurd (other at)) (λ e. e) (opens.content k))

      pub opened_settled : IsLive g homes opened → IsSettled one_journal g (g.sector_count old) (g.content old) homes opened (changed (standing_single (g.content old)) homes pages)
      opened_settled live = let here = after (g.content opened) (λ k. refl) in record {
        rest = live_at_rest g homes opened some live;
        stands = here.stands;
        outside = here.outside;
        left = λ image may. after image (λ k. ⊎_elim (λ u. absurd (opened_synced k u)) (λ e. e) (may.kept k));
      }

-- Opening the gate leaves the map.
pub gate_leaves_map : {D : Type 0} (g : Ghosts D) (staged opened : D) → Touches g IsGate staged opened → map_of (g.content opened) ≡ map_of (g.content staged)
gate_leaves_map g staged opened opens = same_map (g.content opened) (g.content staged) (λ k from below. ⊎_elim (λ at. absurd (omega (arith, from, at))) (λ e. e) (opens.content k))

-- With the gate open the journal is live, whatever the source gave.
pub opened_live : {D : Type 0} (g : Ghosts D) (homes : List ℕ) (old staged opened : D) → AreHomes (home_count (g.sector_count old)) homes
    → map_of (g.content staged) ≡ map_bytes homes → Touches g IsGate staged opened → is_open (g.content opened) ≡ true
    → ((k : ℕ) → g.unsynced opened k → ⊥) → IsLive g homes opened
opened_live g homes old staged opened are map opens gate synced = record {
  opened = opens_for (home_count (g.sector_count old)) homes (g.content opened) are (omega arith) gate (gate_leaves_map g staged opened opens ∙ map);
  synced = synced;
}
