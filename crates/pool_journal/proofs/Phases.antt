-- The moments of a commit: what is loose is written, and after a sync the gate.
use Rattle.std.proofs.Common.{◌≡◌, ◌⊎◌, ◌≤◌, ◌<◌, ◌+◌, ◌*◌, ℕ, Bool, true, false, not, List, length, get_or, None, refl, sym, ap, ◌∙◌, ⊎_elim, inl, inr, arith}
use Rattle.disk_model.{proofs.Moments.{started, goes_on, weaker}, specs.{Moments.{LeavesOnly}, Sectors.{part_of}, Stop.{Image, MayLeave}, declared.sector_disk.SectorDisk.{Ghosts}}}
use Rattle.pool_journal.{proofs.{Loose.{same_entry, slot_same, firm_map, stands_from, map_high, loose_high, loose_low, few, stood, pool_stays}, Slots.{new_page, now_stands}}, specs.{Commit.{GivesHomes, KeepsOthers, IsWritten, NamesMap}, Gates.{IsPoolGate}, Giving.{AreRising}}}
use Rattle.pool_journal.specs.Pools.{pool, pool_gate, pool_slot, pool_home, pool_entry, pool_named, pool_under, pool_stands, pool_standing, slot_by, IsPoolRest, IsPoolMap, IsLoose}
use Rattle.sync_journal.proofs.{Shared.{which}, Layouts.{FixesOutside, or_before}}
use Rattle.sync_journal.specs.{Blocks.{IsSameBlock, LeavesInBlocks}, Commit.{changed, sector_or}, Committing.{HomesStandOr}, Gate.{is_open_sector}, Layout.{IsPageSector}, Layouts.{HomesStandAs, IsKept, IsSettled, StandsForPages}, Map.{home_rank}}

-- what lies outside is so of every image
pub pool_fixes : (m n : ℕ) → FixesOutside (pool m n)
pool_fixes m n = λ sectors a b same k out. out

-- what is written is made of whole blocks
gate_block : (k j : ℕ) → IsSameBlock k j → j ≡ pool_gate → IsPageSector pool_gate k
gate_block k j same at = (omega (arith, same, at), omega (arith, same, at))

map_block : (m : ℕ) (b : Bool) (k j : ℕ) → IsSameBlock k j → IsPoolMap m b j → IsPoolMap m b k
map_block m false k j same inside = (omega (arith, same, inside.0), omega (arith, same, inside.1))
map_block m true k j same inside = (omega (arith, same, inside.0), omega (arith, same, inside.1))

slot_block : (m : ℕ) (b : Bool) (r k j : ℕ) → IsSameBlock k j → IsPageSector (pool_slot m b r) j → IsPageSector (pool_slot m b r) k
slot_block m false r k j same inside = (omega (arith, same, inside.0, inside.1), omega (arith, same, inside.0, inside.1))
slot_block m true r k j same inside = (omega (arith, same, inside.0, inside.1), omega (arith, same, inside.0, inside.1))

home_block : (m h k j : ℕ) → IsSameBlock k j → IsPageSector (pool_home m h) j → IsPageSector (pool_home m h) k
home_block m h k j same inside = (omega (arith, same, inside.0, inside.1), omega (arith, same, inside.0, inside.1))

loose_block : (m : ℕ) (second : Bool) (was : Bool → ℕ → ℕ) (k j : ℕ) → IsSameBlock k j → IsLoose m second was j → IsLoose m second was k
loose_block m second was k j same = ⊎_elim (λ map. inl (map_block m (not second) k j same map))
    (⊎_elim (λ slot. inr (inl (slot.0, slot.1, slot.2, slot.3, slot_block m slot.0 slot.1 k j same slot.4)))
    (λ home. inr (inr (home.0, home.1, home.2, home_block m home.0 k j same home.3))))

module _ {D : Type 0} (g : Ghosts D) (m n : ℕ) (second : Bool) (was : Bool → ℕ → ℕ) (old mid : D) (p : IsWritten g m n second was old mid) where
  abbrev pub Before : Image → Type 0
  Before = HomesStandAs (pool m n) (g.sector_count old) (g.content old)

  gate_stays : (image : Image) → ((k : ℕ) → IsLoose m second was k ⊎ (image k ≡ g.content old k)) → pool_named image ≡ second
  gate_stays image same = ap is_open_sector (⊎_elim (λ loose. absurd (loose_high m second was pool_gate loose (omega arith))) (λ e. e) (same pool_gate))
      ∙ p.rest.gate

  pub as_before : (image : Image) → ((k : ℕ) → IsLoose m second was k ⊎ (image k ≡ g.content old k)) → Before image
  as_before image same = pool_stays g m n second was old p.rest image (gate_stays image same) (λ k other. same k)

  around : (image : Image) → MayLeave (g.content old) (λ k. g.unsynced old k ⊎ IsLoose m second was k) image → Before image
  around image may = as_before image (λ k. ⊎_elim (⊎_elim (λ u. inl (p.rest.synced k u)) (λ w. inl w)) (λ e. inr e) (may.kept k))

  -- up to the first sync every stop leaves what stood
  pub while_writing : LeavesOnly g old mid Before
  while_writing = goes_on g (IsLoose m second was) old old mid Before
      (started g old Before p.only_now (λ image may. around image (record { kept = λ k. ⊎_elim (λ u. inl (inl u)) (λ e. inr e) (may.kept k) })))
      p.run around

  -- and where a stop spoils whole blocks
  pub loose_blocks : LeavesInBlocks g (IsLoose m second was) Before old mid
  loose_blocks = record {
    writes = p.run;
    each = λ d wrote image may. as_before image (λ k. ⊎_elim
        (λ block. inl (loose_block m second was k block.0 block.1 (⊎_elim (λ u. p.rest.synced block.0 u) (λ w. w) (wrote.unsynced block.0 block.2))))
        (λ e. ⊎_elim (λ w. inl w) (λ e'. inr (e ∙ e')) (wrote.content k))
        (may.kept k));
  }

  still_synced : (k : ℕ) → g.unsynced mid k → IsLoose m second was k
  still_synced k u = ⊎_elim (λ before. p.rest.synced k before) (λ loose. loose) (p.run.unsynced k u)

  -- and what ends there is at rest as it was
  pub still_rest : IsPoolRest g m n second was mid
  still_rest = record {
    gate = gate_stays (g.content mid) p.run.content;
    map = λ body r below. same_entry m n second (g.content old) (g.content mid) (firm_map m second was (g.content old) (g.content mid)
        (λ k from. p.run.content k)) body r below ∙ p.rest.map body r below;
    synced = still_synced;
  }

  pub still_settled : IsSettled (pool m n) g (g.sector_count old) (g.content old) (second, was) mid (pool_standing m n (g.content old))
  still_settled = let here = as_before (g.content mid) p.run.content in record {
    rest = still_rest;
    stands = here.stands;
    outside = here.outside;
    left = λ image may. as_before image (λ k. ⊎_elim (λ u. inl (still_synced k u)) (λ e. ⊎_elim (λ loose. inl loose)
        (λ e'. inr (e ∙ e')) (p.run.content k)) (may.kept k));
  }

  module _ (now : Bool → ℕ → ℕ) (new : D) (q : NamesMap g m n second now mid new) where
    -- an image that holds what was written, but for the gate's block
    abbrev pub IsOffGate : Image → Type 0
    IsOffGate image = (k : ℕ) → (IsPageSector pool_gate k → ⊥) → image k ≡ g.content mid k

    now_given : (image : Image) → IsOffGate image → (body : Bool) (r : ℕ) → r < 504 * m → pool_entry m n (not second) image body r ≡ now body r
    now_given image same body r below = same_entry m n (not second) (g.content mid) image (λ k map. same k
        (λ at. map_high m (not second) k map (omega (arith, at.1)))) body r below ∙ q.map body r below

    new_off : IsOffGate (g.content new)
    new_off k other = ⊎_elim (λ at. absurd (other (omega (arith, at), omega (arith, at)))) (λ e. e) (q.names.content k)

    -- the other map is named, and nothing is unsynced
    pub new_rest : pool_named (g.content new) ≡ not second → ((k : ℕ) → g.unsynced new k → ⊥) → IsPoolRest g m n (not second) now new
    new_rest named synced = record { gate = named; map = now_given (g.content new) new_off; synced = λ k u. absurd (synced k u) }

    -- and homes that kept their pages until then stand as they did
    pub new_others : (homes : List ℕ) → KeepsOthers m was now homes (g.content old) (g.content mid) → pool_named (g.content new) ≡ not second
        → (h i : ℕ) → home_rank homes h ≡ None → i < 8 → pool_standing m n (g.content new) h i ≡ pool_standing m n (g.content old) h i
    new_others homes others named h i none below = ap (λ b. pool_under m n b (g.content new) h i) named
        ∙ ap (λ o. g.content new (pool_stands m h o + i)) (slot_same m (pool_entry m n (not second) (g.content new)) now h (now_given (g.content new) new_off))
        ∙ new_off (pool_stands m h (slot_by m now h) + i) (λ at. (let from = stands_from m h i (slot_by m now h) in omega (arith, from, at.1)))
        ∙ others h i none below
        ∙ sym (stood g m n second was old p.rest h i)

    -- a page that is told stands for its home
    pub told_stands : (thin : Bool → ℕ → ℕ) (homes : List ℕ) (told : ℕ → Type 0) (pages : ℕ → List ℕ) → AreRising homes → GivesHomes m was thin now homes told pages (g.content old) (g.content mid)
        → pool_named (g.content new) ≡ not second → (j i : ℕ) → j < length homes → i < 8 → told j → pool_standing m n (g.content new) (get_or homes j 0) i ≡ part_of (pages j) i
    told_stands thin homes told pages rising gives named j i inside below is = (let h = get_or homes j 0 in ap (λ b. pool_under m n b (g.content new) h i) named
        ∙ ap (λ o. g.content new (pool_stands m h o + i)) (slot_same m (pool_entry m n (not second) (g.content new)) now h (now_given (g.content new) new_off))
        ∙ new_off (pool_stands m h (slot_by m now h) + i) (λ at. (let from = stands_from m h i (slot_by m now h) in omega (arith, from, at.1)))
        ∙ new_page m second was thin now homes pages (g.content old) (g.content mid) rising gives (λ k from. p.run.content k) h j i is below inside refl)

    module _ (thin : Bool → ℕ → ℕ) (homes : List ℕ) {told : ℕ → Type 0} (pages : ℕ → List ℕ) (rising : AreRising homes)
        (gives : GivesHomes m was thin now homes told pages (g.content old) (g.content mid)) (all : (j : ℕ) → told j) where
      abbrev pub After : ℕ → ℕ → List ℕ
      After = changed (pool_standing m n (g.content old)) homes pages

      abbrev pub Either : Image → Type 0
      Either = HomesStandOr (pool m n) (g.sector_count old) homes pages (g.content old)

      kept_outside : (image : Image) → IsOffGate image → (k : ℕ) → (k < pool_gate) ⊎ (pool_home m n ≤ k) → image k ≡ g.content old k
      kept_outside image same k out = ⊎_elim
          (λ front. same k (λ at. omega (arith, front, at.0))
          ∙ ⊎_elim (λ loose. absurd (loose_high m second was k loose (omega (arith, front)))) (λ e. e) (p.run.content k))
          (λ after. same k (λ at. omega (arith, after, at.1))
          ∙ ⊎_elim (λ loose. absurd (loose_low m n second was (few g m n second was old p.rest) k loose after)) (λ e. e) (p.run.content k))
          out

      -- an image whose gate names the other map
      pub after_kept : (image : Image) → pool_named image ≡ not second → IsOffGate image
          → IsKept (pool m n) (g.sector_count old) (g.content old) (StandsForPages (pool m n) After) image
      unfolding changed
      after_kept image named same = record {
        stands = record {
          each = λ h i below. ap (λ b. pool_under m n b image h i) named
              ∙ ap (λ o. image (pool_stands m h o + i)) (slot_same m (pool_entry m n (not second) image) now h (now_given image same))
              ∙ same (pool_stands m h (slot_by m now h) + i) (λ at. (let from = stands_from m h i (slot_by m now h) in omega (arith, from, at.1)))
              ∙ now_stands m second was thin now homes pages (g.content old) (g.content mid) rising gives (λ k from. p.run.content k) all h i below
              ∙ ap (λ bytes. sector_or pages bytes i (home_rank homes h)) (sym (stood g m n second was old p.rest h i));
        };
        journal = λ bad. bad;
        outside = kept_outside image same;
      }

      -- whatever the gate holds, before or after
      pub either_kept : (image : Image) → IsOffGate image → Either image
      either_kept image same = ⊎_elim
          (λ named. let kept = pool_stays g m n second was old p.rest image named (λ k other. ⊎_elim (λ loose. inl loose)
          (λ e. inr (same k other ∙ e)) (p.run.content k)) in
          record { stands = inl kept.stands; journal = kept.journal; outside = kept.outside })
          (λ named. let kept = after_kept image named same in record { stands = inr kept.stands; journal = kept.journal; outside = kept.outside })
          (which second (pool_named image))

      around_naming : (image : Image) → MayLeave (g.content mid) (λ k. g.unsynced mid k ⊎ (k ≡ pool_gate)) image → Either image
      around_naming image may = either_kept image (λ k other. ⊎_elim (⊎_elim (λ u. absurd (q.synced k u))
          (λ at. absurd (other (omega (arith, at), omega (arith, at))))) (λ e. e) (may.kept k))

      -- at every moment of the commit
      pub while_naming : LeavesOnly g old new Either
      while_naming = goes_on g (λ k. k ≡ pool_gate) old mid new Either
          (weaker g old mid Before Either (or_before (pool m n) (g.sector_count old) homes pages (g.content old)) while_writing) q.names around_naming

      -- and where a stop spoils whole blocks
      pub gate_blocks : LeavesInBlocks g IsPoolGate Either mid new
      gate_blocks = record {
        writes = q.names;
        each = λ d wrote image may. either_kept image (λ k other. ⊎_elim
            (λ block. absurd (⊎_elim (λ u. q.synced block.0 u) (λ at. other (gate_block k block.0 block.1 at)) (wrote.unsynced block.0 block.2)))
            (λ e. ⊎_elim (λ at. absurd (other (omega (arith, at), omega (arith, at)))) (λ e'. e ∙ e') (wrote.content k))
            (may.kept k));
      }

      -- and after it
      pub new_settled : pool_named (g.content new) ≡ not second → ((k : ℕ) → g.unsynced new k → ⊥)
          → IsSettled (pool m n) g (g.sector_count old) (g.content old) (not second, now) new After
      new_settled named synced = let here = after (g.content new) (λ k. refl) in record {
        rest = new_rest named synced;
        stands = here.stands;
        outside = here.outside;
        left = λ image may. after image (λ k. ⊎_elim (λ u. absurd (synced k u)) (λ e. e) (may.kept k));
      }
        where
          after : (image : Image) → ((k : ℕ) → image k ≡ g.content new k)
              → IsKept (pool m n) (g.sector_count old) (g.content old) (StandsForPages (pool m n) After) image
          after image same = after_kept image (ap is_open_sector (same pool_gate) ∙ named) (λ k other. same k ∙ new_off k other)
