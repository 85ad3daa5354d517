-- A map written anew, or emptied once all pages are home: a commit of no pages.
use Rattle.std.proofs.Common.{◌≡◌, ◌∙◌, ◌<◌, ◌+◌, ◌*◌, ℕ, Bool, true, false, not, List, [], ◌⊎◌, None, Result, Ok, Err, refl, ⊎_elim, inl, inr, arith}
use Rattle.std.specs.Prelude.{IsErr}
use Rattle.disk_model.{proofs.{Moments.{weaker, wider}, Naming.{once_apart, once_named}}, specs.{Moments.{Touches}, Stop.{Image, MayLeave, Names, NamesOnce}, declared.sector_disk.{DiskFault.{DiskFault}, SectorDisk.{Ghosts}}}}
use Rattle.pool_journal.proofs.{BlockReads.{of_counted}, BlockWrites.{of_noted}, Loose.{map_high}, Phases.{as_before, either_kept, while_writing, while_naming, new_settled}}
use Rattle.pool_journal.specs.{Blocks.{IsCountedMap, IsNotedMap}, Commit.{GivesHomes, IsWritten, NamesMap}, Gates.{IsPoolGate}, Giving.{AreRising}, Journal.{IsPoolJournal}, Maps.{entries_of}}
use Rattle.pool_journal.specs.{Pools.{pool, pool_gate, pool_home, pool_entry, pool_named, pool_stands, pool_standing, slot_by, IsLoose, IsPoolMap, IsPoolRest}, Recovering.{layout_in, AnewInBlocks, GivesNone, IsGateOrMap, IsGateOrNoted, WritesAnew}, declared.pool.PoolJournal.{PoolJournal}}
use Rattle.sync_journal.{proofs.{Shared.{changed_none}, Layouts.{same_pages}, Runs.{one_more, of_more}}, specs.{Blocks.{IsSameBlock, LeavesInBlocks}, Commit.{changed}, Committing.{HomesStandOr}, Layout.{IsPageSector}, Layouts.{HomesStandAs, IsSettled, KeepsHomes}, Runs.{RunsOnDevice}}}

-- what stands when no pages are committed
module _ (m n sectors : ℕ) (content : Image) where
  no_pages : ℕ → List ℕ
  no_pages j = []

  none_changed : (h i : ℕ) → i < 8 → changed (pool_standing m n content) [] no_pages h i ≡ pool_standing m n content h i
  none_changed h i below = changed_none (pool_standing m n content) no_pages h i

  none_kept : (image : Image) → HomesStandOr (pool m n) sectors [] no_pages content image → HomesStandAs (pool m n) sectors content image
  none_kept image kept = record {
    stands = ⊎_elim (λ before. before) (λ after. same_pages (pool m n) _ _ none_changed image after) kept.stands;
    journal = kept.journal;
    outside = kept.outside;
  }

gate_block : (k j : ℕ) → IsSameBlock k j → j ≡ pool_gate → IsPageSector pool_gate k
gate_block k j same at = (omega (arith, same, at), omega (arith, same, at))

none_rise : AreRising []
none_rise i j less none = absurd (omega (arith, none))

-- A map was, and is followed by this, over what the device held and holds: each home has the slot that it had, or holds what that held.
abbrev pub KeepsPages : ℕ → (Bool → ℕ → ℕ) → (Bool → ℕ → ℕ) → Image → Image → Type 0
KeepsPages m was now content staged = (h : ℕ) → (slot_by m now h ≡ slot_by m was h)
    ⊎ ((slot_by m now h ≡ None) × ((i : ℕ) → i < 8 → staged (pool_home m h + i) ≡ content (pool_stands m h (slot_by m was h) + i)))

module _ {D : Type 0} (g : Ghosts D) (m n : ℕ) (second : Bool) (was : Bool → ℕ → ℕ) (old mid : D) (p : IsWritten g m n second was old mid) (now : Bool → ℕ → ℕ) (new : D) (q : NamesMap g m n second now mid new)
    (keeps : KeepsPages m was now (g.content old) (g.content mid)) where
  none_given : GivesHomes m was now now [] (λ j. Unit {0}) (no_pages m n (g.sector_count old) (g.content old)) (g.content old) (g.content mid)
  none_given = record {
    given = λ body r below. inl refl;
    placed = λ j none. absurd (omega (arith, none));
    taken = λ body r below j none. absurd (omega (arith, none));
    moved = λ h none. keeps h;
  }

  -- every image of a stop stands for what stood,
  pub anew_moments : KeepsHomes (pool m n) g old new
  anew_moments = weaker g old new _ _ (none_kept m n (g.sector_count old) (g.content old)) (while_naming g m n second was old mid p now new q now [] _ none_rise none_given (λ j. tt))

  -- also of one that spoils the gate's block,
  pub naming_blocks : LeavesInBlocks g IsPoolGate (HomesStandAs (pool m n) (g.sector_count old) (g.content old)) mid new
  naming_blocks = record {
    writes = q.names;
    each = λ d wrote image may. none_kept m n (g.sector_count old) (g.content old) image (either_kept g m n second was old mid p now new q now [] _ none_rise none_given (λ j. tt) image (λ k off.
        ⊎_elim (λ there. ⊎_elim (λ u. absurd (q.synced there.0 u)) (λ at. absurd (off (gate_block k there.0 there.1 at))) (wrote.unsynced there.0 there.2))
        (λ e. ⊎_elim (λ at. absurd (off (gate_block k k refl at))) (λ e'. e ∙ e') (wrote.content k)) (may.kept k)));
  }

  -- and so does the device at the end
  pub anew_settled : pool_named (g.content new) ≡ not second → ((k : ℕ) → g.unsynced new k → ⊥)
      → IsSettled (pool m n) g (g.sector_count old) (g.content old) (not second, now) new (pool_standing m n (g.content old))
  anew_settled named synced =
      let settled = new_settled g m n second was old mid p now new q now [] _ none_rise none_given (λ j. tt) named synced in
      let same = none_changed m n (g.sector_count old) (g.content old) in
      record {
        rest = settled.rest;
        stands = same_pages (pool m n) _ _ same (g.content new) settled.stands;
        outside = settled.outside;
        left = λ image may. (let kept = settled.left image may in record { stands = same_pages (pool m n) _ _ same image kept.stands; journal = kept.journal; outside = kept.outside });
      }

-- what lies in one block with a sector of a map is one, and with the gate nothing stands
map_block : (m : ℕ) (second : Bool) (k j : ℕ) → IsSameBlock k j → IsPoolMap m second j → IsPoolMap m second k
map_block m false k j same map = (omega (arith, same, map.0), omega (arith, same, map.1))
map_block m true k j same map = (omega (arith, same, map.0), omega (arith, same, map.1))

-- The other map is written from a rest on, and synced, and named.
module _ {D : Type 0} (g : Ghosts D) (m n : ℕ) (second : Bool) (was : Bool → ℕ → ℕ) (old mid : D) (only_now : g.keeps_model old → (image : Image) → g.left_since old (g.moment old) image → MayLeave (g.content old) (g.unsynced old) image)
    (rest : g.keeps_model old → IsPoolRest g m n second was old) (writes : RunsOnDevice g (IsPoolMap m (not second)) old mid) where
  so_far : g.keeps_model mid → (d : D) → Touches g (IsPoolMap m (not second)) old d → IsWritten g m n second was old d
  so_far keeps d wrote = record {
    only_now = only_now (writes.kept keeps);
    rest = rest (writes.kept keeps);
    run = wider g (IsPoolMap m (not second)) (IsLoose m second was) old d (λ k map. inl map) wrote;
  }

  is_written : g.keeps_model mid → IsWritten g m n second was old mid
  is_written keeps = so_far keeps mid (writes.touches keeps)

  pub mapped_run : RunsOnDevice g (IsGateOrMap m (not second)) old mid
  mapped_run = of_more g (IsPoolMap m (not second)) (IsGateOrMap m (not second)) old mid (λ k map. inr map) writes

  pub mapped_moments : g.keeps_model mid → KeepsHomes (pool m n) g old mid
  mapped_moments keeps = while_writing g m n second was old mid (is_written keeps)

  pub mapped_blocks : ((k : ℕ) → g.unsynced old k → ⊥) → g.keeps_model mid → LeavesInBlocks g (IsPoolMap m (not second)) (HomesStandAs (pool m n) (g.sector_count old) (g.content old)) old mid
  mapped_blocks clean keeps = record {
    writes = writes.touches keeps;
    each = λ d wrote image may. as_before g m n second was old d (so_far keeps d wrote) image (λ k.
        ⊎_elim (λ there. ⊎_elim (λ u. absurd (clean there.0 u)) (λ map. inl (inl (map_block m (not second) k there.0 there.1 map))) (wrote.unsynced there.0 there.2))
        (λ e. ⊎_elim (λ map. inl (inl map)) (λ e'. inr (e ∙ e')) (wrote.content k)) (may.kept k));
  }

  module _ (map : g.keeps_model mid → (body : Bool) (r : ℕ) → r < 504 * m → pool_entry m n (not second) (g.content mid) body r ≡ was body r) (synced : g.keeps_model mid → (k : ℕ) → g.unsynced mid k → ⊥)
      (new : D) (names : RunsOnDevice g IsPoolGate mid new) where
    is_named : g.keeps_model new → NamesMap g m n second was mid new
    is_named keeps = record { map = map (names.kept keeps); synced = synced (names.kept keeps); names = names.touches keeps }

    pub named_run : RunsOnDevice g (IsGateOrMap m (not second)) old new
    named_run = one_more g (IsGateOrMap m (not second)) old mid new mapped_run (of_more g IsPoolGate (IsGateOrMap m (not second)) mid new (λ k at. inl at) names)

    pub named_moments : g.keeps_model new → KeepsHomes (pool m n) g old new
    named_moments keeps = anew_moments g m n second was old mid (is_written (names.kept keeps)) was new (is_named keeps) (λ h. inl refl)

    pub named_blocks : ((k : ℕ) → g.unsynced old k → ⊥) → g.keeps_model new → AnewInBlocks g m (not second) (HomesStandAs (pool m n) (g.sector_count old) (g.content old)) old new
    named_blocks clean keeps = inr (mid, mapped_blocks clean (names.kept keeps), naming_blocks g m n second was old mid (is_written (names.kept keeps)) was new (is_named keeps) (λ h. inl refl))

    pub named_settled : g.keeps_model new → pool_named (g.content new) ≡ not second → ((k : ℕ) → g.unsynced new k → ⊥)
        → IsSettled (pool m n) g (g.sector_count old) (g.content old) (not second, was) new (pool_standing m n (g.content old))
    named_settled keeps = anew_settled g m n second was old mid (is_written (names.kept keeps)) was new (is_named keeps) (λ h. inl refl)

-- a map and the gate, each sector once
module _ (m : ℕ) (second : Bool) (before mid now : ℕ → ℕ) where
  pub map_then_gate : (entries : Bool → ℕ → ℕ) → NamesOnce (IsNotedMap m second entries) before mid → NamesOnce IsPoolGate mid now → NamesOnce (IsGateOrNoted m second entries) before now
  map_then_gate entries = once_apart (IsNotedMap m second entries) IsPoolGate (IsGateOrNoted m second entries) before mid now (λ k map. inr map) (λ k at. inl at)
      (λ k map at. map_high m second k (of_noted m second entries k map) (omega (arith, at)))

  pub gate_then_named : (counted : ℕ) → Names IsPoolGate before mid → NamesOnce (IsCountedMap m second counted) mid now → NamesOnce (λ k. (k ≡ pool_gate) ⊎ IsCountedMap m second counted k) before now
  gate_then_named counted gate map = once_apart IsPoolGate (IsCountedMap m second counted) (λ k. (k ≡ pool_gate) ⊎ IsCountedMap m second counted k) before mid now (λ k at. inl at) (λ k map. inr map)
      (λ k at map. map_high m second k (of_counted m second counted k map) (omega (arith, at))) (once_named IsPoolGate IsPoolGate before mid (λ k at. at) gate) map

-- where the device failed the journal is as it was
pub anew_failed : {D : Type 0} (g : Ghosts D) (was : PoolJournal) (old new : D) (result : Result (Unit {0}) DiskFault) → IsErr result → IsPoolJournal was → (GivesNone was.sizes.blocks (entries_of was.map) → ⊥)
    → RunsOnDevice g (IsGateOrMap was.sizes.blocks (not was.second)) old new → NamesOnce (IsGateOrNoted was.sizes.blocks (not was.second) (entries_of was.map)) (g.asked old) (g.asked new) → g.failures old < g.failures new
    → (g.keeps_model new → KeepsHomes (layout_in was.sizes) g old new)
    → (g.keeps_model new → AnewInBlocks g was.sizes.blocks (not was.second) (HomesStandAs (layout_in was.sizes) (g.sector_count old) (g.content old)) old new) → WritesAnew g was was old new result
anew_failed g was old new (Ok done) is journal some run once failed moments blocks = let none : false ≡ true = is in cc
anew_failed g was old new (Err fault) is journal some run once failed moments blocks = record {
  writes = record { writes = record { done = λ keeps. tt; run = run; once = once; failed = λ told. failed; calm = tt }; synced = λ keeps. tt };
  any_moment = moments;
  blocks = blocks;
  turned = λ given. tt;
  idle = λ none. absurd (some none);
  is = journal;
  sizes = refl;
  map = refl;
}
