-- All pages are brought home: the homes and an empty map, and then the gate.
use Rattle.std.proofs.Common.{◌≡◌, ◌⊎◌, ◌≤◌, ◌<◌, ◌+◌, ◌*◌, ◌∙◌, ℕ, Bool, true, false, not, Result, Ok, Err, refl, sym, ap, subst, ⊎_elim, inl, inr, arith}
use Rattle.std.{proofs.lemmas.Result.{on_ok_weaker}, specs.Prelude.{IsErr}}
use Rattle.disk_model.{proofs.{Moments.{stays, asks_none, asks_once, asks_then, asks_wider}, Naming.{once_apart, once_none, once_wider}}, specs.{Moments.{AsksOnly}, Stop.{NamesOnce}, declared.sector_disk.{DiskFault.{DiskFault}, SectorDisk.{Ghosts}}}}
use Rattle.pool_journal.proofs.{AllFree.{all_counted}, Anew.{anew_moments, anew_settled, naming_blocks, KeepsPages}, Asking.{moved_gate, moved_map}, Committed.{Begins}, Loose.{map_high, map_low}, Phases.{while_writing, still_settled, loose_blocks}, Room.{copied_moved}, Thinned.{brought}}
use Rattle.pool_journal.specs.{Blocks.{IsNotedMap}, Commit.{IsMoved, IsWritten, NamesMap}, Committing.{PoolCommitsInBlocks}, Copying.{CopiesHome, IsCopiedHome, HoldsHomes}, Gates.{IsPoolGate}, Journal.{IsPoolJournal, TurnsMap}, Maps.{entries_of, IsEmptyMap}}
use Rattle.pool_journal.specs.{Pools.{pool, pool_home, pool_standing, pool_entry, pool_named, IsLoose, IsLooseHome, IsPoolMap, IsPoolUsed, IsSingle}, Recovering.{GivesNone}, Room.{ChangesNext}, Tidying.{IsFirstBlock, IsBrought, IsTidied, BringsHome, TidiesPool}}
use Rattle.pool_journal.specs.declared.{map.SlotMap.{SlotMap}, pool.PoolJournal.{PoolJournal}}
use Rattle.sync_journal.{proofs.Runs.{of_more, one_more}, specs.{Layouts.{HomesStandAs, IsSettled, KeepsHomes}, Runs.{RunsOnDevice}, Steps.{SyncsInto}}}

-- of an empty map the first block counts alone,
first_noted : (m : ℕ) (second : Bool) (next : SlotMap) → IsEmptyMap next → (k : ℕ) → IsNotedMap m second (entries_of next) k → IsFirstBlock m second k
first_noted m second next empty k noted = ⊎_elim
    (λ first. (omega (arith, first, noted.2.0), omega (arith, first, noted.2.1)))
    (λ given. absurd (given.4 (empty given.0 given.1)))
    noted.3

-- which is of that map
first_map : (m : ℕ) (second : Bool) → 1 ≤ m → (k : ℕ) → IsFirstBlock m second k → IsPoolMap m second k
first_map m second some k first = (omega (arith, first.0), omega (arith, first.1, some))

-- What is asked for is what a commit asks for, too.
pub tidied_used : (m : ℕ) (second : Bool) (entries : Bool → ℕ → ℕ) → 1 ≤ m → (k : ℕ) → IsTidied m second entries k → IsPoolUsed m second entries k
tidied_used m second entries some k = ⊎_elim (λ gate. inl gate)
    (⊎_elim (⊎_elim (λ live. inr (inr (live.0, live.1, live.2, live.4))) (λ home. inr (inl (inr (inr home)))))
    (λ first. inr (inl (inl (first_map m (not second) some k first)))))

-- Before the gate it is each once,
module _ (m : ℕ) (second : Bool) (entries : Bool → ℕ → ℕ) (some : 1 ≤ m) (before mid now : ℕ → ℕ) where
  brought_once : NamesOnce (IsMoved m entries) before mid → NamesOnce (IsFirstBlock m (not second)) mid now → NamesOnce (IsBrought m second entries) before now
  brought_once = once_apart (IsMoved m entries) (IsFirstBlock m (not second)) (IsBrought m second entries) before mid now (λ k moved. inl moved) (λ k first. inr first)
      (λ k moved first. moved_map m (not second) entries k moved (first_map m (not second) some k first))

  -- and so with it.
  pub tidied_once : NamesOnce (IsBrought m second entries) before mid → NamesOnce IsPoolGate mid now → NamesOnce (IsTidied m second entries) before now
  tidied_once = once_apart (IsBrought m second entries) IsPoolGate (IsTidied m second entries) before mid now (λ k there. inr there) (λ k gate. inl gate)
      (λ k there at. ⊎_elim (λ moved. moved_gate m entries k moved at) (λ first. map_high m (not second) k (first_map m (not second) some k first) (omega (arith, at))) there)

module _ {D : Type 0} (g : Ghosts D) (was : PoolJournal) (is : IsPoolJournal was) (old : D) where
  abbrev m : ℕ
  m = was.sizes.blocks

  abbrev n : ℕ
  n = was.sizes.homes

  abbrev entries : Bool → ℕ → ℕ
  entries = entries_of was.map

  -- The pages are copied home
  module _ (copied : D) {r : Result (Unit {0}) DiskFault} (copies : CopiesHome g (IsLooseHome m entries) (IsCopiedHome m entries) (IsSingle m entries) (HoldsHomes m entries (g.content old) (g.content copied)) old copied r) where
    copied_run : RunsOnDevice g (IsLoose m was.second entries) old copied
    copied_run = of_more g (IsLooseHome m entries) (IsLoose m was.second entries) old copied (λ k home. inr (inr home)) copies.run

    copied_asks : AsksOnly g (IsBrought m was.second entries) old copied
    copied_asks = asks_wider g (IsCopiedHome m entries) (IsBrought m was.second entries) old copied (λ k at. inl (copied_moved m entries k at)) copies.asks

    moved_once : IsSingle m entries → NamesOnce (IsMoved m entries) (g.asked old) (g.asked copied)
    moved_once single = once_wider (IsCopiedHome m entries) (IsMoved m entries) (g.asked old) (g.asked copied) (copied_moved m entries) (copies.once single)

    pub not_copied : (result : Result (Unit {0}) DiskFault) → IsErr result → g.failures old < g.failures copied → BringsHome g was was old copied result
    not_copied (Ok done) told failed = let none : false ≡ true = told in cc
    not_copied (Err fault) told failed = record {
      homes = λ keeps. tt;
      empty = tt;
      mapped = λ keeps. tt;
      synced = λ keeps. tt;
      run = copied_run;
      asks = copied_asks;
      once = λ single. once_wider (IsMoved m entries) (IsBrought m was.second entries) (g.asked old) (g.asked copied) (λ k moved. inl moved) (moved_once single);
      failed = λ told. failed;
      calm = tt;
      changes = record { is = is; sizes = refl; second = refl; map = refl; free = refl };
    }

  -- and an empty map is put beside the named one.
  pub maps_empty : (copied : D) → CopiesHome g (IsLooseHome m entries) (IsCopiedHome m entries) (IsSingle m entries) (HoldsHomes m entries (g.content old) (g.content copied)) old copied (Ok (tt {0}))
      → (now : PoolJournal) → ChangesNext was now → IsEmptyMap now.next → (new : D) {result : Result (Unit {0}) DiskFault}
      → SyncsInto g (IsPoolMap m (not was.second)) (IsNotedMap m (not was.second) (entries_of now.next))
      ((body : Bool) (r : ℕ) → r < 504 * m → pool_entry m n (not was.second) (g.content new) body r ≡ entries_of now.next body r) copied new result
      → BringsHome g was now old new result
  maps_empty copied copies now changes empty new {result} puts = record {
    homes = λ keeps. on_ok_weaker result (λ done h i slot at below. ⊎_elim (λ map. absurd (map_low m (not was.second) (pool_home m h + i) map (omega arith)))
        (λ same. same ∙ copies.done (puts.kept keeps) h i slot at below) ((puts.touches keeps).content (pool_home m h + i))) puts.calm;
    empty = on_ok_weaker result (λ done. empty) puts.calm;
    mapped = puts.done;
    synced = puts.synced;
    run = one_more g (IsLoose m was.second entries) old copied new (copied_run copied copies) (of_more g (IsPoolMap m (not was.second)) (IsLoose m was.second entries) copied new (λ k map. inl map) puts.run);
    asks = asks_then g (IsBrought m was.second entries) old copied new (copied_asks copied copies)
        (asks_once g (IsBrought m was.second entries) (IsNotedMap m (not was.second) (entries_of now.next)) copied new (λ k noted. inr (first_noted m (not was.second) now.next empty k noted)) puts.once);
    once = λ single. brought_once m was.second entries is.sized.0 (g.asked old) (g.asked copied) (g.asked new) (moved_once copied copies single)
        (once_wider (IsNotedMap m (not was.second) (entries_of now.next)) (IsFirstBlock m (not was.second)) (g.asked copied) (g.asked new) (first_noted m (not was.second) now.next empty) puts.once);
    failed = λ told. (let failed = puts.failed told in let calm = copies.calm in omega (arith, failed, calm));
    calm = on_ok_weaker result (λ calm. calm ∙ copies.calm) puts.calm;
    changes = changes;
  }

  module _ (b : Begins g was old) where
    -- All but the gate is written.
    module _ (now : PoolJournal) (mid : D) {r : Result (Unit {0}) DiskFault} (brings : BringsHome g was now old mid r) where
      is_written : g.keeps_model mid → IsWritten g m n was.second entries old mid
      is_written keeps = record { only_now = b.only_now (brings.kept keeps); rest = b.rest (brings.kept keeps); run = brings.touches keeps }

      brought_run : RunsOnDevice g (λ k. IsPoolGate k ⊎ IsLoose m was.second entries k) old mid
      brought_run = of_more g (IsLoose m was.second entries) (λ k. IsPoolGate k ⊎ IsLoose m was.second entries k) old mid (λ k loose. inr loose) brings.run

      brought_asks : AsksOnly g (IsTidied m was.second entries) old mid
      brought_asks = asks_wider g (IsBrought m was.second entries) (IsTidied m was.second entries) old mid (λ k there. inr there) brings.asks

      -- The device failed:
      pub not_brought : (result : Result (Unit {0}) DiskFault) → IsErr result → (GivesNone m entries → ⊥) → g.failures old < g.failures mid → TidiesPool g was now old mid result
      not_brought (Ok done) told some failed = let none : false ≡ true = told in cc
      not_brought (Err fault) told some failed = record {
        settled = λ keeps. tt;
        none = tt;
        all = tt;
        synced = λ keeps. tt;
        any_moment = λ keeps. while_writing g m n was.second entries old mid (is_written keeps);
        blocks = λ keeps. inl (loose_blocks g m n was.second entries old mid (is_written keeps));
        turned = λ given. tt;
        idle = λ none. absurd (some none);
        run = brought_run;
        asks = brought_asks;
        once = λ single. once_wider (IsBrought m was.second entries) (IsTidied m was.second entries) (g.asked old) (g.asked mid) (λ k there. inr there) (brings.once single);
        failed = λ told. failed;
        calm = tt;
        is = brings.changes.is;
        sizes = brings.changes.sizes;
      }

    -- The gate names the empty map.
    module _ (some : GivesNone m entries → ⊥) (now : PoolJournal) (mid : D) (brings : BringsHome g was now old mid (Ok (tt {0})))
        (new : D) {r : Result (Unit {0}) DiskFault} (names : SyncsInto g IsPoolGate IsPoolGate (pool_named (g.content new) ≡ not now.second) mid new r) where
      written : g.keeps_model new → IsWritten g m n was.second entries old mid
      written keeps = is_written now mid brings (names.kept keeps)

      named : g.keeps_model new → NamesMap g m n was.second (entries_of now.next) mid new
      named keeps = record { map = brings.mapped (names.kept keeps); synced = brings.synced (names.kept keeps); names = names.touches keeps }

      stay : g.keeps_model new → KeepsPages m entries (entries_of now.next) (g.content old) (g.content mid)
      stay keeps h = brought m entries (entries_of now.next) (g.content old) (g.content mid) h brings.empty (λ slot at i below. brings.homes (names.kept keeps) h i slot at below)

      moments : g.keeps_model new → KeepsHomes (pool m n) g old new
      moments keeps = anew_moments g m n was.second entries old mid (written keeps) (entries_of now.next) new (named keeps) (stay keeps)

      in_blocks : g.keeps_model new → PoolCommitsInBlocks g m was.second entries (HomesStandAs (pool m n) (g.sector_count old) (g.content old)) old new
      in_blocks keeps = inr (mid, loose_blocks g m n was.second entries old mid (written keeps), naming_blocks g m n was.second entries old mid (written keeps) (entries_of now.next) new (named keeps) (stay keeps))

      run : RunsOnDevice g (λ k. IsPoolGate k ⊎ IsLoose m was.second entries k) old new
      run = one_more g (λ k. IsPoolGate k ⊎ IsLoose m was.second entries k) old mid new (brought_run now mid brings)
          (of_more g IsPoolGate (λ k. IsPoolGate k ⊎ IsLoose m was.second entries k) mid new (λ k gate. inl gate) names.run)

      asks : AsksOnly g (IsTidied m was.second entries) old new
      asks = asks_then g (IsTidied m was.second entries) old mid new (brought_asks now mid brings) (asks_once g (IsTidied m was.second entries) IsPoolGate mid new (λ k gate. inl gate) names.once)

      once : IsSingle m entries → NamesOnce (IsTidied m was.second entries) (g.asked old) (g.asked new)
      once single = tidied_once m was.second entries is.sized.0 (g.asked old) (g.asked mid) (g.asked new) (brings.once single) names.once

      -- The device failed,
      pub not_emptied : (result : Result (Unit {0}) DiskFault) → IsErr result → g.failures mid < g.failures new → TidiesPool g was now old new result
      not_emptied (Ok done) told failed = let none : false ≡ true = told in cc
      not_emptied (Err fault) told failed = record {
        settled = λ keeps. tt;
        none = tt;
        all = tt;
        synced = λ keeps. tt;
        any_moment = moments;
        blocks = in_blocks;
        turned = λ given. tt;
        idle = λ none. absurd (some none);
        run = run;
        asks = asks;
        once = once;
        failed = λ told. (let calm = brings.calm in omega (arith, failed, calm));
        calm = tt;
        is = brings.changes.is;
        sizes = brings.changes.sizes;
      }

      -- or it is done.
      pub is_tidied : (g.keeps_model new → pool_named (g.content new) ≡ not now.second) → (g.keeps_model new → (k : ℕ) → g.unsynced new k → ⊥) → g.failures new ≡ g.failures mid
          → (end : PoolJournal) → TurnsMap now end → TidiesPool g was end old new (Ok (tt {0}))
      is_tidied done synced calm end turns = record {
        settled = λ keeps. subst (λ (map : SlotMap). IsSettled (pool m n) g (g.sector_count old) (g.content old) (end.second, entries_of map) new (pool_standing m n (g.content old))) (sym turns.map)
            (subst (λ b. IsSettled (pool m n) g (g.sector_count old) (g.content old) (b, entries_of now.next) new (pool_standing m n (g.content old))) (sym turned)
            (anew_settled g m n was.second entries old mid (written keeps) (entries_of now.next) new (named keeps) (stay keeps) (done keeps ∙ ap not brings.changes.second) (synced keeps)));
        none = gives_none;
        all = all_counted m (entries_of end.map) gives_none;
        synced = λ keeps k u. absurd (synced keeps k u);
        any_moment = moments;
        blocks = in_blocks;
        turned = λ given. turned;
        idle = λ none. absurd (some none);
        run = run;
        asks = asks;
        once = once;
        failed = λ told. cc;
        calm = calm ∙ brings.calm;
        is = turns.is;
        sizes = turns.sizes ∙ brings.changes.sizes;
      }
        where
          turned : end.second ≡ not was.second
          turned = turns.second ∙ ap not brings.changes.second

          gives_none : GivesNone m (entries_of end.map)
          gives_none = subst (λ (map : SlotMap). GivesNone m (entries_of map)) (sym turns.map) (λ body r below. brings.empty body r)

    -- Where no slot is given to a home nothing is done.
    pub is_idle : GivesNone m entries → TidiesPool g was was old old (Ok (tt {0}))
    is_idle none = record {
      settled = λ keeps. still_settled g m n was.second entries old old (still keeps);
      none = none;
      all = all_counted m entries none;
      synced = λ keeps k u. (u, none);
      any_moment = λ keeps. while_writing g m n was.second entries old old (still keeps);
      blocks = λ keeps. inl (loose_blocks g m n was.second entries old old (still keeps));
      turned = λ given. absurd (given none);
      idle = λ none. (refl, refl);
      run = record { size = refl; kept = λ keeps. keeps; later = omega arith; touches = λ keeps. stays g _ old };
      asks = asks_none g (IsTidied m was.second entries) old old (λ k. refl);
      once = λ single. once_none (IsTidied m was.second entries) (g.asked old) (g.asked old) (λ k. refl);
      failed = λ told. cc;
      calm = refl;
      is = is;
      sizes = refl;
    }
      where
        still : g.keeps_model old → IsWritten g m n was.second entries old old
        still keeps = record { only_now = b.only_now keeps; rest = b.rest keeps; run = stays g _ old }
