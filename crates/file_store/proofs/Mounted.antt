-- What an opening leaves: a look at the head of the store, and then its journal.
use Rattle.file_store.proofs.{Asking.{head_asks, opening_asks}, Causes.{journal_from, fault_cases, same_Err}, Homes.{entry_behind}, Images.{same_head, entry_same, stands_kept}, Openings.{content_is, still_synced, files_stand}}
use Rattle.file_store.proofs.Names.{◌≡◌, ◌*◌, ◌<◌, ◌≤◌, ℕ, List, [], Result, Ok, Err, ⊎_elim, sym, ap, subst, ◌∙◌, arith, option_map, FileInfo, Image, MayLeave, Nothing, Touches, AsksOnly, Ghosts, then}
use Rattle.file_store.proofs.Names.{one_journal, live_homes, none_are, ones_fix, looking, looked_then, read_only, so_before, so_since, first_home_sector, home_count, AreHomes, IsAtRest, IsRecovered, IsSettled, RecoversOne, RunsOnDevice, Journal, RecoverFault, Two}
use Rattle.file_store.specs.{Directory.{IsSoundDirectory}, Faults.{open_fault}, Opened.{LooksFor, IsDirectoryIn, Mounts, IsRefusedFor, OpensFrom, RefusesToOpen}, Standing.{standing, IsBadLayout, IsBadJournal, IsHeadIn, AreBounded}, Store.{entry_of, IsMounted, IsReadyStore}}
use Rattle.{file_store.specs.declared.{directory.Directory.{Directory}, faults.OpenFault.{OpenFault}}}

-- numbers and lengths of files are in their bounds
bounded : (directory : Directory) → AreBounded (λ f. option_map (λ e. e.info) (entry_of directory f))
bounded directory = record {
  each = λ f k inside.
      let b = entry_behind (entry_of directory f) inside.0 inside.1 in
      let lt : 4096 * k < b.0.info.length = subst (λ (i : FileInfo). 4096 * k < i.length) (sym b.2) inside.2 in
      let few = directory.numbers f b.0 b.1 in let short = directory.lengths f b.0 b.1 in (omega (arith, few), omega (arith, lt, short));
}

module _ {D : Type 0} (g : Ghosts D) where
  -- mark or directory can't be read, or are bad
  pub head_refuses : {T : Type 0} (fault : OpenFault) (old new : D) → LooksFor g {T = T} (IsBadLayout (g.sector_count old) (g.content old)) old new (Err fault) → IsRefusedFor g old fault new
  head_refuses fault old new looks = record {
    device = λ is. looks.device (ap Err is);
    calm = λ other. looks.still (λ is. other (same_Err _ _ is));
    bad_layout = λ k is. looks.bad k (ap Err is);
    bad_journal = λ k is. absurd (looks.no_journal (ap Err is));
    layout_first = λ k is. absurd (looks.no_journal (ap Err is));
    unwritten = λ k other. looks.run.touches k;
    bad_unwritten = λ k bad. looks.run.touches k;
  }

  module _ (old read : D) (head : RunsOnDevice g Nothing old read) where
    -- or the journal is
    pub journal_refuses : (r : RecoverFault) (new : D) → g.failures read ≡ g.failures old → (g.keeps_model read → IsBadLayout (g.sector_count old) (g.content old) → ⊥)
        → RecoversOne g read new (Err r) → IsRefusedFor g old (open_fault r) new
    journal_refuses r new calm good e = record {
      device = λ is. ⊎_elim (λ fault. (let more = e.device (ap Err fault) in omega (arith, more, calm))) (λ fault. absurd (let other = sym (ap open_fault fault) ∙ is in cc)) (fault_cases r);
      calm = λ other. ⊎_elim (λ fault. absurd (other (ap open_fault fault))) (λ fault. e.still (ap Err fault) ∙ calm) (fault_cases r);
      bad_layout = λ k is. absurd (⊎_elim (λ fault. (let other = sym (ap open_fault fault) ∙ is in cc)) (λ fault. (let other = sym (ap open_fault fault) ∙ is in cc)) (fault_cases r));
      bad_journal = λ k is. so_before g old read (head.touches (e.kept k)) (λ n image. IsBadJournal n image) head.size (e.bad k (ap Err (journal_from r (sym is))));
      layout_first = λ k is. good (e.kept k);
      unwritten = λ k other. ⊎_elim (λ fault. absurd (other (ap open_fault fault))) (λ fault. then g Nothing old read new (head.touches (e.kept k)) (e.bad_unwritten k (e.bad k (ap Err fault)))) (fault_cases r);
      bad_unwritten = λ k is. then g Nothing old read new (head.touches (e.kept k)) (e.bad_unwritten k (⊎_elim (λ layout. absurd (good (e.kept k) layout)) (λ journal. since k journal) is));
    }
      where
        since : g.keeps_model new → IsBadJournal (g.sector_count old) (g.content old) → IsBadJournal (g.sector_count read) (g.content read)
        since k bad = so_since g old read (head.touches (e.kept k)) (λ n image. IsBadJournal n image) head.size bad

    module _ (only_now : g.keeps_model old → (image : Image) → g.left_since old (g.moment old) image → MayLeave (g.content old) (g.unsynced old) image)
        (asked : AsksOnly g (IsHeadIn Two) old read) where
      -- the head alone
      pub mounts_head : Mounts g old read
      mounts_head = record {
        size = head.size;
        kept = head.kept;
        later = head.later;
        asks = λ k. head_asks g (g.content old) old read asked;
        touches = λ k. read_only g (IsRecovered (g.sector_count old)) old read (head.touches k);
        closed_unwritten = λ k closed. head.touches k;
        any_moment = looking one_journal ones_fix g old read only_now head;
      }

      -- and then a recovery
      pub mounts : (new : D) {r : Result (Unit {0}) RecoverFault} → RecoversOne g read new r → Mounts g old new
      mounts new e = record {
        size = e.size ∙ head.size;
        kept = λ k. head.kept (e.kept k);
        later = omega (arith, head.later, e.later);
        asks = λ k. opening_asks g (g.content old) old read new (same k) asked (e.asks k);
        touches = λ k.
            let W : ℕ → Type 0 = IsRecovered (g.sector_count old) in
            then g W old read new (read_only g W old read (head.touches (e.kept k))) (subst (λ (n : ℕ). Touches g (IsRecovered n) read new) head.size (e.touches k));
        closed_unwritten = λ k is. then g Nothing old read new (head.touches (e.kept k)) (e.closed_unwritten k (subst (λ (image : Image). one_journal.IsClosed image) (sym (same k)) is));
        any_moment = λ k synced. looked_then one_journal ones_fix g old read only_now head new e.kept k synced (e.any_moment k (still_synced g old read (head.touches (e.kept k)) synced));
      }
        where
          same : g.keeps_model new → g.content read ≡ g.content old
          same k = content_is g old read (head.touches (e.kept k))

    -- and what a recovery leaves
    pub mounted : (new : D) (bytes : List ℕ) (directory : Directory) (x : Unit {0}) → first_home_sector ≤ g.sector_count old → g.failures read ≡ g.failures old → IsDirectoryIn g Two old read bytes directory
        → (g.keeps_model read → IsBadLayout (g.sector_count old) (g.content old) → ⊥) → RecoversOne g read new (Ok x) → IsMounted g old new directory
    mounted new bytes directory x room calm found good e = record {
      room = room;
      sound = found.sound;
      rest = λ k. (settled k).rest;
      same = λ k f. found.entries (e.kept k) f ∙ sym (entry_same (g.content old) (g.content new) (same_head (g.sector_count old) (g.content old) (g.content new) (settled k).outside) f);
      layout = λ k. good (e.kept k);
      journal = λ k bad. e.good k (so_since g old read (head.touches (e.kept k)) (λ n image. IsBadJournal n image) head.size bad);
      stands = λ k. (settled k).left;
      synced = e.synced;
      emptied = e.emptied;
      calm = e.calm ∙ calm;
    }
      where
        settled : g.keeps_model new → IsSettled one_journal g (g.sector_count old) (g.content old) [] new (standing (g.content old))
        settled k = so_before g old read (head.touches (e.kept k)) (λ n image. IsSettled one_journal g n image [] new (standing image)) head.size (e.ok k)

  module _ (old new : D) (run : Mounts g old new) where
    -- it may be read and committed to
    ready : (journal : Journal) (directory : Directory) → live_homes journal ≡ [] → IsMounted g old new directory → IsReadyStore g (record { disk = new; journal = journal; directory = directory })
    ready journal directory none ok = record {
      room = subst (λ n. first_home_sector ≤ n) (sym run.size) ok.room;
      sound = subst (λ n. IsSoundDirectory (home_count n) (entry_of directory)) (sym run.size) ok.sound;
      live = subst (λ homes. AreHomes (home_count (g.sector_count new)) homes) (sym none) (none_are (home_count (g.sector_count new)));
      at_rest = λ k. record { journal = subst (λ homes. IsAtRest g homes new) (sym none) (ok.rest k); directory = ok.same k };
    }

    -- the store is open
    pub opens : (journal : Journal) (directory : Directory) → live_homes journal ≡ [] → IsMounted g old new directory → OpensFrom g old (record { disk = new; journal = journal; directory = directory })
    opens journal directory none ok = record {
      ready = ready journal directory none ok;
      bounded = bounded directory;
      closed = none;
      emptied = ok.emptied;
      synced = ok.synced;
      good_layout = ok.layout;
      good_journal = ok.journal;
      now = λ k image may. stands_kept (g.sector_count old) (g.content old) image (ok.stands k image may);
      homes = ok.stands;
      any_moment = λ k synced. files_stand g old new (g.sector_count old) (g.content old) (λ files pages stood. stood) (run.any_moment k synced);
      in_a_row = λ k synced first was. files_stand g old new (g.sector_count old) first was (run.any_moment k synced);
      size = run.size;
      kept = run.kept;
      later = run.later;
      calm = ok.calm;
      asks = run.asks;
      touches = run.touches;
      closed_unwritten = run.closed_unwritten;
    }

    -- or refused
    pub refuses : (fault : OpenFault) → IsRefusedFor g old fault new → RefusesToOpen g old fault new
    refuses fault err = record {
      device = err.device;
      err_calm = err.calm;
      bad_layout = err.bad_layout;
      bad_journal = err.bad_journal;
      layout_first = err.layout_first;
      unwritten = err.unwritten;
      bad_unwritten = err.bad_unwritten;
      err_moment = λ k synced. files_stand g old new (g.sector_count old) (g.content old) (λ files pages stood. stood) (run.any_moment k synced);
      err_in_a_row = λ k synced first was. files_stand g old new (g.sector_count old) first was (run.any_moment k synced);
      err_size = run.size;
      err_kept = run.kept;
      err_later = run.later;
      err_asks = run.asks;
      err_touches = run.touches;
      err_closed_unwritten = run.closed_unwritten;
    }
