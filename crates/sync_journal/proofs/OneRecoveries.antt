-- A recovery of one journal: a sync, a look at gate and map, and a replay.
use Rattle.sync_journal.proofs.{Asking.{replay_asks}, Changes.{closed_not_bad}, Shared.{none_are}, Names.{◌≡◌, ℕ, true, false, List, [], ⊎_elim, if◌then◌else◌, Result, Ok, Err, OnOk, sym, ap, subst, ◌∙◌, arith, on_ok_weaker, IsErr}}
use Rattle.sync_journal.proofs.{Names.{IsErrOf, Image, MayLeave, AsksOnly, Nothing, DiskFault, Ghosts}, Phases.{not_bad, staged_settled}, Layouts.{FixesOutside, stays, looking, looked_at, looked_then}, Replays.{if_ok}, Runs.{one_more}}
use Rattle.sync_journal.{proofs.{Runs.{of_more, read_only, replayed}, Sectors.{same_image, so_before, so_since}}, specs.{Gate.{closed_gate, closed_sector, is_open}, Layout.{gate_sector, home_count, IsFinished, IsJournalSector}}}
use Rattle.sync_journal.specs.{Layout.{IsRecovered, IsReplayed}, Map.{AreHomes}, Recovering.{RecoversOne}, Runs.{RunsOnDevice}, Standing.{map_of, standing_single, IsAskedIn, IsBadSingle, IsOpenFor}, Layouts.{IsSettled, KeepsHomes}}
use Rattle.{sync_journal.specs.{Commit.{one_journal}, Steps.{BlamesJournal, MovesHome}, declared.faults.RecoverFault.{RecoverFault, TheVariants.{BadJournal}}}, disk_model.proofs.Moments.{then as and_then, asks_none, asks_then}}

pub ones_fix : FixesOutside one_journal
ones_fix sectors a b same k out = out

module _ {D : Type 0} (g : Ghosts D) (old read : D) (only_now : g.keeps_model old → (image : Image) → g.left_since old (g.moment old) image → MayLeave (g.content old) (g.unsynced old) image)
    (looks : RunsOnDevice g Nothing old read) where
  read_run : RunsOnDevice g (IsRecovered (g.sector_count old)) old read
  read_run = of_more g Nothing (IsRecovered (g.sector_count old)) old read (λ k none. absurd none) looks

  -- where nothing but gate and map is read
  pub looked : (result : Result (Unit {0}) RecoverFault) → IsErr result → (g.keeps_model read → AsksOnly g (IsAskedIn (g.content old)) old read) → BlamesJournal g old read result
      → (g.keeps_model read → IsErrOf result BadJournal → IsBadSingle (g.sector_count old) (g.content old)) → RecoversOne g old read result
  looked (Ok done) is asks blames bad = let none : false ≡ true = is in cc
  looked (Err fault) is asks blames bad = record { recovers = looked_at one_journal ones_fix g old read only_now looks _ (Err fault) is asks blames bad; gate = λ keeps. tt }

  -- where the gate is closed
  pub closed_there : (g.keeps_model read → is_open (g.content old) ≡ false) → (g.keeps_model old → (k : ℕ) → g.unsynced old k → ⊥) → (g.keeps_model read → AsksOnly g (IsAskedIn (g.content old)) old read)
      → g.failures read ≡ g.failures old → RecoversOne g old read (Ok (tt {0}))
  closed_there shut clean asks calm = record {
    recovers = record {
      restores = record {
        ok = λ keeps. staged_settled g [] (λ _. []) old read (only_now (looks.kept keeps)) (none_are (home_count (g.sector_count old)))
            (record { closed = shut keeps; synced = λ k u. absurd (clean (looks.kept keeps) k u) }) (read_only g IsJournalSector old read (looks.touches keeps));
        synced = λ keeps k u. ⊎_elim (clean (looks.kept keeps) k) (λ none. none) ((looks.touches keeps).unsynced k u);
        stays = stays one_journal ones_fix g old read (looking one_journal ones_fix g old read only_now looks);
        run = read_run;
        bad_unwritten = λ keeps is. looks.touches keeps;
        closed_unwritten = λ keeps closed. looks.touches keeps;
        asks = asks;
        blames = record { device = λ is. cc; calm = calm; still = λ is. cc };
        good = λ keeps bad. closed_not_bad (g.sector_count old) (g.content old) (shut keeps) bad;
        bad = λ keeps is. cc;
      };
      emptied = λ keeps. ap (λ (image : Image). is_open image) (same_image g old read (looks.touches keeps)) ∙ shut keeps;
    };
    gate = λ keeps. ap (λ (image : Image). image gate_sector) (same_image g old read (looks.touches keeps))
        ∙ ap (λ b. if b then closed_sector else (g.content old gate_sector)) (sym (shut keeps));
  }

  -- where the pages of an open journal are copied home then
  module _ (new : D) (homes : List ℕ) (are : AreHomes (home_count (g.sector_count old)) homes) (opened : g.keeps_model read → IsOpenFor homes (g.content old)) {r : Result (Unit {0}) DiskFault}
      (e : MovesHome g (IsReplayed homes) (IsFinished homes) read new r) where
    replaying : g.keeps_model new → ((k : ℕ) → g.unsynced old k → ⊥) → KeepsHomes one_journal g old new
    replaying keeps still = looked_then one_journal ones_fix g old read only_now looks new e.kept keeps still (e.any_moment keeps)

    good_there : g.keeps_model new → IsBadSingle (g.sector_count old) (g.content old) → ⊥
    good_there keeps bad = let names = opened (e.kept keeps) in not_bad 1023 (home_count (g.sector_count old)) homes (map_of (g.content old)) are names.count names.each bad.map

    pub replays : (result : Result (Unit {0}) RecoverFault) → (g.keeps_model read → AsksOnly g (IsAskedIn (g.content old)) old read)
        → (g.keeps_model new → OnOk result (IsSettled one_journal g (g.sector_count old) (g.content old) [] new (standing_single (g.content old))))
        → (g.keeps_model new → OnOk result ((k : ℕ) → g.unsynced new k → ⊥)) → BlamesJournal g old new result
        → (g.keeps_model new → IsErrOf result BadJournal → IsBadSingle (g.sector_count old) (g.content old))
        → (g.keeps_model new → OnOk result (g.content new gate_sector ≡ closed_gate (g.content old))) → RecoversOne g old new result
    replays result asks ok synced blames bad gate = record {
      recovers = record {
        restores = record {
          ok = ok;
          synced = synced;
          stays = stays one_journal ones_fix g old new replaying;
          run = one_more g (IsRecovered (g.sector_count old)) old read new read_run (record { size = e.size; kept = e.kept; later = e.later; touches = λ keeps. replayed g (g.sector_count old) homes read new are (e.touches keeps) });
          bad_unwritten = λ keeps is. absurd (good_there keeps is);
          closed_unwritten = λ keeps closed. (let both : true ≡ false = sym (opened (e.kept keeps)).gate ∙ closed in cc);
          asks = λ keeps. replay_asks g (g.content old) homes old read new (opened (e.kept keeps)) (asks (e.kept keeps)) e.once;
          blames = blames;
          good = λ keeps. if_ok result (good_there keeps);
          bad = bad;
        };
        emptied = λ keeps. on_ok_weaker result (λ settled. settled.rest.closed) (ok keeps);
      };
      gate = gate;
    }

  -- and where all that follows is a recovery of what was read
  module _ (new : D) (same : g.keeps_model read → g.content read ≡ g.content old) (unasked : (k : ℕ) → g.asked read k ≡ g.asked old k) (clean : g.keeps_model read → (k : ℕ) → g.unsynced read k → ⊥)
      (calm : g.failures read ≡ g.failures old) where
    pub after_sync : (result : Result (Unit {0}) RecoverFault) → RecoversOne g read new result → RecoversOne g old new result
    after_sync result e = record {
      recovers = record {
        restores = record {
          ok = λ keeps. on_ok_weaker result (λ settled. so_before g old read (looks.touches (e.kept keeps)) (λ n image. IsSettled one_journal g n image [] new (standing_single image)) looks.size settled) (e.ok keeps);
          synced = e.synced;
          stays = stays one_journal ones_fix g old new moments;
          run = one_more g (IsRecovered (g.sector_count old)) old read new read_run (subst (λ n. RunsOnDevice g (IsRecovered n) read new) looks.size e.run);
          bad_unwritten = λ keeps bad. and_then g Nothing old read new (looks.touches (e.kept keeps)) (e.bad_unwritten keeps (still_bad keeps bad));
          closed_unwritten = λ keeps closed. and_then g Nothing old read new (looks.touches (e.kept keeps)) (e.closed_unwritten keeps (ap (λ (image : Image). is_open image) (same (e.kept keeps)) ∙ closed));
          asks = λ keeps. asks_then g (IsAskedIn (g.content old)) old read new (asks_none g (IsAskedIn (g.content old)) old read unasked)
              (subst (λ (image : Image). AsksOnly g (IsAskedIn image) read new) (same (e.kept keeps)) (e.asks keeps));
          blames = record { device = λ is. (let failed = e.device is in omega (arith, failed, looks.later)); calm = on_ok_weaker result (λ still. still ∙ calm) e.calm; still = λ is. e.still is ∙ calm };
          good = λ keeps. on_ok_weaker result (λ good bad. good (still_bad keeps bad)) (e.good keeps);
          bad = λ keeps is. so_before g old read (looks.touches (e.kept keeps)) IsBadSingle looks.size (e.bad keeps is);
        };
        emptied = e.emptied;
      };
      gate = λ keeps. on_ok_weaker result (λ at. at ∙ ap (λ (image : Image). closed_gate image) (same (e.kept keeps))) (e.gate keeps);
    }
      where
        moments : g.keeps_model new → ((k : ℕ) → g.unsynced old k → ⊥) → KeepsHomes one_journal g old new
        moments keeps still = looked_then one_journal ones_fix g old read only_now looks new e.kept keeps still (e.any_moment keeps (clean (e.kept keeps)))

        still_bad : g.keeps_model new → IsBadSingle (g.sector_count old) (g.content old) → IsBadSingle (g.sector_count read) (g.content read)
        still_bad keeps bad = so_since g old read (looks.touches (e.kept keeps)) IsBadSingle looks.size bad
