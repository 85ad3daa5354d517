-- A commit whose parts but the gate are synced: the gate, and what holds where it ends.
use Rattle.std.proofs.Common.{◌≡◌, ◌⊎◌, ◌<◌, ℕ, not, List, Result, Ok, Err, IsErrAnd, sym, ap, subst, ◌∙◌, ⊎_elim, inl, inr, arith, ◌≤◌, ◌*◌, length}
use Rattle.disk_model.{proofs.{Moments.{asks_once, asks_then, asks_wider, weaker}, Naming.{once_wider}}, specs.{Moments.{AsksOnly, LeavesOnly}, Stop.{Image, MayLeave, NamesOnce}, declared.sector_disk.{DiskFault.{DiskFault}, SectorDisk.{Ghosts}}}}
use Rattle.pool_journal.proofs.{Asking.{is_used, named_asks}, Loose.{few, loose_high, loose_low}, Phases.{while_writing, still_settled, while_naming, loose_blocks, gate_blocks, new_rest, new_others, new_settled, told_stands}}
use Rattle.pool_journal.specs.{Commit.{TakesFree, IsWritten, NamesMap}, Committing.{GivesInPool, StagesCommit, CommitsInPool, IsPoolStaged, IsPoolNoted, PoolCommitsInBlocks}, Gates.{IsPoolGate}, Journal.{TurnsMap, free_count}, Maps.{entries_of}}
use Rattle.pool_journal.specs.Pools.{pool, pool_named, IsLoose, IsPoolRest, IsPoolUsed, IsSingle}
use Rattle.pool_journal.specs.declared.{map.SlotMap.{SlotMap}, pool.PoolJournal.{PoolJournal}}
use Rattle.sync_journal.proofs.{Causes.{told_on, none_failed, puts_failed}, Shared.{blocks_weaker}, Layouts.{or_before}, Runs.{one_more, of_more}}
use Rattle.sync_journal.specs.{Committing.{CommitsOver, HomesStandOr}, Layouts.{HomesStandAs}, Runs.{RunsOnDevice}, Source.{HasCauses, IsTold}, Steps.{SyncsInto}}
use Rattle.sync_journal.specs.declared.{faults.CommitFault.{CommitFault, TheVariants.{Device}}, source.PageSource.{Ghosts as SourceGhosts}}

-- What a commit begins with.
pub record Begins {D : Type 0} (g : Ghosts D) (was : PoolJournal) (old : D) : Type 0 where
  pub only_now : g.keeps_model old → (image : Image) → g.left_since old (g.moment old) image → MayLeave (g.content old) (g.unsynced old) image
  pub rest : g.keeps_model old → IsPoolRest g was.sizes.blocks was.sizes.homes was.second (entries_of was.map) old

module _ {D S : Type 0} (g : Ghosts D) (s : SourceGhosts S) (was : PoolJournal) (homes : List ℕ) (old : D) (from : S) (b : Begins g was old) where
  abbrev m : ℕ
  m = was.sizes.blocks

  abbrev n : ℕ
  n = was.sizes.homes

  abbrev Before : Image → Type 0
  Before = HomesStandAs (pool m n) (g.sector_count old) (g.content old)

  abbrev Either : Image → Type 0
  Either = HomesStandOr (pool m n) (g.sector_count old) homes (s.pages from) (g.content old)

  module _ (now : PoolJournal) (mid : D) {left : S} {r : Result (Unit {0}) CommitFault} (stages : StagesCommit g s homes was now old mid from left r) where
    is_written : g.keeps_model mid → IsWritten g m n was.second (entries_of was.map) old mid
    is_written keeps = record { only_now = b.only_now (stages.kept keeps); rest = b.rest (stages.kept keeps); run = stages.touches keeps }

    -- a fault was told
    pub not_staged : (fault : CommitFault) (result : Result (Unit {0}) CommitFault) → IsErrAnd result (λ e. e ≡ fault) → r ≡ Err fault → CommitsInPool g s was now homes old mid from left result
    not_staged fault (Ok done) is told = absurd is
    not_staged fault (Err e) is told = record {
      puts = record {
        ok = λ keeps given. tt;
        rest = λ keeps. tt;
        outside = λ keeps. tt;
        any_moment = λ keeps given. weaker g old mid Before Either (or_before (pool m n) (g.sector_count old) homes (s.pages from) (g.content old))
            (while_writing g m n was.second (entries_of was.map) old mid (is_written keeps));
        once = λ single. once_wider (IsPoolStaged m was.second (entries_of was.map) homes) (IsPoolUsed m was.second (entries_of was.map)) (g.asked old) (g.asked mid)
            (is_used m was.second (entries_of was.map) homes) (stages.once single);
        takes = record {
          run = of_more g (IsLoose m was.second (entries_of was.map)) (λ k. IsPoolGate k ⊎ IsLoose m was.second (entries_of was.map) k) old mid (λ k loose. inr loose) stages.run;
          asks = stages.asks;
          causes = told_on (g.failures old) (g.failures mid) (s.failures from) (s.failures left) fault (Err e) is (subst (λ result. HasCauses (g.failures old) (g.failures mid) (s.failures from) (s.failures left) result) told stages.causes);
        };
        source = λ keeps told. still_settled g m n was.second (entries_of was.map) old mid (is_written keeps);
        source_moments = λ keeps told. while_writing g m n was.second (entries_of was.map) old mid (is_written keeps);
      };
      sure = λ keeps. tt;
      others = λ keeps. tt;
      blocks = λ keeps given. inl (blocks_weaker g (IsLoose m was.second (entries_of was.map)) Before Either old mid (or_before (pool m n) (g.sector_count old) homes (s.pages from) (g.content old))
          (loose_blocks g m n was.second (entries_of was.map) old mid (is_written keeps)));
      second = tt;
      placed = tt;
      noted = tt;
      single = λ was_single. tt;
      room = tt;
      synced = λ keeps. tt;
      asks_device = asks_wider g (IsPoolStaged m was.second (entries_of was.map) homes) (λ k. IsPoolGate k ⊎ IsPoolStaged m was.second (entries_of was.map) homes k) old mid (λ k staged. inr staged) stages.asks_device;
      is = stages.changes.is;
      sizes = stages.changes.sizes;
      second_stays = λ told. stages.changes.second;
      map = λ told. stages.changes.map;
      free = λ told. stages.changes.free;
    }

  -- All but the gate is synced, and then the gate is written.
  module _ (given : GivesInPool s was homes from) (now : PoolJournal) (mid : D) {left : S} (stages : StagesCommit g s homes was now old mid from left (Ok (tt {0})))
      (new : D) {r : Result (Unit {0}) DiskFault} (names : SyncsInto g IsPoolGate IsPoolGate (pool_named (g.content new) ≡ not now.second) mid new r) where
    written : g.keeps_model new → IsWritten g m n was.second (entries_of was.map) old mid
    written keeps = is_written now mid stages (names.kept keeps)

    named : g.keeps_model new → NamesMap g m n was.second (entries_of now.next) mid new
    named keeps = record { map = stages.mapped (names.kept keeps); synced = stages.synced (names.kept keeps); names = names.touches keeps }

    run : RunsOnDevice g (λ k. IsPoolGate k ⊎ IsLoose m was.second (entries_of was.map) k) old new
    run = one_more g (λ k. IsPoolGate k ⊎ IsLoose m was.second (entries_of was.map) k) old mid new
        (of_more g (IsLoose m was.second (entries_of was.map)) (λ k. IsPoolGate k ⊎ IsLoose m was.second (entries_of was.map) k) old mid (λ k loose. inr loose) stages.run)
        (of_more g IsPoolGate (λ k. IsPoolGate k ⊎ IsLoose m was.second (entries_of was.map) k) mid new (λ k gate. inl gate) names.run)

    any_moment : g.keeps_model new → s.keeps_model left → LeavesOnly g old new Either
    any_moment keeps kept =
        let gives = stages.gives (names.kept keeps) in
        while_naming g m n was.second (entries_of was.map) old mid (written keeps) (entries_of now.next) new (named keeps) gives.0 homes (s.pages from) given.rising gives.1 (λ j. inl kept)

    asks_device : AsksOnly g (λ k. IsPoolGate k ⊎ IsPoolStaged m was.second (entries_of was.map) homes k) old new
    asks_device = asks_then g (λ k. IsPoolGate k ⊎ IsPoolStaged m was.second (entries_of was.map) homes k) old mid new
        (asks_wider g (IsPoolStaged m was.second (entries_of was.map) homes) (λ k. IsPoolGate k ⊎ IsPoolStaged m was.second (entries_of was.map) homes k) old mid (λ k staged. inr staged) stages.asks_device)
        (asks_once g (λ k. IsPoolGate k ⊎ IsPoolStaged m was.second (entries_of was.map) homes k) IsPoolGate mid new (λ k gate. inl gate) names.once)

    asks_noted : AsksOnly g (λ k. IsPoolGate k ⊎ IsPoolNoted m was.second (entries_of was.map) (entries_of now.next) homes k) old new
    asks_noted =
        let W : ℕ → Type 0 = λ k. IsPoolGate k ⊎ IsPoolNoted m was.second (entries_of was.map) (entries_of now.next) homes k in
        asks_then g W old mid new (asks_wider g (IsPoolNoted m was.second (entries_of was.map) (entries_of now.next) homes) W old mid (λ k staged. inr staged) stages.noted)
        (asks_once g W IsPoolGate mid new (λ k gate. inl gate) names.once)

    blocks : g.keeps_model new → s.keeps_model left → PoolCommitsInBlocks g m was.second (entries_of was.map) Either old new
    blocks keeps kept =
        let gives = stages.gives (names.kept keeps) in
        inr (
          mid,
          blocks_weaker g (IsLoose m was.second (entries_of was.map)) Before Either old mid (or_before (pool m n) (g.sector_count old) homes (s.pages from) (g.content old))
              (loose_blocks g m n was.second (entries_of was.map) old mid (written keeps)),
          gate_blocks g m n was.second (entries_of was.map) old mid (written keeps) (entries_of now.next) new (named keeps) gives.0 homes (s.pages from) given.rising gives.1 (λ j. inl kept),
        )

    once : IsSingle m (entries_of was.map) → NamesOnce (IsPoolUsed m was.second (entries_of was.map)) (g.asked old) (g.asked new)
    once single = named_asks m was.second (entries_of was.map) homes (g.asked old) (g.asked mid) (g.asked new) (stages.once single) names.once

    -- the device failed
    pub not_named : (result : Result (Unit {0}) CommitFault) → IsErrAnd result (λ e. e ≡ Device) → g.failures mid < g.failures new → CommitsInPool g s was now homes old new from left result
    not_named (Ok done) is failed = absurd is
    not_named (Err e) is failed = record {
      puts = puts_failed (Err e) is any_moment once run stages.asks (omega (arith, failed, stages.causes.device_calm)) stages.causes.source_calm;
      sure = λ keeps. tt;
      others = λ keeps. tt;
      blocks = blocks;
      asks_device = asks_device;
      second = tt;
      placed = tt;
      noted = tt;
      single = λ was_single. tt;
      room = tt;
      synced = λ keeps. tt;
      is = stages.changes.is;
      sizes = stages.changes.sizes;
      second_stays = λ told. stages.changes.second;
      map = λ told. stages.changes.map;
      free = λ told. stages.changes.free;
    }

    -- or it is done
    puts : (g.keeps_model new → pool_named (g.content new) ≡ not now.second) → (g.keeps_model new → (k : ℕ) → g.unsynced new k → ⊥) → g.failures new ≡ g.failures mid
        → CommitsOver g s (pool m n) (was.second, entries_of was.map) (not was.second, entries_of now.next) (was.second, entries_of was.map) homes old new from left (Ok (tt {0}))
    puts done synced calm = record {
      ok = λ keeps kept.
          let gives = stages.gives (names.kept keeps) in
          new_settled g m n was.second (entries_of was.map) old mid (written keeps) (entries_of now.next) new (named keeps) gives.0 homes (s.pages from) given.rising gives.1 (λ j. inl kept) (gate keeps) (synced keeps);
      rest = λ keeps. new_rest g m n was.second (entries_of was.map) old mid (written keeps) (entries_of now.next) new (named keeps) (gate keeps) (synced keeps);
      outside = λ keeps k out. ⊎_elim
          (λ w. absurd (⊎_elim (λ at. ⊎_elim (λ front. omega (arith, at, front)) (λ after. omega (arith, at, after)) out)
          (λ loose. ⊎_elim (λ front. loose_high m was.second (entries_of was.map) k loose (omega (arith, front)))
          (λ after. loose_low m n was.second (entries_of was.map) (few g m n was.second (entries_of was.map) old (written keeps).rest) k loose after) out) w))
          (λ e. e) ((run.touches keeps).content k);
      any_moment = any_moment;
      once = once;
      takes = record {
        run = run;
        asks = stages.asks;
        causes = none_failed (g.failures old) (g.failures new) (s.failures from) (s.failures left) (calm ∙ stages.causes.device_calm) stages.causes.source_calm;
      };
      source = λ keeps told. cc;
      source_moments = λ keeps told. cc;
    }
      where
        gate : g.keeps_model new → pool_named (g.content new) ≡ not was.second
        gate keeps = done keeps ∙ ap not stages.changes.second

    pub is_committed : (g.keeps_model new → pool_named (g.content new) ≡ not now.second) → (g.keeps_model new → (k : ℕ) → g.unsynced new k → ⊥) → g.failures new ≡ g.failures mid
        → (end : PoolJournal) → TurnsMap now end → CommitsInPool g s was end homes old new from left (Ok (tt {0}))
    is_committed done synced calm end turns = record {
      puts = subst (λ (map : SlotMap). CommitsOver g s (pool m n) (was.second, entries_of was.map) (not was.second, entries_of map) (was.second, entries_of was.map) homes old new from left (Ok (tt {0}))) (sym turns.map) (puts done synced calm);
      sure = λ keeps j i inside below is.
          let gives = stages.gives (names.kept keeps) in
          told_stands g m n was.second (entries_of was.map) old mid (written keeps) (entries_of now.next) new (named keeps) gives.0 homes (IsTold s from left) (s.pages from) given.rising gives.1
          (done keeps ∙ ap not stages.changes.second) j i inside below (inr is);
      others = λ keeps. new_others g m n was.second (entries_of was.map) old mid (written keeps) (entries_of now.next) new (named keeps) homes (stages.others (names.kept keeps)) (done keeps ∙ ap not stages.changes.second);
      blocks = blocks;
      asks_device = asks_device;
      noted = subst (λ (map : SlotMap). AsksOnly g (λ k. IsPoolGate k ⊎ IsPoolNoted m was.second (entries_of was.map) (entries_of map) homes k) old new) (sym turns.map) asks_noted;
      room = subst (λ (map : SlotMap). length homes ≤ 504 * m → 504 * m ≤ free_count m (entries_of map)) (sym turns.map) stages.room;
      placed = subst (λ (map : SlotMap). TakesFree m (entries_of was.map) (entries_of map)) (sym turns.map) stages.placed;
      single = λ was_single. subst (λ (map : SlotMap). IsSingle m (entries_of map)) (sym turns.map) (stages.single was_single);
      second = turns.second ∙ ap not stages.changes.second;
      synced = synced;
      is = turns.is;
      sizes = turns.sizes ∙ stages.changes.sizes;
      second_stays = λ told. cc;
      map = λ told. cc;
      free = λ told. cc;
    }
