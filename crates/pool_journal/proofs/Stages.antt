-- The steps of a commit before the gate, one after another, and what holds where it ends after one of them.
use Rattle.std.proofs.Common.{◌≡◌, ◌⊎◌, ◌≤◌, ◌<◌, ◌*◌, ℕ, Bool, not, List, length, get_or, Result, Ok, Err, IsErrAnd, refl, sym, subst, ◌∙◌, inl, inr, arith}
use Rattle.disk_model.{proofs.{Moments.{asks_none, asks_once, asks_then, asks_wider}, Naming.{once_none, once_still, once_wider}}, specs.{Moments.{AsksOnly}, Stop.{Image, NamesOnce, Elapses}, declared.sector_disk.{DiskFault.{DiskFault}, SectorDisk.{Ghosts}}}}
use Rattle.pool_journal.proofs.{Asking.{staged_asks, copied_run, filled_run, writes_loose}, BlockWrites.{of_noted}, Counted.{free_and_live, given_live}, Staging.{only_next, given_most, given_single, filled_taken, takes_free, staged_gives, staged_others}}
use Rattle.pool_journal.specs.{Commit.{IsDropped}, Filling.{IsFilled}}
use Rattle.pool_journal.specs.Giving.{AreRising, GivesFirst}
use Rattle.pool_journal.specs.{Blocks.{IsNotedMap}, Committing.{StagesCommit, IsPoolStaged, IsPoolNoted}, Maps.{entries_of}, Pools.{pool_entry, IsLooseSlot, IsLoose, IsPoolMap, IsSingle}, Room.{ChangesNext, MakesRoom, FillsSlots, slots_of}}
use Rattle.pool_journal.specs.declared.{map.SlotMap.{SlotMap}, pool.PoolJournal.{PoolJournal}}
use Rattle.sync_journal.proofs.{Causes.{told_on, device_failed, none_failed}, Runs.{and_no_write}}
use Rattle.sync_journal.specs.{Runs.{RunsOnDevice}, Source.{Asks, HasCauses, IsTold}, Steps.{WritesInto}, declared.{faults.CommitFault.{CommitFault, TheVariants.{Device}}, source.PageSource.{Ghosts as SourceGhosts}}}

pub changes_then : (a b c : PoolJournal) → ChangesNext a b → ChangesNext b c → ChangesNext a c
changes_then a b c first second = record {
  is = second.is;
  sizes = second.sizes ∙ first.sizes;
  second = second.second ∙ first.second;
  map = second.map ∙ first.map;
  free = second.free ∙ first.free;
}

-- A journal's next map is written.
abbrev pub WritesNext : {D : Type 0} → Ghosts D → PoolJournal → SlotMap → D → D → Result (Unit {0}) DiskFault → Type 0
WritesNext g journal next old new result = WritesInto g (IsPoolMap journal.sizes.blocks (not journal.second)) (IsNotedMap journal.sizes.blocks (not journal.second) (entries_of next))
    ((body : Bool) (r : ℕ) → r < 504 * journal.sizes.blocks → pool_entry journal.sizes.blocks journal.sizes.homes (not journal.second) (g.content new) body r ≡ entries_of next body r) old new result

-- A device is synced, or was to be:
pub record SyncsAll {D : Type 0} (g : Ghosts D) (old new : D) : Type 0 where
  pub size : g.sector_count new ≡ g.sector_count old
  pub kept : g.keeps_model new → g.keeps_model old
  pub later : g.failures old ≤ g.failures new
  pub asks : (k : ℕ) → g.asked new k ≡ g.asked old k
  pub same : g.keeps_model new → g.content new ≡ g.content old
  pub unsynced : g.keeps_model new → (k : ℕ) → g.unsynced new k → g.unsynced old k
  pub time : g.keeps_model new → Elapses (g.moment old) (g.moment new) (g.left_since old) (g.left_since new) (g.content new) (g.unsynced new)

-- What is done of a commit so far.
pub record Stages {D : Type 0} (g : Ghosts D) (homes : List ℕ) (was now : PoolJournal) (old new : D) : Type 0 where
  pub run : RunsOnDevice g (IsLoose was.sizes.blocks was.second (entries_of was.map)) old new
  pub asks : AsksOnly g (IsPoolStaged was.sizes.blocks was.second (entries_of was.map) homes) old new
  pub once : IsSingle was.sizes.blocks (entries_of was.map) → NamesOnce (IsPoolStaged was.sizes.blocks was.second (entries_of was.map) homes) (g.asked old) (g.asked new)
  pub changes : ChangesNext was now

module _ {D S : Type 0} {g : Ghosts D} {s : SourceGhosts S} {homes : List ℕ} {was : PoolJournal} {old : D} where
  -- where it ends by a fault that was told
  pub stage_told : (now : PoolJournal) (new : D) (from left : S) (fault : CommitFault) (r : Result (Unit {0}) CommitFault) → IsErrAnd r (λ e. e ≡ fault) → Stages g homes was now old new
      → Asks s from left → HasCauses (g.failures old) (g.failures new) (s.failures from) (s.failures left) (Err fault) → StagesCommit g s homes was now old new from left r
  stage_told now new from left fault (Ok done) is stages asks causes = absurd is
  stage_told now new from left fault (Err e) is stages asks causes = record {
    gives = λ keeps. tt;
    placed = tt;
    others = λ keeps. tt;
    homes_are = tt;
    single = λ was_single. tt;
    room = tt;
    mapped = λ keeps. tt;
    synced = λ keeps. tt;
    takes = record { run = stages.run; asks = asks; causes = told_on (g.failures old) (g.failures new) (s.failures from) (s.failures left) fault (Err e) is causes };
    asks_device = stages.asks;
    noted = tt;
    once = stages.once;
    changes = stages.changes;
  }

  -- or as the device failed
  pub stage_failed : (now : PoolJournal) (new : D) (from left : S) (r : Result (Unit {0}) CommitFault) → IsErrAnd r (λ e. e ≡ Device) → Stages g homes was now old new
      → Asks s from left → g.failures old < g.failures new → s.failures left ≡ s.failures from → StagesCommit g s homes was now old new from left r
  stage_failed now new from left r is stages asks failed calm =
      stage_told now new from left Device r is stages asks (device_failed (g.failures old) (g.failures new) (s.failures from) (s.failures left) (Err Device) refl failed calm)

module _ {D : Type 0} {g : Ghosts D} {homes : List ℕ} {was : PoolJournal} {old : D} (one : PoolJournal) (copied : D) {r1 : Result (Unit {0}) DiskFault} (rooms : MakesRoom g homes was one old copied r1) where
  -- room is made,
  pub roomed : Stages g homes was one old copied
  roomed = record {
    run = copied_run was.sizes.blocks was.second (entries_of was.map) homes g old copied rooms.run;
    asks = asks_wider g (IsDropped was.sizes.blocks (entries_of was.map) homes) (IsPoolStaged was.sizes.blocks was.second (entries_of was.map) homes) old copied (λ k moved. inl (inl moved)) rooms.asks;
    once = λ single. once_wider (IsDropped was.sizes.blocks (entries_of was.map) homes) (IsPoolStaged was.sizes.blocks was.second (entries_of was.map) homes) (g.asked old) (g.asked copied)
        (λ k moved. inl (inl moved)) (rooms.once single);
    changes = rooms.changes;
  }

  -- free slots are filled,
  module _ {S : Type 0} {s : SourceGhosts S} (two : PoolJournal) (written : D) {from left : S} {r2 : Result (Unit {0}) CommitFault} (fills : FillsSlots g s homes one two copied written from left r2) where
    pub fills_was : FillsSlots g s homes (record { sizes = was.sizes; second = was.second; map = was.map; next = one.next; free = was.free; taken = one.taken }) two copied written from left r2
    fills_was = subst (λ journal. FillsSlots g s homes journal two copied written from left r2) (only_next was one rooms.changes) fills

    both : ChangesNext was two
    both = changes_then was one two rooms.changes fills.changes

    filled_asks : AsksOnly g (IsPoolStaged was.sizes.blocks was.second (entries_of was.map) homes) old written
    filled_asks = asks_then g (IsPoolStaged was.sizes.blocks was.second (entries_of was.map) homes) old copied written roomed.asks
        (asks_once g (IsPoolStaged was.sizes.blocks was.second (entries_of was.map) homes) (IsLooseSlot was.sizes.blocks (entries_of was.map)) copied written (λ k free. inl (inr free)) fills_was.once)

    pub filled : Stages g homes was two old written
    filled = record {
      run = filled_run was.sizes.blocks was.second (entries_of was.map) homes g old copied written rooms.run fills_was.run;
      asks = filled_asks;
      once = λ single. staged_asks was.sizes.blocks was.second (entries_of was.map) homes (g.asked old) (g.asked copied) (g.asked written) (g.asked written) (rooms.once single) fills_was.once
          (once_none (IsPoolMap was.sizes.blocks (not was.second)) (g.asked written) (g.asked written) (λ k. refl));
      changes = both;
    }

    -- the next map is written,
    module _ (mapped : D) {r3 : Result (Unit {0}) DiskFault} (maps : WritesNext g two two.next written mapped r3) where
      pub maps_was : WritesNext g was two.next written mapped r3
      maps_was = subst (λ journal. WritesNext g journal two.next written mapped r3) (only_next was two both) maps

      map_once : NamesOnce (IsPoolMap was.sizes.blocks (not was.second)) (g.asked written) (g.asked mapped)
      map_once = once_wider (IsNotedMap was.sizes.blocks (not was.second) (entries_of two.next)) (IsPoolMap was.sizes.blocks (not was.second)) (g.asked written) (g.asked mapped)
          (of_noted was.sizes.blocks (not was.second) (entries_of two.next)) maps_was.once

      pub noted : Stages g homes was two old mapped
      noted = record {
        run = writes_loose was.sizes.blocks was.second (entries_of was.map) homes g old copied written mapped rooms.run fills_was.run maps_was.run;
        asks = asks_then g (IsPoolStaged was.sizes.blocks was.second (entries_of was.map) homes) old written mapped filled_asks
            (asks_once g (IsPoolStaged was.sizes.blocks was.second (entries_of was.map) homes) (IsPoolMap was.sizes.blocks (not was.second)) written mapped (λ k map. inr map) map_once);
        once = λ single. staged_asks was.sizes.blocks was.second (entries_of was.map) homes (g.asked old) (g.asked copied) (g.asked written) (g.asked mapped) (rooms.once single) fills_was.once map_once;
        changes = both;
      }

      -- of which no more is asked for than it takes,
      pub asks_noted : GivesFirst (length homes) (slots_of two) homes one.next two.next → (new : D) → SyncsAll g mapped new → AsksOnly g (IsPoolNoted was.sizes.blocks was.second (entries_of was.map) (entries_of two.next) homes) old new
      asks_noted given new syncs =
          let W : ℕ → Type 0 = IsPoolNoted was.sizes.blocks was.second (entries_of was.map) (entries_of two.next) homes in
          asks_then g W old mapped new
          (asks_then g W old written mapped
          (asks_then g W old copied written (asks_wider g (IsDropped was.sizes.blocks (entries_of was.map) homes) W old copied (λ k moved. inl (inl moved)) rooms.asks)
          (asks_wider g (IsFilled was.sizes.blocks (slots_of two) (length homes)) W copied written
          (λ k at. inl (inr (filled_taken was.sizes.blocks (entries_of was.map) (slots_of two) homes one.next two.next fills_was.long fills_was.are given k at))) fills_was.asks_slots))
          (asks_once g W (IsNotedMap was.sizes.blocks (not was.second) (entries_of two.next)) written mapped (λ k map. inr map) maps_was.once))
          (asks_none g W mapped new syncs.asks)

      -- and all of it is synced.
      pub ended : (new : D) → SyncsAll g mapped new → Stages g homes was two old new
      ended new syncs = record {
        run = and_no_write g (IsLoose was.sizes.blocks was.second (entries_of was.map)) old mapped new noted.run syncs.size syncs.kept syncs.later syncs.same syncs.unsynced syncs.time;
        asks = asks_then g (IsPoolStaged was.sizes.blocks was.second (entries_of was.map) homes) old mapped new noted.asks (asks_none g (IsPoolStaged was.sizes.blocks was.second (entries_of was.map) homes) mapped new syncs.asks);
        once = λ single. once_still (IsPoolStaged was.sizes.blocks was.second (entries_of was.map) homes) (g.asked old) (g.asked mapped) (g.asked new) (noted.once single) syncs.asks;
        changes = both;
      }

-- Then the new pages stand in slots that the next map gives to their homes.
pub stage_ends : {D S : Type 0} {g : Ghosts D} {s : SourceGhosts S} {homes : List ℕ} {was : PoolJournal} {old : D} (one : PoolJournal) (copied : D) → MakesRoom g homes was one old copied (Ok (tt {0}))
    → (two : PoolJournal) (written : D) {from left : S} → FillsSlots g s homes one two copied written from left (Ok (tt {0})) → (mapped : D) → WritesNext g two two.next written mapped (Ok (tt {0}))
    → (new : D) → SyncsAll g mapped new → (g.keeps_model new → (k : ℕ) → g.unsynced new k → ⊥) → g.failures new ≡ g.failures mapped → ((j : ℕ) → j < length homes → get_or homes j 0 < was.sizes.homes)
    → AreRising homes → StagesCommit g s homes was two old new from left (Ok (tt {0}))
stage_ends {g} {s} {homes} {was} {old} one copied rooms two written {from} {left} fills mapped maps new syncs synced calm inside rising =
    let fill = fills_was one copied rooms two written fills in
    let map = maps_was one copied rooms two written fills mapped maps in
    let stages = ended one copied rooms two written fills mapped maps new syncs in
    let thins = λ (keeps : g.keeps_model new). rooms.thins (fill.run.kept (map.run.kept (syncs.kept keeps))) in
    let filled = λ (keeps : g.keeps_model new). (fill.run.touches (map.run.kept (syncs.kept keeps))).content in
    let noted : g.keeps_model new → (k : ℕ) → IsPoolMap was.sizes.blocks (not was.second) k ⊎ (g.content new k ≡ g.content written k)
    = λ keeps k. subst (λ (content : Image). IsPoolMap was.sizes.blocks (not was.second) k ⊎ (content k ≡ g.content written k)) (sym (syncs.same keeps)) ((map.run.touches (syncs.kept keeps)).content k) in
    record {
      gives = λ keeps. (
        entries_of one.next,
        staged_gives was.sizes.blocks (entries_of was.map) (not was.second) one.next two.next homes (slots_of two) (g.content old) (g.content copied) (g.content written) (g.content new)
            (thins keeps) (filled keeps) (noted keeps) fill.long fill.are fill.given (IsTold s from left) (s.pages from) (fill.body (map.run.kept (syncs.kept keeps))),
      );
      others = λ keeps. staged_others was.sizes.blocks (entries_of was.map) (not was.second) one.next two.next homes (slots_of two) (g.content old) (g.content copied) (g.content written) (g.content new)
          (thins keeps) (filled keeps) (noted keeps) fill.long fill.are fill.given was.second (stages.run.touches keeps).content;
      placed = takes_free was.sizes.blocks (entries_of was.map) (slots_of two) homes one.next two.next fill.long fill.are fill.given rooms.keeps_slots;
      homes_are = given_most (length homes) (slots_of two) homes one.next two.next was.sizes.homes fill.given fill.long rooms.homes_are inside;
      single = λ was_single. given_single was.sizes.blocks (length homes) (slots_of two) homes one.next two.next fill.given fill.long refl rising (rooms.single was_single) rooms.new_homes;
      room = λ few. (let live = given_live was.sizes.blocks (length homes) (slots_of two) homes one.next two.next fill.given in
          let all = free_and_live was.sizes.blocks (entries_of two.next) in let before = rooms.room few in omega (arith, live, all, before));
      mapped = λ keeps. subst (λ (content : Image). (body : Bool) (r : ℕ) → r < 504 * was.sizes.blocks → pool_entry was.sizes.blocks was.sizes.homes (not was.second) content body r ≡ entries_of two.next body r) (sym (syncs.same keeps)) (map.done (syncs.kept keeps));
      synced = synced;
      takes = record {
        run = stages.run;
        asks = fill.asks;
        causes = none_failed (g.failures old) (g.failures new) (s.failures from) (s.failures left) (calm ∙ map.calm ∙ fill.causes.device_calm ∙ rooms.calm) fill.causes.source_calm;
      };
      asks_device = stages.asks;
      noted = asks_noted one copied rooms two written fills mapped maps fill.given new syncs;
      once = stages.once;
      changes = stages.changes;
    }
