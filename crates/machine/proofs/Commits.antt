-- msync on a machine.
use Rattle.vm_types.specs.declared.mode.Levels as Levels
use Rattle.machine.proofs.{Flat.{with_past, OnlyNow, holds_meanwhile, is_running, no_time, shows_core, tells_of, answered, keeps_all}, Told.{reads_device, tells_same, told_past, unread}, Names.{ℕ, ◌≡◌, ◌<◌, ◌≤◌, ◌⊎◌, inl, inr, ⊎_elim, Bool, true, false, not, ◌==◌, ◌%◌, ◌/◌, if◌then◌else◌, nat_lt, List}}
use Rattle.machine.proofs.Names.{Option, Some, None, is_some, refl, sym, ap, ◌∙◌, subst, rules, LeavesOnly, Image, MayLeave, Ghosts, weaker, holds_now, StandsForEitherContents, StandsForContents, frame_count, slots_of, UsesDevice, picture_of, ShowsPages}
use Rattle.machine.proofs.Names.{Core, KeepsRoom, is_denial, is_idle, KeepsAll, KeepsMemory, GivesBack, Commits, Acknowledged, Failed, Lacking, LacksTaken, Unread, Command, Msync, MsyncMode, Sync, Async, Errno, ESRCH, EIO, EINVAL, ENOMEM, ENOSPC, Stall}
use Rattle.machine.proofs.Names.{SwapDevice, Reply, Done, Refused, Stalled, pages_from, Ruling, Refuses, Passes, Takes, or_else, row_ruling, msync_ruling, touched_count, shows_resized, committed, is_io_error, may_have_taken, is_covered}
use Rattle.machine.proofs.Names.{Step, Answers, Fails, Lacks, Stalls, is_success, State, IsRunning, halted, noted, outcome, msync_outcome, ruling, commit_of, commits, commits_lengths, takes, Contents, attrs_of, false_from_ne_true, true_from_ne_false}
use Rattle.machine.{proofs.Steps.{outcome_keeps, commit_takes}, specs.{Engine.{stands_in, AsksNeither, MayStand, HoldsIn, StandsForSome, TellsFiles, EngineShows, EngineMeets}, declared.engine.Engine.{Engine}}}
use Rattle.std.proofs.Common.{◌&&◌}
use Rattle.spaces.specs.Calls as Calls
use Rattle.msync.specs.Shows as Syncing
use Rattle.msync.specs.Shows.{SaysMost}
use Rattle.stores.specs.Store as Durable
use Rattle.stores.specs.declared.store.Store.{Store}
use Rattle.sized_stores.specs.Store.{disk_of, files_in, files_of, SizedDirectory}
use Rattle.msync.proofs.CommitEnds.{store_same}

-- no check returns EIO
abbrev RefusesOnly : Ruling → Type 0
RefusesOnly (Refuses errno) = is_io_error errno ≡ false
RefusesOnly o = Unit {0}

either : {A : Type 0} (P : A → Type 0) (b : Bool) (x y : A) → P x → P y → P (if b then x else y)
either P true x y h k = h
either P false x y h k = k

row_refuses : (s : State) (pid first count : ℕ) (mode : MsyncMode) → RefusesOnly (row_ruling s pid first count mode)
row_refuses s pid first count Async = tt
row_refuses s pid first count Sync =
    let n = touched_count s pid first count in
    let nothing = n == 0 && not (shows_resized s pid first count) in
    let row = if nothing then Passes else Takes pid first count in
    either RefusesOnly (nat_lt s.most n) (Refuses ENOSPC) row refl (either RefusesOnly nothing Passes (Takes pid first count) tt tt)

msync_refuses : (s : State) (pid addr len : ℕ) (mode : MsyncMode) → RefusesOnly (msync_ruling s pid addr len mode)
msync_refuses s pid addr len mode =
    let count = pages_from addr len in
    let row = row_ruling s pid (addr / 4096) count mode in
    let out = not (is_covered (attrs_of (s.views pid)) (addr / 4096) count) in
    let rest = if len == 0 then Passes else or_else (if out then Some ENOMEM else None) row in
    let P : Ruling → Option Errno → Type 0 = λ r o. RefusesOnly (or_else o r) in
    either (P rest) (not (s.live pid)) (Some ESRCH) (if not (addr % 4096 == 0) then Some EINVAL else None) refl
    (either (P rest) (not (addr % 4096 == 0)) (Some EINVAL) None refl
    (either RefusesOnly (len == 0) Passes (or_else (if out then Some ENOMEM else None) row) tt
    (either (P row) out (Some ENOMEM) None refl (row_refuses s pid (addr / 4096) count mode))))

ruled_so : (s : State) (r : Ruling) → RefusesOnly r → (msync_outcome s r).reply ≡ Refused EIO → ⊥
ruled_so s (Refuses errno) fine e = let io : is_io_error errno ≡ true = ap may_have_taken e in let never : false ≡ true = sym fine ∙ io in cc
ruled_so s r fine e = cc

-- the flat model's msync never fails
never_fails : (s : State) (pid addr len : ℕ) (mode : MsyncMode) → (outcome s (Msync pid addr len mode)).reply ≡ Refused EIO → ⊥
never_fails s pid addr len mode e = ruled_so s (msync_ruling s pid addr len mode) (msync_refuses s pid addr len mode) e

-- what it returns, where it makes pages durable
done_of : (s : State) (r : Ruling) (after : Contents) → commit_of s r ≡ Some after → (msync_outcome s r).reply ≡ Done
done_of s (Takes pid first count) after e = refl
done_of s r after e = absurd (cc)

-- where it makes none durable, the state stays
stays_of : (s : State) (r : Ruling) → commit_of s r ≡ None → ((msync_outcome s r).state ≡ s) × (takes s r s.durable ≡ s.durable)
stays_of s (Takes pid first count) e = absurd (let k : Some (committed s pid first count s.durable) ≡ None = e in cc)
stays_of s r e = (refl, refl)

-- an msync that makes pages durable is not idle, however it ends
never_idle : (s : State) (pid addr len : ℕ) (mode : MsyncMode) (reply : Reply) (after : Contents) → commits s (Msync pid addr len mode) ≡ Some after
    → is_denial reply ≡ false → is_idle s (Msync pid addr len mode) reply ≡ true → ⊥
never_idle s pid addr len mode reply after commit taken idle =
    let asked : (if is_some (Some after) then is_denial reply else true) ≡ true =
    subst (λ (o : Option Contents). (if is_some o then is_denial reply else true) ≡ true) commit idle in
    let never : false ≡ true = sym taken ∙ asked in
    cc

-- it stalls for the swap device alone
stall_is : (stall : Stall) → Stalled SwapDevice ≡ Stalled stall → SwapDevice ≡ stall
stall_is stall e = cc

none_or_some : (o : Option Contents) → (o ≡ None) ⊎ ((after : Contents) × (o ≡ Some after))
none_or_some None = inl refl
none_or_some (Some after) = inr (after, refl)

module _ {D : Type 0} (g : Ghosts D) where
  abbrev pub CountsNow : Type 0
  CountsNow = (d : D) (t : ℕ) (c : Image) → g.keeps_model d → t ≤ g.moment d → MayLeave (g.content d) (g.unsynced d) c → g.left_since d t c

holds_either : (n : ℕ) (s : State) (command : Command) (reply : Reply) (after : Contents) (c : Image) → IsRunning s
    → commits s command ≡ Some after → may_have_taken reply ≡ true
    → StandsForEitherContents n s.durable after c → StandsForSome n (HoldsIn s command reply) c
holds_either n s command reply after c run commit taken either =
    ⊎_elim (λ b. (s.durable, inl (subst (λ (o : Option (List Contents)). stands_in o s.durable s.durable) (sym run) refl), b))
    (λ a. (after, inr (run, taken, commit_takes s (ruling s command) after commit), a)) either

-- An msync that makes pages durable, on an engine that runs.
module _ {M : Type 0} {levels : Levels.Ghosts M} {D E : Type 0} (g : Ghosts D) (h : Ghosts E)
    (old : Engine D E M levels) (core : Core D E M levels) (s : State) (pid addr len : ℕ) (mode : MsyncMode) (reply : Reply) (after : Contents)
    (shows : EngineShows g h old s) (run : IsRunning s) (room : KeepsRoom (picture_of old.core) (picture_of core)) (device : UsesDevice h old.core.swap.pages.disk core.swap.pages.disk)
    (commit : commits s (Msync pid addr len mode) ≡ Some after)
    (made : Commits g h (GivesBack g h old.core core pid addr len) (LacksTaken old.core pid addr len) old.core core s after (Msync pid addr len mode) reply) where
  abbrev x : Command
  x = Msync pid addr len mode

  abbrev n : ℕ
  n = g.sector_count (disk_of old.core.store)

  abbrev engine : Bool → Engine D E M levels
  engine halts = record { core = core; halted = halts; past = old.past; sync_room = old.sync_room; region_room = tt }

  -- at every moment the pages are as they were, or as they are to be
  during : may_have_taken reply ≡ true → GivesBack g h old.core core pid addr len → g.keeps_model (disk_of core.store)
      → LeavesOnly g (disk_of old.core.store) (disk_of core.store) (StandsForSome n (HoldsIn s x reply))
  during taken back k = weaker g (disk_of old.core.store) (disk_of core.store) (StandsForEitherContents n s.durable after) (StandsForSome n (HoldsIn s x reply))
      (λ c either. holds_either n s x reply after c run commit taken either) (made.either k back)

  -- what is the same however it ends
  met : (halts : Bool) (t : State) → Step (Calls.causes g h old.core core x) s x reply t → EngineShows g h (engine halts) t
      → ((stall : Stall) → reply ≡ Stalled stall → Calls.FallsShort (frame_count core.frames) (slots_of core.swap).total s x stall)
      → (is_idle s x reply ≡ true → AsksNeither old.core core)
      → (g.keeps_model (disk_of core.store) → LeavesOnly g (disk_of old.core.store) (disk_of core.store) (StandsForSome n (HoldsIn s x reply)))
      → (t : State) × EngineMeets g h old (engine halts) s t x reply
  met halts t step shown capacity idle moments = let most_moments = made.most_moments in (t, search rules)

  -- it was begun
  begun : is_denial reply ≡ false → is_idle s x reply ≡ true → AsksNeither old.core core
  begun taken e = absurd (never_idle s pid addr len mode reply after commit taken e)

  -- the commit was made
  commit_done : GivesBack g h old.core core pid addr len → reply ≡ Done → Syncing.CoreShows g core (outcome s x).state → (t : State) × EngineMeets g h old (engine false) s t x reply
  commit_done back done now =
      let t = noted x reply (outcome s x).state in
      let all = outcome_keeps s x in
      let goes_on : IsRunning t = all.ends ∙ run in
      met false t (Answers run (done ∙ sym (done_of s (ruling s x) after commit)) refl)
      (record {
        pages = with_past (picture_of core) (outcome s x).state _ now.pages;
        tells = told_past core.store (outcome s x).state _ (tells_of g h core (outcome s x).state now);
        running = ap is_some goes_on;
        past = shows.past ∙ sym all.past;
        most = all.most ∙ shows.most;
        stands = λ k c may. (t.durable, subst (λ (o : Option (List Contents)). stands_in o t.durable t.durable) (sym goes_on) refl, now.stands k c may);
        most_stands = now.most_stands;
      })
      (λ stall e. absurd (let never : Done ≡ Stalled stall = sym done ∙ e in cc)) (begun (ap is_denial done)) (during (ap may_have_taken done) back)

  -- the store failed in it
  commit_failed : CountsNow g → GivesBack g h old.core core pid addr len → reply ≡ Refused EIO → g.failures (disk_of old.core.store) < g.failures (disk_of core.store)
      → KeepsMemory old.core core → (t : State) × EngineMeets g h old (engine true) s t x reply
  commit_failed counts_now back failed grew memory =
      let t = halted s after in
      let pages : ShowsPages (picture_of old.core) t = search rules in
      met true t (Fails after run commit grew failed refl)
      (record {
        pages = rw (memory.frames, memory.cache, memory.roots, memory.regions, memory.page_of)
            (store_same (λ c. ShowsPages c t) (picture_of old.core) (slots_of old.core.swap) (slots_of core.swap) (files_of old.core.store) (files_of core.store) memory.slots (λ f. ap (λ (d : SizedDirectory). files_in d f) memory.directory) pages);
        tells = tells_same old.core.store core.store s t memory.directory refl refl refl refl shows.tells;
        running = refl;
        past = shows.past;
        most = shows.most;
        stands = λ k c may.
            subst (λ (sectors : ℕ). StandsForSome sectors (MayStand t) c) (sym made.size)
            (⊎_elim (λ b. (s.durable, inl refl, b)) (λ a. (after, inr (inl refl), a))
            (holds_now g (disk_of old.core.store) (disk_of core.store) (StandsForEitherContents n s.durable after)
            (λ m i le ml. counts_now (disk_of core.store) m i k le ml) (made.either k back) c may));
        most_stands = λ k c may.
            subst (λ (sectors : ℕ). SaysMost sectors s.most c) (sym made.size)
            (holds_now g (disk_of old.core.store) (disk_of core.store) (SaysMost n s.most) (λ m i le ml. counts_now (disk_of core.store) m i k le ml) (made.most_moments k) c may);
      })
      (λ stall e. absurd (let never : Refused EIO ≡ Stalled stall = sym failed ∙ e in cc)) (begun (ap is_denial failed)) (during (ap may_have_taken failed) back)

  -- a slot couldn't be read
  commit_unread : reply ≡ Stalled SwapDevice → h.failures old.core.swap.pages.disk < h.failures core.swap.pages.disk → Syncing.CoreShows g core s
      → (g.keeps_model (disk_of core.store) → LeavesOnly g (disk_of old.core.store) (disk_of core.store) (StandsForContents n s.durable)) → (t : State) × EngineMeets g h old (engine false) s t x reply
  commit_unread stalled grew now only =
      let durable : stands_in s.ends s.durable s.durable = subst (λ (o : Option (List Contents)). stands_in o s.durable s.durable) (sym run) refl in
      met false s
      (Stalls SwapDevice run
      (record { otherwise = ap is_success (done_of s (ruling s x) after commit); open_to = ap is_some commit; cause = grew }) stalled refl)
      (record {
        pages = now.pages;
        tells = tells_of g h core s now;
        running = ap is_some run;
        past = shows.past;
        most = shows.most;
        stands = λ k c may. (s.durable, durable, now.stands k c may);
        most_stands = now.most_stands;
      })
      (λ stall e. subst (Calls.FallsShort (frame_count core.frames) (slots_of core.swap).total s x) (stall_is stall (sym stalled ∙ e)) tt) (begun (ap is_denial stalled))
      (λ k. weaker g (disk_of old.core.store) (disk_of core.store) (StandsForContents n s.durable) (StandsForSome n (HoldsIn s x reply))
      (λ c stands. (s.durable, inl durable, stands)) (only k))

  -- the store has no room for it
  commit_lacking : OnlyNow g → reply ≡ Refused ENOSPC → commits_lengths s x ≡ true → LacksTaken old.core pid addr len → KeepsAll old.core core → Syncing.CoreShows g core s
      → (t : State) × EngineMeets g h old (engine false) s t x reply
  commit_lacking only_now lacking lengths lacks keeps now =
      let durable : stands_in s.ends s.durable s.durable = subst (λ (o : Option (List Contents)). stands_in o s.durable s.durable) (sym run) refl in
      let device = ap (λ (store : Store D). Durable.disk_of store) keeps.store in
      met false s (Lacks run lengths (pid, addr, len, mode, refl, lacks) lacking refl)
      (record {
        pages = now.pages;
        tells = tells_of g h core s now;
        running = ap is_some run;
        past = shows.past;
        most = shows.most;
        stands = λ k c may. (s.durable, durable, now.stands k c may);
        most_stands = now.most_stands;
      })
      (λ stall e. absurd (let never : Refused ENOSPC ≡ Stalled stall = sym lacking ∙ e in cc))
      (λ _. record { store = keeps.store; sizes = keeps.sizes; pages = ap (λ swap. swap.pages) keeps.swap })
      (λ k. subst (λ (d : D). LeavesOnly g (disk_of old.core.store) d (StandsForSome n (HoldsIn s x reply))) (sym device)
      (no_time g only_now (disk_of old.core.store) (StandsForSome n (HoldsIn s x reply)) (subst g.keeps_model device k)
      (λ c may. holds_meanwhile n s x reply c (shows.stands (subst g.keeps_model device k) c may))))

module _ {M : Type 0} {levels : Levels.Ghosts M} {D E : Type 0} (g : Ghosts D) (h : Ghosts E) where
  -- what is said of an msync, in a state that memory shows
  pub record Msynced (old core : Core D E M levels) (s : State) (pid addr len : ℕ) (mode : MsyncMode) (reply : Reply) : Type 0 where
    pub passes : commits s (Msync pid addr len mode) ≡ None → (reply ≡ (outcome s (Msync pid addr len mode)).reply) × (core ≡ old)
    pub commits_so : (after : Contents) → commits s (Msync pid addr len mode) ≡ Some after
        → Commits g h (GivesBack g h old core pid addr len) (LacksTaken old pid addr len) old core s after (Msync pid addr len mode) reply
    pub back : (after : Contents) → commits s (Msync pid addr len mode) ≡ Some after → GivesBack g h old core pid addr len

  -- returning EIO, it halts the machine; returning anything else, it leaves it running
  pub msync_meets : (only_now : OnlyNow g) (counts_now : CountsNow g) (old : Engine D E M levels) (core : Core D E M levels) (stops : Bool) (room : Syncing.RoomSize) (s : State) (pid addr len : ℕ) (mode : MsyncMode)
      (reply : Reply) → EngineShows g h old s → old.halted ≡ false → Syncing.HasSyncRoom g old.core old.sync_room → room ≡ old.sync_room → KeepsRoom (picture_of old.core) (picture_of core) → UsesDevice h old.core.swap.pages.disk core.swap.pages.disk
      → (Syncing.CoreShows g old.core s → Msynced old.core core s pid addr len mode reply)
      → (stops ≡ true → reply ≡ Refused EIO) → (stops ≡ false → reply ≡ Refused EIO → ⊥)
      → (t : State) × EngineMeets g h old (record { core = core; halted = stops; past = old.past; sync_room = room; region_room = tt }) s t (Msync pid addr len mode) reply
  msync_meets only_now counts_now old core stops room s pid addr len mode reply shows live sized same_room sizes device said halts otherwise =
      let x = Msync pid addr len mode in
      let after_it : Bool → Syncing.RoomSize → Type 0 = λ b left. (t : State) × EngineMeets g h old (record { core = core; halted = b; past = old.past; sync_room = left; region_room = tt }) s t x reply in
      let P : Bool → Type 0 = λ b. after_it b old.sync_room in
      let goes_on : (reply ≡ Refused EIO → ⊥) → P false → P stops = λ never meets. subst P (sym (false_from_ne_true stops (λ e. never (halts e)))) meets in
      let run = is_running g h old s shows live in
      let told = said (shows_core g h old s shows run sized) in
      subst (after_it stops) (sym same_room) (⊎_elim (λ none.
      let stays = stays_of s (ruling s x) none in
      let same : core ≡ old.core = (told.passes none).1 in
      let pages : ShowsPages (picture_of core) (outcome s x).state =
      subst (λ (t : State). ShowsPages (picture_of core) t) (sym stays.0) (subst (λ (o : Core D E M levels). ShowsPages (picture_of o) s) (sym same) shows.pages) in
      let store = ap (λ (o : Core D E M levels). o.store) same in
      let here : TellsFiles core.store s = subst (λ (o : Core D E M levels). TellsFiles o.store s) (sym same) shows.tells in
      goes_on (λ e. never_fails s pid addr len mode (sym (told.passes none).0 ∙ e))
      (answered g h only_now old core false old.past s x reply shows live refl stays.1 refl (reads_device g old.core.store core.store (unread g old.core.store core.store store))
      (record { done = λ _. subst (λ (t : State). TellsFiles core.store t) (sym stays.0) here; stalled = λ _ _. here }) device (λ _. keeps_all g h old.core core same) sizes
      (Calls.Does (told.passes none).0 pages)))
      (λ (some : (after : Contents) × (commits s x ≡ Some after)).
      let made = told.commits_so some.0 some.1 in
      let back = told.back some.0 some.1 in
      elim made.end as (λ _. P stops) [
        | Acknowledged done pages now sound ↦ goes_on (λ e. (let never : Done ≡ Refused EIO = sym done ∙ e in cc))
            (commit_done g h old core s pid addr len mode reply some.0 shows run sizes device some.1 made back done (now back))
        | Failed failed grew memory ↦ subst P (sym (true_from_ne_false stops (λ e. otherwise e failed)))
            (commit_failed g h old core s pid addr len mode reply some.0 shows run sizes device some.1 made counts_now back failed grew memory)
        | Unread stalled grew memory now sound only ↦ goes_on (λ e. (let never : Stalled SwapDevice ≡ Refused EIO = sym stalled ∙ e in cc))
            (commit_unread g h old core s pid addr len mode reply some.0 shows run sizes device some.1 made stalled grew now only)
        | Lacking lacking lengths lacks keeps now sound ↦ goes_on (λ e. (let never : Refused ENOSPC ≡ Refused EIO = sym lacking ∙ e in cc))
            (commit_lacking g h old core s pid addr len mode reply some.0 shows run sizes device some.1 made only_now lacking lengths lacks keeps now)
      ])
      (none_or_some (commits s x)))
