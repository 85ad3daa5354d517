-- Commands that write nothing to the store.
use Rattle.vm_types.specs.declared.mode.Levels as Levels
use Rattle.machine.proofs.Names.{ℕ, ◌/◌, ◌≡◌, inl, Bool, true, false, List, Option, Some, None, is_some, refl, sym, ap, ◌∙◌, subst, inr, ⊎_elim, arith, rules, LeavesNow, LeavesOnly, Touches, Nothing, Image, MayLeave, Ghosts, started}
use Rattle.machine.proofs.Names.{goes_on, still_leaves, asks_none, StandsForContents, frame_count, slots_of, UsesDevice, Picture, picture_of, ShowsPages, Core, asks_slots_same, asks_same, slotted_same, calm_same, KeepsRoom}
use Rattle.machine.proofs.Names.{KeepsDevices, settles_nothing, writes_none, empties_none, permits_none, takes_none, AsksFor, is_idle, Access, Command, Exit, Mmap, Munmap, Mprotect, Dontneed, Msync, Truncate, Load, Store, Fetch, PastFaults, Stall, Reply, Done}
use Rattle.machine.proofs.Names.{Halted, page_count, Contents, user_end, Past, Step, Answers, Stalls, Stays, MayStall, State, IsRunning, outcome, noted, past_after, ruling, takes}
use Rattle.machine.{specs.{Engine.{stands_in, MayStand, HoldsIn, StandsForSome, AsksNeither, EngineShows, EngineMeets, TellsFiles}, Accesses.{Accesses, AsksForEnd}, declared.engine.Engine.{Engine}}, proofs.{Steps.{outcome_keeps, past_stalled}, Told.{ReadsDevice, TellsStill, told_past}}}
use Rattle.msync.specs.Shows as Syncing
use Rattle.msync.specs.Shows.{SaysMost}
use Rattle.spaces.specs.Calls as Calls
use Rattle.vm_types.specs.declared.access.Access.TheVariants as Kinds
use Rattle.stores.specs.Store.{always_free_in}
use Rattle.machine.proofs.Names.{disk_of, kept_of, length, once_none}

running_of : (o : Option (List Contents)) → is_some o ≡ false → o ≡ None
running_of None e = refl
running_of (Some x) e = cc

halted_of : (o : Option (List Contents)) → is_some o ≡ true → (ends : List Contents) × (o ≡ Some ends)
halted_of None e = cc
halted_of (Some x) e = (x, refl)

same_stall : (stall other : Stall) → Reply.Stalled stall ≡ Reply.Stalled other → stall ≡ other
same_stall stall other e = cc

-- a halted machine asks for nothing
halted_asks : {M : Type 0} {levels : Levels.Ghosts M} {D E : Type 0} (g : Ghosts D) (h : Ghosts E) (c : Core D E M levels) (pid addr : ℕ) (access : Access) → AsksFor g h c c pid addr access Halted
halted_asks g h c pid addr access = record {
  wanted = search rules;
  refused = search rules;
  home = search rules;
  read = inl refl;
  slots = λ none. refl;
  slotted = slotted_same _ _ (picture_of c);
  granted = c;
  tables = λ n table. inl table;
  calm = λ none. calm_same c pid (addr / 4096);
  writes = writes_none access c;
  done = search rules;
  grants = search rules;
  chance = search rules;
  sectors = asks_same g h c c pid (addr / 4096) access refl refl;
}

-- nor does a truncate on one
halted_ends : {M : Type 0} {levels : Levels.Ghosts M} {D E : Type 0} (g : Ghosts D) (h : Ghosts E) (c : Core D E M levels) (file length : ℕ) → AsksForEnd g h c c file length Halted
halted_ends g h c file length = record {
  still = λ e. refl;
  asks = asks_none g _ (disk_of c.store) (disk_of c.store) (λ k. refl);
  once = once_none _ (g.asked (disk_of c.store)) (g.asked (disk_of c.store)) (λ k. refl);
  asks_swap = asks_slots_same h c c None _ refl;
  wanted = search rules;
  home = search rules;
  refuses = search rules;
}

module _ {M : Type 0} {levels : Levels.Ghosts M} {D E : Type 0} (g : Ghosts D) (h : Ghosts E) where
  pub halted_accesses : (c : Core D E M levels) (command : Command) → Accesses g h c c command Halted
  halted_accesses c (Load pid addr width) = (halted_asks g h c pid addr Kinds.Load, λ place walked. refl)
  halted_accesses c (Fetch pid addr) = (halted_asks g h c pid addr Kinds.Fetch, λ place walked. refl)
  halted_accesses c (Store pid addr stored) = (halted_asks g h c pid addr Kinds.Store, λ place walked done. absurd (let never : Halted ≡ Done = done in cc))
  halted_accesses c (Exit pid) = takes_none (picture_of c) pid 0 (user_end levels.mode)
  halted_accesses c (Mmap pid addr len prot source placing) = (takes_none (picture_of c) pid 0 (page_count len), empties_none (picture_of c) pid 0 (page_count len) Halted refl)
  halted_accesses c (Munmap pid addr len) = (takes_none (picture_of c) pid (addr / 4096) (page_count len), λ page user out. refl)
  halted_accesses c (Mprotect pid addr len prot) = (takes_none (picture_of c) pid 0 0, permits_none (picture_of c) pid (addr / 4096) (page_count len) prot Halted refl)
  halted_accesses c (Dontneed pid addr len) = (takes_none (picture_of c) pid 0 0, empties_none (picture_of c) pid (addr / 4096) (page_count len) Halted refl)
  halted_accesses c (Msync pid addr len mode) = (
    settles_nothing (picture_of c),
    record { store = asks_none g _ (disk_of c.store) (disk_of c.store) (λ k. refl); swap = asks_none h _ c.swap.pages.disk c.swap.pages.disk (λ k. refl) },
  )
  halted_accesses c (Truncate file length) = halted_ends g h c file length
  halted_accesses c PastFaults = refl
  halted_accesses c command = (search rules, refl, asks_slots_same h c c None Nothing refl)

module _ {D : Type 0} (g : Ghosts D) where
  abbrev pub OnlyNow : Type 0
  OnlyNow = (d : D) (c : Image) → g.keeps_model d → g.left_since d (g.moment d) c → MayLeave (g.content d) (g.unsynced d) c

module _ {E : Type 0} (h : Ghosts E) where
  -- a device that was not asked
  pub unused : (old new : E) → new ≡ old → UsesDevice h old new
  unused old new same = record { size = ap h.sector_count same; kept = λ k. subst h.keeps_model same k; later = rw same (omega arith) }

module _ {mode : ℕ} where
  -- memory knows nothing of the history
  pub with_past : (c : Picture mode) (s : State) (past : Past) → ShowsPages c s → ShowsPages c (record s { past = past })
  with_past c s past shows = search rules

-- what may stand in a state may stand in a command of it
pub holds_meanwhile : (n : ℕ) (s : State) (command : Command) (reply : Reply) (c : Image) → StandsForSome n (MayStand s) c → StandsForSome n (HoldsIn s command reply) c
holds_meanwhile n s command reply c p = (p.0, inl p.1, p.2)

-- as many pages of an msync, running or halted as before, and the same durable contents
record Leaves (s t : State) : Type 0 where
  pub most : t.most ≡ s.most
  pub ends : t.ends ≡ s.ends
  pub durable_is : t.durable ≡ s.durable

same_stands : (n : ℕ) (s t : State) (c : Image) → Leaves s t → StandsForSome n (MayStand s) c → StandsForSome n (MayStand t) c
same_stands n s t c kept p = (
  p.0,
  subst (λ (o : Option (List Contents)). stands_in o t.durable p.0) (sym kept.ends) (subst (λ (d : Contents). stands_in s.ends d p.0) (sym kept.durable_is) p.1),
  p.2,
)

module _ {D : Type 0} (g : Ghosts D) where
  -- no time passed: what stood is what stands now
  pub no_time : (only_now : OnlyNow g) (d : D) (P : Image → Type 0) → g.keeps_model d → LeavesNow g d P → LeavesOnly g d d P
  no_time only_now d P keeps stands = started g d P (λ c left. only_now d c keeps left) stands

  -- nothing was written: what stands while the command runs is what stood before it
  only_read : (only_now : OnlyNow g) (old new : D) (P : Image → Type 0) → g.keeps_model old → LeavesNow g old P → Touches g Nothing old new → LeavesOnly g old new P
  only_read only_now old new P keeps stands run =
      goes_on g Nothing old old new P (no_time only_now old P keeps stands) run
      (λ c may. stands c (record { kept = λ k. ⊎_elim (⊎_elim inl (λ none. absurd none)) inr (may.kept k) }))

module _ {M : Type 0} {levels : Levels.Ghosts M} {D E : Type 0} (g : Ghosts D) (h : Ghosts E) where
  pub is_running : (m : Engine D E M levels) (s : State) → EngineShows g h m s → m.halted ≡ false → IsRunning s
  is_running m s shows e = running_of s.ends (shows.running ∙ e)

  durable_now : (old : Engine D E M levels) (s : State) → EngineShows g h old s → IsRunning s → g.keeps_model (disk_of old.core.store)
      → LeavesNow g (disk_of old.core.store) (StandsForContents (g.sector_count (disk_of old.core.store)) s.durable)
  durable_now old s shows run keeps c may =
      let p = shows.stands keeps c may in
      let e : p.0 ≡ s.durable = subst (λ (o : Option (List Contents)). stands_in o s.durable p.0) run p.1 in
      subst (λ (d : Contents). StandsForContents (g.sector_count (disk_of old.core.store)) d c) e p.2

  -- a running machine's processes and files
  pub shows_core : (old : Engine D E M levels) (s : State) → EngineShows g h old s → IsRunning s → Syncing.HasSyncRoom g old.core old.sync_room → Syncing.CoreShows g old.core s
  shows_core old s shows run sized = record {
    pages = shows.pages;
    files = shows.tells.files;
    whole = shows.tells.whole;
    resizes = shows.tells.resizes;
    resized = shows.tells.resized;
    shortest = shows.tells.shortest;
    most = shows.most ∙ sized.most;
    stands = λ k. durable_now old s shows run k;
    most_stands = shows.most_stands;
  }

  -- and the files of its store
  pub tells_of : (c : Core D E M levels) (s : State) → Syncing.CoreShows g c s → TellsFiles c.store s
  tells_of c s shows = search rules

  -- there is room for an msync still
  pub room_still : (old core : Core D E M levels) (room : Syncing.RoomSize) → always_free_in (kept_of core.store) ≡ always_free_in (kept_of old.store)
      → length core.store.sizes.items ≡ length old.store.sizes.items → KeepsRoom (picture_of old) (picture_of core) → Syncing.HasSyncRoom g old room → Syncing.HasSyncRoom g core room
  room_still old core room same places sizes sized = record {
    most = sized.most ∙ sym same;
    ranks = (let frames = sizes.frames in let slots = sizes.slots in let enough = sized.ranks in omega (arith, frames, slots, enough));
    files = (let enough = sized.files in omega (arith, places, enough));
  }

  -- the state after it, where the store was only read
  module _ (only_now : OnlyNow g) (old : Engine D E M levels) (core : Core D E M levels) (past : Past) (s : State) (command : Command) (reply : Reply)
      (shows : EngineShows g h old s) (run : old.halted ≡ false) (reads : ReadsDevice g old.core.store core.store) (tells : TellsStill core.store s command reply) (device : UsesDevice h old.core.swap.pages.disk core.swap.pages.disk)
      (kept_past : past ≡ past_after command reply old.past) (idle : is_idle s command reply ≡ true → AsksNeither old.core core) (room : KeepsRoom (picture_of old.core) (picture_of core)) where
    abbrev new : Engine D E M levels
    new = record { core = core; halted = false; past = past; sync_room = old.sync_room; region_room = tt }

    abbrev n : ℕ
    n = g.sector_count (disk_of old.core.store)

    moved : (t : State) → Leaves s t → g.keeps_model (disk_of core.store) → LeavesNow g (disk_of core.store) (StandsForSome (g.sector_count (disk_of core.store)) (MayStand t))
    moved t kept k = λ c may.
        same_stands (g.sector_count (disk_of core.store)) s t c kept
        (subst (λ (sectors : ℕ). StandsForSome sectors (MayStand s) c) (sym reads.size)
        (still_leaves g (disk_of old.core.store) (disk_of core.store) (StandsForSome n (MayStand s)) (reads.touches k) (shows.stands (reads.kept k)) c may))

    moved_most : (t : State) → Leaves s t → g.keeps_model (disk_of core.store) → LeavesNow g (disk_of core.store) (SaysMost (g.sector_count (disk_of core.store)) t.most)
    moved_most t kept k = λ c may.
        subst (λ (most : ℕ). SaysMost (g.sector_count (disk_of core.store)) most c) (sym kept.most)
        (subst (λ (sectors : ℕ). SaysMost sectors s.most c) (sym reads.size)
        (still_leaves g (disk_of old.core.store) (disk_of core.store) (SaysMost n s.most) (reads.touches k) (shows.most_stands (reads.kept k)) c may))

    goes : (t : State) → Leaves s t → is_some t.ends ≡ false
    goes t kept = rw kept.ends (rw (is_running old s shows run) refl)

    during : g.keeps_model (disk_of core.store) → LeavesOnly g (disk_of old.core.store) (disk_of core.store) (StandsForSome n (HoldsIn s command reply))
    during k = only_read g only_now (disk_of old.core.store) (disk_of core.store) (StandsForSome n (HoldsIn s command reply)) (reads.kept k)
        (λ c may. holds_meanwhile n s command reply c (shows.stands (reads.kept k) c may)) (reads.touches k)

    most_during : g.keeps_model (disk_of core.store) → LeavesOnly g (disk_of old.core.store) (disk_of core.store) (SaysMost n s.most)
    most_during k = only_read g only_now (disk_of old.core.store) (disk_of core.store) (SaysMost n s.most) (reads.kept k) (shows.most_stands (reads.kept k)) (reads.touches k)

    -- what is the same however it ends
    told : (t : State) → Step (Calls.causes g h old.core core command) s command reply t → EngineShows g h new t
        → ((stall : Stall) → reply ≡ Reply.Stalled stall → Calls.FallsShort (frame_count core.frames) (slots_of core.swap).total s command stall)
        → EngineMeets g h old new s t command reply
    told t step shown capacity = let moments = during in let most_moments = most_during in search rules

    did : takes s (ruling s command) s.durable ≡ s.durable → reply ≡ (outcome s command).reply → ShowsPages (picture_of core) (outcome s command).state
        → (t : State) × EngineMeets g h old new s t command reply
    did none answer pages =
        let t = noted command reply (outcome s command).state in
        let all = outcome_keeps s command in
        let kept : Leaves s t = record { most = all.most; ends = all.ends; durable_is = all.durable_is ∙ none } in (
          t,
          told t (Answers (is_running old s shows run) answer refl) (record {
            pages = with_past (picture_of core) (outcome s command).state _ pages;
            tells = told_past core.store (outcome s command).state _ (tells.done answer);
            running = goes t kept;
            past = kept_past ∙ ap (past_after command reply) (shows.past ∙ sym all.past);
            most = kept.most ∙ shows.most;
            stands = moved t kept;
            most_stands = moved_most t kept;
          }) (λ stall e. absurd (all.answers stall (sym answer ∙ e))),
        )

    stalled : (stall : Stall) → MayStall (Calls.causes g h old.core core command) s command stall → Calls.FallsShort (frame_count core.frames) (slots_of core.swap).total s command stall
        → reply ≡ Reply.Stalled stall → ShowsPages (picture_of core) s → (t : State) × EngineMeets g h old new s t command reply
    stalled stall may short answer pages =
        let kept : Leaves s s = record { most = refl; ends = refl; durable_is = refl } in (
          s,
          told s (Stalls stall (is_running old s shows run) may answer refl) (record {
            pages = pages;
            tells = tells.stalled stall answer;
            running = goes s kept;
            past = kept_past ∙ ap (λ (r : Reply). past_after command r old.past) answer ∙ past_stalled command stall old.past ∙ shows.past;
            most = shows.most;
            stands = moved s kept;
            most_stands = moved_most s kept;
          }) (λ other e. subst (Calls.FallsShort (frame_count core.frames) (slots_of core.swap).total s command) (same_stall stall other (sym answer ∙ e)) short),
        )

    pub read_meets : takes s (ruling s command) s.durable ≡ s.durable → Calls.Comes g h old.core core s command reply → (t : State) × EngineMeets g h old new s t command reply
    read_meets none (Calls.Does answer pages) = did none answer pages
    read_meets none (Calls.Stalls stall may short answer pages) = stalled stall may short answer pages

  -- what a call that leaves both devices alone says of the swap device
  pub unswapped : (old core : Core D E M levels) → KeepsDevices old core → UsesDevice h old.swap.pages.disk core.swap.pages.disk
  unswapped old core keeps = unused h old.swap.pages.disk core.swap.pages.disk (ap (λ pages. pages.disk) keeps.pages)

  -- a call that left both devices alone,
  pub asks_neither : (old core : Core D E M levels) → KeepsDevices old core → AsksNeither old core
  asks_neither old core keeps = record { store = ap (λ store. store.store) keeps.store; sizes = ap (λ store. store.sizes.items) keeps.store; pages = keeps.pages }

  -- and one that changed nothing
  pub keeps_all : (old core : Core D E M levels) → core ≡ old → AsksNeither old core
  keeps_all old core same = asks_neither old core (record { store = ap (λ (o : Core D E M levels). o.store) same; pages = ap (λ (o : Core D E M levels). o.swap.pages) same })

  pub answered : (only_now : OnlyNow g) (old : Engine D E M levels) (core : Core D E M levels) (halted : Bool) (past : Past) (s : State) (command : Command) (reply : Reply)
      → EngineShows g h old s → old.halted ≡ false → halted ≡ false → takes s (ruling s command) s.durable ≡ s.durable
      → past ≡ past_after command reply old.past → ReadsDevice g old.core.store core.store → TellsStill core.store s command reply
      → UsesDevice h old.core.swap.pages.disk core.swap.pages.disk → (is_idle s command reply ≡ true → AsksNeither old.core core) → KeepsRoom (picture_of old.core) (picture_of core) → Calls.Comes g h old.core core s command reply
      → (t : State) × EngineMeets g h old (record { core = core; halted = halted; past = past; sync_room = old.sync_room; region_room = tt }) s t command reply
  answered only_now old core halted past s command reply shows run goes_on none kept_past reads tells device idle room comes =
      subst (λ (b : Bool). (t : State) × EngineMeets g h old (record { core = core; halted = b; past = past; sync_room = old.sync_room; region_room = tt }) s t command reply) (sym goes_on)
      (read_meets only_now old core past s command reply shows run reads tells device kept_past idle room none comes)

  pub stays_halted : (only_now : OnlyNow g) (old : Engine D E M levels) (s : State) (command : Command) → EngineShows g h old s → old.halted ≡ true
      → (t : State) × EngineMeets g h old old s t command Halted
  stays_halted only_now old s command shows stop =
      let ends = halted_of s.ends (shows.running ∙ stop) in
      let n = g.sector_count (disk_of old.core.store) in
      let moments = λ (k : g.keeps_model (disk_of old.core.store)). no_time g only_now (disk_of old.core.store) (StandsForSome n (HoldsIn s command Halted)) k
      (λ c may. holds_meanwhile n s command Halted c (shows.stands k c may)) in
      let most_moments = λ (k : g.keeps_model (disk_of old.core.store)). no_time g only_now (disk_of old.core.store) (SaysMost n s.most) k (shows.most_stands k) in
      let step : Step (Calls.causes g h old.core old.core command) s command Halted s = Stays ends.0 ends.1 refl refl in
      let capacity : (stall : Stall) → Halted ≡ Reply.Stalled stall → Calls.FallsShort (frame_count old.core.frames) (slots_of old.core.swap).total s command stall = λ stall e. absurd (cc) in
      (s, search rules)
