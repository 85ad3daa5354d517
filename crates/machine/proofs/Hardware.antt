-- Accesses that hardware makes by itself are commands that are carried out.
use Rattle.vm_types.specs.declared.mode.Levels as Levels
use Rattle.machine.proofs.Names.{ℕ, zero, suc, ◌≢◌, ◌≡◌, ◌/◌, ◌%◌, ⊎_elim, true, false, is_some, List, [], ◌∷◌, refl, sym, ap, ◌∙◌, subst, arith, rules, inl, inr, Ghosts, picture_of, Core, KeepsToPage, AsksFor, is_denial, is_idle}
use Rattle.machine.proofs.Names.{past_after, Access, StoredValue, Command, Load, Store, Fetch, Reply, Done, Width, State, IsRunning}
use Rattle.machine.proofs.{Accesses.{carries_out, on_page, LeavesLengths}, Counts.{counts}, Face.{face, readable}, Flat.{OnlyNow, unused}, HardwareWalks.{user_walked, walks_same}, Runs.{all_ran, ran_first, room_none, room_then, RanSoFar}, Tidied.{tidied}, Told.{unread}}
use Rattle.fault.{proofs.{Chances.{others_kept, others_same}, Ready.{grants_found}, Serving.{tends_none}, Settling.{beside_around}, Wanted.{walked_same}}, specs.{Changes.{IsThatPage}, Outcome.{IsPlaced}, Serving.{Reaches}, Wants.{ShowsFile}}}
use Rattle.frames.{proofs.FrameLemmas.{IsHeld-above, IsHeld-not_zero, IsSound-step, with_bytes-others}, specs.{FrameTable.{FrameTable, IsHeld, bytes_of, frame_count, role_of, with_bytes}, declared.role.Role.TheVariants.{Table}}}
use Rattle.{sized_stores.specs.Store.{disk_of}, msync.specs.Shows.{IsSoundCore}, std.specs.Prelude.{Ok}, sv39_walk.specs.Walk.{is_store}, swap.specs.Slots.{IsReady}}
use Rattle.spaces.{proofs.{Asking.{asks_unstalled, writes_none}, Reading.{reads}, Room.{marks_cached, sound_beside}, Writing.{data_frame, entries_stored, open_held, fit_stored, others_stored, room_stored, slotted_stored, stores}}, specs.{Accesses.{CarriesRead, WritesNumber}, Calls.{Carries}}}
use Rattle.vm_types.specs.{Access.{loaded, with_number}, Width.{byte_count}, declared.{number.Phys.{Phys}, reply.Reply.TheVariants.{Value}, width.Width.TheVariants.{Four}}}
use Rattle.vm_types.specs.declared.access.Access.TheVariants as Kinds
use Rattle.machine.specs.{Accesses.{Accesses}, Chain.{after}, Commands.{DoesEachAsTold}, EngineCommands.{EngineCarriesOut}, Engine.{IsSoundEngine}}
use Rattle.machine.specs.{Hardware.{TakesStep, HardwareMakes, HardwareReads, HardwareStep, HardwareSteps, HardwareWrites, IsBesideTables, IsGranted, IsGrantedBy, IsMadeByHardware, KeepsWalks, RunsThrough, TranslatesAlike, machine_after}, Machine.{halted_of, IsSoundMachine, Shows, store_of, swap_of}, Tidy.{IsTidy}}
use Rattle.machine.specs.declared.{engine.Engine.{Engine}, machine.Machine.{Machine, TheVariants.{Sv39, Sv48}}}

from_first : (P : ℕ → Type 0) → P zero → ((k : ℕ) → P (suc k)) → (k : ℕ) → P k
from_first P first later zero = first
from_first P first later (suc k) = later k

module _ {M : Type 0} {levels : Levels.Ghosts M} {D E : Type 0} (g : Ghosts D) (h : Ghosts E) where
  -- what the machine's own access comes to, where the tables grant it
  pub reached : (c : Core D E M levels) (pid addr : ℕ) (width : Width) (access : Access) (place : Phys) → IsSoundCore g h c
      → IsGranted (picture_of c) pid addr width access place → Reaches g h c c pid addr width access (Ok place)
  reached c pid addr width access place sound granted =
      let user = user_walked (picture_of c) pid granted.root addr access place sound.fit granted.lives granted.walk in
      let found = grants_found (picture_of c) pid granted.root addr width access place sound.fit c.sound granted.lives user granted.aligned granted.walk in
      record {
        tends = tends_none g h c pid (addr / 4096) access sound.fit sound.ready sound.swap;
        placed = found.0;
        entered = inl refl;
        walked = λ other walked. (refl, ap (λ p. Ok p) (walked_same (picture_of c) pid addr width access place other found.0 walked));
        granted = λ trusted. found.1;
        chance = λ one. others_same (picture_of c) (picture_of c) pid (addr / 4096) _ (λ q p inside other. refl);
        counts = (refl, refl, refl);
        refusal = tt;
      }

  -- a number that was read
  module _ (only_now : OnlyNow g) (old new : Engine D E M levels) (pid addr : ℕ) (width : Width) (kind : Access) (reply : Reply) (sound : IsSoundEngine g h old)
      (is : HardwareReads old new pid addr width kind reply) where
    abbrev c : Core D E M levels
    c = old.core

    reach : Reaches g h c c pid addr width kind (Ok is.place)
    reach = reached c pid addr width kind is.place (sound.going is.runs) is.granted

    abbrev told : Reply
    told = Value width (loaded (bytes_of c.frames (is.place.0 / 4096)) (is.place.0 % 4096) (byte_count width))

    read_keeps : KeepsToPage g h c c pid addr kind told
    read_keeps =
        let placed = reach.placed in
        let tends = reach.tends in
        record {
          accounts = record { sound = sound.going is.runs; room = tends.proceeds.room; denied = λ e. refl; caused = search rules };
          others = tends.others;
          reads = tends.proceeds.reads;
          device = tends.proceeds.device;
          asks = asks_unstalled g h c c pid addr kind tends c refl refl tends.slotted (writes_none kind c) told (λ stall e. cc) (λ e. cc)
              (λ done. (placed.root, is.place, placed.lives, placed.place)) (λ done. reach.chance);
        }

    -- is what the command returns
    read_carried : (command : Command) → (CarriesRead g h c c pid addr width kind told → Carries g h c c command told)
        → (AsksFor g h c c pid addr kind told → Accesses g h c c command told) → old.past ≡ past_after command told old.past
        → LeavesLengths command → ((s : State) → is_idle s command told ≡ true → is_denial told ≡ true) → is_store kind ≡ false → EngineCarriesOut g h old new command reply
    read_carried command carries asks noted leaves denies no_store =
        let number = ap (λ (at : ℕ). loaded (bytes_of c.frames (is.place.0 / 4096)) at (byte_count width)) reach.placed.offset in
        let call = carries (reads g h c c pid addr width kind (Ok is.place) reach (ap is_some is.granted.lives) no_store is.place refl _ number) in
        subst (λ (m : Engine D E M levels). EngineCarriesOut g h old m command reply) (sym is.same)
        (carries_out g h only_now old old c command told reply sound is.runs leaves.1 refl refl refl is.value (λ s comes. noted)
        (on_page g h c c command told pid addr kind leaves read_keeps call denies) (asks read_keeps.asks))

  -- a number that was written
  module _ (old new : Core D E M levels) (pid addr : ℕ) (stored : StoredValue) (place : Phys) (sound : IsSoundCore g h old)
      (granted : IsGranted (picture_of old) pid addr stored.width Kinds.Store place) (writes : WritesNumber old new (place.0 / 4096) (place.0 % 4096) stored) where
    abbrev n : ℕ
    n = place.0 / 4096

    abbrev bytes : List ℕ
    bytes = with_number (bytes_of old.frames n) (place.0 % 4096) (byte_count stored.width) stored.value

    arrives : Reaches g h old old pid addr stored.width Kinds.Store (Ok place)
    arrives = reached old pid addr stored.width Kinds.Store place sound granted

    stored_there : WritesNumber old new n (addr % 4096) stored
    stored_there = subst (λ (at : ℕ). WritesNumber old new n at stored) arrives.placed.offset writes

    write_keeps : KeepsToPage g h old new pid addr Kinds.Store Done
    write_keeps =
        let placed = arrives.placed in
        let tends = arrives.tends in
        let backing = placed.seen.attr.backing in
        let before = picture_of old in
        let after = picture_of new in
        let beside = beside_around old new writes.around in
        record {
          accounts = record {
            sound = sound_beside old new g h writes.around.store (subst (λ x. IsReady h x) (sym writes.around.swap) sound.swap)
                (fit_stored before after pid (addr / 4096) backing n bytes sound.fit placed.usable writes.frames beside) (marks_cached old new writes.around.cache) sound;
            room = room_stored before before after n bytes tends.proceeds.room writes.frames beside.slots;
            denied = λ e. absurd (let never : false ≡ true = e in cc);
            caused = record {
              later = rw writes.around.store (omega arith);
              swap_later = rw writes.around.swap (omega arith);
              calm = λ e. ap (λ x. g.failures (disk_of x)) writes.around.store;
              swap_calm = λ e. ap (λ x. h.failures x.pages.disk) writes.around.swap;
              counted = rw writes.refused (omega arith);
              failed = λ e. cc;
              stalled = λ stall e. cc;
            };
          };
          others = others_stored before before after pid (addr / 4096) backing n bytes sound.fit placed.usable writes.frames beside tends.others;
          reads = unread g old.store new.store writes.around.store;
          device = unused h old.swap.pages.disk new.swap.pages.disk (ap (λ x. x.pages.disk) writes.around.swap);
          asks = asks_unstalled g h old old pid addr Kinds.Store tends new writes.around.store writes.around.swap
              (slotted_stored before before after pid (addr / 4096) backing n bytes (ShowsFile before pid (addr / 4096)) (IsThatPage pid (addr / 4096)) sound.fit placed.usable writes.frames
              beside tends.slotted)
              (inr (n, addr % 4096, stored, data_frame before pid (addr / 4096) n backing sound.fit placed.usable, stored_there)) Done (λ stall e. cc) (λ e. refl) (λ done. (placed.root, place, placed.lives, placed.place))
              (λ done one. others_kept before before after pid (addr / 4096) _ (arrives.chance one)
              (λ q p inside. entries_stored before after pid (addr / 4096) backing n bytes sound.fit placed.usable writes.frames beside q p));
        }

    write_carries : Carries g h old new (Store pid addr stored) Done
    write_carries = λ s shows keeps swaps.
        let kept = subst (λ x. h.keeps_model x.pages.disk) writes.around.swap (swaps refl) in
        let grants = arrives.granted (λ away. kept) in
        stores g h old old _ s shows (subst (λ x. g.keeps_model (disk_of x)) writes.around.store (keeps refl)) kept sound.fit arrives.tends.proceeds arrives.tends.brings
        pid addr (ap is_some granted.lives) stored grants.seen grants.fine n new bytes writes.frames (beside_around old new writes.around) grants.ready
        (ap (λ (at : ℕ). with_number (bytes_of old.frames n) at (byte_count stored.width) stored.value) arrives.placed.offset)

    -- it changes no table
    write_walks : KeepsWalks (picture_of old) (picture_of new)
    write_walks =
        let placed = arrives.placed in
        let datum = data_frame (picture_of old) pid (addr / 4096) n placed.seen.attr.backing sound.fit placed.usable in
        let others = with_bytes-others old.frames n bytes in
        let beside = beside_around old new writes.around in
        let size = ap (λ (t : FrameTable). frame_count t) writes.frames ∙ others.frames in
        let same : (m : ℕ) → role_of old.frames m ≡ Table → bytes_of new.frames m ≡ bytes_of old.frames m = λ m table.
        ap (λ (t : FrameTable). bytes_of t m) writes.frames ∙ others.bytes m (λ e. datum (ap (role_of old.frames) (sym e) ∙ table)) in
        record {
          root = beside.root;
          tables = same;
          walks = λ q root at access lives. walks_same old.frames new.frames _ root at access sound.fit.rooted.forest (sound.fit.rooted.roots q root lives).table size same;
        }

  store_made : (only_now : OnlyNow g) (old new : Engine D E M levels) (pid addr : ℕ) (stored : StoredValue) (reply : Reply) → IsSoundEngine g h old
      → HardwareWrites old new pid addr stored reply → EngineCarriesOut g h old new (Store pid addr stored) reply
  store_made only_now old new pid addr stored reply sound is =
      let core = sound.going is.runs in
      let keeps = write_keeps old.core new.core pid addr stored is.place core is.granted is.writes in
      let placed = (reached old.core pid addr stored.width Kinds.Store is.place core is.granted).placed in
      carries_out g h only_now old new new.core (Store pid addr stored) Done reply sound is.runs (λ s. refl) refl is.halted is.room is.done (λ s comes. is.past)
      (on_page g h old.core new.core (Store pid addr stored) Done pid addr Kinds.Store (refl, λ s. refl) keeps (write_carries old.core new.core pid addr stored is.place core is.granted is.writes) (λ s idle. idle)) (
        keeps.asks,
        λ place walked done. subst (λ (p : Phys). WritesNumber old.core new.core (p.0 / 4096) (addr % 4096) stored)
            (walked_same (picture_of old.core) pid addr stored.width Kinds.Store is.place place placed walked) (stored_there old.core new.core pid addr stored is.place core is.granted is.writes),
      )

  pub made : (only_now : OnlyNow g) (old new : Engine D E M levels) (command : Command) (reply : Reply) → IsSoundEngine g h old → HardwareMakes old new command reply
      → EngineCarriesOut g h old new command reply
  made only_now old new (Load pid addr width) reply sound is =
      read_carried only_now old new pid addr width Kinds.Load reply sound is (Load pid addr width) (λ reads. reads.load refl) (λ asks. (asks, λ place walked. refl)) refl (refl, λ s. refl) (λ s idle. idle) refl
  made only_now old new (Fetch pid addr) reply sound is =
      read_carried only_now old new pid addr Four Kinds.Fetch reply sound is (Fetch pid addr) (λ reads. reads.fetch refl refl) (λ asks. (asks, λ place walked. refl)) refl (refl, λ s. refl) (λ s idle. idle) refl
  made only_now old new (Store pid addr stored) reply sound is = store_made only_now old new pid addr stored reply sound is
  made only_now old new command reply sound is = absurd is

  walks_none : (old new : Engine D E M levels) → new ≡ old → KeepsWalks (picture_of old.core) (picture_of new.core)
  walks_none old new same =
      subst (λ (m : Engine D E M levels). KeepsWalks (picture_of old.core) (picture_of m.core)) (sym same)
      (record { root = λ q. refl; tables = λ n table. refl; walks = λ q root at access lives. refl })

  walks_made : (old new : Engine D E M levels) (command : Command) (reply : Reply) → IsSoundEngine g h old → HardwareMakes old new command reply
      → KeepsWalks (picture_of old.core) (picture_of new.core)
  walks_made old new (Load pid addr width) reply sound is = walks_none old new is.same
  walks_made old new (Fetch pid addr) reply sound is = walks_none old new is.same
  walks_made old new (Store pid addr stored) reply sound is = write_walks old.core new.core pid addr stored is.place (sound.going is.runs) is.granted is.writes
  walks_made old new command reply sound is = absurd is

  -- a store that the tables grant
  module _ (old : Engine D E M levels) (pid addr : ℕ) (stored : StoredValue) (place : Phys) (sound : IsSoundEngine g h old) (runs : old.halted ≡ false)
      (granted : IsGranted (picture_of old.core) pid addr stored.width Kinds.Store place) where
    placed_there : IsPlaced (picture_of old.core) (picture_of old.core) pid addr stored.width Kinds.Store place
    placed_there = (reached old.core pid addr stored.width Kinds.Store place (sound.going runs) granted).placed

    stored_in : IsHeld old.core.frames (place.0 / 4096) × (role_of old.core.frames (place.0 / 4096) ≢ Table)
    stored_in =
        let backing = placed_there.seen.attr.backing in (
          open_held (picture_of old.core) pid (addr / 4096) backing (place.0 / 4096) placed_there.usable,
          data_frame (picture_of old.core) pid (addr / 4096) (place.0 / 4096) backing (sound.going runs).fit placed_there.usable,
        )

    -- the engine after it
    stored_engine : (new : Engine D E M levels) × HardwareWrites old new pid addr stored Done
    stored_engine =
        let c = old.core in
        let n = place.0 / 4096 in
        let bytes = with_number (bytes_of c.frames n) (place.0 % 4096) (byte_count stored.width) stored.value in
        let held = stored_in.0 in
        let others = with_bytes-others c.frames n bytes in
        let core' : Core D E M levels = record c {
          frames = with_bytes c.frames n bytes;
          sound = IsSound-step n c.frames (with_bytes c.frames n bytes) c.sound others (IsHeld-above c.frames n c.sound held) refl refl (c.sound.counted n held.inside) (IsHeld-not_zero c.frames n held);
          page_count = c.page_count ∙ sym others.frames;
          node_count = c.node_count ∙ sym others.frames;
          hand_inside = (let low = c.hand_inside in let same = others.frames in omega (arith, low, same));
        } in (
          record old { core = core' },
          record {
            runs = runs;
            place = place;
            granted = granted;
            done = refl;
            writes = record { frames = refl; around = record { store = refl; swap = refl; cache = refl; roots = refl; regions = refl; page_of = refl }; clock = refl; refused = refl };
            halted = refl;
            past = refl;
            room = refl;
          },
        )

module _ {D E : Type 0} (g : Ghosts D) (h : Ghosts E) where
  pub fenced : (old new : Machine D E) (command : Command) (reply : Reply) → IsSoundMachine g h old → IsMadeByHardware old new command reply → TranslatesAlike old new
  fenced (Sv39 old) (Sv39 new) command reply sound is = walks_made g h old new command reply sound is
  fenced (Sv48 old) (Sv48 new) command reply sound is = walks_made g h old new command reply sound is
  fenced old new command reply sound is = absurd is

  pub stored_frame : (old : Machine D E) (pid addr : ℕ) (stored : StoredValue) (place : Phys) → IsSoundMachine g h old → halted_of old ≡ false
      → IsGrantedBy old pid addr stored.width Kinds.Store place → IsBesideTables old (place.0 / 4096)
  stored_frame (Sv39 old) pid addr stored place sound runs granted = stored_in g h old pid addr stored place sound runs granted
  stored_frame (Sv48 old) pid addr stored place sound runs granted = stored_in g h old pid addr stored place sound runs granted

  pub stored_after : (old : Machine D E) (pid addr : ℕ) (stored : StoredValue) (place : Phys) → IsSoundMachine g h old → halted_of old ≡ false
      → IsGrantedBy old pid addr stored.width Kinds.Store place → (new : Machine D E) × IsMadeByHardware old new (Store pid addr stored) Done
  stored_after (Sv39 old) pid addr stored place sound runs granted = let after = stored_engine g h old pid addr stored place sound runs granted in (Sv39 after.0, after.1)
  stored_after (Sv48 old) pid addr stored place sound runs granted = let after = stored_engine g h old pid addr stored place sound runs granted in (Sv48 after.0, after.1)

  pub carried : (only_now : OnlyNow g) (old new : Machine D E) (command : Command) (reply : Reply) → IsSoundMachine g h old → IsMadeByHardware old new command reply
      → TakesStep g h old new command reply
  carried only_now (Sv39 old) (Sv39 new) command reply sound is =
      let done = made g h only_now old new command reply sound is in
      let tidy : (s : State) → Shows g h (Sv39 new) s → IsRunning s → IsTidy s = λ s shows running.
      tidied (picture_of new.core) s (done.does.sound.going (sym shows.running ∙ ap is_some running)).fit shows.pages in
      search rules
  carried only_now (Sv48 old) (Sv48 new) command reply sound is =
      let done = made g h only_now old new command reply sound is in
      let tidy : (s : State) → Shows g h (Sv48 new) s → IsRunning s → IsTidy s = λ s shows running.
      tidied (picture_of new.core) s (done.does.sound.going (sym shows.running ∙ ap is_some running)).fit shows.pages in
      search rules
  carried only_now old new command reply sound is = absurd is

  one_step : (only_now : OnlyNow g) (old new : Machine D E) (command : Command) (reply : Reply) → IsSoundMachine g h old → HardwareStep g h old new command reply
      → TakesStep g h old new command reply
  one_step only_now old new command reply sound step = ⊎_elim (λ done. done) (λ is. carried only_now old new command reply sound is) step

  pub does_each : (only_now : OnlyNow g) (old new : Machine D E) (commands : List Command) (replies : List Reply) → IsSoundMachine g h old
      → HardwareSteps g h old commands replies new → DoesEachAsTold g h old new replies
  does_each only_now old new [] [] sound same =
      subst (λ (m : Machine D E). DoesEachAsTold g h old m []) (sym same)
      (record { sound = sound; keeps = record { kept = λ k. k; swap_kept = λ k. k; room = room_none old }; caused = refl; counts = counts g h old [] old refl })
  does_each only_now old new (x ∷ xs) (r ∷ rs) sound steps =
      let mid = steps.0 in
      let one = one_step only_now old mid x r sound steps.1 in
      let rest = does_each only_now mid new xs rs one.sound steps.2 in
      record {
        sound = rest.sound;
        keeps = record { kept = λ k. one.keeps.kept (rest.keeps.kept k); swap_kept = λ k. one.keeps.swap_kept (rest.keeps.swap_kept k); room = room_then old mid new one.keeps.room rest.keeps.room };
        caused = (mid, one.does.caused, rest.caused);
        counts = counts g h old (r ∷ rs) new (mid, one.does.caused, rest.caused);
      }
  does_each only_now old new commands replies sound steps = absurd steps

  -- the machine after k commands that were carried out is the one after k steps
  abbrev IsAlong : (old new : Machine D E) (s : State) (commands : List Command) (replies : List Reply) → HardwareSteps g h old commands replies new
      → RanSoFar g h old new s commands replies → ℕ → Type 0
  IsAlong old new s commands replies steps all k = after g h old s commands replies all.events new all.last all.chain k ≡ machine_after g h old commands replies new steps k

  ran : (only_now : OnlyNow g) (old : Machine D E) (s : State) (commands : List Command) (replies : List Reply) (new : Machine D E) → IsSoundMachine g h old
      → (steps : HardwareSteps g h old commands replies new) → Shows g h old s → g.keeps_model (store_of new) → h.keeps_model (swap_of new)
      → (all : RanSoFar g h old new s commands replies) × ((k : ℕ) → IsAlong old new s commands replies steps all k)
  ran only_now old s [] [] new sound same shows keeps swaps =
      (record { last = s; events = []; chain = (same, refl); shows = subst (λ (m : Machine D E). Shows g h m s) (sym same) shows }, λ k. refl)
  ran only_now old s (x ∷ xs) (r ∷ rs) new sound steps shows keeps swaps =
      let mid = steps.0 in
      let one = one_step only_now old mid x r sound steps.1 in
      let kept = (does_each only_now mid new xs rs one.sound steps.2).keeps in
      let met = one.meets s shows (readable g h mid s x (kept.kept keeps) (kept.swap_kept swaps)) in
      let rest = ran only_now mid met.0 xs rs new one.sound steps.2 (face g h old mid s met.0 x r met.1).shows keeps swaps in
      let all = ran_first g h old mid new s met.0 x xs r rs met.1 rest.0 in
      (all, from_first (IsAlong old new s (x ∷ xs) (r ∷ rs) steps all) (refl {a = old}) rest.1)
  ran only_now old s commands replies new sound steps shows keeps swaps = absurd steps

  pub runs : (only_now : OnlyNow g) (old new : Machine D E) (commands : List Command) (replies : List Reply) (sound : IsSoundMachine g h old)
      (steps : HardwareSteps g h old commands replies new) (s : State) → Shows g h old s → g.keeps_model (store_of new) → h.keeps_model (swap_of new)
      → RunsThrough g h old new commands replies steps s
  runs only_now old new commands replies sound steps s shows keeps swaps =
      let all = ran only_now old s commands replies new sound steps shows keeps swaps in
      record { runs = all_ran g h old new s commands replies only_now shows all.0; through = all.1 }
