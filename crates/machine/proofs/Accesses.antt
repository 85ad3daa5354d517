-- Calls, each in the cases that its contract has; the faults of accesses are kept.
use Rattle.vm_types.specs.declared.mode.Levels as Levels
use Rattle.machine.proofs.Names.{ℕ, ◌≡◌, ◌≢◌, Bool, true, false, not, if◌then◌else◌, refl, sym, ap, ◌∙◌, subst, inl, Ghosts, UsesDevice, picture_of, is_live, Core, KeepsToPage, GivesPagesBack, is_denial, is_idle, kept_of, directory_of, HaveSizes}
use Rattle.machine.proofs.Names.{Access, Command, Errno, EIO, ESRCH, Fault, Answer, Reply, Faulted, Refused, Stalled, Past, reply_of, is_io_error, State, Outcome, outcome, answers}
use Rattle.machine.proofs.Names.{past_after, ruling, takes}
use Rattle.machine.specs.{Engine.{AsksNeither, EngineMeets, IsSoundEngine}, declared.engine.Engine.{Engine}, Accesses.{Accesses}, EngineCommands.{EngineCarriesOut}}
use Rattle.machine.proofs.{Flat.{OnlyNow, asks_neither, is_running, keeps_all, read_meets, room_still, shows_core, tells_of, unswapped}, Steps.{changes_lengths}, Told.{ReadsDevice, TellsStill, as_many, directory_same, reads_device, tells_still, unread}}
use Rattle.{msync.specs.Shows.{CoreShows, HasSyncRoom, RoomSize}, stores.specs.Store.{always_free_in}}
use Rattle.spaces.specs.Calls as Calls
use Rattle.vm_types.specs.declared.reply.Answer.TheVariants as Answers

-- only the answer that refuses is a refusal
pub refused_so : (a : Answer) (errno : Errno) → reply_of a ≡ Refused errno → a ≡ Answers.Refused errno
refused_so (Answers.Refused other) errno e = let same : Refused other ≡ Refused errno = e in cc
refused_so a errno e = absurd (cc)

not_failed : (errno : Errno) → errno ≢ EIO → is_io_error errno ≡ false
not_failed EIO other = absurd (other refl)
not_failed errno other = refl

-- a refusal, but for a failure of the store, tells that the command was not begun
is_denied : (reply : Reply) (errno : Errno) → reply ≡ Refused errno → errno ≢ EIO → is_denial reply ≡ true
is_denied reply errno is other = ap is_denial is ∙ ap not (not_failed errno other)

-- who faults lives
pub faults_live : (s : State) (pid : ℕ) (x : Outcome) (fault : Fault) → ((if s.live pid then x else answers s (Refused ESRCH)).reply ≡ Faulted fault
    → (if s.live pid then x else answers s (Refused ESRCH)).state ≡ s)
    → (if s.live pid then x else answers s (Refused ESRCH)).reply ≡ Faulted fault → (if s.live pid then x else answers s (Refused ESRCH)).state.live pid ≡ true
faults_live s pid x fault same is =
    ap (λ (t : State). t.live pid) (same is) ∙ elim (s.live pid) as (λ (b : Bool). (if b then x else answers s (Refused ESRCH)).reply ≡ Faulted fault → b ≡ true) [
      | true ↦ λ e. refl
      | false ↦ λ e. cc
    ] is

-- A command that makes nothing durable, and leaves lengths of files alone.
abbrev pub LeavesLengths : Command → Type 0
LeavesLengths command = (changes_lengths command ≡ false) × ((s : State) → takes s (ruling s command) s.durable ≡ s.durable)

module _ {M : Type 0} {levels : Levels.Ghosts M} {D E : Type 0} (g : Ghosts D) (h : Ghosts E) where
  machine_is : (m : Engine D E M levels) (core : Core D E M levels) (halted : Bool) (past : Past) (room : RoomSize) → m.core ≡ core → m.halted ≡ halted → m.past ≡ past → m.sync_room ≡ room
      → ◌≡◌ {A = Engine D E M levels} (record { core = core; halted = halted; past = past; sync_room = room; region_room = tt }) m
  machine_is m core halted past room a b c d = λ t. record { core = sym a t; halted = sym b t; past = sym c t; sync_room = sym d t; region_room = tt }

  pub lives : (old core : Core D E M levels) (s : State) (command : Command) (reply : Reply) (pid : ℕ) → Calls.Comes g h old core s command reply
      → ((fault : Fault) → (outcome s command).reply ≡ Faulted fault → (outcome s command).state.live pid ≡ true)
      → (fault : Fault) → reply ≡ Faulted fault → is_live (picture_of core) pid ≡ true
  lives old core s command reply pid (Calls.Does answer pages) living fault e = sym (pages.live pid) ∙ living fault (sym answer ∙ e)
  lives old core s command reply pid (Calls.Stalls stall may short answer pages) living fault e = absurd (let never : Stalled stall ≡ Faulted fault = sym answer ∙ e in cc)

  -- What a call of the processes on their spaces says, whichever it is.
  pub record IsCall (old new : Core D E M levels) (command : Command) (reply : Reply) : Type 0 where
    pub carries : Calls.Carries g h old new command reply
    pub accounts : Calls.AccountsFor g h old new reply
    pub reads : ReadsDevice g old.store new.store
    pub tells : (s : State) → CoreShows g old s → TellsStill new.store s command reply
    pub device : UsesDevice h old.swap.pages.disk new.swap.pages.disk
    pub idle : (s : State) → is_idle s command reply ≡ true → AsksNeither old new

  -- one that leaves the store alone,
  pub apart : (old new : Core D E M levels) (command : Command) (reply : Reply) → LeavesLengths command → Calls.LeavesStore g h old new reply → Calls.Carries g h old new command reply
      → ((s : State) → is_idle s command reply ≡ true → is_denial reply ≡ true) → IsCall old new command reply
  apart old new command reply leaves keeps carries denies = record {
    carries = carries;
    accounts = keeps.accounts;
    reads = reads_device g old.store new.store (unread g old.store new.store keeps.store);
    tells = λ s shows. tells_still old.store new.store s command reply (ap (λ store. directory_of store) keeps.store) leaves.0 (leaves.1 s) (tells_of g h old s shows);
    device = keeps.device;
    idle = λ s e. keeps_all g h old new (keeps.denied (denies s e));
  }

  -- one that gives pages back,
  pub given_back : (old new : Core D E M levels) (command : Command) (reply : Reply) (pid first pages : ℕ) → LeavesLengths command → GivesPagesBack g h old new pid first pages reply
      → Calls.Carries g h old new command reply → IsCall old new command reply
  given_back old new command reply pid first pages leaves keeps carries = record {
    carries = carries;
    accounts = keeps.accounts;
    reads = reads_device g old.store new.store (unread g old.store new.store keeps.devices.store);
    tells = λ s shows. tells_still old.store new.store s command reply (ap (λ store. directory_of store) keeps.devices.store) leaves.0 (leaves.1 s) (tells_of g h old s shows);
    device = unswapped g h old new keeps.devices;
    idle = λ s e. asks_neither g h old new keeps.devices;
  }

  -- and an access
  pub on_page : (old new : Core D E M levels) (command : Command) (reply : Reply) (pid addr : ℕ) (access : Access) → LeavesLengths command → KeepsToPage g h old new pid addr access reply
      → Calls.Carries g h old new command reply → ((s : State) → is_idle s command reply ≡ true → is_denial reply ≡ true) → IsCall old new command reply
  on_page old new command reply pid addr access leaves keeps carries denies = record {
    carries = carries;
    accounts = keeps.accounts;
    reads = reads_device g old.store new.store keeps.reads;
    tells = λ s shows. tells_still old.store new.store s command reply (directory_same old.store new.store keeps.reads.same keeps.reads.sizes) leaves.0 (leaves.1 s) (tells_of g h old s shows);
    device = keeps.device;
    idle = λ s e. keeps_all g h old new (keeps.denied (denies s e));
  }

  -- A call is carried out by a machine that runs, and makes nothing durable. The history may note what came of it.
  pub carries_out : (only_now : OnlyNow g) (old new : Engine D E M levels) (core : Core D E M levels) (command : Command) (reply result : Reply) → IsSoundEngine g h old → old.halted ≡ false
      → ((s : State) → takes s (ruling s command) s.durable ≡ s.durable) → new.core ≡ core → new.halted ≡ old.halted → new.sync_room ≡ old.sync_room → result ≡ reply
      → ((s : State) → Calls.Comes g h old.core core s command reply → new.past ≡ past_after command reply old.past)
      → IsCall old.core core command reply → Accesses g h old.core core command reply → EngineCarriesOut g h old new command result
  carries_out only_now old new core command reply result sound run none core_is halted_is room_is same noted said asked =
      let both = subst (λ (k : Core D E M levels). IsCall old.core k command reply × Accesses g h old.core k command reply) (sym core_is) (said, asked) in
      let call = both.0 in
      let places = as_many (kept_of old.core.store) new.core.store.sizes.items old.core.store.sizes.items
      (subst (λ kept. HaveSizes kept new.core.store.sizes.items) call.reads.same call.accounts.sound.ready.have) (sound.going run).ready.have in
      subst (λ (r : Reply). EngineCarriesOut g h old new command r) (sym same) (record {
        does = record {
          sound = record {
            going = λ _. call.accounts.sound;
            room = subst (HasSyncRoom g new.core) (sym room_is) (room_still g h old.core new.core old.sync_room (ap always_free_in call.reads.same) places call.accounts.room sound.room);
          };
          keeps = record { kept = call.reads.kept; swap_kept = call.device.kept; room = call.accounts.room };
          caused = call.accounts.caused;
          accesses = both.1;
          denied = record {
            refused = λ errno is other. inl (call.accounts.denied (is_denied reply errno is other));
            faulted = λ _ fault is. call.accounts.denied (ap is_denial is);
            halted = λ stopped. absurd (let never : false ≡ true = sym run ∙ stopped in cc);
          };
        };
        meets = λ s shows readable.
            let past = past_after command reply old.past in
            let core_shows = shows_core g h old s shows (is_running g h old s shows run) sound.room in
            let comes = call.carries s core_shows readable.files readable.slots in
            let told : new.past ≡ past = noted s (subst (λ (k : Core D E M levels). Calls.Comes g h old.core k s command reply) core_is comes) in
            subst (λ (m : Engine D E M levels). (t : State) × EngineMeets g h old m s t command reply) (machine_is new new.core false past old.sync_room refl (halted_is ∙ run) told room_is)
            (read_meets g h only_now old new.core past s command reply shows run call.reads (call.tells s core_shows) call.device refl (call.idle s) call.accounts.room (none s) comes);
      })
