-- spawn, fork and exit of the flat model in a state that memory shows.
use Rattle.vm_types.specs.declared.mode.Levels as Levels
use Rattle.spaces.proofs.Names.{user_end, Command, Spawn, Fork, Exit, EAGAIN, Stall, SwapDevice, StoreDevice, Process, Done, Refused, Stalled, Maps, named_objects, least_free_from, least_free_pid, with_process}
use Rattle.spaces.proofs.Names.{without_process, without_space, table_count, tables_of, is_success, is_open_to, cause_of, needs_frames, reads_swap, State, Outcome, outcome, spawn_outcome, fork_outcome, exit_outcome, View, ℕ, ◌≡◌, ◌≢◌, ◌+◌}
use Rattle.spaces.proofs.Names.{◌≤◌, ◌==◌, ◌&&◌, ◌||◌, not, Bool, true, false, if◌then◌else◌, Option, Some, None, refl, sym, ap, ◌∙◌, subst, arith, rules, nat_tests}
use Rattle.spaces.proofs.Names.{Ghosts, Result, AnyStore, File, IsSoundCore, frame_count, AddsProcess, RemovesProcess, KeepsProcesses}
use Rattle.spaces.proofs.Names.{IsShortToFork, KeepsRoom, StallCause, ReadCause, IsShort, IsFit, Core, Picture, picture_of, is_live, view, ShowsPages, KeepsFiles, shows_named, KeepsNamed, without_maps, slots_of}
use Rattle.{lifecycle.specs.Lifetimes.{WantsProcess}, spaces.specs.Calls.{Comes, Stalls, FallsShort, LeavesStore, causes}}
use Rattle.spaces.proofs.{Calls.{does, does_answer, shows_with, pages_of}, Pages.{views_seen, maps_gone}, Refusals.{stall_caused}, Room.{sound_beside}, Short.{falls_short, falls_short_to_fork, least_below, tables_added}}
use Rattle.sized_stores.specs.Store.{disk_of}

-- a test of all numbers, where one is decided
lives_with : (pid q : ℕ) (b : Bool) (seen : ℕ → Bool) → seen pid ≡ true → (q ≢ pid → b ≡ seen q) → (q == pid || b) ≡ seen q
lives_with pid q b seen here there =
    elim (q == pid) as (λ (x : Bool). (q == pid) ≡ x → (x || b) ≡ seen q) [
      | true ↦ λ e. let same : q ≡ pid = grind (arith, nat_tests) in sym (ap seen same ∙ here)
      | false ↦ λ e. there (grind (arith, nat_tests))
    ] refl

lives_without : (pid q : ℕ) (b : Bool) (seen : ℕ → Bool) → seen pid ≡ false → (q ≢ pid → b ≡ seen q) → (not (q == pid) && b) ≡ seen q
lives_without pid q b seen here there =
    elim (q == pid) as (λ (x : Bool). (q == pid) ≡ x → (not x && b) ≡ seen q) [
      | true ↦ λ e. let same : q ≡ pid = grind (arith, nat_tests) in sym (ap seen same ∙ here)
      | false ↦ λ e. there (grind (arith, nat_tests))
    ] refl

module _ {mode : ℕ} (old new : Picture mode) (s : State) (shows : ShowsPages old s) (files : KeepsFiles old new) where
  pub still_shows : KeepsProcesses old new → ShowsPages new s
  still_shows keeps = shows_with old new s s.live s.views shows files (λ q. shows.live q ∙ sym (keeps.live q)) (λ q page. shows.views q page ∙ sym (keeps.views q page))

  shows_added : (pid : ℕ) (space : ℕ → Option View) → AddsProcess old new pid space → ShowsPages new (with_process s pid space)
  shows_added pid space adds =
      shows_with old new s (λ p. p == pid || s.live p) (λ p. if p == pid then space else s.views p) shows files
      (λ q. lives_with pid q (s.live q) (is_live new) adds.lives (λ ne. shows.live q ∙ sym (adds.others_live q ne)))
      (λ q page. pages_of pid q space (s.views q) (view new) page
      (λ e. sym (adds.pages page) ∙ ap (λ (p : ℕ). view new p page) (sym e))
      (λ ne. shows.views q page ∙ sym (adds.others q page ne)))

module _ {mode : ℕ} (old new : Picture mode) (s : State) (shows : ShowsPages old s) where
  shows_removed : (pid : ℕ) → IsFit old → IsFit new → KeepsNamed (without_maps old.at pid 0 (user_end mode)) old new → RemovesProcess old new pid → ShowsPages new (without_process s pid)
  shows_removed pid was fit files removes =
      subst (λ (maps : Maps). ShowsPages new (record s {
        live = λ p. not (p == pid) && s.live p;
        views = without_space s.views pid;
        objects = named_objects maps s.objects;
      })) (sym (maps_gone old s shows was pid))
      (shows_named old new s (without_maps old.at pid 0 (user_end mode)) (λ p. not (p == pid) && s.live p) (without_space s.views pid) fit shows files
      (λ q. lives_without pid q (s.live q) (is_live new) removes.gone (λ ne. shows.live q ∙ sym (removes.others_live q ne)))
      (λ q page. pages_of pid q (λ page. None) (s.views q) (view new) page
      (λ e. sym (removes.pages page) ∙ ap (λ (p : ℕ). view new p page) (sym e))
      (λ ne. shows.views q page ∙ sym (removes.others q page ne))))

-- why a process didn't come
cause_is : {M : Type 0} {m : Levels.Ghosts M} → {D E : Type 0} (g : Ghosts D) (h : Ghosts E) (old new : Core D E M m) (command : Command) (stall : Stall) → StallCause h old new stall → cause_of (causes g h old new command) stall
cause_is g h old new command SwapDevice cause = cause.1
cause_is g h old new command StoreDevice cause = absurd cause
cause_is g h old new command stall cause = cause.0

open_to : {M : Type 0} {m : Levels.Ghosts M} (s : State) (command : Command) (stall : Stall) {D E : Type 0} (h : Ghosts E) (old new : Core D E M m) → StallCause h old new stall → needs_frames command ≡ true → reads_swap s command ≡ true
    → is_open_to s command stall ≡ true
open_to s command SwapDevice h old new cause frames swaps = swaps
open_to s command StoreDevice h old new cause frames swaps = absurd cause
open_to s command stall h old new cause frames swaps = frames

-- a stall of a call that leaves the store alone, and which would otherwise come to this
stalled : {M : Type 0} {m : Levels.Ghosts M} → {D E : Type 0} (g : Ghosts D) (h : Ghosts E) (old new : Core D E M m) (s : State) (command : Command) (stall : Stall) (o : Outcome) → StallCause h old new stall
    → outcome s command ≡ o → is_success o.reply ≡ true → needs_frames command ≡ true → reads_swap s command ≡ true
    → FallsShort (frame_count new.frames) (slots_of new.swap).total s command stall
    → ShowsPages (picture_of new) s → Comes g h old new s command (Stalled stall)
stalled g h old new s command stall o cause e fine frames swaps short shows =
    Stalls stall (record { otherwise = ap (λ (p : Outcome). is_success p.reply) e ∙ fine; open_to = open_to s command stall h old new cause frames swaps; cause = cause_is g h old new command stall cause })
    short refl shows

-- the stall says of the store's device that it was left alone
stall_read : {M : Type 0} {m : Levels.Ghosts M} → {D E : Type 0} (g : Ghosts D) (h : Ghosts E) (old new : Core D E M m) (stall : Stall) → new.store ≡ old.store → StallCause h old new stall → ReadCause g h old new stall
stall_read g h old new StoreDevice same cause = absurd cause
stall_read g h old new stall same cause = (cause.0, ap (λ (t : AnyStore _). g.failures (disk_of t)) same, cause.1)

module _ {M : Type 0} {m : Levels.Ghosts M} {D E : Type 0} (g : Ghosts D) (h : Ghosts E) (old new : Core D E M m) {T : Type 0} (r : Result T Stall) (sound : IsSoundCore g h old) (keeps : WantsProcess h old new r) where
  still : g.failures (disk_of new.store) ≡ g.failures (disk_of old.store)
  still = ap (λ (t : AnyStore D). g.failures (disk_of t)) keeps.store

  goes_on : IsSoundCore g h new
  goes_on = sound_beside old new g h keeps.store keeps.swap keeps.fit (λ p touched. keeps.files.touched (File p) ∙ touched) sound

  -- a process came, and nothing failed
  pub came : (pid : ℕ) → (new.refused.number ≡ old.refused.number) × (h.failures new.swap.pages.disk ≡ h.failures old.swap.pages.disk) → LeavesStore g h old new (Process pid)
  came pid none = record {
    accounts = record {
      sound = goes_on;
      room = keeps.room;
      denied = search rules;
      caused = record { later = omega (arith, still); swap_later = keeps.device.later; calm = λ e. still; swap_calm = λ e. none.1; counted = omega (arith, none.0); failed = search rules; stalled = search rules };
    };
    store = keeps.store;
    device = keeps.device;
  }

  -- none came, and it is told what the stall came from
  pub stayed : (stall : Stall) → StallCause h old new stall → LeavesStore g h old new (Stalled stall)
  stayed stall cause = record {
    accounts = record {
      sound = goes_on;
      room = keeps.room;
      denied = search rules;
      caused = stall_caused g h old new stall (omega (arith, still)) keeps.device.later (stall_read g h old new stall keeps.store cause);
    };
    store = keeps.store;
    device = keeps.device;
  }

module _ {M : Type 0} {m : Levels.Ghosts M} {D E : Type 0} (g : Ghosts D) (h : Ghosts E) (old : Core D E M m) (s : State) (shows : ShowsPages (picture_of old) s) (number : Option ℕ)
    (is : number ≡ least_free_from (is_live (picture_of old)) 1 64) where
  free_is : least_free_pid s.live ≡ number
  free_is = ap (λ (l : ℕ → Bool). least_free_from l 1 64) (λ t p. shows.live p t) ∙ sym is

  -- the tables of the state with that process more
  one_more : (pid : ℕ) (space : ℕ → Option View) → number ≡ Some pid → table_count (with_process s pid space) ≡ table_count s + tables_of m.mode space
  one_more pid space e =
      let below = least_below s.live 1 64 pid (free_is ∙ e) in
      tables_added s pid space below.0 (let under = below.1 in omega (arith, under)) ∙ ap (λ (x : ℕ). table_count s + tables_of x space) shows.same_mode

  pub spawn_refused : number ≡ None → Comes g h old old s Spawn (Refused EAGAIN)
  spawn_refused e = does_answer g h old old s Spawn (Refused EAGAIN) shows (ap (spawn_outcome s) (free_is ∙ e))

  pub spawns : (pid : ℕ) → number ≡ Some pid → (new : Core D E M m) → KeepsFiles (picture_of old) (picture_of new)
      → AddsProcess (picture_of old) (picture_of new) pid (λ page. None) → Comes g h old new s Spawn (Process pid)
  spawns pid e new files adds =
      does g h old new s Spawn (Process pid) (spawn_outcome s (Some pid)) (ap (spawn_outcome s) (free_is ∙ e)) refl
      (shows_added (picture_of old) (picture_of new) s shows files pid (λ page. None) adds)

  pub spawn_stalls : (pid : ℕ) → number ≡ Some pid → (new : Core D E M m) (stall : Stall) → IsFit (picture_of new) → StallCause h old new stall → IsShort (picture_of new) stall
      → KeepsFiles (picture_of old) (picture_of new) → KeepsProcesses (picture_of old) (picture_of new) → Comes g h old new s Spawn (Stalled stall)
  spawn_stalls pid e new stall fit cause short files keeps =
      let is_one = ap (spawn_outcome s) (free_is ∙ e) in
      let still = still_shows (picture_of old) (picture_of new) s shows files keeps in
      stalled g h old new s Spawn stall (spawn_outcome s (Some pid)) cause is_one refl refl refl
      (falls_short (picture_of new) s Spawn fit still stall short (omega (arith, ap (λ (o : Outcome). table_count o.state) is_one ∙ one_more pid (λ page. None) e))) still

  module _ (parent : ℕ) (live : is_live (picture_of old) parent ≡ true) where
    forks : (o : Option ℕ) → number ≡ o → outcome s (Fork parent) ≡ fork_outcome s parent o
    forks o e = let l : s.live parent ≡ true = shows.live parent ∙ live in rw l (ap (fork_outcome s parent) (free_is ∙ e))

    pub fork_refused : number ≡ None → Comes g h old old s (Fork parent) (Refused EAGAIN)
    fork_refused e = does_answer g h old old s (Fork parent) (Refused EAGAIN) shows (forks None e)

    pub forks_to : (pid : ℕ) → number ≡ Some pid → (new : Core D E M m) → KeepsFiles (picture_of old) (picture_of new)
        → AddsProcess (picture_of old) (picture_of new) pid (view (picture_of old) parent) → Comes g h old new s (Fork parent) (Process pid)
    forks_to pid e new files adds =
        does g h old new s (Fork parent) (Process pid) (fork_outcome s parent (Some pid)) (forks (Some pid) e) refl
        (subst (λ (space : ℕ → Option View). ShowsPages (picture_of new) (with_process s pid space)) (sym (views_seen (picture_of old) s shows parent))
        (shows_added (picture_of old) (picture_of new) s shows files pid (view (picture_of old) parent) adds))

    pub fork_stalls : (pid : ℕ) → number ≡ Some pid → (new : Core D E M m) (stall : Stall) → IsFit (picture_of old) → StallCause h old new stall → IsShortToFork (picture_of old) parent stall
        → KeepsRoom (picture_of old) (picture_of new) → KeepsFiles (picture_of old) (picture_of new) → KeepsProcesses (picture_of old) (picture_of new)
        → Comes g h old new s (Fork parent) (Stalled stall)
    fork_stalls pid e new stall fit cause short room files keeps =
        let is_one = forks (Some pid) e in
        let more = ap (λ (o : Outcome). table_count o.state) is_one ∙ one_more pid (s.views parent) e in
        stalled g h old new s (Fork parent) stall (fork_outcome s parent (Some pid)) cause is_one refl refl refl
        (falls_short_to_fork (picture_of old) s (Fork parent) fit shows (frame_count new.frames) (slots_of new.swap).total parent stall room.frames room.slots short
        (omega (arith, more, ap (tables_of m.mode) (views_seen (picture_of old) s shows parent))))
        (still_shows (picture_of old) (picture_of new) s shows files keeps)

pub exits : {M : Type 0} {m : Levels.Ghosts M} → {D E : Type 0} (g : Ghosts D) (h : Ghosts E) (old new : Core D E M m) (s : State) (pid : ℕ) → ShowsPages (picture_of old) s → is_live (picture_of old) pid ≡ true
    → IsFit (picture_of old) → IsFit (picture_of new) → KeepsNamed (without_maps (picture_of old).at pid 0 (user_end m.mode)) (picture_of old) (picture_of new)
    → RemovesProcess (picture_of old) (picture_of new) pid → Comes g h old new s (Exit pid) Done
exits g h old new s pid shows live was fit files removes =
    does g h old new s (Exit pid) Done (exit_outcome s pid) (rw (shows.live pid ∙ live) refl) refl
    (shows_removed (picture_of old) (picture_of new) s shows pid was fit files removes)
