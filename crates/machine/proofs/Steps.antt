-- What a step of the flat model leaves of what is durable, and of lengths of files.
use Rattle.machine.proofs.Names.{ℕ, ◌≡◌, ◌/◌, ◌==◌, Bool, true, false, if◌then◌else◌, List, Option, Some, None, refl, rules, StoredValue, Command, Spawn, Fork, Exit, Mmap, Munmap, Mprotect, Dontneed, Msync, Truncate, Load, Store, Fetch, PastFaults}
use Rattle.machine.proofs.Names.{MapSource, Prot, Errno, ESRCH, Backing, Anon, Stall, Fault, Done, Refused, Stalled, Faulted, Width, with_shown_bytes, Past, Ruling, Refuses, Takes, msync_ruling, committed, State, Outcome, outcome, answers}
use Rattle.machine.proofs.Names.{refused_or, spawn_outcome, fork_outcome, fetch_outcome, mmap_outcome, msync_outcome, truncate_outcome, load_outcome, store_outcome, past_after, ruling, takes, commit_of, first_of, pages_from, least_free_pid, munmap_checks}
use Rattle.machine.proofs.Names.{truncate_checks, asked_checks, row_checks, covered_checks, mmap_errno, mmap_place, Verdict, Fine, Faults, View, Contents, truncated}

-- whether a command may give files other lengths, or make such lengths durable
abbrev pub changes_lengths : Command → Bool
changes_lengths (Msync pid addr len mode) = true
changes_lengths (Truncate file length) = true
changes_lengths command = false

-- What a command comes to: an answer, with as many pages of an msync, running or halted as before, with these durable contents and, unless it may
-- change them, the lengths that files had.
pub record Keeps (s : State) (x : Outcome) (durable : Contents) (changes : Bool) : Type 0 where
  pub most : x.state.most ≡ s.most
  pub ends : x.state.ends ≡ s.ends
  pub durable_is : x.state.durable ≡ durable
  pub resizes : x.state.resizes ≡ s.resizes
  pub resized : changes ≡ false → x.state.resized ≡ s.resized
  pub shortest : changes ≡ false → x.state.shortest ≡ s.shortest
  pub past : x.state.past ≡ s.past
  pub answers : (stall : Stall) → x.reply ≡ Stalled stall → ⊥
  pub faults : (fault : Fault) → x.reply ≡ Faulted fault → x.state ≡ s

-- all that is the same in two states
record Alike (s t : State) : Type 0 where
  most : t.most ≡ s.most
  ends : t.ends ≡ s.ends
  durable_is : t.durable ≡ s.durable
  resizes : t.resizes ≡ s.resizes
  resized : t.resized ≡ s.resized
  shortest : t.shortest ≡ s.shortest
  past : t.past ≡ s.past

keeps_spawn : (s : State) (pid : Option ℕ) → Keeps s (spawn_outcome s pid) s.durable false
keeps_spawn s None = search rules
keeps_spawn s (Some pid) = search rules

keeps_fork : (s : State) (parent : ℕ) (pid : Option ℕ) → Keeps s (fork_outcome s parent pid) s.durable false
keeps_fork s parent None = search rules
keeps_fork s parent (Some pid) = search rules

keeps_mmap : (s : State) (pid len : ℕ) (prot : Prot) (source : MapSource) (errno : Option Errno) (place : Option ℕ) → Keeps s (mmap_outcome s pid len prot source errno place) s.durable false
keeps_mmap s pid len prot source (Some errno) place = search rules
keeps_mmap s pid len prot source None None = search rules
keeps_mmap s pid len prot source None (Some first) = search rules

keeps_refused : (s : State) (errno : Option Errno) (x : Outcome) (changes : Bool) → Keeps s x s.durable changes → Keeps s (refused_or s errno x) s.durable changes
keeps_refused s (Some errno) x changes h = search rules
keeps_refused s None x changes h = h

keeps_done : (s : State) (checks : Option Errno) (t : State) → Alike s t → Keeps s (refused_or s checks (record { reply = Done; state = t })) s.durable false
keeps_done s checks t alike = keeps_refused s checks _ false (record {
  most = alike.most;
  ends = alike.ends;
  durable_is = alike.durable_is;
  resizes = alike.resizes;
  resized = λ e. alike.resized;
  shortest = λ e. alike.shortest;
  past = alike.past;
  answers = λ stall e. cc;
  faults = λ fault e. absurd (cc);
})

keeps_msync : (s : State) (r : Ruling) → Keeps s (msync_outcome s r) (takes s r s.durable) true
keeps_msync s (Refuses errno) = search rules
keeps_msync s r = search rules

keeps_load : (s : State) (addr : ℕ) (width : Width) (v : Verdict) → Keeps s (load_outcome s addr width v) s.durable false
keeps_load s addr width (Faults code) = search rules
keeps_load s addr width (Fine view) = search rules

keeps_fetch : (s : State) (addr : ℕ) (v : Verdict) → Keeps s (fetch_outcome s addr v) s.durable false
keeps_fetch s addr (Faults code) = search rules
keeps_fetch s addr (Fine view) = search rules

keeps_bytes : (s : State) (pid page : ℕ) (view : View) (backing : Backing) (bytes : List ℕ) → Keeps s (record { reply = Done; state = with_shown_bytes s pid page view backing bytes }) s.durable false
keeps_bytes s pid page view Anon bytes = search rules
keeps_bytes s pid page view backing bytes = search rules

keeps_store : (s : State) (pid addr : ℕ) (value : StoredValue) (v : Verdict) → Keeps s (store_outcome s pid addr value v) s.durable false
keeps_store s pid addr value (Faults code) = search rules
keeps_store s pid addr value (Fine view) = keeps_bytes s pid _ view view.attr.backing _

keeps_either : (s : State) (b : Bool) (x y : Outcome) (d : Contents) (changes : Bool) → Keeps s x d changes → Keeps s y d changes → Keeps s (if b then x else y) d changes
keeps_either s true x y d changes h k = h
keeps_either s false x y d changes h k = k

-- where a process lives
keeps_live : (s : State) (pid : ℕ) (x : Outcome) → Keeps s x s.durable false → Keeps s (if s.live pid then x else answers s (Refused ESRCH)) s.durable false
keeps_live s pid x h = keeps_either s (s.live pid) x (answers s (Refused ESRCH)) s.durable false h (search rules)

-- what is asked of a row, unless its length is 0
keeps_asked : (s : State) (pid addr len : ℕ) (x : Outcome) → Keeps s x s.durable false
    → Keeps s (refused_or s (first_of (asked_checks s pid addr)) (if len == 0 then answers s Done else x)) s.durable false
keeps_asked s pid addr len x h = keeps_refused s (first_of (asked_checks s pid addr)) _ false (keeps_either s (len == 0) (answers s Done) x s.durable false (search rules) h)

-- a length that is not refused, or is the one that the file has
keeps_truncate : (s : State) (file length : ℕ) → Keeps s (truncate_outcome s file length) s.durable true
keeps_truncate s file length = keeps_refused s (first_of (truncate_checks s file length)) _ true (keeps_either s _ (answers s Done) (record { reply = Done; state = truncated s file length }) s.durable true (search rules) (search rules))

pub outcome_keeps : (s : State) (command : Command) → Keeps s (outcome s command) (takes s (ruling s command) s.durable) (changes_lengths command)
outcome_keeps s Spawn = keeps_spawn s (least_free_pid s.live)
outcome_keeps s (Fork pid) = keeps_live s pid _ (keeps_fork s pid (least_free_pid s.live))
outcome_keeps s (Exit pid) = keeps_live s pid _ (search rules)
outcome_keeps s (Mmap pid addr len prot source placing) = keeps_mmap s pid len prot source (mmap_errno s pid addr len prot source placing) (mmap_place s pid addr len placing)
outcome_keeps s (Munmap pid addr len) = keeps_done s (first_of (munmap_checks s pid addr len)) _ (search rules)
outcome_keeps s (Mprotect pid addr len prot) = keeps_asked s pid addr len _ (keeps_done s (first_of (row_checks s pid (addr / 4096) (pages_from addr len) prot)) _ (search rules))
outcome_keeps s (Dontneed pid addr len) = keeps_asked s pid addr len _ (keeps_done s (first_of (covered_checks s pid (addr / 4096) (pages_from addr len))) _ (search rules))
outcome_keeps s PastFaults = search rules
outcome_keeps s (Msync pid addr len mode) = keeps_msync s (msync_ruling s pid addr len mode)
outcome_keeps s (Truncate file length) = keeps_truncate s file length
outcome_keeps s (Load pid addr width) = keeps_live s pid _ (keeps_load s addr width _)
outcome_keeps s (Fetch pid addr) = keeps_live s pid _ (keeps_fetch s addr _)
outcome_keeps s (Store pid addr value) = keeps_live s pid _ (keeps_store s pid addr value _)

-- a stall is no fault
pub past_stalled : (command : Command) (stall : Stall) (past : Past) → past_after command (Stalled stall) past ≡ past
past_stalled Spawn stall past = refl
past_stalled command stall past = refl

pub commit_takes : (s : State) (r : Ruling) (after : Contents) → commit_of s r ≡ Some after → after ≡ takes s r s.durable
commit_takes s (Takes pid first count) after e = (let k : Some (committed s pid first count s.durable) ≡ Some after = e in cc)
commit_takes s r after e = absurd (cc)
