-- Loads and fetches of the flat model in a state that memory shows.
use Rattle.vm_types.specs.declared.mode.Levels as Levels
use Rattle.spaces.proofs.Names.{ℕ, ◌/◌, ◌%◌, ◌≡◌, true, false, if◌then◌else◌, List, Result, Ok, refl, sym, ap, ◌∙◌, subst, arith, IfOk, Ghosts, AccessRefusal, Grants, Reads, IsFrameFor, IsReadyFor, IsRefusal, verdict_of, Reaches, KeepsSeen}
use Rattle.spaces.proofs.Names.{Proceeds, BringsFiles, ShowsFiles, shows_files, shows_kept, bytes_shown, IsFrame, bytes_of, IsShort, ReadCause, Core, Picture, picture_of, is_live, IsFit, ShowsPages, is_store, CoreShows, Access, Command}
use Rattle.spaces.proofs.Names.{Load, Fetch, Phys, PageKey, Code, Fault, Stall, SwapDevice, StoreDevice, Backing, Reply, Value, Faulted, Stalled, Refused, ESRCH, Width, Four, loaded, table_count, is_success, is_open_to}
use Rattle.spaces.proofs.Names.{cause_of, needs_frames, reads_files, reads_swap, reply_of, State, shown, Outcome, outcome, answers, judged, load_outcome, fetch_outcome, Verdict, Fine, Faults, fault_of, View, byte_count}
use Rattle.spaces.{specs.{Accesses.{reply_for, CarriesRead}, Calls.{Comes, Stalls, causes}}, proofs.{Calls.{does, does_answer}, Short.{falls_short}, Shown.{judged_is, homes}}}
use Rattle.fault.specs.declared.refusal.AccessRefusal.TheVariants as Refusal
use Rattle.vm_types.specs.declared.access.Access.TheVariants as Accesses
use Rattle.sized_stores.specs.Store.{disk_of}

-- the frame of a load or a fetch is one of memory's
pub open_read : {mode : ℕ} (kind : Access) (c : Picture mode) (pid page : ℕ) (b : Backing) (n : ℕ) → is_store kind ≡ false → IsFrameFor kind c pid page b n → IsFrame c.frames n
open_read Accesses.Store c pid page b n e usable = cc
open_read kind c pid page b n e usable = usable

pub live_outcome : {mode : ℕ} (c : Picture mode) (s : State) (pid : ℕ) (a b : Outcome) → ShowsPages c s → is_live c pid ≡ true → (if s.live pid then a else b) ≡ a
live_outcome c s pid a b shows live = let e : s.live pid ≡ true = shows.live pid ∙ live in rw e refl

-- a stall of a command that may read both devices, and which would otherwise make no table
module _ {M : Type 0} {m : Levels.Ghosts M} {D E : Type 0} (g : Ghosts D) (h : Ghosts E) (old new : Core D E M m) (s : State) (command : Command)
    (frames : needs_frames command ≡ true) (files : reads_files command ≡ true) (swaps : reads_swap s command ≡ true) (fit : IsFit (picture_of new)) where
  open_to : (stall : Stall) → is_open_to s command stall ≡ true
  open_to SwapDevice = swaps
  open_to StoreDevice = files
  open_to stall = frames

  cause_is : (stall : Stall) → ReadCause g h old new stall → cause_of (causes g h old new command) stall
  cause_is SwapDevice cause = cause.2
  cause_is StoreDevice cause = cause.1
  cause_is stall cause = cause.0

  pub stalls_read : is_success (outcome s command).reply ≡ true → table_count (outcome s command).state ≡ table_count s → (stall : Stall) → ReadCause g h old new stall
      → IsShort (picture_of new) stall → ShowsPages (picture_of new) s → Comes g h old new s command (Stalled stall)
  stalls_read fine tables stall cause short shows =
      Stalls stall (record { otherwise = fine; open_to = open_to stall; cause = cause_is stall cause })
      (falls_short (picture_of new) s command fit shows stall short (omega (arith, tables))) refl shows

-- an access without a place: what the flat model says of it decides
module _ {M : Type 0} {m : Levels.Ghosts M} {D E : Type 0} (g : Ghosts D) (h : Ghosts E) (old new : Core D E M m) (s : State) (pid addr : ℕ) (width : Width) (kind : Access) (command : Command)
    (fine : (v : View) → verdict_of (picture_of old) pid addr width kind ≡ Fine v → is_success (outcome s command).reply ≡ true)
    (tables : (v : View) → verdict_of (picture_of old) pid addr width kind ≡ Fine v → table_count (outcome s command).state ≡ table_count s)
    (faults : (code : Code) → verdict_of (picture_of old) pid addr width kind ≡ Faults code → outcome s command ≡ answers s (Faulted (fault_of kind code addr)))
    (frames : needs_frames command ≡ true) (files : reads_files command ≡ true) (swaps : reads_swap s command ≡ true)
    (fit : IsFit (picture_of new)) where
  stalls : (stall : Stall) (v : View) → verdict_of (picture_of old) pid addr width kind ≡ Fine v → ReadCause g h old new stall → IsShort (picture_of new) stall
      → ShowsPages (picture_of new) s → Comes g h old new s command (Stalled stall)
  stalls stall v is cause short shows = stalls_read g h old new s command frames files swaps fit (fine v is) (tables v is) stall cause short shows

  pub refused : (refusal : AccessRefusal) → IsRefusal g h old new pid addr width kind refusal → ShowsPages (picture_of old) s
      → (KeepsSeen (picture_of old) (picture_of new) → ShowsPages (picture_of new) s) → Comes g h old new s command (reply_of (reply_for refusal))
  refused (Refusal.Fault fault) is shows same =
      subst (λ (f : Fault). Comes g h old new s command (Faulted f)) (sym is.2)
      (does_answer g h old new s command (Faulted (fault_of kind is.0 addr)) (subst (λ (c : Core D E M m). ShowsPages (picture_of c) s) (sym is.3) shows) (faults is.0 is.1))
  refused (Refusal.Stall stall) is shows same = stalls stall is.seen is.fine is.stalled.cause is.stalled.short (same is.stalled.keeps)

module _ {M : Type 0} {m : Levels.Ghosts M} {D E : Type 0} (g : Ghosts D) (h : Ghosts E) (old new : Core D E M m) (W : PageKey → Type 0) (s : State) (shows : CoreShows g old s)
    (keeps : g.keeps_model (disk_of new.store)) (swaps : h.keeps_model new.swap.pages.disk) (goes : Proceeds g h old new) (brings : BringsFiles g h W old new) where
  pub same : KeepsSeen (picture_of old) (picture_of new) → ShowsPages (picture_of new) s
  same kept =
      shows_kept g old.store new.store W (picture_of old) (picture_of new) s goes.fit (brings swaps) goes.spaces keeps
      (homes g old new s shows goes.ready goes.reads keeps) kept shows.pages

  pub files : ShowsFiles (picture_of new) s
  files =
      shows_files g old.store new.store W (picture_of old) (picture_of new) s goes.fit (brings swaps) goes.spaces keeps
      (homes g old new s shows goes.ready goes.reads keeps) shows.pages

-- what a read of a number comes to
abbrev read_outcome : State → ℕ → Width → Access → Verdict → Outcome
read_outcome s addr width kind (Faults code) = answers s (Faulted (fault_of kind code addr))
read_outcome s addr width kind (Fine view) = answers s (Value width (loaded (shown s view) (addr % 4096) (byte_count width)))

loads_so : (s : State) (addr : ℕ) (width : Width) (v : Verdict) → load_outcome s addr width v ≡ read_outcome s addr width Accesses.Load v
loads_so s addr width (Faults code) = refl
loads_so s addr width (Fine view) = refl

fetches_so : (s : State) (addr : ℕ) (v : Verdict) → fetch_outcome s addr v ≡ read_outcome s addr Four Accesses.Fetch v
fetches_so s addr (Faults code) = refl
fetches_so s addr (Fine view) = refl

reads_ready : {mode : ℕ} (kind : Access) (old new : Picture mode) (pid page : ℕ) (v : View) (n : ℕ) → is_store kind ≡ false → IsReadyFor kind old new pid page v n → Reads old new v n
reads_ready Accesses.Store old new pid page v n e ready = cc
reads_ready kind old new pid page v n e ready = ready

module _ {M : Type 0} {m : Levels.Ghosts M} {D E : Type 0} (g : Ghosts D) (h : Ghosts E) (old new : Core D E M m) (pid addr : ℕ) (width : Width) (kind : Access) where
  -- the command reads a number of that width and kind at the address
  record IsRead (s : State) (command : Command) : Type 0 where
    is : (v : Verdict) → verdict_of (picture_of old) pid addr width kind ≡ v → outcome s command ≡ read_outcome s addr width kind v
    frames : needs_frames command ≡ true
    files : reads_files command ≡ true
    swaps : reads_swap s command ≡ true

  -- what comes of each such command comes of a load and of a fetch
  carries : is_live (picture_of old) pid ≡ true → (reply : Reply)
      → ((s : State) (command : Command) → CoreShows g old s → g.keeps_model (disk_of new.store) → h.keeps_model new.swap.pages.disk → IsRead s command → Comes g h old new s command reply)
      → CarriesRead g h old new pid addr width kind reply
  carries live reply comes = record {
    load = λ is s shows keeps swaps.
        let loaded : (v : Verdict) → verdict_of (picture_of old) pid addr width kind ≡ v → outcome s (Load pid addr width) ≡ read_outcome s addr width kind v = λ v.
        subst (λ (k : Access). verdict_of (picture_of old) pid addr width k ≡ v → outcome s (Load pid addr width) ≡ read_outcome s addr width k v) (sym is)
        (λ e. live_outcome (picture_of old) s pid (load_outcome s addr width (judged s pid addr width Accesses.Load)) (answers s (Refused ESRCH)) shows.pages live
        ∙ ap (load_outcome s addr width) (judged_is old s shows.pages pid addr width Accesses.Load ∙ e) ∙ loads_so s addr width v) in
        comes s (Load pid addr width) shows (keeps refl) (swaps refl) (record { is = loaded; frames = refl; files = refl; swaps = refl });
    fetch = λ is four s shows keeps swaps.
        let fetched : (v : Verdict) → verdict_of (picture_of old) pid addr width kind ≡ v → outcome s (Fetch pid addr) ≡ read_outcome s addr width kind v = λ v.
        subst (λ (k : Access). verdict_of (picture_of old) pid addr width k ≡ v → outcome s (Fetch pid addr) ≡ read_outcome s addr width k v) (sym is)
        (subst (λ (w : Width). verdict_of (picture_of old) pid addr w Accesses.Fetch ≡ v → outcome s (Fetch pid addr) ≡ read_outcome s addr w Accesses.Fetch v) (sym four)
        (λ e. live_outcome (picture_of old) s pid (fetch_outcome s addr (judged s pid addr Four Accesses.Fetch)) (answers s (Refused ESRCH)) shows.pages live
        ∙ ap (fetch_outcome s addr) (judged_is old s shows.pages pid addr Four Accesses.Fetch ∙ e) ∙ fetches_so s addr v)) in
        comes s (Fetch pid addr) shows (keeps refl) (swaps refl) (record { is = fetched; frames = refl; files = refl; swaps = refl });
  }

  module _ (r : Result Phys AccessRefusal) (reached : Reaches g h old new pid addr width kind r) (live : is_live (picture_of old) pid ≡ true) where
    -- a number was read
    pub reads : is_store kind ≡ false → (place : Phys) → r ≡ Ok place → (value : ℕ) → value ≡ loaded (bytes_of new.frames (place.0 / 4096)) (addr % 4096) (byte_count width)
        → CarriesRead g h old new pid addr width kind (Value width value)
    reads no_store place is value is_value = carries live (Value width value) (λ s command shows keeps swaps read.
        let granted : Grants (picture_of old) (picture_of new) pid addr width kind place = subst (λ x. IfOk x (Grants (picture_of old) (picture_of new) pid addr width kind)) is (reached.granted (λ away. swaps)) in
        let ready = reads_ready kind (picture_of old) (picture_of new) pid (addr / 4096) granted.seen (place.0 / 4096) no_store granted.ready in
        does g h old new s command (Value width value) (read_outcome s addr width kind (Fine granted.seen)) (read.is (Fine granted.seen) granted.fine)
        (ap (Value width) (is_value ∙ ap (λ (b : List ℕ). loaded b (addr % 4096) (byte_count width))
        (bytes_shown (picture_of new) s granted.seen (bytes_of new.frames (place.0 / 4096)) (files g h old new _ s shows keeps swaps reached.proceeds reached.brings) ready.shown)))
        (same g h old new _ s shows keeps swaps reached.proceeds reached.brings ready.keeps))

    -- or it was not
    pub read_refused : (refusal : AccessRefusal) → IsRefusal g h old new pid addr width kind refusal → CarriesRead g h old new pid addr width kind (reply_of (reply_for refusal))
    read_refused refusal is = carries live (reply_of (reply_for refusal)) (λ s command shows keeps swaps read.
        refused g h old new s pid addr width kind command (λ v e. ap (λ (o : Outcome). is_success o.reply) (read.is (Fine v) e)) (λ v e. ap (λ (o : Outcome). table_count o.state) (read.is (Fine v) e))
        (λ code e. read.is (Faults code) e) read.frames read.files read.swaps reached.proceeds.fit refusal is shows.pages
        (same g h old new _ s shows keeps swaps reached.proceeds reached.brings))
