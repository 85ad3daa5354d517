-- An access goes on after the tables on its way were linked, or after the file page of its page was brought into a frame.
use Rattle.fault.proofs.Names.{top_level, Access, PageKey, FrameNo, Stall, StoreDevice, File, Attr, Backing, Shared, is_past_end_of, is_past_end, ◌≡◌, ◌≢◌, ℕ, false, inl, inr, ◌⊎◌, None, Result, Ok, Err, sym, ◌∙◌, subst}
use Rattle.fault.proofs.Names.{true, Some, ap, false≢true, IfErr, IfOk, Ghosts, AnyStore, IsPage, Frame, Core, Picture, picture_of, held, entry, IsFit, Frees, Refuses, UsesDevice, KeepsPages, HasStallCause, ReadCause, StallCause, IsShort}
use Rattle.vm_types.specs.declared.region.Backing.TheVariants.{Private}
use Rattle.fault.specs.{Changes.{IsCalm, KeepsSeen, KeepsSpaces, KeepsBare, LinksTables, Moves}, Files.{BringsPages, BringsFiles, IsInStore}, Outcome.{IsStalled}, Wants.{ShowsFile, Wants, ReadsHome, LacksTable, ForTable}, Found.{IsOpenTo}}
use Rattle.fault.{specs.Granted.{IsReadyAt}, proofs.{Steps.{seen_then, files_same}, Wanted.{nowhere_keeps, unlinked_keeps, page_there, there_or, reads_home, whole_or, shows_back}}}
use Rattle.fault.proofs.{SwapSteps.{zero_here}, Names.{⊎_elim, otherwise, GivesForTables, is_swapped, IsWhole, page_entry-missing, entry-of}, AccessSteps.{brings_after, brings_then, cause_then, no_store, cause_of, keeps_seen}, Settled.{ready_after}}
use Rattle.vm_types.specs.declared.mode.Levels as Levels
use Rattle.sized_stores.specs.Store.{disk_of}

-- The file page of its page was brought into a frame.
module _ {M : Type 0} {m : Levels.Ghosts M} {D E : Type 0} (old mid : Core D E M m) (pid page : ℕ) (p : PageKey) (shows : ShowsFile (picture_of old) pid page p) where
  only : (q : PageKey) → q ≡ p → ShowsFile (picture_of old) pid page q
  only q is = let P : PageKey → Type 0 = λ x. ShowsFile (picture_of old) pid page x in subst P (sym is) shows

  pub read_then : (new : AnyStore D) → IsFit (picture_of old) → new ≡ mid.store → (mid.store ≡ old.store) ⊎ IsInStore (picture_of old) p
      → (new ≡ old.store) ⊎ ReadsHome (picture_of old) pid page
  read_then new fit same (inl e) = inl (same ∙ e)
  read_then new fit same (inr home) = inr (reads_home (picture_of old) pid page p fit shows home)

  module _ (idle : (n : FrameNo) → (picture_of old).place p ≡ Frame n → mid ≡ old) where
    pub wants_then : (access : Access) → Wants (picture_of mid) pid page access → Wants (picture_of old) pid page access
    wants_then access wants =
        let P : Core D E M m → Type 0 = λ k. Wants (picture_of k) pid page access in
        ⊎_elim (λ there. subst P (idle there.0 there.1) wants) (λ away. away) (there_or (picture_of old) pid page access p shows)

    pub calm_then : (new : Core D E M m) (access : Access) → ((Wants (picture_of mid) pid page access → ⊥) → IsCalm mid new pid page)
        → (Wants (picture_of old) pid page access → ⊥) → IsCalm old new pid page
    calm_then new access calm none =
        let there = page_there (picture_of old) pid page access p shows none in
        subst (λ (k : Core D E M m). IsCalm k new pid page) (idle there.0 there.1) (calm (λ wants. none (wants_then access wants)))

  module _ (g : Ghosts D) (h : Ghosts E) where
    pub brings_wider : BringsFiles g h (λ q. q ≡ p) old mid → BringsFiles g h (ShowsFile (picture_of old) pid page) old mid
    brings_wider brings kept =
        let W : PageKey → Type 0 = λ q. q ≡ p in
        brings_after g old.store mid.store W (ShowsFile (picture_of old) pid page) (picture_of old) (picture_of old) (picture_of mid) only (files_same (picture_of old)) (brings kept)

    -- no other came after it
    pub brings_on : (new : Core D E M m) → BringsFiles g h (λ q. q ≡ p) old mid → KeepsSeen (picture_of old) (picture_of mid) → new.store ≡ mid.store → UsesDevice h mid.swap.pages.disk new.swap.pages.disk
        → ((q : PageKey) → (held (picture_of new) q ≡ held (picture_of mid) q) ⊎ ((held (picture_of new) q ≡ None) × ((picture_of mid).touched q ≡ false)))
        → ((f : ℕ) → (picture_of new).files f ≡ (picture_of mid).files f) → BringsFiles g h (ShowsFile (picture_of old) pid page) old new
    brings_on new brings keeps same device each files kept =
        let W : PageKey → Type 0 = λ q. q ≡ p in
        let V = ShowsFile (picture_of old) pid page in
        subst (λ (s : AnyStore D). BringsPages g old.store s V (picture_of old) (picture_of new)) (sym same)
        (brings_then g old.store mid.store W V (picture_of old) (picture_of mid) (picture_of new) only keeps.touched (brings (device.kept kept)) each files)

    -- it wasn't brought
    pub stalled_away : (access : Access) (stall : Stall) → IsFit (picture_of old) → KeepsSeen (picture_of old) (picture_of mid) → ((n : FrameNo) → (picture_of old).place p ≡ Frame n → ⊥)
        → ReadCause g h old mid stall → IsShort (picture_of mid) stall → (stall ≡ StoreDevice → IsInStore (picture_of old) p) → KeepsSpaces (picture_of old) (picture_of mid) → Frees (picture_of old) (picture_of mid) None
        → (stall ≢ StoreDevice → Refuses (picture_of mid) None stall) → IsStalled g h old mid pid page access stall
    stalled_away access stall fit keeps never cause short home spaces frees refuses = record {
      keeps = keeps;
      cause = cause;
      short = short;
      refused = λ other. record { keep = None; keeps = nowhere_keeps (picture_of old) (picture_of mid) pid page access p shows spaces.at keeps frees never; refuses = refuses other };
      wanted = otherwise (there_or (picture_of old) pid page access p shows) (λ there. never there.0 there.1);
      home = λ device. reads_home (picture_of old) pid page p fit shows (home device);
    }

    -- or a frame was refused afterwards
    pub stalled_on : (new : Core D E M m) (access : Access) (r : Result FrameNo Stall) → ((n : FrameNo) → (picture_of old).place p ≡ Frame n → mid ≡ old) → KeepsSeen (picture_of old) (picture_of mid)
        → h.failures mid.swap.pages.disk ≡ h.failures old.swap.pages.disk → mid.refused.number ≡ old.refused.number → g.failures (disk_of mid.store) ≡ g.failures (disk_of old.store)
        → HasStallCause h mid new r → IfErr r (IsStalled g h mid new pid page access) → IfErr r (IsStalled g h old new pid page access)
    stalled_on new access (Ok n) idle keeps swap_calm same calm cause stalled = tt
    stalled_on new access (Err s) idle keeps swap_calm same calm cause stalled = record {
      keeps = seen_then (picture_of old) (picture_of mid) (picture_of new) keeps stalled.keeps;
      cause = cause_then g h old mid new s swap_calm same calm stalled.cause;
      short = stalled.short;
      refused = stalled.refused;
      wanted = wants_then idle access stalled.wanted;
      home = λ is. absurd (no_store h mid new s cause is);
    }

past_still : {mode : ℕ} (old new : Picture mode) (b : Backing) → ((f : ℕ) → new.files f ≡ old.files f) → is_past_end old.files b ≡ false → is_past_end new.files b ≡ false
past_still old new (Private p) files e = ap (λ o. is_past_end_of o p.page) (files p.file) ∙ e
past_still old new (Shared p) files e = ap (λ o. is_past_end_of o p.page) (files p.file) ∙ e
past_still old new b files e = e

-- what lets the access still lets it
pub open_still : {mode : ℕ} (old new : Picture mode) (pid page : ℕ) (access : Access) (a : Attr) → ((q k : ℕ) → new.at q k ≡ old.at q k) → ((f : ℕ) → new.files f ≡ old.files f) → IsOpenTo old pid page access a
    → IsOpenTo new pid page access a
open_still old new pid page access a at files is = record { mapped = at pid page ∙ is.mapped; lets = is.lets; inside = past_still old new a.backing files is.inside }

-- a page on whose way a table is missing has no entry
module _ {mode : ℕ} where
  pub lacks_none : (c : Picture mode) (pid page : ℕ) → LacksTable c pid page → entry c pid page ≡ 0
  lacks_none c pid page lacks = entry-of c pid lacks.root page lacks.lives ∙ page_entry-missing c.frames (top_level mode) lacks.root page lacks.missing

-- tables were linked before: none was, where none was missing
pub as_before : {M : Type 0} {m : Levels.Ghosts M} {D E : Type 0} (P : Core D E M m → Type 0) {old mid : Core D E M m} {pid page : ℕ} → ((r : ℕ) × ((picture_of old).root pid ≡ Some r))
    → (IsWhole (picture_of old) pid page → mid ≡ old) → P mid → (LacksTable (picture_of old) pid page → P old) → P old
as_before P {old = old} {pid = pid} {page = page} lives idle now lacks = ⊎_elim (λ whole. subst P (idle whole) now) lacks (whole_or (picture_of old) pid page lives)

module _ {M : Type 0} {m : Levels.Ghosts M} {D E : Type 0} (old mid : Core D E M m) (pid page : ℕ) (lives : (r : ℕ) × ((picture_of old).root pid ≡ Some r)) (pages : KeepsPages (picture_of old) (picture_of mid))
    (idle : IsWhole (picture_of old) pid page → mid ≡ old) where
  pub wants_back : (access : Access) → Wants (picture_of mid) pid page access → Wants (picture_of old) pid page access
  wants_back access wants = as_before (λ (k : Core D E M m). Wants (picture_of k) pid page access) lives idle wants ForTable

  pub calm_back : (new : Core D E M m) (access : Access) → ((Wants (picture_of mid) pid page access → ⊥) → IsCalm mid new pid page) → (Wants (picture_of old) pid page access → ⊥) → IsCalm old new pid page
  calm_back new access calm none = as_before (λ (k : Core D E M m). IsCalm k new pid page) lives idle (calm (λ wants. none (wants_back access wants))) (λ lacks. absurd (none (ForTable lacks)))

  shows_before : (p : PageKey) → ShowsFile (picture_of mid) pid page p → ShowsFile (picture_of old) pid page p
  shows_before p = shows_back (picture_of old) (picture_of mid) pid page p pages.at (keeps_seen (picture_of old) (picture_of mid) pages)

  -- the page's file page is to be read once the tables are made: it was at home, or they fill memory
  pub home_back : IsWhole (picture_of mid) pid page → GivesForTables (picture_of old) (picture_of mid) None → LinksTables (picture_of old) (picture_of mid) pid page
      → ReadsHome (picture_of mid) pid page → ReadsHome (picture_of old) pid page
  home_back linked gives tables home = as_before (λ (k : Core D E M m). ReadsHome (picture_of k) pid page) lives idle home (λ lacks. record {
    file = home.file;
    shows = shows_before (File home.file) home.shows;
    untouched = sym (pages.files.touched (File home.file)) ∙ home.untouched;
    home = elim home.home [
      | inl here ↦ elim gives.needed [
        | inl full ↦ inr (record { lacks = lacks; linked = picture_of mid; gives = gives; tables = tables; full = full })
        | inr none ↦ inl (sym (none.places (File home.file)) ∙ here)
      ]
      | inr again ↦ absurd (again.lacks.missing (linked again.lacks.root again.lacks.lives))
    ];
  })

  pub read_back : IsWhole (picture_of mid) pid page → GivesForTables (picture_of old) (picture_of mid) None → LinksTables (picture_of old) (picture_of mid) pid page
      → (new : AnyStore D) → mid.store ≡ old.store → (new ≡ mid.store) ⊎ ReadsHome (picture_of mid) pid page → (new ≡ old.store) ⊎ ReadsHome (picture_of old) pid page
  read_back linked gives tables new same (inl e) = inl (e ∙ same)
  read_back linked gives tables new same (inr home) = inr (home_back linked gives tables home)

  -- a page that lies in a slot lay there
  pub away_back : IsPage (top_level m.mode) page → KeepsBare (picture_of old) (picture_of mid) → is_swapped (entry (picture_of mid) pid page) ≡ true → is_swapped (entry (picture_of old) pid page) ≡ true
  away_back h bare away = as_before (λ (k : Core D E M m). is_swapped (entry (picture_of k) pid page) ≡ true) lives idle away
      (λ lacks. absurd (false≢true (sym zero_here ∙ sym (ap is_swapped (bare pid page h (lacks_none (picture_of old) pid page lacks))) ∙ away)))

  pub ready_back : (new : Picture m.mode) (a : Attr) (access : Access) (r : Result FrameNo Stall) → (picture_of old).at pid page ≡ Some a
      → IfOk r (λ n. IsReadyAt (picture_of mid) new pid page a access n.0) → IfOk r (λ n. IsReadyAt (picture_of old) new pid page a access n.0)
  ready_back new a access (Ok n) was ready = ready_after (picture_of old) (picture_of mid) new pid page a access n.0 was (pages.at pid page ∙ was) (keeps_seen (picture_of old) (picture_of mid) pages) ready
  ready_back new a access (Err s) was ready = tt

  module _ (g : Ghosts D) (h : Ghosts E) (moves : Moves h old mid) where
    pub brings_back : (new : Core D E M m) → BringsFiles g h (ShowsFile (picture_of mid) pid page) mid new → BringsFiles g h (ShowsFile (picture_of old) pid page) old new
    brings_back new brings kept =
        let W = ShowsFile (picture_of mid) pid page in
        let V = ShowsFile (picture_of old) pid page in
        subst (λ (s : AnyStore D). BringsPages g s new.store V (picture_of old) (picture_of new)) moves.store
        (brings_after g mid.store new.store W V (picture_of old) (picture_of mid) (picture_of new) shows_before pages.files (brings kept))

    pub stalled_back : IsWhole (picture_of mid) pid page → GivesForTables (picture_of old) (picture_of mid) None → LinksTables (picture_of old) (picture_of mid) pid page → (new : Core D E M m) (access : Access) (r : Result FrameNo Stall) → mid.refused.number ≡ old.refused.number → h.failures mid.swap.pages.disk ≡ h.failures old.swap.pages.disk
        → IfErr r (IsStalled g h mid new pid page access) → IfErr r (IsStalled g h old new pid page access)
    stalled_back linked gives tables new access (Ok n) same swap_calm stalled = tt
    stalled_back linked gives tables new access (Err s) same swap_calm stalled = record {
      keeps = seen_then (picture_of old) (picture_of mid) (picture_of new) (keeps_seen (picture_of old) (picture_of mid) pages) stalled.keeps;
      cause = cause_then g h old mid new s swap_calm same (ap (λ (s : AnyStore D). g.failures (disk_of s)) moves.store) stalled.cause;
      short = stalled.short;
      refused = stalled.refused;
      wanted = wants_back access stalled.wanted;
      home = λ device. home_back linked gives tables (stalled.home device);
    }

    -- no frame was had for a table
    pub stalled_tables : (access : Access) (stall : Stall) → StallCause h old mid stall → IsShort (picture_of mid) stall → Refuses (picture_of mid) None stall → (IsWhole (picture_of mid) pid page → ⊥)
        → LacksTable (picture_of old) pid page → IsStalled g h old mid pid page access stall
    stalled_tables access stall cause short refuses never lacks = record {
      keeps = keeps_seen (picture_of old) (picture_of mid) pages;
      cause = cause_of g h old mid stall moves.store cause;
      short = short;
      refused = λ other. record { keep = None; keeps = unlinked_keeps (picture_of mid) pid page access never; refuses = refuses };
      wanted = ForTable lacks;
      home = λ is. absurd (no_store h old mid stall cause is);
    }
