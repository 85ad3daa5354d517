-- How the steps of an access follow one another, and what a page of a file or an object leaves that is brought into memory.
use Rattle.fault.proofs.{Asking.{asks_swap, no_new_frees}, Names.{◌≡◌, ◌≢◌, ℕ, false, inl, inr, ◌⊎◌, Option, Some, None, Result, Ok, Err, refl, sym, ap, ◌∙◌, subst, arith, ◌+◌, cases_eq, IfOk, IfErr, OnErr, OnOk, FilePage}}
use Rattle.fault.proofs.Names.{ObjectPage, PageKey, File, Object, zero_page, FrameNo, Stall, SwapDevice, StoreDevice, Ghosts, Touches, Nothing, AsksOnly, AnyStore, IsReadySized, files_of}
use Rattle.fault.proofs.Names.{IsFull, bytes_of, role_of, Home, Frame, Slot, Place, Core, KeepsRolesBut, ComesIn, IsRefused, UsesSwap, Picture, picture_of, held, bytes_at, is_data, IsFit, Frees, ObtainsCached, KeepsPages, KeepsRest}
use Rattle.fault.proofs.Names.{AsksSwap, StallCause, HasStallCause, ReadCause, HasReadCause, CountsNothing, ReadsStore, IsRead, KeepsFiles, BringsIn, trees_brought, entries_brought, views_brought, held_else, held_here, cases_page}
use Rattle.fault.proofs.{Names.{one_frame, one_slot, NamesOnce, once_none, asks_none, asks_wider, asks_then, Swap, IsSectorOfSlot, IsSectorOfFreeSlot}, Steps.{no_table_then, no_table_freed, no_table_trees, rows_then, rows_freed, rows_trees, slotted_then}}
use Rattle.fault.{proofs.Steps.{slotted_frees, spaces_then, room_then, seen_then, tables_then, bare_then, tables_same, spaces_freed, room_freed, seen_freed, tables_freed, bare_freed, device_then}, specs.Asking.{HasSwappable, MayAsk}}
use Rattle.fault.proofs.{Names.{false_from_ne_true, ⊎_elim, rules}, Steps.{on_right}}
use Rattle.fault.specs.{Asking.{AsksIfFull, AsksNoNew, IsSectorOfPage, IsSectorOfStoredPage}, Changes.{AddsNoTable, KeepsSpaces, KeepsTables, KeepsRows, KeepsRoom, KeepsSeen, KeepsBare, KeepsSlotted, KeepsTouched, Moves, MarksTouched, IsCalm}}
use Rattle.fault.specs.{Files.{IsInStore, IsBrought, Stays, Leaves, Comes, Blank, BringsPages, Proceeds, BringsFiles}, PagingIn.{PagesIn}}
use Rattle.fault.proofs.{Chances.{chance_came}, Names.{IsLeftBut}}
use Rattle.vm_types.specs.declared.mode.Levels as Levels
use Rattle.sized_stores.specs.Store.{directory_in, disk_of, files_in, kept_of}

pub ok_then : (P Q : FrameNo → Type 0) (r : Result FrameNo Stall) → ((n : FrameNo) → P n → Q n) → IfOk r P → IfOk r Q
ok_then P Q (Ok n) each is = each n is
ok_then P Q (Err s) each is = tt

module _ {mode : ℕ} where
  -- A page of a file or an object was brought into a frame, or frames were given up in vain: what stays as it was.
  pub record KeepsBut (old new : Picture mode) (page : PageKey) : Type 0 where
    pub spaces : KeepsSpaces old new
    pub tables : KeepsTables old new
    pub room : KeepsRoom old new
    pub seen : KeepsSeen old new
    pub bare : KeepsBare old new
    pub rows : KeepsRows old new
    pub no_table : AddsNoTable old new
    pub slotted : KeepsSlotted (λ p. p ≡ page) (λ q p. ⊥) old new

module _ {mode : ℕ} (old new : Picture mode) (page : PageKey) where
  module _ (n : ℕ) (obtains : ObtainsCached old new page n) where
    keeps_came : KeepsBut old new page
    keeps_came =
        let found : Picture mode = obtains.found in
        let frees = obtains.frees in
        let trees = trees_brought found new page n obtains.fit obtains.brings in
        let entries = entries_brought found new page n obtains.fit obtains.brings in
        record {
          spaces = spaces_then old found new (spaces_freed old found _ frees) (record { root = obtains.brings.root; at = obtains.brings.at });
          tables = tables_then old found new frees.pages.root (tables_freed old found _ frees) (tables_same found new (λ pid r p e. trees.missing r p (obtains.fit.rooted.roots pid r e)));
          room = room_then old found new (room_freed old found _ frees) (record { frames = obtains.brings.frames.frames; slots = obtains.brings.slots.total });
          seen = seen_then old found new (seen_freed old found _ frees) (record { views = views_brought found new page n obtains.fit obtains.brings; touched = obtains.brings.touched });
          bare = bare_then old found new (bare_freed old found _ frees) (λ q p h none. entries q p ∙ none);
          rows = rows_then old found new frees.pages.root (rows_freed old found _ obtains.fit frees) (rows_trees found new obtains.fit trees);
          no_table = no_table_then old found new (no_table_freed old found _ frees) (no_table_trees found new trees);
          slotted = slotted_then (λ p. p ≡ page) (λ q p. ⊥) old found new (slotted_frees (λ p. p ≡ page) (λ q p. ⊥) old found _ frees) (record {
            file_pages = λ p k at. on_right (λ ne. inr (obtains.brings.others p ne ∙ at)) (cases_page p page);
            copies = λ q p h away. inr (entries q p);
          });
        }

    only_came : IsFull old.frames ⊎ KeepsRolesBut old new n
    only_came = on_right (λ same. inr (λ k ne. obtains.brings.frames.roles k ne ∙ ap (λ (c : Picture mode). role_of c.frames k) same)) obtains.needed

    files_came : (f : ℕ) → new.files f ≡ old.files f
    files_came f = obtains.brings.files f ∙ obtains.frees.pages.files.files f

  -- an outcome of either kind
  keeps_of : (r : Result FrameNo Stall) → IfOk r (λ n. ObtainsCached old new page n.0) → IsFit new → OnErr r (Frees old new None) → KeepsBut old new page
  keeps_of (Ok n) obtains fit frees = keeps_came n.0 obtains
  keeps_of (Err s) obtains fit frees =
      let tables = tables_freed old new None frees in
      let bare = bare_freed old new None frees in
      let rows = rows_freed old new None fit frees in
      let slotted = slotted_frees (λ p. p ≡ page) (λ q p. ⊥) old new None frees in
      search (rules, no_table_freed)

module _ {M : Type 0} {m : Levels.Ghosts M} {D E : Type 0} {before after : Core D E M m} {page : PageKey} {r : Result FrameNo Stall} (comes : ComesIn before after page r) where
  pub keeps_in : KeepsBut (picture_of before) (picture_of after) page
  keeps_in = keeps_of (picture_of before) (picture_of after) page r comes.brought comes.fit comes.frees

  pub only_in : IfOk r (λ n. IsFull before.frames ⊎ KeepsRolesBut (picture_of before) (picture_of after) n.0)
  only_in = ok_then _ _ r (λ n. only_came (picture_of before) (picture_of after) page n.0) comes.brought

  pub placed_in : IfOk r (λ n. (picture_of after).place page ≡ Frame n)
  placed_in = ok_then _ _ r (λ n obtains. obtains.brings.placed) comes.brought

module _ {D : Type 0} (g : Ghosts D) where
  touches_none : (d : D) → Touches g Nothing d d
  touches_none d = record { content = λ k. inr refl; unsynced = λ k u. inl u; later = omega arith; moments = λ t c before left. inl left }

  pub reads_none : (old new : AnyStore D) → new ≡ old → ReadsStore g old new
  reads_none old new same =
      subst (λ (s : AnyStore D). ReadsStore g old s) (sym same) (record {
        size = refl;
        kept = λ k. k;
        failures = omega arith;
        touches = λ k. touches_none (disk_of old);
        same = refl;
        sizes = refl;
      })

module _ {mode : ℕ} {D : Type 0} (g : Ghosts D) where
  -- no file page changed but those that went home
  pub brings_none : (before after : AnyStore D) (W : PageKey → Type 0) (a b : Picture mode) → KeepsFiles a b → BringsPages g before after W a b
  brings_none before after W a b kept = record {
    each = λ p. ⊎_elim Stays (λ home. Leaves home.0 home.1) (kept.held p);
    files = kept.files;
  }

  joined : (before after : AnyStore D) (W V : PageKey → Type 0) (a b c : Picture mode) (wider : (p : PageKey) → W p → V p) (touched : (p : PageKey) → b.touched p ≡ a.touched p) (p : PageKey)
      → (held b p ≡ held a p) ⊎ ((held b p ≡ None) × (a.touched p ≡ false)) → IsBrought g before after W b c p → IsBrought g before after V a c p
  joined before after W V a b c wider touched p first (Leaves none untouched) = Leaves none (sym (touched p) ∙ untouched)
  joined before after W V a b c wider touched p first (Comes f bytes e is here untouched read) = Comes f bytes e (wider p is) here (sym (touched p) ∙ untouched) read
  joined before after W V a b c wider touched p first (Blank o e is here untouched) = Blank o e (wider p is) here (sym (touched p) ∙ untouched)
  joined before after W V a b c wider touched p (inl e) (Stays same) = Stays (same ∙ e)
  joined before after W V a b c wider touched p (inr home) (Stays same) = Leaves (same ∙ home.0) home.1

  -- some went home before others were read
  pub brings_after : (before after : AnyStore D) (W V : PageKey → Type 0) (a b c : Picture mode) → ((p : PageKey) → W p → V p) → KeepsFiles a b → BringsPages g before after W b c → BringsPages g before after V a c
  brings_after before after W V a b c wider files brings = record {
    each = λ p. joined before after W V a b c wider files.touched p (files.held p) (brings.each p);
    files = λ f. brings.files f ∙ files.files f;
  }

  later : (before after : AnyStore D) (W V : PageKey → Type 0) (a b c : Picture mode) (wider : (p : PageKey) → W p → V p) (touched : (p : PageKey) → b.touched p ≡ a.touched p) (p : PageKey)
      → (held c p ≡ held b p) ⊎ ((held c p ≡ None) × (b.touched p ≡ false)) → IsBrought g before after W a b p → IsBrought g before after V a c p
  later before after W V a b c wider touched p (inr home) brought = Leaves home.0 (sym (touched p) ∙ home.1)
  later before after W V a b c wider touched p (inl e) (Stays same) = Stays (e ∙ same)
  later before after W V a b c wider touched p (inl e) (Leaves none untouched) = Leaves (e ∙ none) untouched
  later before after W V a b c wider touched p (inl e) (Comes f bytes k is here untouched read) = Comes f bytes k (wider p is) (e ∙ here) untouched read
  later before after W V a b c wider touched p (inl e) (Blank o k is here untouched) = Blank o k (wider p is) (e ∙ here) untouched

  -- or after it
  pub brings_then : (before after : AnyStore D) (W V : PageKey → Type 0) (a b c : Picture mode) → ((p : PageKey) → W p → V p) → ((p : PageKey) → b.touched p ≡ a.touched p) → BringsPages g before after W a b
      → ((p : PageKey) → (held c p ≡ held b p) ⊎ ((held c p ≡ None) × (b.touched p ≡ false))) → ((f : ℕ) → c.files f ≡ b.files f) → BringsPages g before after V a c
  brings_then before after W V a b c wider touched brings each files = record {
    each = λ p. later before after W V a b c wider touched p (each p) (brings.each p);
    files = λ f. files f ∙ brings.files f;
  }

  -- a page came into a frame that was obtained
  brought_in : (before after : AnyStore D) (old new : Picture mode) (page : PageKey) (n : ℕ) → ObtainsCached old new page n → IsBrought g before after (λ y. y ≡ page) old new page
      → BringsPages g before after (λ p. p ≡ page) old new
  brought_in before after old new page n obtains here = record {
    each = λ p. elim (cases_page p page) [
      | inl is ↦ subst (λ (x : PageKey). IsBrought g before after (λ y. y ≡ page) old new x) (sym is) here
      | inr ne ↦ joined before after (λ y. y ≡ page) (λ y. y ≡ page) old obtains.found new (λ q e. e) obtains.frees.pages.files.touched p (obtains.frees.pages.files.held p)
          (Stays (held_else obtains.found new page n obtains.fit obtains.brings p ne))
    ];
    files = files_came old new page n obtains;
  }

  -- from its home
  pub brings_home_of : (before after : AnyStore D) (old new : Picture mode) (page : FilePage) (r : Result FrameNo Stall) → IfOk r (λ n. ObtainsCached old new (File page) n.0) → OnErr r (Frees old new None) → old.touched (File page) ≡ false
      → IfOk r (λ n. IsRead g before after page (bytes_of new.frames n.0)) → BringsPages g before after (λ p. p ≡ File page) old new
  brings_home_of before after old new page (Ok n) obtains frees untouched read = brought_in before after old new (File page) n.0 obtains
      (Comes page (bytes_of new.frames n.0) refl refl (held_here obtains.found new (File page) n.0 obtains.fit obtains.brings) untouched read)
  brings_home_of before after old new page (Err s) obtains frees untouched read = brings_none before after (λ p. p ≡ File page) old new frees.pages.files

  -- as zeros
  pub brings_blank_of : (before after : AnyStore D) (old new : Picture mode) (page : ObjectPage) (r : Result FrameNo Stall) → IfOk r (λ n. ObtainsCached old new (Object page) n.0) → OnErr r (Frees old new None) → old.touched (Object page) ≡ false
      → IfOk r (λ n. bytes_of new.frames n.0 ≡ zero_page) → BringsPages g before after (λ p. p ≡ Object page) old new
  brings_blank_of before after old new page (Ok n) obtains frees untouched blank = brought_in before after old new (Object page) n.0 obtains
      (Blank page refl refl (held_here obtains.found new (Object page) n.0 obtains.fit obtains.brings ∙ ap (λ w. Some w) blank) untouched)
  brings_blank_of before after old new page (Err s) obtains frees untouched blank = brings_none before after (λ p. p ≡ Object page) old new frees.pages.files

  held_slot : (c : Picture mode) (p : PageKey) (k : ℕ) → c.place p ≡ Slot (record { 0 = k }) → held c p ≡ Some (c.slots.bytes k)
  unfolding held
  held_slot c p k at = ap (λ y. bytes_at c.frames c.slots y) at

  -- from its slot
  pub brings_slot_of : (before after : AnyStore D) (old new : Picture mode) (page : PageKey) (k : ℕ) (r : Result FrameNo Stall) → IfOk r (λ n. ObtainsCached old new page n.0) → OnErr r (Frees old new None)
      → old.place page ≡ Slot (record { 0 = k }) → IfOk r (λ n. bytes_of new.frames n.0 ≡ old.slots.bytes k) → BringsPages g before after (λ p. p ≡ page) old new
  brings_slot_of before after old new page k (Ok n) obtains frees at same = brought_in before after old new page n.0 obtains
      (Stays (held_here obtains.found new page n.0 obtains.fit obtains.brings ∙ ap (λ w. Some w) same ∙ sym (held_slot old page k at)))
  brings_slot_of before after old new page k (Err s) obtains frees at same = brings_none before after (λ p. p ≡ page) old new frees.pages.files

-- a page at home isn't touched
pub untouched_home : {mode : ℕ} (c : Picture mode) (p : PageKey) → IsFit c → c.place p ≡ Home → c.touched p ≡ false
untouched_home c p fit home = false_from_ne_true _ (λ touched. fit.dirty.held p touched home)

-- what asks for a frame doesn't stall for the store device
pub no_store : {M : Type 0} {m : Levels.Ghosts M} → {D E : Type 0} (h : Ghosts E) (old new : Core D E M m) (stall : Stall) → StallCause h old new stall → stall ≡ StoreDevice → ⊥
no_store h old new stall cause is = subst (StallCause h old new) is cause

module _ {M : Type 0} {m : Levels.Ghosts M} {D : Type 0} (g : Ghosts D) where
  module _ {E : Type 0} (h : Ghosts E) where
    -- what a stall of the swap device's layer is by both devices
    pub cause_of : (old new : Core D E M m) (stall : Stall) → new.store ≡ old.store → StallCause h old new stall → ReadCause g h old new stall
    cause_of old new StoreDevice same c = absurd c
    cause_of old new stall same c = (c.0, ap (λ (s : AnyStore D). g.failures (disk_of s)) same, c.1)

    pub causes_of : (old new : Core D E M m) (r : Result FrameNo Stall) → new.store ≡ old.store → HasStallCause h old new r → HasReadCause g h old new r
    causes_of old new (Ok n) same c = (c.0, ap (λ (s : AnyStore D). g.failures (disk_of s)) same, c.1)
    causes_of old new (Err s) same c = cause_of old new s same c

    pub never_store : (Q : Type 0) (old new : Core D E M m) (r : Result FrameNo Stall) → HasStallCause h old new r → IfErr r (λ stall. stall ≡ StoreDevice → Q)
    never_store Q old new (Ok n) c = tt
    never_store Q old new (Err s) c = λ is. absurd (no_store h old new s c is)

-- a reason for which a frame was refused is one too where the store's device has no part in it
pub refused_but : (P : Stall → Type 0) (r : Result FrameNo Stall) → IfErr r P → IfErr r (λ stall. stall ≢ StoreDevice → P stall)
refused_but P (Ok n) refuses = tt
refused_but P (Err s) refuses = λ other. refuses

pub err_always : (Q : Stall → Type 0) (r : Result FrameNo Stall) → ((s : Stall) → Q s) → IfErr r Q
err_always Q (Ok n) q = tt
err_always Q (Err s) q = q s

pub keeps_seen : {mode : ℕ} (old new : Picture mode) → KeepsPages old new → KeepsSeen old new
keeps_seen old new pages = record { views = pages.views; touched = pages.files.touched }

held_at : {mode : ℕ} (old new : Picture mode) (p : PageKey) (place : Place) → old.place p ≡ place → new.place p ≡ old.place p → ((n : FrameNo) → old.place p ≡ Frame n → bytes_of new.frames n.0 ≡ bytes_of old.frames n.0)
    → new.slots ≡ old.slots → bytes_at new.frames new.slots place ≡ bytes_at old.frames old.slots place
held_at old new p Home at place bytes slots = refl
held_at old new p (Frame n) at place bytes slots = ap (λ b. Some b) (bytes n at)
held_at old new p (Slot k) at place bytes slots = ap (λ s. Some (s.bytes k.0)) slots

-- a file page that was marked touched has the bytes that it had
pub held_marked : {mode : ℕ} (old new : Picture mode) (touched : PageKey) → MarksTouched old new touched → new.slots ≡ old.slots → (p : PageKey) → held new p ≡ held old p
unfolding held
held_marked old new touched marks slots p = ap (bytes_at new.frames new.slots) (marks.place p) ∙ held_at old new p (old.place p) refl (marks.place p) (marks.bytes p) slots

-- and all that were touched still are
pub still_touched : {mode : ℕ} (old new : Picture mode) (page : PageKey) → MarksTouched old new page → KeepsTouched old new
still_touched old new page marks p touched = elim (cases_page p page) [
  | inl e ↦ ap new.touched e ∙ marks.touched
  | inr other ↦ marks.others p other ∙ touched
]

module _ {D : Type 0} (g : Ghosts D) where
  -- reading the store changes no file
  pub files_read : (old new : AnyStore D) → ReadsStore g old new → (f : ℕ) → files_of new f ≡ files_of old f
  files_read old new reads f = ap (λ d. files_in d f) (ap (λ k. directory_in k new.sizes.items) reads.same ∙ ap (λ z. directory_in (kept_of old) z) reads.sizes)

module _ {M : Type 0} {m : Levels.Ghosts M} {D : Type 0} (g : Ghosts D) where
  module _ {E : Type 0} (h : Ghosts E) where
    -- frames were given up before
    pub proceeds_after : (a b c : Core D E M m) → Moves h a b → Proceeds g h b c → Proceeds g h a c
    proceeds_after a b c p q =
        let tables = tables_then (picture_of a) (picture_of b) (picture_of c) p.spaces.root p.tables q.tables in
        let reads = subst (λ (s : AnyStore D). ReadsStore g s c.store) p.store q.reads in
        search (rules, spaces_then, room_then, device_then)

    -- or after
    pub proceeds_then : (a b c : Core D E M m) → Proceeds g h a b → Moves h b c → Proceeds g h a c
    proceeds_then a b c p q =
        let ready = subst (λ (s : AnyStore D). IsReadySized g s) (sym q.store) p.ready in
        let tables = tables_then (picture_of a) (picture_of b) (picture_of c) p.spaces.root p.tables q.tables in
        let reads = subst (λ (s : AnyStore D). ReadsStore g a.store s) (sym q.store) p.reads in
        search (rules, spaces_then, room_then, device_then)

    pub proceeds_moves : (a b : Core D E M m) → IsReadySized g a.store → Moves h a b → Proceeds g h a b
    proceeds_moves a b ready q =
        let ready = subst (λ (s : AnyStore D). IsReadySized g s) (sym q.store) ready in
        let reads = reads_none g a.store b.store q.store in
        search rules

    -- a stall after a step in which neither device failed and no frame was refused
    pub cause_then : (a b c : Core D E M m) (stall : Stall) → h.failures b.swap.pages.disk ≡ h.failures a.swap.pages.disk → b.refused.number ≡ a.refused.number
        → g.failures (disk_of b.store) ≡ g.failures (disk_of a.store) → ReadCause g h b c stall → ReadCause g h a c stall
    cause_then a b c SwapDevice swap_calm same calm x = (x.0 ∙ same, x.1 ∙ calm, (let m = x.2 in omega (arith, swap_calm, m)))
    cause_then a b c StoreDevice swap_calm same calm x = (x.0 ∙ same, (let m = x.1 in omega (arith, calm, m)), x.2 ∙ swap_calm)
    cause_then a b c stall swap_calm same calm x = (x.0 ∙ ap (λ n. n + 1) same, x.1 ∙ calm, x.2 ∙ swap_calm)

    -- nothing is counted in two steps, one after the other
    pub counts_then : (a b c : Core D E M m) → CountsNothing g h a b → CountsNothing g h b c → CountsNothing g h a c
    counts_then a b c p q = (q.0 ∙ p.0, q.1 ∙ p.1, q.2 ∙ p.2)

    -- nor where one entry changed
    pub counts_calm : (a b : Core D E M m) (pid page : ℕ) → IsCalm a b pid page → CountsNothing g h a b
    counts_calm a b pid page calm = (calm.refused, ap (λ (s : AnyStore D). g.failures (disk_of s)) calm.store, ap (λ s. h.failures s.pages.disk) calm.swap)

    -- nor where a frame was had, and the store was left alone
    pub counts_done : (a b : Core D E M m) (r : Result FrameNo Stall) → b.store ≡ a.store → HasStallCause h a b r → OnOk r (CountsNothing g h a b)
    counts_done a b (Ok n) same done = (done.0, ap (λ (s : AnyStore D). g.failures (disk_of s)) same, done.1)
    counts_done a b (Err s) same done = tt

pub on_ok_then : (P Q : Type 0) (r : Result FrameNo Stall) → (P → Q) → OnOk r P → OnOk r Q
on_ok_then P Q (Ok n) each p = each p
on_ok_then P Q (Err s) each p = tt

-- a frame was asked for, and then a slot read
module _ {M : Type 0} {m : Levels.Ghosts M} {D E : Type 0} (h : Ghosts E) where
  pub asks_read : (old taken : Core D E M m) (got : Swap E) (keep : Option FrameNo) (also : ℕ → Type 0) (s : ℕ) → ((k : ℕ) → IsSectorOfSlot s k → also k) → AsksSwap h old taken keep
      → AsksOnly h (IsSectorOfSlot s) taken.swap.pages.disk got.pages.disk → AsksOnly h (MayAsk (picture_of old) (IsFull old.frames) keep also) old.swap.pages.disk got.pages.disk
  asks_read old taken got keep also s more asked read =
      asks_then h (MayAsk (picture_of old) (IsFull old.frames) keep also) old.swap.pages.disk taken.swap.pages.disk got.pages.disk (asks_swap h old taken keep also asked)
      (asks_wider h (IsSectorOfSlot s) (MayAsk (picture_of old) (IsFull old.frames) keep also) taken.swap.pages.disk got.pages.disk (λ k is. inl (more k is)) read)

-- the store is as it was
module _ {D : Type 0} (g : Ghosts D) where
  pub store_same : (W : ℕ → Type 0) (old new : AnyStore D) → new ≡ old → AsksOnly g W (disk_of old) (disk_of new)
  store_same W old new same = asks_none g W (disk_of old) (disk_of new) (λ k. ap (λ (s : AnyStore D). g.asked (disk_of s) k) same)

  pub once_same : (W : ℕ → Type 0) (old new : AnyStore D) → new ≡ old → NamesOnce W (g.asked (disk_of old)) (g.asked (disk_of new))
  once_same W old new same = once_none W (g.asked (disk_of old)) (g.asked (disk_of new)) (λ k. ap (λ (s : AnyStore D). g.asked (disk_of s) k) same)

cases_slot : (y : Place) (s : ℕ) → (y ≡ Slot (record { 0 = s })) ⊎ (y ≢ Slot (record { 0 = s }))
cases_slot (Slot k) s = ⊎_elim (λ e. inl (ap (λ x. Slot (record { 0 = x })) e)) (λ ne. inr (λ e. ne (one_slot k.0 s e))) (cases_eq k.0 s)
cases_slot y s = inr (λ e. (cc))

-- a page of a file or an object was brought into a frame
module _ {mode : ℕ} (old new : Picture mode) (page : PageKey) (n : ℕ) (brings : BringsIn old new page n) where
  slots_brought : (k : ℕ) → IsSectorOfFreeSlot new.slots k → IsSectorOfFreeSlot old.slots k ⊎ IsSectorOfPage old page k
  slots_brought k free = elim (cases_slot (old.place page) free.0) [
    | inl here ↦ inr (record { 0 = free.0 }, here, free.3)
    | inr ne ↦ inl (free.0, (let low = free.1 in let same = brings.slots.total in omega (arith, low, same)), sym (brings.slots.counts free.0 ne) ∙ free.2, free.3)
  ]

  swappable_brought : HasSwappable new (Some (record { 0 = n })) → HasSwappable old None
  swappable_brought has =
      let role = brings.frames.roles has.0 has.1.1 in
      let datum = sym (ap is_data role) ∙ has.1.0 in
      elim has.2 [
        | inl own ↦ (has.0, (datum, λ none. none), inl (sym role ∙ own))
        | inr filed ↦ elim (cases_page filed.0 page) [
          | inl is ↦ absurd (has.1.1 (sym (one_frame has.0 n (sym filed.1 ∙ ap new.place is ∙ brings.placed))))
          | inr other ↦ (has.0, (datum, λ none. none), inr (filed.0, sym (brings.others filed.0 other) ∙ filed.1, sym (brings.touched filed.0) ∙ filed.2))
        ]
      ]

-- a frame was obtained, and such a page brought into it that lay in none
module _ {mode : ℕ} (old new : Picture mode) (page : PageKey) (fit : IsFit old) (away : (k : FrameNo) → old.place page ≢ Frame k) where
  still_there : (found : Picture mode) → Frees old found None → (s : ℕ) (y : Place) → old.place page ≡ y → found.place page ≡ Slot (record { 0 = s }) → old.place page ≡ Slot (record { 0 = s })
  still_there found frees s Home is at = absurd (let bad : Home ≡ Slot (record { 0 = s }) = sym (frees.home page is) ∙ at in (cc))
  still_there found frees s (Frame k) is at = absurd (away k is)
  still_there found frees s (Slot k) is at = is ∙ sym (frees.slotted page k.0 is) ∙ at

  no_new_came : (n : FrameNo) → ObtainsCached old new page n.0 → AsksNoNew old new (Some n) (IsSectorOfPage old page)
  no_new_came n obtains =
      let found : Picture mode = obtains.found in
      let freed = no_new_frees old found None obtains.frees fit in
      record {
        slots = λ k free. elim (slots_brought found new page n.0 obtains.brings k free) [
          | inl was ↦ on_right absurd (freed.slots k was)
          | inr there ↦ inr (there.0, still_there found obtains.frees there.0.0 (old.place page) refl there.1, there.2)
        ];
        frames = λ has. freed.frames (swappable_brought found new page n.0 obtains.brings has);
      }

  pub no_new_of : (r : Result FrameNo Stall) → IfOk r (λ n. ObtainsCached old new page n.0) → IfOk r (λ n. AsksNoNew old new (Some n) (IsSectorOfPage old page))
  no_new_of r = ok_then _ _ r no_new_came

-- such a page was brought in, or wasn't, and nothing read from the store
module _ {M : Type 0} {m : Levels.Ghosts M} {D E : Type 0} (g : Ghosts D) (h : Ghosts E) {before after : Core D E M m} {page : PageKey} {r : Result FrameNo Stall} where
  pub pages_in_beside : IsFit (picture_of before) → IsReadySized g before.store → ((k : FrameNo) → (picture_of before).place page ≢ Frame k) → ComesIn before after page r → KeepsRest before after → (IsFull before.frames → IfOk r (IsLeftBut before after None))
      → {also : ℕ → Type 0} → UsesSwap h before after also r → IsRefused h before after None r → AsksIfFull h before after None (IsSectorOfPage (picture_of before) page)
      → BringsFiles g h (λ p. p ≡ page) before after → PagesIn g h before after page r
  pages_in_beside fit store away comes rest aged uses refused asks brings =
      let keeps = keeps_in comes in
      let placed = placed_in comes in
      let only = only_in comes in
      let chance = chance_came before after page r comes.brought aged in
      let ready = subst (λ (s : AnyStore D). IsReadySized g s) (sym rest.store) store in
      let reads = reads_none g before.store after.store rest.store in
      let asks_store = store_same g (IsSectorOfStoredPage before.store page) before.store after.store rest.store in
      let once_store = once_same g (IsSectorOfStoredPage before.store page) before.store after.store rest.store in
      let asks_later = no_new_of (picture_of before) (picture_of after) page fit away r comes.brought in
      let cause = causes_of g h before after r rest.store refused.cause in
      let home = never_store g h (IsInStore (picture_of before) page) before after r refused.cause in
      let refuses = refused_but _ r refused.refuses in
      search rules
