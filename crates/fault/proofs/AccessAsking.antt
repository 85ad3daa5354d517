-- Which sectors an access asks for, from step to step.
use Rattle.fault.proofs.{AccessSteps.{keeps_seen}, Asking.{asks_slots_any, asks_slots_if, asks_slots_kept, asks_slots_same, asks_slots_then, asks_slots_wider}, Forms.{none_common, seat_zero}, Linked.{as_before, lacks_none}, Names.{top_level, Access}}
use Rattle.fault.proofs.Names.{Store, FilePage, FrameNo, SlotNo, PageKey, File, Attr, ◌≡◌, ◌≢◌, ◌<◌, ℕ, true, inl, inr, ◌⊎◌, Option, Some, None, refl, sym, ap, ◌∙◌, subst, arith, cases_Bool, cases_lt, Ghosts, AsksOnly, Nothing, NamesOnce}
use Rattle.fault.proofs.Names.{asks_none, asks_once, once_none, once_wider, asks_wider, AnyStore, IsSectorOf, IsFull, frame_count, Swap, inside_of, IsPage, Place, Home, Frame, Slot, Core, InSlot, seat, is_private, is_swapped, Picture}
use Rattle.fault.proofs.Names.{picture_of, entry, is_data, IsOwned}
use Rattle.fault.proofs.{Steps.{on_right}, Names.{otherwise, true_from_ne_false, ⊎_elim, IsFit, GivesForTables, KeepsRolesBut, KeepsPages, KeepsFiles, IsWhole, holders_none, seat_common, seat_own}, OwnSteps.{shown_common}, Wanted.{cases_frame, shows_back}}
use Rattle.fault.specs.{AccessAsking.{IsSectorOfItsSlot, IsSectorShown, AsksForPage}, Asking.{HasSwappable, MayAsk, AsksIfFull, AsksNoNew, AsksSlotsIf, IsSectorOfStoredPage, IsSectorOfPage}, Changes.{IsCalm, KeepsBare, KeepsSlotted, LinksTables, Moves}}
use Rattle.{fault.specs.{Changes.{copied_frame, frame_behind, frame_of_place}, Wants.{LacksTable, RunsOut, ShowsFile, WantsTwo}}, vm_types.specs.declared.region.Backing.TheVariants.{Private}}
use Rattle.vm_types.specs.declared.mode.Levels as Levels
use Rattle.sized_stores.specs.Store.{disk_of}

-- an entry that names a slot as the seat of its page is one of a page that lies in a slot
away_of : (e k : ℕ) → seat e ≡ Some (InSlot k) → is_swapped e ≡ true
away_of e k there = true_from_ne_false _ (λ here. elim (cases_Bool (is_private e)) [
  | inl own ↦ (let bad = sym (seat_own e own) ∙ there in (cc))
  | inr common ↦ (let bad = sym (seat_common e common here) ∙ there in (cc))
])

one_slot : (j k : SlotNo) → Slot j ≡ Slot k → j ≡ k
one_slot j k same = (cc)

-- more sectors may have come
no_new_wider : {mode : ℕ} (old new : Picture mode) (keep : Option FrameNo) (also : ℕ → Type 0) → AsksNoNew old new keep Nothing → AsksNoNew old new keep also
no_new_wider old new keep also none = record {
  slots = λ k is. on_right absurd (none.slots k is);
  frames = none.frames;
}

-- A page of a file or an object that lies in a slot lay there, or in a frame that had to be given up for that, and the slot was free.
module _ {mode : ℕ} (old new : Picture mode) (fit : IsFit old) (now : IsFit new) (files : KeepsFiles old new) (slotted : KeepsSlotted (λ p. ⊥) (λ q p. ⊥) old new) (p : PageKey) (s : SlotNo)
    (there : new.place p ≡ Slot s) where
  stays : (q : PageKey) (k : SlotNo) → old.place q ≡ Slot k → new.place q ≡ Slot k
  stays q k at = otherwise (slotted.file_pages q k at) (λ none. none)

  -- no own copy lay in the slot
  unseated : IsOwned old (InSlot s.0) → ⊥
  unseated owned =
      let pages = fit.counted.0 in
      let named : (q : ℕ) → seat (entry old q (pages s.0)) ≢ Some (InSlot s.0) = λ q at. (
      let h = fit.counted.1.pages (InSlot s.0) owned in
      ⊎_elim (λ none. none) (λ same. (now.counted.1.named q (pages s.0) (InSlot s.0) h (ap seat same ∙ at)).1 p there) (slotted.copies q (pages s.0) h (away_of (entry old q (pages s.0)) s.0 at))) in
      let count = fit.counted.1.counts (InSlot s.0) owned in
      let none = holders_none (entry old) (pages s.0) (InSlot s.0) named in
      let some = owned.0 in
      omega (arith, count, none, some)

  was_free : (n : FrameNo) → old.place p ≡ Frame n → old.slots.count s.0 ≡ 0
  was_free n at = elim (cases_lt 0 (old.slots.count s.0)) [
    | inl some ↦ absurd (elim (fit.places.used s.0 some) [
      | inl owned ↦ unseated owned
      | inr other ↦ (
          let q = other.0 in
          let same : q ≡ p = now.places.apart q p (stays q s other.1 ∙ sym there) (λ home. (let bad : Home ≡ Slot s = sym home ∙ stays q s other.1 in (cc))) in
          let bad : Frame n ≡ Slot s = sym at ∙ ap old.place (sym same) ∙ other.1 in
          (cc))
    ])
    | inr none ↦ omega (arith, none)
  ]

  lay_by : (place : Place) → old.place p ≡ place → (old.place p ≡ Slot s) ⊎ (((n : FrameNo) × (old.place p ≡ Frame n)) × HasSwappable old None × (old.slots.count s.0 ≡ 0))
  lay_by Home at = absurd (fit.dirty.held p (sym (files.touched p) ∙ now.dirty.slotted p s.0 there) at)
  lay_by (Slot k) at = inl (at ∙ ap (λ (j : SlotNo). Slot j) (one_slot k s (sym (stays p k at) ∙ there)))
  lay_by (Frame n) at =
      inr ((n, at), (n.0, (ap is_data (fit.places.cached p n.0 at), λ none. none), inr (p, at, sym (files.touched p) ∙ now.dirty.slotted p s.0 there)), was_free n at)

  lay : (old.place p ≡ Slot s) ⊎ (((n : FrameNo) × (old.place p ≡ Frame n)) × HasSwappable old None × (old.slots.count s.0 ≡ 0))
  lay = lay_by (old.place p) refl

-- no frame is free
pub now_out : {mode : ℕ} (c : Picture mode) (pid page : ℕ) (access : Access) → IsFull c.frames → RunsOut c pid page access
now_out c pid page access full = record { linked = c; made = inl refl; short = inl full }

-- or none once tables were made
pub tables_out : {mode : ℕ} (old mid : Picture mode) (pid page : ℕ) (access : Access) (tried : Option ℕ) → LacksTable old pid page → GivesForTables old mid tried → LinksTables old mid pid page → IsFull mid.frames
    → RunsOut old pid page access
tables_out old mid pid page access tried lacks gives tables full =
    record { linked = mid; made = inr (record { lacks = lacks; tried = tried; gives = gives; tables = tables }); short = inl full }

-- or none once a page of a file was brought into a frame that a store copies
pub brought_out : {mode : ℕ} (old mid : Picture mode) (pid page : ℕ) (p : PageKey) (n : FrameNo) → ShowsFile old pid page p → frame_count mid.frames ≡ frame_count old.frames
    → IsFull old.frames ⊎ KeepsRolesBut old mid n.0 → ((k : FrameNo) → old.place p ≡ Frame k → mid ≡ old) → IsFull mid.frames → RunsOut old pid page Store
brought_out old mid pid page p n shows count (inl full) idle now = now_out old pid page Store full
brought_out old mid pid page p n shows count (inr only) idle now = elim (cases_frame (old.place p)) [
  | inl there ↦ now_out old pid page Store (let P : Picture _ → Type 0 = λ c. IsFull c.frames in subst P (idle there.0 there.1) now)
  | inr away ↦ record {
    linked = old;
    made = inl refl;
    short = inr (record {
      stores = refl;
      file = p;
      shows = shows;
      away = away;
      last = n.0;
      full = λ k inside ne free. (now k (subst (λ (i : ℕ). k < i) (sym count) inside) (only k ne ∙ free));
    });
  }
]

module _ {M : Type 0} {m : Levels.Ghosts M} {D E : Type 0} (g : Ghosts D) (h : Ghosts E) where
  -- the store wasn't asked, and swap for less
  pub asks_less : (old new : Core D E M m) (pid page : ℕ) (access : Access) (full : Type 0) (keep : Option FrameNo) (few : ℕ → Type 0) → new.store ≡ old.store
      → ((k : ℕ) → few k → IsSectorOfItsSlot (picture_of old) pid page k) → (full → RunsOut (picture_of old) pid page access) → AsksSlotsIf h full old new keep few → AsksForPage g h old new pid page access
  asks_less old new pid page access full keep few same less out asks = record {
    store = asks_none g _ (disk_of old.store) (disk_of new.store) (λ k. ap (λ (s : AnyStore D). g.asked (disk_of s) k) same);
    once = once_none (IsSectorShown old pid page) (g.asked (disk_of old.store)) (g.asked (disk_of new.store)) (λ k. ap (λ (s : AnyStore D). g.asked (disk_of s) k) same);
    swap = asks_slots_if h (RunsOut (picture_of old) pid page access) old new None (IsSectorOfItsSlot (picture_of old) pid page) out
        (asks_slots_wider h old new None few (IsSectorOfItsSlot (picture_of old) pid page) (λ k is. inl (less k is)) (asks_slots_any h old new keep few asks));
  }

  -- neither device was asked
  pub asks_same : (old new : Core D E M m) (pid page : ℕ) (access : Access) → new.store ≡ old.store → new.swap ≡ old.swap → AsksForPage g h old new pid page access
  asks_same old new pid page access store swap = asks_less old new pid page access ⊥ None Nothing store (λ k none. absurd none) (λ none. absurd none) (asks_slots_same h old new None Nothing swap)

  pub asks_calm : (old new : Core D E M m) (pid page : ℕ) (access : Access) → IsCalm old new pid page → AsksForPage g h old new pid page access
  asks_calm old new pid page access calm = asks_same old new pid page access calm.store calm.swap

  module _ (old mid : Core D E M m) (pid page : ℕ) (access : Access) (p : PageKey) (shows : ShowsFile (picture_of old) pid page p) (swap : AsksIfFull h old mid None (IsSectorOfPage (picture_of old) p))
      (store : NamesOnce (IsSectorOfStoredPage old.store p) (g.asked (disk_of old.store)) (g.asked (disk_of mid.store))) where
    of_file : (k : ℕ) → IsSectorOfStoredPage old.store p k → IsSectorShown old pid page k
    of_file k is = (is.0, (let P : PageKey → Type 0 = λ x. ShowsFile (picture_of old) pid page x in subst P is.1 shows), is.2)

    file_once : (new : Core D E M m) → new.store ≡ mid.store → NamesOnce (IsSectorShown old pid page) (g.asked (disk_of old.store)) (g.asked (disk_of new.store))
    file_once new same =
        let P : AnyStore D → Type 0 = λ s. NamesOnce (IsSectorOfStoredPage old.store p) (g.asked (disk_of old.store)) (g.asked (disk_of s)) in
        once_wider (IsSectorOfStoredPage old.store p) (IsSectorShown old pid page) (g.asked (disk_of old.store)) (g.asked (disk_of new.store)) of_file (subst P (sym same) store)

    file_asked : (new : Core D E M m) → new.store ≡ mid.store → AsksOnly g (IsSectorShown old pid page) (disk_of old.store) (disk_of new.store)
    file_asked new same = asks_once g (IsSectorShown old pid page) (IsSectorShown old pid page) (disk_of old.store) (disk_of new.store) (λ k is. is) (file_once new same)

    slot_asked : (new : Core D E M m) → AsksSlotsIf h (RunsOut (picture_of old) pid page access) old new None (IsSectorOfPage (picture_of old) p)
        → AsksSlotsIf h (RunsOut (picture_of old) pid page access) old new None (IsSectorOfItsSlot (picture_of old) pid page)
    slot_asked new = asks_slots_wider h old new None (IsSectorOfPage (picture_of old) p) (IsSectorOfItsSlot (picture_of old) pid page) (λ k is. inl (inr (p, shows, is)))

    swap_out : AsksSlotsIf h (RunsOut (picture_of old) pid page access) old mid None (IsSectorOfPage (picture_of old) p)
    swap_out = asks_slots_if h (RunsOut (picture_of old) pid page access) old mid None (IsSectorOfPage (picture_of old) p) (now_out (picture_of old) pid page access) swap

    -- the page of a file or an object that the page shows was brought into a frame
    pub asks_brought : AsksForPage g h old mid pid page access
    asks_brought = record { store = file_asked mid refl; once = file_once mid refl; swap = slot_asked mid swap_out }

    -- and then neither device was asked
    pub asks_still : (new : Core D E M m) → new.store ≡ mid.store → new.swap ≡ mid.swap → AsksForPage g h old new pid page access
    asks_still new same kept = record { store = file_asked new same; once = file_once new same; swap = slot_asked new (asks_slots_kept h old mid new None (IsSectorOfPage (picture_of old) p) (ap (λ (s : Swap E). s.pages) kept) swap_out) }

    -- or a frame was taken that it is copied into
    pub asks_copied : (new : Core D E M m) (n : FrameNo) (keep : Option FrameNo) → keep ≡ Some n → AsksNoNew (picture_of old) (picture_of mid) (Some n) (IsSectorOfPage (picture_of old) p)
        → (IsFull mid.frames → RunsOut (picture_of old) pid page access) → new.store ≡ mid.store → AsksIfFull h mid new keep Nothing → AsksForPage g h old new pid page access
    asks_copied new n keep is none out same more =
        let P : Option FrameNo → Type 0 = λ o. AsksIfFull h mid new o Nothing in
        record {
          store = file_asked new same;
          once = file_once new same;
          swap = slot_asked new (asks_slots_then h (IsFull mid.frames) old mid new (Some n) (IsSectorOfPage (picture_of old) p) Nothing swap_out none out (subst P is more) (λ k no_sector. absurd no_sector));
        }

  -- tables were linked before
  module _ (old mid new : Core D E M m) (pid page : ℕ) (access : Access) (fit : IsFit (picture_of old)) (lives : (r : ℕ) × ((picture_of old).root pid ≡ Some r)) (inside : IsPage (top_level m.mode) page)
      (idle : IsWhole (picture_of old) pid page → mid ≡ old) (moves : Moves h old mid) (pages : KeepsPages (picture_of old) (picture_of mid)) (bare : KeepsBare (picture_of old) (picture_of mid))
      (slotted : KeepsSlotted (λ p. ⊥) (λ q p. ⊥) (picture_of old) (picture_of mid)) (whole : IsWhole (picture_of mid) pid page) (gives : GivesForTables (picture_of old) (picture_of mid) None)
      (tables : LinksTables (picture_of old) (picture_of mid) pid page) where
    shown_before : (p : PageKey) → ShowsFile (picture_of mid) pid page p → ShowsFile (picture_of old) pid page p
    shown_before p = shows_back (picture_of old) (picture_of mid) pid page p pages.at (keeps_seen (picture_of old) (picture_of mid) pages)

    below : (p : PageKey) (s : SlotNo) → (picture_of mid).place p ≡ Slot s → s.0 < (picture_of old).slots.total
    below p s there =
        let one = moves.fit.places.slotted p s.0 there in
        let room = moves.room.slots in
        let low = inside_of mid.swap.counts s.0 (omega (arith, one)) in
        omega (arith, room, low)

    -- no frame is free, or one alone where two are wanted, in memory as the tables leave it
    out_after : IsFull mid.frames ⊎ WantsTwo (picture_of mid) pid page access → RunsOut (picture_of old) pid page access
    out_after short = as_before (λ (c : Core D E M m). RunsOut (picture_of c) pid page access) lives idle (record { linked = picture_of mid; made = inl refl; short = short })
        (λ lacks. record { linked = picture_of mid; made = inr (record { lacks = lacks; tried = None; gives = gives; tables = tables }); short = short })

    out_before : RunsOut (picture_of mid) pid page access → RunsOut (picture_of old) pid page access
    out_before out = elim out.made [
      | inl same ↦ out_after (let P : Picture m.mode → Type 0 = λ c. IsFull c.frames ⊎ WantsTwo c pid page access in subst P same out.short)
      | inr makes ↦ absurd (makes.lacks.missing (whole makes.lacks.root makes.lacks.lives))
    ]

    -- a page that lay in a frame, and lies in a slot, was given up for a table
    out_given : (p : PageKey) (n : FrameNo) (s : SlotNo) → (picture_of old).place p ≡ Frame n → (picture_of mid).place p ≡ Slot s → RunsOut (picture_of old) pid page access
    out_given p n s was now = elim gives.needed [
      | inl full ↦ out_after (inl full)
      | inr none ↦ (let bad : Frame n ≡ Slot s = sym was ∙ sym (none.places p) ∙ now in absurd (cc))
    ]

    lacking : LacksTable (picture_of old) pid page → (k : ℕ) → IsSectorOfItsSlot (picture_of mid) pid page k
        → MayAsk (picture_of old) (RunsOut (picture_of old) pid page access) None (IsSectorOfItsSlot (picture_of old) pid page) k
    lacking lacks k (inl copy) =
        absurd (let bad : None ≡ Some (InSlot copy.0) = sym (seat_zero (entry (picture_of mid) pid page) (bare pid page inside (lacks_none (picture_of old) pid page lacks))) ∙ copy.1 in (cc))
    lacking lacks k (inr shown) =
        let p = shown.0 in
        let s = shown.2.0 in
        elim (lay (picture_of old) (picture_of mid) fit moves.fit pages.files slotted p s shown.2.1) [
          | inl was ↦ inl (inr (p, shown_before p shown.1, (s, was, shown.2.2)))
          | inr free ↦ inr (out_given p free.0.0 s free.0.1 shown.2.1, free.1, (s.0, below p s shown.2.1, free.2, shown.2.2))
        ]

    its_before : (k : ℕ) → IsSectorOfItsSlot (picture_of mid) pid page k → MayAsk (picture_of old) (RunsOut (picture_of old) pid page access) None (IsSectorOfItsSlot (picture_of old) pid page) k
    its_before k is = as_before (λ (c : Core D E M m). MayAsk (picture_of c) (RunsOut (picture_of c) pid page access) None (IsSectorOfItsSlot (picture_of c) pid page) k) lives idle (inl is) (λ lacks. lacking lacks k is)

    pub asks_back : AsksNoNew (picture_of old) (picture_of mid) None Nothing → AsksSlotsIf h (IsFull mid.frames) old mid None Nothing → AsksForPage g h mid new pid page access
        → AsksForPage g h old new pid page access
    asks_back none first asks =
        let its = IsSectorOfItsSlot (picture_of old) pid page in
        let out = RunsOut (picture_of old) pid page access in
        let W : AnyStore D → ℕ → Type 0 = λ s k. (f : FilePage) × ShowsFile (picture_of old) pid page (File f) × IsSectorOf s f k in
        let P : AnyStore D → Type 0 = λ s. AsksOnly g (W s) (disk_of s) (disk_of new.store) in
        let Q : AnyStore D → Type 0 = λ s. NamesOnce (W s) (g.asked (disk_of s)) (g.asked (disk_of new.store)) in
        let shown : (k : ℕ) → IsSectorShown mid pid page k → W mid.store k = λ k is. (is.0, shown_before (File is.0) is.1, is.2) in
        record {
          store = subst P moves.store (asks_wider g _ (W mid.store) (disk_of mid.store) (disk_of new.store) shown asks.store);
          once = subst Q moves.store (once_wider _ (W mid.store) (g.asked (disk_of mid.store)) (g.asked (disk_of new.store)) shown asks.once);
          swap = asks_slots_then h (RunsOut (picture_of mid) pid page access) old mid new None its (IsSectorOfItsSlot (picture_of mid) pid page)
              (asks_slots_if h out old mid None its (λ full. out_after (inl full)) (asks_slots_wider h old mid None Nothing its (λ k no_sector. absurd no_sector) first))
              (no_new_wider (picture_of old) (picture_of mid) None its none) out_before asks.swap its_before;
        }

-- the frame that is kept for a copy of a file page that lies in a frame is that one
pub copies_cached : {mode : ℕ} (c : Picture mode) (pid page : ℕ) (a : Attr) (f : FilePage) (n : FrameNo) → a.backing ≡ Private f → seat (entry c pid page) ≡ None → c.place (File f) ≡ Frame n
    → copied_frame c pid page a ≡ Some n
copies_cached c pid page a f n is none there =
    ap (λ (x : ℕ). Some (record { 0 = x }))
    (shown_common c (entry c pid page) a.backing (none_common (entry c pid page) none) ∙ ap (frame_behind c) is ∙ ap frame_of_place there)
