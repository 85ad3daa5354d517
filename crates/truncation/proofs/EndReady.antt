-- The page within which a file ends is ready for another length of the file, or isn't to be had.
use Rattle.vm_types.specs.declared.mode.Levels as Levels
use Rattle.std.proofs.Common.{◌≡◌, ◌≢◌, ℕ, ◌%◌, ◌≤◌, ◌<◌, inl, inr, Bool, true, false, None, Ok, Err, refl, sym, ap, ◌∙◌, subst, arith}
use Rattle.std.proofs.lemmas.Bool.{cases_lt, Decides.{nat_tests}}
use Rattle.std.specs.Prelude.{min, nat_lt}
use Rattle.vm_types.specs.declared.{file.FilePage.{FilePage}, object.PageKey.{PageKey, TheVariants.{File}}, refusal.{Stall.{Stall}}}
use Rattle.disk_model.{proofs.{Moments.{asks_wider}, Naming.{once_wider}}, specs.{Moments.{AsksOnly}, Stop.{NamesOnce}, declared.sector_disk.SectorDisk.{Ghosts}}}
use Rattle.sized_stores.specs.{Store.{directory_of, disk_of, files_in, kept_of, length_of, shortest_in, IsReadySized, IsSectorOf, SizedDirectory, directory_in}, declared.store.SizedStore.{SizedStore}}
use Rattle.frames.{proofs.FrameLemmas.{with_bytes-others}, specs.FrameTable.{IsFull, frame_count}}
use Rattle.page_cache.specs.declared.place.Place.{Place, TheVariants.{Home, Frame}}
use Rattle.swap.specs.{Slots.{slots_of, IsReady}, declared.slots.Swap.{Swap}}
use Rattle.residency.specs.{declared.kernel.Core.{Core}, Calls.{UsesDevice}, Picture.{Picture, picture_of}, Parts.{IsFit}, Reading.{ReadsStore}, Stalls.{CountsNothing}}
use Rattle.fault.proofs.{AccessShowing.{shows_kept}, AccessSteps.{reads_none, brings_none, store_same, once_same}, Asking.{asks_slots_kept, asks_slots_same}, Steps.{device_none, files_same, seen_none, spaces_then, room_then}}
use Rattle.fault.specs.{Asking.{AsksIfFull, IsSectorOfPage, IsSectorOfStoredPage}, Changes.{KeepsSeen, KeepsSpaces}, Files.{BringsPages}}
use Rattle.truncation.proofs.{CutFrames.{held_at}, EndCut.{CutsEnd, cuts_none, cuts_home, cuts_frame}}
use Rattle.truncation.specs.Resizing.{end_page, length_now, page_cut, AreEndsTouched, CutsPage, GoesOn, IsSettled, AtPage, AtHome, LacksPage, MayResize, Resizes, SettlesEnd, NeedsNoCut, NeedsCut, WantsEnd}

-- the page within which each file ended, by what is known of the files, is touched
abbrev pub AreTouched : SizedDirectory → (PageKey → Bool) → Type 0
AreTouched d touched = (f : ℕ) → shortest_in d f < length_of (files_in d f) → shortest_in d f % 4096 ≢ 0 → touched (File (end_page f (shortest_in d f))) ≡ true

stored_here : {D : Type 0} (store : SizedStore D) (p : FilePage) (k : ℕ) → IsSectorOfStoredPage store (File p) k → IsSectorOf store p k
stored_here store p k is = (let same : is.0 ≡ p = (let e = is.1 in (cc)) in subst (λ (x : FilePage). IsSectorOf store x k) same is.2)

-- a store that was read has the files that it had
pub read_same : {D : Type 0} (g : Ghosts D) (old new : SizedStore D) → ReadsStore g old new → directory_of new ≡ directory_of old
read_same g old new reads = ap (λ k. directory_in k new.sizes.items) reads.same ∙ ap (λ z. directory_in (kept_of old) z) reads.sizes

-- a file that needs its page cut, which is at home, gets no shorter
not_shorter : {mode : ℕ} (c : Picture mode) (file was length : ℕ) → (IsSettled c file was length → ⊥) → c.place (File (end_page file (min was length))) ≡ Home → was ≤ length
not_shorter c file was length wants home = elim (cases_lt length was) [
  | inr less ↦ less
  | inl shorter ↦ absurd (let end : min was length ≡ length = omega (arith, shorter) in wants (AtHome shorter (ap (λ n. c.place (File (end_page file n))) (sym end) ∙ home)))
]

module _ {M : Type 0} {m : Levels.Ghosts M} {D E : Type 0} (g : Ghosts D) (h : Ghosts E) where
  -- Whatever was done for it, but that the page was cut, nobody sees.
  pub record ReadyEnd (old new : Core D E M m) (file end : ℕ) (longer : Bool) : Type 0 where
    pub goes_on : GoesOn g h old new
    pub reads : ReadsStore g old.store new.store
    pub counts : CountsNothing g h old new
    pub asks : AsksOnly g (IsSectorOf old.store (end_page file end)) (disk_of old.store) (disk_of new.store)
    pub once : NamesOnce (IsSectorOf old.store (end_page file end)) (g.asked (disk_of old.store)) (g.asked (disk_of new.store))
    pub asks_swap : AsksIfFull h old new None (IsSectorOfPage (picture_of old) (File (end_page file end)))
    pub found : Picture m.mode
    pub found_fit : IsFit found
    pub found_spaces : KeepsSpaces (picture_of old) found
    pub brings : h.keeps_model new.swap.pages.disk → BringsPages g old.store new.store (λ q. q ≡ File (end_page file end)) (picture_of old) found
    pub seen : KeepsSeen (picture_of old) found
    pub cuts : CutsEnd found (picture_of new) file end longer

  spaces_none : (c : Core D E M m) → KeepsSpaces (picture_of c) (picture_of c)
  spaces_none c = record { root = λ pid. refl; at = λ pid page. refl }

  -- nothing was done
  none_done : (c : Core D E M m) (file length end : ℕ) (longer : Bool) → MayResize g h c file length → CutsEnd (picture_of c) (picture_of c) file end longer → ReadyEnd c c file end longer
  none_done c file length end longer may cuts = record {
    goes_on = record {
      fit = may.fit;
      ready = may.store;
      swap = may.swap;
      spaces = spaces_none c;
      room = record { frames = refl; slots = refl };
      device = device_none h c.swap.pages.disk;
    };
    reads = reads_none g c.store c.store refl;
    counts = (refl, refl, refl);
    asks = store_same g (IsSectorOf c.store (end_page file end)) c.store c.store refl;
    once = once_same g (IsSectorOf c.store (end_page file end)) c.store c.store refl;
    asks_swap = asks_slots_same h {full = IsFull c.frames} c c None (IsSectorOfPage (picture_of c) (File (end_page file end))) refl;
    found = picture_of c;
    found_fit = may.fit;
    found_spaces = spaces_none c;
    brings = λ kept. brings_none g c.store c.store (λ q. q ≡ File (end_page file end)) (picture_of c) (picture_of c) (files_same (picture_of c));
    seen = seen_none (picture_of c);
    cuts = cuts;
  }

  left_as_is : (c : Core D E M m) (file was length : ℕ) → MayResize g h c file length → IsSettled (picture_of c) file was length → ReadyEnd c c file (min was length) (nat_lt was length)
  left_as_is c file was length may (AtPage none) = none_done c file length (min was length) (nat_lt was length) may (cuts_none (picture_of c) file (min was length) (nat_lt was length) none)
  left_as_is c file was length may (AtHome less home) =
      let end : length ≡ min was length = omega (arith, less) in
      let longer : false ≡ nat_lt was length = (let e : nat_lt was length ≡ false = grind (arith, nat_tests, less) in sym e) in
      none_done c file length (min was length) (nat_lt was length) may
      (subst (λ b. CutsEnd (picture_of c) (picture_of c) file (min was length) b) longer (cuts_home (picture_of c) file (min was length) (ap (λ n. (picture_of c).place (File (end_page file n))) (sym end) ∙ home)))

  module _ (old new : Core D E M m) (file end : ℕ) (longer : Bool) (some : end % 4096 ≢ 0) (page : CutsPage g h old new (end_page file end) (end % 4096) longer) where
    abbrev p : FilePage
    p = end_page file end

    abbrev found : Core D E M m
    found = page.found

    abbrev placed : (picture_of found).place (File p) ≡ Frame page.frame
    placed = page.brings.placed

    found_is_fit : IsFit (picture_of found)
    found_is_fit = page.brings.proceeds.fit

    cuts_end : CutsEnd (picture_of found) (picture_of new) file end longer
    cuts_end = cuts_frame found new file end page.frame.0 longer some found_is_fit (held_at (picture_of found) (File p) page.frame.0 found.sound found_is_fit page.brings.placed) page.brings.placed page.cuts

    spaces_cut : KeepsSpaces (picture_of found) (picture_of new)
    spaces_cut = record { root = cuts_end.root; at = cuts_end.at }

    frames_cut : frame_count new.frames ≡ frame_count found.frames
    frames_cut = ap (λ t. frame_count t) page.cuts.frames ∙ (with_bytes-others found.frames page.frame.0 _).frames

    cut_ready : ReadyEnd old new file end longer
    cut_ready =
        let b = page.brings in
        let done = b.proceeds in
        let store : found.store ≡ new.store = sym page.cuts.store in
        let swap : found.swap ≡ new.swap = sym page.cuts.swap in
        let asks = asks_wider g (IsSectorOfStoredPage old.store (File p)) (IsSectorOf old.store p) (disk_of old.store) (disk_of found.store) (stored_here old.store p) b.asks_store in
        let once = once_wider (IsSectorOfStoredPage old.store (File p)) (IsSectorOf old.store p) (g.asked (disk_of old.store)) (g.asked (disk_of found.store)) (stored_here old.store p) b.once_store in
        record {
          goes_on = record {
            fit = page.fit;
            ready = subst (λ (s : SizedStore D). IsReadySized g s) store done.ready;
            swap = subst (λ (s : Swap E). IsReady h s) swap done.swap;
            spaces = spaces_then (picture_of old) (picture_of found) (picture_of new) done.spaces spaces_cut;
            room = room_then (picture_of old) (picture_of found) (picture_of new) done.room (record { frames = frames_cut; slots = ap (λ s. (slots_of s).total) page.cuts.swap });
            device = subst (λ (s : Swap E). UsesDevice h old.swap.pages.disk s.pages.disk) swap done.device;
          };
          reads = subst (λ (s : SizedStore D). ReadsStore g old.store s) store done.reads;
          counts = (
            ap (λ r. r.number) page.cuts.refused ∙ b.cause.0,
            ap (λ (s : SizedStore D). g.failures (disk_of s)) page.cuts.store ∙ b.cause.1,
            ap (λ (s : Swap E). h.failures s.pages.disk) page.cuts.swap ∙ b.cause.2,
          );
          asks = subst (λ (s : SizedStore D). AsksOnly g (IsSectorOf old.store p) (disk_of old.store) (disk_of s)) store asks;
          once = subst (λ (s : SizedStore D). NamesOnce (IsSectorOf old.store p) (g.asked (disk_of old.store)) (g.asked (disk_of s))) store once;
          asks_swap = asks_slots_kept h {full = IsFull old.frames} old found new None (IsSectorOfPage (picture_of old) (File p)) (ap (λ s. s.pages) page.cuts.swap) b.asks;
          found = picture_of found;
          found_fit = found_is_fit;
          found_spaces = done.spaces;
          brings = λ kept. subst (λ (s : SizedStore D). BringsPages g old.store s (λ q. q ≡ File p) (picture_of old) (picture_of found)) store
              (b.brings (subst (λ (s : Swap E). h.keeps_model s.pages.disk) (sym swap) kept));
          seen = b.keeps;
          cuts = cuts_end;
        }

  -- nothing had to be cut, or the page was
  pub end_ready : (old new : Core D E M m) (file was length : ℕ) → MayResize g h old file length → SettlesEnd g h old new file was length (Ok tt) → ReadyEnd old new file (min was length) (nat_lt was length)
  end_ready old new file was length may (NeedsNoCut settled same fine) =
      subst (λ (x : Core D E M m). ReadyEnd old x file (min was length) (nat_lt was length)) (sym same) (left_as_is old file was length may settled)
  end_ready old new file was length may (NeedsCut wants page) = cut_ready old new file (min was length) (nat_lt was length) (λ none. wants (AtPage none)) page

  -- no device was asked where no frame is wanted
  pub end_idle : (old new : Core D E M m) (file was length : ℕ) → SettlesEnd g h old new file was length (Ok tt) → (WantsEnd (picture_of old) file was length → ⊥)
      → (new.store ≡ old.store) × (new.swap.pages ≡ old.swap.pages)
  end_idle old new file was length (NeedsNoCut settled same fine) none = (ap (λ c. c.store) same, ap (λ c. c.swap.pages) same)
  end_idle old new file was length (NeedsCut wants page) none = by ((picture_of old).place (File (end_page file (min was length)))) refl
    where
      by : (y : Place) → (picture_of old).place (File (end_page file (min was length))) ≡ y → (new.store ≡ old.store) × (new.swap.pages ≡ old.swap.pages)
      by (Frame n) at = (let e = page.idle n at in (page.cuts.store ∙ ap (λ c. c.store) e, ap (λ s. s.pages) page.cuts.swap ∙ ap (λ c. c.swap.pages) e))
      by y at = absurd (none (record { within = λ whole. wants (AtPage whole); away = λ n is. (cc); no_shorter = not_shorter (picture_of old) file was length wants }))

  -- the page wasn't to be had
  module _ (old new : Core D E M m) (file length : ℕ) (stall : Stall) (may : MayResize g h old file length) where
    abbrev was : ℕ
    was = length_now old file

    abbrev q : FilePage
    q = page_cut old file length

    ends_kept : ReadsStore g old.store new.store → KeepsSeen (picture_of old) (picture_of new) → AreEndsTouched old → AreEndsTouched new
    ends_kept reads seen ends =
        subst (λ (d : SizedDirectory). AreTouched d (picture_of new).touched) (sym (read_same g old.store new.store reads)) (λ f less some. seen.touched (File (end_page f (shortest_in (directory_of old.store) f))) ∙ ends f less some)

    pub stalls : (IsSettled (picture_of old) file was length → ⊥) → LacksPage g h old new q stall → Resizes g h old new file length (Err stall)
    stalls wants lacks =
        let s = lacks.stays in
        let done = s.proceeds in
        let wanted : WantsEnd (picture_of old) file was length = record { within = λ none. wants (AtPage none); away = lacks.away; no_shorter = not_shorter (picture_of old) file was length wants } in
        record {
          goes_on = record { fit = done.fit; ready = done.ready; swap = done.swap; spaces = done.spaces; room = done.room; device = done.device };
          found = new.store;
          reads = done.reads;
          resizes = tt;
          left = refl;
          shows = λ state shows homes tells kept swap_kept. tt;
          stays = λ state shows homes kept swap_kept. shows_kept g old.store new.store (λ x. x ≡ File q) (picture_of old) (picture_of new) state done.fit (s.brings swap_kept) done.spaces kept homes s.keeps shows;
          seen = s.keeps;
          ends = ends_kept done.reads s.keeps;
          idle = λ none. absurd (none wanted);
          asks = asks_wider g (IsSectorOfStoredPage old.store (File q)) (IsSectorOf old.store q) (disk_of old.store) (disk_of new.store) (stored_here old.store q) s.asks_store;
          once = once_wider (IsSectorOfStoredPage old.store (File q)) (IsSectorOf old.store q) (g.asked (disk_of old.store)) (g.asked (disk_of new.store)) (stored_here old.store q) s.once_store;
          asks_swap = s.asks;
          cause = s.cause;
          wanted = wanted;
          home = λ is. (s.home is).2;
          refuses = s.refuses;
          short = s.short;
        }

    pub end_stalls : SettlesEnd g h old new file was length (Err stall) → Resizes g h old new file length (Err stall)
    end_stalls (NeedsNoCut settled same fine) = absurd fine
    end_stalls (NeedsCut wants lacks) = stalls wants lacks
