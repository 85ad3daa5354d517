-- A file has another length, once the page within which it ends is ready and the pages past a shorter length are dropped.
use Rattle.vm_types.specs.declared.mode.Levels as Levels
use Rattle.std.proofs.Common.{◌≡◌, ◌≢◌, ℕ, ◌*◌, ◌/◌, ◌%◌, ◌<◌, ◌≤◌, inl, inr, Bool, true, false, Option, Some, None, Ok, refl, sym, ap, ◌∙◌, subst, arith, ◌||◌, ◌&&◌}
use Rattle.std.proofs.lemmas.{Bool.{cases_lt, cases_eq, false≢true, Decides.{nat_tests}}}
use Rattle.std.specs.Prelude.{min, nat_lt, IsSome}
use Rattle.vm_types.specs.{State.{State}, Truncation.{is_end_page, truncated}}
use Rattle.vm_types.specs.declared.{file.{FileInfo.{FileInfo}}, object.PageKey.{TheVariants.{File}}}
use Rattle.disk_model.specs.{Moments.{AsksOnly}, Stop.{NamesOnce}, declared.sector_disk.SectorDisk.{Ghosts}}
use Rattle.sized_stores.specs.{Resizing.{ResizesFile}, declared.store.SizedStore.{SizedStore}}
use Rattle.sized_stores.specs.Store.{SizedDirectory, directory_of, disk_of, files_in, files_of, length_of, shortest_in, IsReadySized, IsSectorOf}
use Rattle.frames.specs.FrameTable.{frame_count}
use Rattle.swap.specs.{Written.{IsAsWritten}, Slots.{slots_of, IsReady}, declared.{pages.Pages.{Pages}, slots.Swap.{Swap}}}
use Rattle.residency.specs.{declared.kernel.Core.{Core}, Calls.{UsesDevice}, Picture.{Picture, picture_of}, Parts.{IsFit}, Shows.{ShowsPages}}
use Rattle.fault.proofs.{AccessShowing.{shows_kept}, Asking.{asks_slots_kept}, Steps.{spaces_then}}
use Rattle.fault.specs.{Asking.{IsSectorOfPage}, Changes.{KeepsRoom, KeepsSpaces}}
use Rattle.frames.specs.FrameTable.{IsFull}
use Rattle.truncation.proofs.{CutTwice.{end_from}, EndCut.{CutsEnd}, EndReady.{ReadyEnd, end_idle, end_ready, read_same}, FrontKept.{KeepsFront, front_dropped, front_grown}, LengthShown.{shows_length, still_before, touched_here, kept_elsewhere}}
use Rattle.truncation.proofs.{Resized.{fit_cut, fit_grown}, StoreLength.{disk_same, files_here, files_others, sets_length, shortest_here, shortest_others, shortest_most}}
use Rattle.truncation.specs.{Drops.{DropsPast}, Resizing.{end_page, length_now, page_cut, AreEndsTouched, AreHomes, GoesOn, MayResize, Resizes, SettlesEnd, TellsFile, WantsEnd}}

module _ {M : Type 0} {m : Levels.Ghosts M} {D E : Type 0} where
  -- The pages of a file past the length were dropped where it is shorter, and else nothing was done.
  pub data DropsIf (old new : Core D E M m) (file was long : ℕ) : Type 0 where
    Shorter : long < was → DropsPast old new file long → DropsIf old new file was long
    NoShorter : was ≤ long → new ≡ old → DropsIf old new file was long

  pub drops_store : (old new : Core D E M m) (file was long : ℕ) → DropsIf old new file was long → new.store ≡ old.store
  drops_store old new file was long (Shorter less drops) = drops.rest.store
  drops_store old new file was long (NoShorter more same) = ap (λ c. c.store) same

  drops_pages : (old new : Core D E M m) (file was long : ℕ) → DropsIf old new file was long → new.swap.pages ≡ old.swap.pages
  drops_pages old new file was long (Shorter less drops) = drops.rest.pages
  drops_pages old new file was long (NoShorter more same) = ap (λ c. c.swap.pages) same

  drops_refused : (old new : Core D E M m) (file was long : ℕ) → DropsIf old new file was long → new.refused ≡ old.refused
  drops_refused old new file was long (Shorter less drops) = drops.rest.refused
  drops_refused old new file was long (NoShorter more same) = ap (λ c. c.refused) same

  drops_room : (old new : Core D E M m) (file was long : ℕ) → DropsIf old new file was long → KeepsRoom (picture_of old) (picture_of new)
  drops_room old new file was long (Shorter less drops) = record { frames = drops.drops.takes.frames; slots = drops.drops.takes.total }
  drops_room old new file was long (NoShorter more same) = record { frames = ap (λ c. frame_count c.frames) same; slots = ap (λ c. (slots_of c.swap).total) same }

  -- what is left of the file begins before the length
  front_kept : (old new : Core D E M m) (files : ℕ → Option FileInfo) (file long : ℕ) (info : FileInfo) → (picture_of old).files file ≡ Some info → IsFit (picture_of old)
      → files file ≡ Some (record { length = long; read_only = info.read_only }) → ((f : ℕ) → f ≢ file → files f ≡ (picture_of new).files f) → DropsIf old new file info.length long
      → KeepsFront (picture_of old) (record (picture_of new) { files = files }) file long info
  front_kept old new files file long info there fit here others (Shorter less drops) = front_dropped (picture_of old) (picture_of new) files file long info drops.drops here others
  front_kept old new files file long info there fit here others (NoShorter more same) =
      subst (λ (x : Core D E M m). KeepsFront (picture_of old) (record (picture_of x) { files = files }) file long info) (sym same)
      (front_grown (picture_of old) files file long info there more fit here (λ f ne. others f ne ∙ ap (λ (x : Core D E M m). (picture_of x).files f) same))

-- the file is there
pub some_info : (o : Option FileInfo) → IsSome o → (info : FileInfo) × (o ≡ Some info)
some_info None some = absurd (false≢true some)
some_info (Some info) some = (info, refl)

module _ {M : Type 0} {m : Levels.Ghosts M} {D E : Type 0} (g : Ghosts D) (h : Ghosts E) (old mid : Core D E M m) (file was long : ℕ) (is : was ≡ length_now old file) (may : MayResize g h old file long)
    (settles : SettlesEnd g h old mid file was long (Ok tt)) where
  -- the page within which the shorter length ends is ready
  pub is_ready : ReadyEnd g h old mid file (min (length_now old file) long) (nat_lt (length_now old file) long)
  is_ready = end_ready g h old mid file (length_now old file) long may (subst (λ (n : ℕ). SettlesEnd g h old mid file n long (Ok tt)) is settles)

  pub is_idle : (WantsEnd (picture_of old) file (length_now old file) long → ⊥) → (mid.store ≡ old.store) × (mid.swap.pages ≡ old.swap.pages)
  is_idle none = end_idle g h old mid file was long settles (λ wants. none (subst (λ (n : ℕ). WantsEnd (picture_of old) file n long) is wants))

  module _ (left : Core D E M m) (drops : DropsIf mid left file was long) where
    pub drops_now : DropsIf mid left file (length_now old file) long
    drops_now = subst (λ (n : ℕ). DropsIf mid left file n long) is drops

    -- and the store is, with that file
    pub store_ready : IsReadySized g left.store
    store_ready = subst (λ (s : SizedStore D). IsReadySized g s) (sym (drops_store mid left file was long drops)) is_ready.goes_on.ready

    pub still_there : (info : FileInfo) → files_of old.store file ≡ Some info → files_of left.store file ≡ Some info
    still_there info there = ap (λ s. files_of s file) (drops_store mid left file was long drops) ∙ ap (λ d. files_in d file) (read_same g old.store mid.store is_ready.reads) ∙ there

-- slots may be put and got still, where the device and what it holds are the same, and as many
ready_swap : {E : Type 0} (h : Ghosts E) (old new : Swap E) → new.pages ≡ old.pages → (slots_of new).total ≡ (slots_of old).total → IsReady h old → IsReady h new
ready_swap {E = E} h old new pages total ready =
    let room : 8 * (slots_of new).total ≤ h.sector_count old.pages.disk = (let few = ready.room in omega (arith, few, total)) in
    record {
      room = subst (λ (p : Pages E). 8 * (slots_of new).total ≤ h.sector_count p.disk) (sym pages) room;
      as_written = subst (λ (p : Pages E). IsAsWritten h p.disk p.written.notes) (sym pages) ready.as_written;
    }

or_true : (b : Bool) → (b || true) ≡ true
or_true true = refl
or_true false = refl

module _ {M : Type 0} {m : Levels.Ghosts M} {D E : Type 0} (g : Ghosts D) (h : Ghosts E) (old mid left new : Core D E M m) (file long : ℕ) (info : FileInfo) (may : MayResize g h old file long)
    (there : files_of old.store file ≡ Some info) (ready : ReadyEnd g h old mid file (min (length_now old file) long) (nat_lt (length_now old file) long))
    (drops : DropsIf mid left file (length_now old file) long) (resizes : ResizesFile g left.store new.store file long)
    (calm : (WantsEnd (picture_of old) file (length_now old file) long → ⊥) → (mid.store ≡ old.store) × (mid.swap.pages ≡ old.swap.pages))
    (picture : picture_of new ≡ record (picture_of left) { files = files_of new.store }) (swap : new.swap ≡ left.swap) (refused : new.refused ≡ left.refused) where
  abbrev was : ℕ
  was = length_now old file

  was_is : was ≡ info.length
  was_is = ap length_of there

  abbrev e : Picture m.mode
  e = record (picture_of left) { files = files_of new.store }

  store_left : left.store ≡ mid.store
  store_left = drops_store mid left file was long drops

  resized : ResizesFile g mid.store new.store file long
  resized = subst (λ (s : SizedStore D). ResizesFile g s new.store file long) store_left resizes

  same_files : (f : ℕ) → files_of mid.store f ≡ files_of old.store f
  same_files f = ap (λ d. files_in d f) (read_same g old.store mid.store ready.reads)

  there_mid : files_of mid.store file ≡ Some info
  there_mid = same_files file ∙ there

  there_left : files_of left.store file ≡ Some info
  there_left = ap (λ s. files_of s file) store_left ∙ there_mid

  drops_by : DropsIf mid left file info.length long
  drops_by = subst (λ (n : ℕ). DropsIf mid left file n long) was_is drops

  front : KeepsFront (picture_of mid) e file long info
  front = front_kept mid left (files_of new.store) file long info there_mid ready.goes_on.fit (files_here g left.store new.store file long resizes info there_left)
      (files_others g left.store new.store file long resizes) drops_by

  cuts : CutsEnd ready.found (picture_of mid) file (min info.length long) (nat_lt info.length long)
  cuts = subst (λ (n : ℕ). CutsEnd ready.found (picture_of mid) file (min n long) (nat_lt n long)) was_is ready.cuts

  fit_by : DropsIf mid left file info.length long → IsFit e
  fit_by (Shorter less drop) = fit_cut (picture_of left) (files_of new.store) file long (sets_length g left.store new.store file long resizes info there_left) (picture_of mid) drop.drops drop.fit
  fit_by (NoShorter more same) =
      fit_grown (picture_of left) (files_of new.store) file long (sets_length g left.store new.store file long resizes info there_left) info there_left more
      (subst (λ (x : Core D E M m). IsFit (picture_of x)) (sym same) ready.goes_on.fit)

  disk_mid : disk_of new.store ≡ disk_of mid.store
  disk_mid = disk_same g mid.store new.store file long resized

  pages_mid : new.swap.pages ≡ mid.swap.pages
  pages_mid = ap (λ s. s.pages) swap ∙ drops_pages mid left file was long drops

  room_left : KeepsRoom (picture_of mid) (picture_of left)
  room_left = drops_room mid left file was long drops

  total_new : (slots_of new.swap).total ≡ (slots_of mid.swap).total
  total_new = ap (λ s. (slots_of s).total) swap ∙ room_left.slots

  goes_on : GoesOn g h old new
  goes_on = record {
    fit = subst (λ (c : Picture m.mode). IsFit c) (sym picture) (fit_by drops_by);
    ready = resizes.ready;
    swap = ready_swap h mid.swap new.swap pages_mid total_new ready.goes_on.swap;
    spaces = spaces_then (picture_of old) (picture_of mid) (picture_of new) ready.goes_on.spaces
        (subst (λ (c : Picture m.mode). KeepsSpaces (picture_of mid) c) (sym picture) (record { root = front.root; at = front.at }));
    room = record {
      frames = ap (λ (c : Picture m.mode). frame_count c.frames) picture ∙ room_left.frames ∙ ready.goes_on.room.frames;
      slots = total_new ∙ ready.goes_on.room.slots;
    };
    device = subst (λ (p : Pages E). UsesDevice h old.swap.pages.disk p.disk) (sym pages_mid) ready.goes_on.device;
  }

  shows_now : (s : State) → ShowsPages (picture_of old) s → AreHomes g old.store s → TellsFile old.store s file → g.keeps_model (disk_of new.store) → h.keeps_model new.swap.pages.disk
      → ShowsPages (picture_of new) (truncated s file long)
  shows_now s shows homes tells kept swap_kept =
      let brings = ready.brings (subst (λ (p : Pages E). h.keeps_model p.disk) pages_mid swap_kept) in
      let found = shows_kept g old.store mid.store (λ x. x ≡ File (page_cut old file long)) (picture_of old) ready.found s ready.found_fit brings ready.found_spaces
      (subst (λ (d : D). g.keeps_model d) disk_mid kept) homes ready.seen shows in
      let most = shortest_most g old.store file info may.store there in
      let short = tells.shortest in
      subst (λ (c : Picture m.mode). ShowsPages c (truncated s file long)) (sym picture)
      (shows_length ready.found (picture_of mid) e file long info cuts front s (shows.files file ∙ there) ready.found_fit found (omega (arith, most, short)) tells.durable tells.pages)

  -- the pages within which files ended
  abbrev d : SizedDirectory
  d = directory_of old.store

  short_here : shortest_in (directory_of new.store) file ≡ min (shortest_in d file) long
  short_here = shortest_here g mid.store new.store file long resized ∙ ap (λ x. min (shortest_in x file) long) (read_same g old.store mid.store ready.reads)

  short_others : (f : ℕ) → f ≢ file → shortest_in (directory_of new.store) f ≡ shortest_in d f
  short_others f ne = shortest_others g mid.store new.store file long resized f ne ∙ ap (λ x. shortest_in x f) (read_same g old.store mid.store ready.reads)

  long_here : length_of (files_of new.store file) ≡ long
  long_here = ap length_of (files_here g mid.store new.store file long resized info there_mid)

  long_others : (f : ℕ) → f ≢ file → length_of (files_of new.store f) ≡ length_of (files_of old.store f)
  long_others f ne = ap length_of (files_others g mid.store new.store file long resized f ne ∙ same_files f)

  touched_end : (k : ℕ) → k % 4096 ≢ 0 → k < long → k ≤ info.length → (k < info.length → (picture_of old).touched (File (end_page file k)) ≡ true) → e.touched (File (end_page file k)) ≡ true
  touched_end k some low most had =
      let b = ready.found in
      let page = end_page file k in
      let inside : 4096 * page.page < long = omega (arith, low) in
      touched_here b (picture_of mid) e file long info cuts front page refl ∙ still_before info.length long page.page (b.touched (File page)) inside ∙ elim (cases_lt k info.length) [
        | inl before ↦ ap (λ t. t || (nat_lt info.length long && is_end_page info.length page.page)) (ready.seen.touched (File page) ∙ had before)
        | inr past ↦ (
            let same : k ≡ info.length = omega (arith, past, most) in
            let longer : nat_lt info.length long ≡ true = grind (arith, nat_tests, same, low) in
            let ends = end_from info.length page.page (λ none. some (ap (λ n. n % 4096) same ∙ none)) (ap (λ n. n / 4096) same) in
            ap (λ t. b.touched (File page) || t) (ap (λ t. t && is_end_page info.length page.page) longer ∙ ends) ∙ or_true (b.touched (File page)))
      ]

  ends_here : AreEndsTouched old → (n : ℕ) → n ≡ shortest_in (directory_of new.store) file → n < long → n % 4096 ≢ 0 → e.touched (File (end_page file n)) ≡ true
  ends_here ends n is less some =
      let same : n ≡ shortest_in d file = omega (arith, is, short_here, less) in
      let most = shortest_most g old.store file info may.store there in
      touched_end n some less (omega (arith, same, most)) (λ before. (
      let had = ends file (omega (arith, same, before, was_is)) (λ none. some (ap (λ x. x % 4096) same ∙ none)) in
      ap (λ x. (picture_of old).touched (File (end_page file x))) same ∙ had))

  ends_elsewhere : AreEndsTouched old → (f n : ℕ) → f ≢ file → n ≡ shortest_in (directory_of new.store) f → n < length_of (files_of new.store f) → n % 4096 ≢ 0 → e.touched (File (end_page f n)) ≡ true
  ends_elsewhere ends f n ne is less some =
      let same : n ≡ shortest_in d f = is ∙ short_others f ne in
      let long_was = long_others f ne in
      let had = ends f (omega (arith, same, less, long_was)) (λ none. some (ap (λ x. x % 4096) same ∙ none)) in
      (kept_elsewhere ready.found (picture_of mid) e file long info cuts front (end_page f n) ne).1 ∙ ready.seen.touched (File (end_page f n))
      ∙ ap (λ x. (picture_of old).touched (File (end_page f x))) same ∙ had

  ends_now : AreEndsTouched old → AreEndsTouched new
  ends_now ends f less some =
      let n = shortest_in (directory_of new.store) f in
      ap (λ (c : Picture m.mode). c.touched (File (end_page f n))) picture ∙ elim (cases_eq f file) [
        | inr ne ↦ ends_elsewhere ends f n ne refl less some
        | inl same ↦ (
            let at = ap (λ x. shortest_in (directory_of new.store) x) same in
            let length = ap (λ x. length_of (files_of new.store x)) same in
            ap (λ x. e.touched (File (end_page x n))) same ∙ ends_here ends n at (omega (arith, less, length, long_here)) some)
      ]

  pub lengthened : Resizes g h old new file long (Ok tt)
  lengthened = record {
    goes_on = goes_on;
    found = mid.store;
    reads = ready.reads;
    resizes = resized;
    left = tt;
    shows = shows_now;
    stays = λ s shows homes kept swap_kept. tt;
    seen = tt;
    ends = ends_now;
    idle = λ none. (let still = calm none in (still.0, pages_mid ∙ still.1));
    asks = subst (λ (x : D). AsksOnly g (IsSectorOf old.store (page_cut old file long)) (disk_of old.store) x) (sym disk_mid) ready.asks;
    once = subst (λ (x : D). NamesOnce (IsSectorOf old.store (page_cut old file long)) (g.asked (disk_of old.store)) (g.asked x)) (sym disk_mid) ready.once;
    asks_swap = asks_slots_kept h {full = IsFull old.frames} old mid new None (IsSectorOfPage (picture_of old) (File (page_cut old file long))) pages_mid ready.asks_swap;
    cause = (
      ap (λ r. r.number) refused ∙ ap (λ r. r.number) (drops_refused mid left file was long drops) ∙ ready.counts.0,
      ap (λ x. g.failures x) disk_mid ∙ ready.counts.1,
      ap (λ p. h.failures p.disk) pages_mid ∙ ready.counts.2,
    );
    wanted = tt;
    home = tt;
    refuses = tt;
    short = tt;
  }
