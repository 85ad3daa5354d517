-- What a boot leaves, from what is said of the store that it opens.
use Rattle.vm_types.specs.declared.mode.Levels as Levels
use Rattle.machine.proofs.Names.{ℕ, ◌+◌, ◌*◌, ◌≡◌, ◌≤◌, inl, inr, ⊎_elim, false, List, Some, None, is_some, [], refl, sym, ap, ◌∙◌, subst, arith, rules, LeavesOnly, Image, MayLeave, Ghosts, started, stays, asks_none, view-none}
use Rattle.machine.proofs.Names.{StandsFor, StandsAs, file_info, standing_page, length, Bool, Option, Size, SizedStore, can_resize_in, directory_of, disk_of, durable_files_of, files_of, is_resized, is_resized_in, kept_of, shortest_in, shortest_of, with_length, HaveSizes, IsSizeOf, IsReadySized, FileInfo, Home, PageKey, File, Object, State, IsStart, IsFit, Core, Picture, picture_of, held, ShowsPages, slots_of}
use Rattle.machine.specs.{Boot.{HasBadFrames, HasBadSlots, BootAccepts, BootLeaves, BootRefuses}, EngineBoot.{EngineBoots}, StoreBoot.{BootsStore, RefusesStore}, declared.boot.{BootFault.{BootFault}, BootFault.TheVariants.{Frames, Slots, OutOfMemory}}}
use Rattle.msync.specs.Shows.{HasSyncRoom, RoomSize, SaysMost}
use Rattle.{machine.specs.declared.{config.Config.{Config}, engine.Engine.{Engine}}, stores.{proofs.Said.{files_said, stands_for_own}, specs.{Images.{SaysMostOf}, Store.{always_free_in}}}}
use Rattle.machine.proofs.Padded.{IsPadded, page_padded, padded_cut, padded_pages, padded_still, padded_whole}
use Rattle.std.{proofs.{Common.{true}, lemmas.Option.{same_Some}}, specs.Prelude.{slice_get}}
use Rattle.vm_types.specs.Files.{bytes_inside, cut, inside_of}
use Rattle.file_store.specs.Standing.{IsPageOf}
use Rattle.msync.specs.Shows.{IsSoundCore, MarksEnds}
use Rattle.swap.specs.Slots.{IsReady}

-- sizes that pass the tests are fine
pub fine_frames : (config : Config) → 8 ≤ config.frames → config.frames ≤ 65536 → HasBadFrames config → ⊥
fine_frames config least most bad = ⊎_elim (λ few. omega (arith, few, least)) (λ many. omega (arith, many, most)) bad

pub fine_slots : (config : Config) (n slots sectors : ℕ) → config.slots ≤ 65536 → slots ≡ config.slots → sectors ≡ n → 8 * slots ≤ sectors → HasBadSlots config n → ⊥
fine_slots config n slots sectors most same all room bad = ⊎_elim (λ many. omega (arith, many, most)) (λ short. omega (arith, short, same, all, room)) bad

module _ {D : Type 0} (g : Ghosts D) where
  -- no time passed, and nothing is unsynced
  unmoved : (d : D) (P : Image → Type 0) → ((c : Image) → g.left_since d (g.moment d) c → MayLeave (g.content d) (g.unsynced d) c)
      → ((k : ℕ) → g.unsynced d k → ⊥) → P (g.content d) → LeavesOnly g d d P
  unmoved d P only_now synced here =
      started g d P only_now
      (λ c may.
      let same : c ≡ g.content d = λ i k. ⊎_elim (λ u. absurd (synced k u)) (λ (e : c k ≡ g.content d k). e) (may.kept k) i in
      subst P (sym same) here)

  -- what a stop leaves of a device that was not asked,
  pub still : (d : D) → (g.keeps_model d → (c : Image) → g.left_since d (g.moment d) c → MayLeave (g.content d) (g.unsynced d) c) → BootLeaves g d d
  still d only_now = record {
    any_moment = λ keeps synced. unmoved d (StandsAs (g.sector_count d) (g.content d)) (only_now keeps) synced (λ files pages stands. stands);
    most_moment = λ keeps synced. unmoved d (SaysMostOf (g.sector_count d) (g.content d)) (only_now keeps) synced refl;
    in_a_row = λ keeps synced first stands. unmoved d (StandsAs (g.sector_count d) first) (only_now keeps) synced stands;
  }

  -- too few frames, or too many
  pub refuses_frames : (config : Config) (n : ℕ) (store : D) → HasBadFrames config → BootRefuses g config n store Frames store
  refuses_frames config n store bad = search (rules, stays, asks_none)

  -- too many slots
  pub refuses_slots : (config : Config) (n : ℕ) (store : D) → (HasBadFrames config → ⊥) → HasBadSlots config n → BootRefuses g config n store Slots store
  refuses_slots config n store fine bad = search (rules, stays, asks_none)

  -- a store that was opened, of which a machine is made
  pub accepts : (config : Config) (n : ℕ) (entry : D) (store : SizedStore D) → (HasBadFrames config → ⊥) → (HasBadSlots config n → ⊥) → BootsStore g entry store
      → BootAccepts g config n entry (disk_of store)
  accepts config n entry store frames slots opened = search rules

  -- or not, for want of memory
  pub refuses_memory : (config : Config) (n : ℕ) (entry : D) (store : SizedStore D) → (HasBadFrames config → ⊥) → (HasBadSlots config n → ⊥) → BootsStore g entry store
      → BootRefuses g config n entry OutOfMemory (disk_of store)
  refuses_memory config n entry store frames slots opened = search rules

  -- a store that can't be opened
  pub refuses_store : (config : Config) (n : ℕ) (entry : D) (fault : BootFault) (left : D) → (HasBadFrames config → ⊥) → (HasBadSlots config n → ⊥) → RefusesStore g entry fault left
      → BootRefuses g config n entry fault left
  refuses_store config n entry fault left frames slots unopened = record {
    bad_frames = λ e. absurd (unopened.sized (inl e));
    only_frames = λ few. absurd (frames few);
    bad_slots = λ e. absurd (unopened.sized (inr e));
    only_slots = λ _ many. absurd (slots many);
    device = unopened.device;
    err_calm = unopened.err_calm;
    bad_layout = unopened.bad_layout;
    bad_journal = unopened.bad_journal;
    layout_first = unopened.layout_first;
    unasked = λ either. absurd (unopened.sized either);
    unwritten = unopened.unwritten;
    asks = unopened.asks;
    outside = unopened.outside;
    err_size = unopened.size;
    err_kept = unopened.kept;
    err_later = unopened.later;
  }

  -- the files are those of the image at entry,
  module _ (entry : D) (store : SizedStore D) (opened : BootsStore g entry store) (keeps : g.keeps_model (disk_of store)) where
    abbrev n : ℕ
    n = g.sector_count entry

    abbrev image : Image
    image = g.content entry

    still_stands : StandsFor n (file_info n image) (standing_page n image) (g.content (disk_of store))
    still_stands = opened.now keeps (g.content (disk_of store)) (record { kept = λ k. inr refl }) (file_info n image) (standing_page n image)
        (stands_for_own n image (opened.layout keeps) (opened.journal keeps))

    same_files : (f : ℕ) → files_of store f ≡ file_info n image f
    same_files f =
        opened.files f
        ∙ files_said g store.store opened.ready.ready keeps f
        ∙ ap (λ sectors. file_info sectors (g.content (disk_of store)) f) opened.size
        ∙ still_stands.facts f

    -- with pages that have zeros past the ends of their files
    whole_page : (f k : ℕ) → IsPageOf (files_of store) f k → standing_page n image f k ≡ padded_pages (files_of store) (standing_page n image) f k
    whole_page f k inside =
        let padded = page_padded g store.store opened.ready.ready keeps f k inside.0 (sym (opened.files f) ∙ inside.1) inside.2 in
        let same = ap (λ sectors. standing_page sectors (g.content (disk_of store)) f k) opened.size ∙ still_stands.same f k (inside.0, sym (same_files f) ∙ inside.1, inside.2) in
        padded_still (files_of store f) k (standing_page n image f k)
        (subst (λ (o : Option FileInfo). IsPadded (inside_of o k) (standing_page n image f k)) (sym inside.1) (subst (λ (page : List ℕ). IsPadded (bytes_inside inside.0.length k) page) same padded))

    stands_at_start : StandsFor n (files_of store) (padded_pages (files_of store) (standing_page n image)) image
    stands_at_start = record {
      layout = opened.layout keeps;
      journal = opened.journal keeps;
      facts = λ f. sym (same_files f);
      same = λ f k inside. whole_page f k inside;
    }

-- a file that has got no other length has been no shorter
shortest_by : (o : Option FileInfo) (size : Option Size) (info : FileInfo) → ((x : FileInfo) (z : Size) → o ≡ Some x → size ≡ Some z → IsSizeOf x z) → is_resized size ≡ false
    → with_length o size ≡ Some info → shortest_of o size ≡ info.length
shortest_by None size info each none is = cc
shortest_by (Some x) None info each none is = ap (λ (i : FileInfo). i.length) (same_Some x info is)
shortest_by (Some x) (Some size) info each none is =
    let fixed = (each x size refl refl).same none in
    fixed.1 ∙ sym fixed.0 ∙ ap (λ (i : FileInfo). i.length) (same_Some _ info is)

module _ {D : Type 0} (g : Ghosts D) where
  no_ends : (entry : D) (store : SizedStore D) (touched : PageKey → Bool) → BootsStore g entry store → MarksEnds (directory_of store) touched
  no_ends entry store touched opened = record {
    there = λ f resized. absurd (let never : false ≡ true = sym (opened.none f) ∙ resized in cc);
    ends = λ f resized longer within. absurd (let never : false ≡ true = sym (opened.none f) ∙ resized in cc);
  }

  shortest_at_start : (entry : D) (store : SizedStore D) → BootsStore g entry store → (f : ℕ) (info : FileInfo) → files_of store f ≡ Some info → shortest_in (directory_of store) f ≡ info.length
  shortest_at_start entry store opened f info is =
      shortest_by (durable_files_of store f) (slice_get store.sizes.items f) info (λ x z. opened.ready.each f x z) (opened.none f) is

-- what is at home is not in memory
at_home : {mode : ℕ} (c : Picture mode) (p : PageKey) (bytes : List ℕ) → c.place p ≡ Home → held c p ≡ Some bytes → ⊥
unfolding held
at_home c p bytes home is = let never : None ≡ Some bytes = sym (rw home refl) ∙ is in cc

module _ {M : Type 0} {levels : Levels.Ghosts M} {D E : Type 0} (g : Ghosts D) (h : Ghosts E) where
  -- the state that a machine starts in over an image
  abbrev start : Engine D E M levels → ℕ → Image → State
  start m n image = record {
    mode = levels.mode;
    live = λ pid. false;
    views = λ pid page. None;
    files = files_of m.core.store;
    resizes = can_resize_in (kept_of m.core.store);
    resized = λ file. false;
    shortest = shortest_in (directory_of m.core.store);
    most = m.sync_room.most;
    volatile = padded_pages (files_of m.core.store) (standing_page n image);
    durable = record { files = files_of m.core.store; pages = padded_pages (files_of m.core.store) (standing_page n image) };
    touched = λ file page. false;
    objects = λ object page. None;
    past = [];
    ends = None;
  }

  starts_so : (entry : D) (m : Engine D E M levels) (frames slots : ℕ) → BootsStore g entry m.core.store → IsStart m.core frames slots
      → ShowsPages (picture_of m.core) (start m (g.sector_count entry) (g.content entry))
  starts_so entry m frames slots opened fresh = record {
    live = λ pid. sym (ap is_some (fresh.none pid));
    views = λ pid page. sym (view-none (picture_of m.core) pid page (rw (fresh.none pid) refl));
    files = λ f. refl;
    touched = λ p. sym (fresh.untouched (File p));
    objects = λ p. sym (rw (fresh.untouched (Object p)) refl);
    blank = λ p bytes untouched e. absurd (at_home (picture_of m.core) (Object p) bytes (fresh.at_home (Object p)) e);
    held = λ p bytes e. absurd (at_home (picture_of m.core) (File p) bytes (fresh.at_home (File p)) e);
    same_mode = refl;
    clean = λ p e inside.
        let length = shortest_at_start g entry m.core.store opened p.file inside.0 inside.1 in
        let page = standing_page (g.sector_count entry) (g.content entry) p.file p.page in
        padded_cut (files_of m.core.store p.file) p.page page
        ∙ ap (λ (b : ℕ). cut b (padded_pages (files_of m.core.store) (standing_page (g.sector_count entry) (g.content entry)) p.file p.page))
        (ap (λ (o : Option FileInfo). inside_of o p.page) inside.1 ∙ sym (ap (λ (l : ℕ). bytes_inside l p.page) length));
  }

  pub boots : (entry : D) (m : Engine D E M levels) (frames slots : ℕ) → m.halted ≡ false → m.past ≡ [] → HasSyncRoom g m.core m.sync_room → BootsStore g entry m.core.store
      → IsStart m.core frames slots → EngineBoots g h entry m
  boots entry m frames slots goes bare sized opened fresh = record {
    state = start m (g.sector_count entry) (g.content entry);
    shows = record {
      pages = starts_so entry m frames slots opened fresh;
      tells = record {
        files = opened.files;
        whole = padded_whole (files_of m.core.store) (standing_page (g.sector_count entry) (g.content entry));
        resizes = refl;
        resized = λ f. sym (opened.none f);
        shortest = λ f. refl;
      };
      running = sym goes;
      past = bare;
      most = refl;
      stands = λ keeps c may. (
        record { files = files_of m.core.store; pages = padded_pages (files_of m.core.store) (standing_page (g.sector_count entry) (g.content entry)) },
        refl,
        subst (λ (n : ℕ). StandsFor n (files_of m.core.store) (padded_pages (files_of m.core.store) (standing_page (g.sector_count entry) (g.content entry))) c) (sym opened.size)
            (opened.now keeps c may (files_of m.core.store) (padded_pages (files_of m.core.store) (standing_page (g.sector_count entry) (g.content entry)))
            (stands_at_start g entry m.core.store opened keeps)),
      );
      most_stands = λ keeps c may. subst (λ (n : ℕ). SaysMost n m.sync_room.most c) (sym opened.size) (opened.most_now keeps c may ∙ sym (sized.most ∙ opened.most keeps));
    };
    fresh = subst (λ (n : ℕ). IsStart m.core n (slots_of m.core.swap).total) (sym fresh.fresh.frames) (subst (λ (n : ℕ). IsStart m.core frames n) (sym fresh.slots_free.total) fresh);
    start = record {
      live = λ pid. refl;
      views = λ pid page. refl;
      files = λ file. refl;
      resized = λ file. refl;
      shortest = λ file info is. shortest_at_start g entry m.core.store opened file info is;
      same = λ file page. refl;
      touched = λ file page. refl;
      objects = λ object page. refl;
      past = refl;
      running = refl;
    };
    stands = λ keeps. stands_at_start g entry m.core.store opened keeps;
    resizes = opened.resizes;
    most = λ keeps. sized.most ∙ opened.most keeps;
  }

  -- there is room for an msync
  pub sized_at_start : (core : Core D E M levels) (store : SizedStore D) (room : RoomSize) (most places frames slots : ℕ) → core.store ≡ store
      → room ≡ record { most = most; ranks = frames + slots; files = places } → most ≡ always_free_in (kept_of store) → places ≡ length store.sizes.items → IsStart core frames slots
      → HasSyncRoom g core room
  sized_at_start core store room most places frames slots same is always all_files fresh = record {
    most = ap (λ (r : RoomSize). r.most) is ∙ always ∙ sym (ap (λ (s : SizedStore D). always_free_in (kept_of s)) same);
    files = (let room_for = ap (λ (r : RoomSize). r.files) is in let here = ap (λ (s : SizedStore D). length s.sizes.items) same in omega (arith, room_for, all_files, here));
    ranks =
        let all = fresh.fresh.frames in
        let total = fresh.slots_free.total in
        let ranks : room.ranks ≡ frames + slots = ap (λ (r : RoomSize). r.ranks) is in
        omega (arith, all, total, ranks);
  }

  -- memory over the store that was opened may be used
  pub sound_at_start : (entry : D) (store : SizedStore D) (core : Core D E M levels) → core.store ≡ store → BootsStore g entry store → IsReady h core.swap → IsFit (picture_of core) → IsSoundCore g h core
  sound_at_start entry store core same was swap fit =
      let opened = subst (λ (s : SizedStore D). BootsStore g entry s) (sym same) was in
      record { ready = opened.ready; room = opened.room; swap = swap; fit = fit; ends = no_ends g entry core.store (picture_of core).touched opened }
