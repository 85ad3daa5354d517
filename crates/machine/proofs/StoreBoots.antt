-- A store that a boot opens, from what its opening and the room made in it say.
use Rattle.machine.proofs.Names.{ℕ, ◌≡◌, ◌≤◌, ◌*◌, ◌⊎◌, ◌∙◌, inl, inr, ⊎_elim, Bool, true, false, refl, sym, ap, subst, arith, cases_Bool}
use Rattle.machine.proofs.Names.{LeavesNow, LeavesOnly, Image, MayLeave, Ghosts, holds_now, joined, weaker, asks_none, asks_then, asks_wider, StandsFor, StandsAs, file_info, standing_page, OpenFault}
use Rattle.machine.specs.{Boot.{BootLeaves, IsAskedToBoot}, Fault.{boot_fault}, StoreBoot.{BootsStore, RefusesStore, RunsStoreBoot}}
use Rattle.machine.specs.declared.boot.{BootFault.{BootFault}, BootFault.TheVariants.{Frames, Slots, Device, BadLayout, BadJournal, OutOfMemory}}
use Rattle.std.specs.Prelude.{Result, Ok, Err, MatchResult}
use Rattle.disk_model.specs.{Moments.{AsksOnly}, declared.sector_disk.DiskFault.{DiskFault}}
use Rattle.file_store.specs.Standing.{AreBounded}
use Rattle.stores.proofs.{Heads.{same_blocks, same_mark}, Says.{head_of}, Said.{committed_inside, kind_outside, mark_outside, outside_alike, roomy, stands_as_said, stands_for_own, used_inside}}
use Rattle.stores.specs.{Images.{is_pool, most_pages, says_by, IsAskedToOpen, IsBadJournal, IsBadLayout, IsOutside, SaysMostOf}, Opened.{OpensFrom, RefusesToOpen, RunsOpening}, Rooms.{MakesRoomFor}}
use Rattle.stores.specs.Store.{AnyDirectory, StoreKept, StoreKept.{OfJournal, OfPool}, always_free_in, capacity_in, disk_of, files_in, files_of, kept_of, HasRoom, IsReadyStore, IsUsedIn}
use Rattle.sized_stores.specs.{Store.{can_resize_in, StartsSized}, declared.store.SizedStore.{SizedStore}}
use Rattle.stores.specs.declared.{faults.OpenFault.TheVariants.{Device as StoreDevice, BadLayout as StoreLayout, BadJournal as StoreJournal, Memory as StoreMemory}, store.{Store.{Store}, Store.TheVariants.{Journal, Pool}}}

-- a fault that is told is the one that came
was_layout : (fault : OpenFault) → boot_fault fault ≡ BadLayout → fault ≡ StoreLayout
was_layout StoreLayout e = refl
was_layout fault e = cc

was_journal : (fault : OpenFault) → boot_fault fault ≡ BadJournal → fault ≡ StoreJournal
was_journal StoreJournal e = refl
was_journal fault e = cc

was_device : (fault : OpenFault) → boot_fault fault ≡ Device → fault ≡ StoreDevice
was_device StoreDevice e = refl
was_device fault e = cc

-- none of a store is one of the machine's sizes
no_size : (fault : OpenFault) → (boot_fault fault ≡ Frames) ⊎ (boot_fault fault ≡ Slots) → ⊥
no_size StoreDevice (inl e) = cc
no_size StoreDevice (inr e) = cc
no_size StoreLayout (inl e) = cc
no_size StoreLayout (inr e) = cc
no_size StoreJournal (inl e) = cc
no_size StoreJournal (inr e) = cc
no_size StoreMemory (inl e) = cc
no_size StoreMemory (inr e) = cc

-- a bad store is no failed device
no_device : (fault : OpenFault) → (boot_fault fault ≡ BadLayout) ⊎ (boot_fault fault ≡ BadJournal) → fault ≡ StoreDevice → ⊥
no_device StoreDevice (inl e) same = cc
no_device StoreDevice (inr e) same = cc
no_device StoreLayout e same = cc
no_device StoreJournal e same = cc
no_device StoreMemory e same = cc

-- every commit takes no more pages than a commit may where all slots are free
pub always_fits : (kept : StoreKept) → always_free_in kept ≤ capacity_in kept
always_fits (OfJournal directory journal) = omega arith
always_fits (OfPool directory journal) = omega arith

module _ {D : Type 0} (g : Ghosts D) where
  -- what stands for what the store stood for stands for what stood before earlier stops
  leaves_by : (entry new : D) → (g.keeps_model new → ((k : ℕ) → g.unsynced entry k → ⊥) → LeavesOnly g entry new (StandsAs (g.sector_count entry) (g.content entry)))
      → (g.keeps_model new → ((k : ℕ) → g.unsynced entry k → ⊥) → LeavesOnly g entry new (SaysMostOf (g.sector_count entry) (g.content entry)))
      → BootLeaves g entry new
  leaves_by entry new moment most_moment = record {
    any_moment = moment;
    most_moment = most_moment;
    in_a_row = λ keeps synced first stands. weaker g entry new (StandsAs (g.sector_count entry) (g.content entry)) (StandsAs (g.sector_count entry) first)
        (λ image here files pages was. here files pages (stands files pages was)) (moment keeps synced);
  }

  -- whatever comes of an opening, a boot may do
  opening_runs : (entry new : D) → RunsOpening g entry new → RunsStoreBoot g entry new
  opening_runs entry new run = record {
    size = run.size;
    kept = run.kept;
    later = run.later;
    asks = λ keeps. asks_wider g (IsAskedToOpen (g.sector_count entry) (g.content entry)) (IsAskedToBoot (g.sector_count entry) (g.content entry)) entry new
        (λ k asked. inl asked) (run.asks keeps);
    outside = run.outside;
    leaves = leaves_by entry new run.any_moment run.most_moment;
  }

  -- The store can't be opened.
  pub refuses_unopened : (entry : D) (fault : OpenFault) (left : D) → RefusesToOpen g entry fault left → RefusesStore g entry (boot_fault fault) left
  refuses_unopened entry fault left unopened = record {
    err_run = opening_runs entry left unopened.err_run;
    sized = no_size fault;
    device = λ e. unopened.device (was_device fault e);
    err_calm = λ other. unopened.err_calm (λ e. other (ap boot_fault e));
    bad_layout = λ keeps e. unopened.bad_layout keeps (was_layout fault e);
    bad_journal = λ keeps e. unopened.bad_journal keeps (was_journal fault e);
    layout_first = λ keeps e. unopened.layout_first keeps (was_journal fault e);
    unwritten = λ keeps bad. unopened.unwritten keeps (no_device fault bad);
  }

  -- A store that is open may give files other lengths where its image is one of a pool.
  may_resize : (store : Store D) → IsReadyStore g store → g.keeps_model (disk_of store) → can_resize_in (kept_of store) ≡ is_pool (g.content (disk_of store))
  may_resize (Journal store) ready keeps = sym (ready.1 keeps)
  may_resize (Pool store) ready keeps = sym (head_of g store ready keeps).mark

  -- A store is open for a machine that has no lengths of files beside it yet.
  pub record IsBooted (entry : D) (store : Store D) : Type 0 where
    pub run : RunsStoreBoot g entry (disk_of store)
    pub ready : IsReadyStore g store
    pub room : HasRoom (kept_of store)
    pub bounded : AreBounded (files_of store)
    pub resizes : g.keeps_model (disk_of store) → can_resize_in (kept_of store) ≡ is_pool (g.content entry)
    pub layout : g.keeps_model (disk_of store) → IsBadLayout (g.sector_count entry) (g.content entry) → ⊥
    pub journal : g.keeps_model (disk_of store) → IsBadJournal (g.sector_count entry) (g.content entry) → ⊥
    pub now : g.keeps_model (disk_of store) → LeavesNow g (disk_of store) (StandsAs (g.sector_count entry) (g.content entry))
    pub most_now : g.keeps_model (disk_of store) → LeavesNow g (disk_of store) (SaysMostOf (g.sector_count entry) (g.content entry))
    pub most : g.keeps_model (disk_of store) → always_free_in (kept_of store) ≡ most_pages (g.sector_count entry) (g.content entry)
    pub calm : g.failures (disk_of store) ≡ g.failures entry

  -- It gets them,
  boots_sized : (entry : D) (store : Store D) (sized : SizedStore D) → IsBooted entry store → StartsSized g store sized → BootsStore g entry sized
  boots_sized entry store sized was starts =
      let booted = subst (λ (x : Store D). IsBooted entry x) (sym starts.same) was in
      record {
        run = booted.run;
        ready = starts.is_ready;
        room = booted.room;
        bounded = record { each = λ f k inside. booted.bounded.each f k (inside.0, sym (starts.files f) ∙ inside.1, inside.2) };
        files = starts.files;
        none = starts.none;
        resizes = booted.resizes;
        layout = booted.layout;
        journal = booted.journal;
        now = booted.now;
        most_now = booted.most_now;
        most = booted.most;
        calm = booted.calm;
      }

  -- or there is no memory for them.
  refuses_sized : (entry : D) (store : Store D) → IsBooted entry store → RefusesStore g entry OutOfMemory (disk_of store)
  refuses_sized entry store booted = record {
    err_run = booted.run;
    sized = λ e. ⊎_elim (λ e'. cc) (λ e'. cc) e;
    device = λ e. cc;
    err_calm = λ other. booted.calm;
    bad_layout = λ keeps e. cc;
    bad_journal = λ keeps e. cc;
    layout_first = λ keeps e bad. cc;
    unwritten = λ keeps e. absurd (⊎_elim (λ e'. cc) (λ e'. cc) e);
  }

  pub sized_or_not : (entry : D) (store : Store D) → IsBooted entry store → (result : Result (SizedStore D) (BootFault × D))
      → MatchResult result (λ sized. StartsSized g store sized) (λ e. (e.0 ≡ OutOfMemory) × (e.1 ≡ disk_of store))
      → MatchResult result (λ sized. BootsStore g entry sized) (λ e. RefusesStore g entry e.0 e.1)
  sized_or_not entry store booted (Ok sized) starts = boots_sized entry store sized booted starts
  sized_or_not entry store booted (Err e) same =
      subst (λ (fault : BootFault). RefusesStore g entry fault e.1) (sym same.0) (subst (λ (d : D). RefusesStore g entry OutOfMemory d) (sym same.1) (refuses_sized entry store booted))

  -- It is opened.
  module _ (entry : D) (mid : Store D) (opened : OpensFrom g entry mid) where
    abbrev n : ℕ
    n = g.sector_count entry

    abbrev image : Image
    image = g.content entry

    abbrev opened_image : Image
    opened_image = g.content (disk_of mid)

    -- its mark is the one at entry, and of a pool its kind, too
    mark : g.keeps_model (disk_of mid) → opened_image 0 ≡ image 0
    mark keeps = opened.outside keeps 0 (mark_outside n image)

    kind : g.keeps_model (disk_of mid) → is_pool image ≡ true → opened_image 1 ≡ image 1
    kind keeps marked = opened.outside keeps 1 (kind_outside n image marked)

    is_still : (b : Bool) → g.keeps_model (disk_of mid) → is_pool image ≡ b → is_pool opened_image ≡ b
    is_still b keeps is = same_mark image opened_image (mark keeps) ∙ is

    -- what lies outside at entry lies outside still
    outside_still : g.keeps_model (disk_of mid) → is_pool image ≡ true → (k : ℕ) → IsOutside n image k → IsOutside (g.sector_count (disk_of mid)) opened_image k
    outside_still keeps marked k out = subst (λ x. IsOutside x opened_image k) (sym opened.size) (outside_alike n image opened_image (mark keeps) (kind keeps marked) marked k out)

    -- so it says as many pages of an msync
    most_still : g.keeps_model (disk_of mid) → SaysMostOf n image opened_image
    most_still keeps = ap (λ b. (says_by b n opened_image).most) (same_mark image opened_image (mark keeps)) ∙ from (is_pool image) refl
      where
        from : (b : Bool) → is_pool image ≡ b → (says_by b n opened_image).most ≡ (says_by b n image).most
        from false is = refl
        from true is = ap (λ m. 504 * m) (same_blocks image opened_image (kind keeps is))

    most_as : g.keeps_model (disk_of mid) → (c : Image) → SaysMostOf (g.sector_count (disk_of mid)) opened_image c → SaysMostOf n image c
    most_as keeps c says = subst (λ x. SaysMostOf x opened_image c) opened.size says ∙ most_still keeps

    -- Room is made in it for as many pages as every commit may take:
    module _ (count : ℕ) (every : count ≡ always_free_in (kept_of mid)) (new : Store D) (result : Result (Unit {0}) DiskFault) (made : MakesRoomFor g count mid new result) where
      -- where it is one of layout 2 nothing is done,
      idle : g.keeps_model (disk_of new) → is_pool image ≡ false → new ≡ mid
      idle keeps unmarked = made.idle (let free = (roomy g mid opened.ready (made.kept keeps) (is_still false (made.kept keeps) unmarked)).1 in omega (arith, every, free))

      asks : g.keeps_model (disk_of new) → AsksOnly g (IsAskedToBoot n image) (disk_of mid) (disk_of new)
      asks keeps = ⊎_elim
          (λ marked. asks_wider g (IsUsedIn (kept_of mid)) (IsAskedToBoot n image) (disk_of mid) (disk_of new)
          (λ k used. inr (
            marked,
            λ out. used_inside g mid opened.ready (made.kept keeps) (is_still true (made.kept keeps) marked) k used
                (outside_still (made.kept keeps) marked k out),
          )) made.asks)
          (λ unmarked. asks_none g (IsAskedToBoot n image) (disk_of mid) (disk_of new) (λ k. ap (λ (store : Store D). g.asked (disk_of store) k) (idle keeps unmarked)))
          (cases_Bool (is_pool image))

      outside : g.keeps_model (disk_of new) → (k : ℕ) → IsOutside n image k → g.content (disk_of new) k ≡ opened_image k
      outside keeps k out = ⊎_elim
          (λ marked. ⊎_elim
          (λ written. absurd (committed_inside g mid opened.ready (made.kept keeps) (is_still true (made.kept keeps) marked) k written
          (outside_still (made.kept keeps) marked k out)))
          (λ same. same) ((made.touches keeps).content k))
          (λ unmarked. ap (λ (store : Store D). g.content (disk_of store) k) (idle keeps unmarked))
          (cases_Bool (is_pool image))

      -- and what stood for the files at entry stands for them,
      abbrev StandsStill : ℕ → Image → Type 0
      StandsStill sectors = StandsFor sectors (file_info n image) (standing_page n image)

      left : g.keeps_model (disk_of new) → LeavesNow g (disk_of mid) (StandsStill (g.sector_count (disk_of mid)))
      left keeps c may = subst (λ x. StandsStill x c) (sym opened.size)
          (opened.now (made.kept keeps) c may (file_info n image) (standing_page n image)
          (stands_for_own n image (opened.good_layout (made.kept keeps)) (opened.good_journal (made.kept keeps))))

      stands_as : (c : Image) → StandsStill (g.sector_count (disk_of mid)) c → StandsAs n image c
      stands_as c stands = stands_as_said n image c (subst (λ x. StandsStill x c) opened.size stands)

      now : g.keeps_model (disk_of new) → LeavesNow g (disk_of new) (StandsAs n image)
      now keeps c may = stands_as c (made.stands keeps (file_info n image) (standing_page n image) (left keeps) c may)

      -- with as many pages of an msync,
      most_moment : g.keeps_model (disk_of new) → LeavesOnly g (disk_of mid) (disk_of new) (SaysMostOf n image)
      most_moment keeps = weaker g (disk_of mid) (disk_of new) (SaysMostOf (g.sector_count (disk_of mid)) opened_image) (SaysMostOf n image) (most_as (made.kept keeps)) (made.most_moment keeps)

      run : RunsStoreBoot g entry (disk_of new)
      run = record {
        size = made.size ∙ opened.size;
        kept = λ keeps. opened.kept (made.kept keeps);
        later = (let first = opened.later in let second = made.cause.later in omega (arith, first, second));
        asks = λ keeps. asks_then g (IsAskedToBoot n image) entry (disk_of mid) (disk_of new)
            (asks_wider g (IsAskedToOpen n image) (IsAskedToBoot n image) entry (disk_of mid) (λ k asked. inl asked) (opened.asks (made.kept keeps))) (asks keeps);
        outside = λ keeps k out. outside keeps k out ∙ opened.outside (made.kept keeps) k out;
        leaves = leaves_by entry (disk_of new) (λ keeps synced. joined g entry (disk_of mid) (disk_of new) (StandsAs n image) (opened.any_moment (made.kept keeps) synced)
            (weaker g (disk_of mid) (disk_of new) (StandsStill (g.sector_count (disk_of mid))) (StandsAs n image) stands_as
            (made.any_moment keeps (file_info n image) (standing_page n image) (left keeps))))
            (λ keeps synced. joined g entry (disk_of mid) (disk_of new) (SaysMostOf n image) (opened.most_moment (made.kept keeps) synced) (most_moment keeps));
      }

    -- enough for every commit,
    pub boots_store : ((d : D) (t : ℕ) (c : Image) → g.keeps_model d → t ≤ g.moment d → MayLeave (g.content d) (g.unsynced d) c → g.left_since d t c)
        → (count : ℕ) → count ≡ always_free_in (kept_of mid) → (new : Store D) → MakesRoomFor g count mid new (Ok (tt {0})) → IsBooted entry new
    boots_store counts_now count every new made = record {
      run = run count every new (Ok (tt {0})) made;
      ready = made.ready;
      room = (let free = made.room in let same = made.always in omega (arith, free, same, every));
      bounded = subst (λ (directory : AnyDirectory). AreBounded (files_in directory)) (sym made.files) opened.bounded;
      resizes = λ keeps. may_resize new made.ready keeps
          ∙ same_mark image (g.content (disk_of new)) (outside count every new (Ok (tt {0})) made keeps 0 (mark_outside n image) ∙ mark (made.kept keeps));
      layout = λ keeps. opened.good_layout (made.kept keeps);
      journal = λ keeps. opened.good_journal (made.kept keeps);
      now = now count every new (Ok (tt {0})) made;
      most_now = λ keeps. holds_now g (disk_of mid) (disk_of new) (SaysMostOf n image) (λ t c le may. counts_now (disk_of new) t c keeps le may) (most_moment count every new (Ok (tt {0})) made keeps);
      most = λ keeps. made.always ∙ opened.most (made.kept keeps);
      calm = made.cause.calm ∙ opened.calm;
    }

    -- or the device fails.
    pub refuses_failed : (count : ℕ) → count ≡ always_free_in (kept_of mid) → (new : Store D) (fault : DiskFault) → MakesRoomFor g count mid new (Err fault)
        → RefusesStore g entry Device (disk_of new)
    refuses_failed count every new fault made = record {
      err_run = run count every new (Err fault) made;
      sized = λ e. ⊎_elim (λ e'. cc) (λ e'. cc) e;
      device = λ e. (let more = made.cause.failed refl in let calm = opened.calm in omega (arith, more, calm));
      err_calm = λ other. absurd (other refl);
      bad_layout = λ keeps e. cc;
      bad_journal = λ keeps e. cc;
      layout_first = λ keeps e bad. cc;
      unwritten = λ keeps e. absurd (⊎_elim (λ e'. cc) (λ e'. cc) e);
    }
