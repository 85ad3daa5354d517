-- truncate of the flat model in a state that memory shows.
use Rattle.vm_types.specs.declared.mode.Levels as Levels
use Rattle.spaces.proofs.Names.{ℕ, ◌≡◌, ◌≢◌, ◌≤◌, ◌<◌, ◌*◌, ◌==◌, Bool, true, false, inl, inr, if◌then◌else◌, List, Option, Some, None, is_some, option_map, refl, sym, ap, ◌∙◌, subst, arith, none-some, cases_Bool, cases_eq, ne_eqb, Ghosts, AnyStore}
use Rattle.spaces.proofs.Names.{IsReadySized, directory_of, directory_in, files_of, kept_of, Core, IsFit, Picture, picture_of, held_framed, CoreShows, MarksEnds, IsSoundCore, IsShort, ReadCause, ReadsStore, FilePage, PageKey, File, Files, Stall, Done}
use Rattle.spaces.proofs.Names.{Stalled, StoreDevice, Errno, Refuses, Reply, HasRoom, Result, Ok, Err, asks_slots_same, Truncate, State, Outcome, outcome, answers, refused_or, first_of, table_count, is_success, ShowsPages, View, slots_of, bytes_of, Swap}
use Rattle.spaces.{specs.{Calls.{AccountsFor, Comes}, Truncating.{resize_checks, IsResizable, KeepsToFile}}, proofs.{Calls.{does}, Reading.{stalls_read}, Refusals.{same_stall, stall_caused}, Room.{sound_read}, Shown.{homes_now, there_of}, Short.{tables_kept}}}
use Rattle.{disk_model.proofs.{Moments.{asks_none}, Naming.{once_none}}, fault.proofs.{AccessSteps.{reads_none, untouched_home}, Forms.{used_inside}, Steps.{device_none}}}
use Rattle.stores.specs.Store as Durable
use Rattle.stores.specs.declared.store.Store.{Store}
use Rattle.frames.specs.{FrameTable.{AreWhole}, declared.role.Role.TheVariants.{Cache, Free}}
use Rattle.page_cache.specs.declared.place.Place.{Place, TheVariants.{Home, Frame, Slot}}
use Rattle.sized_stores.specs.{Resizing.{ResizesFile}, Store.{can_resize, disk_of, durable_in, durable_files_of, is_resized, is_resized_in, length_of, shortest_in, shortest_of, with_length, IsSizeOf}, declared.sizes.Size.{Size}}
use Rattle.std.specs.Prelude.{length, slice_get, IsSome}
use Rattle.swap.specs.Slots.{IsInUse, or_none}
use Rattle.truncation.specs.Resizing.{AreEndsTouched, AreHomes, TellsFile, Resizes, length_now}
use Rattle.vm_types.proofs.Cutting.{length-cut}
use Rattle.vm_types.specs.{Files.{bytes_inside}, State.{home_page}, Truncation.{cut_view, length_in, truncate_checks, truncated}, declared.file.FileInfo.{FileInfo}}
unfoldable use Rattle.residency.specs.Picture.{held}
use Rattle.residency.specs.Picture.{bytes_at}

-- a file of some bytes that a page begins before is there
page_inside : (o : Option FileInfo) (k : ℕ) → 4096 * k < length_in o → (info : FileInfo) × (o ≡ Some info) × (4096 * k < info.length)
page_inside None k below = absurd (omega (arith, below))
page_inside (Some info) k below = (info, refl, below)

-- a slot has no more bytes than a page
none_long : (o : Option (List ℕ)) → ((w : List ℕ) → o ≡ Some w → length w ≡ 4096) → length (or_none o) ≤ 4096
none_long None whole = omega arith
none_long (Some w) whole = let same = whole w refl in omega (arith, same)

held_slotted : {mode : ℕ} (c : Picture mode) (p : PageKey) (k : ℕ) → c.place p ≡ Slot (record { 0 = k }) → held c p ≡ Some (c.slots.bytes k)
unfolding held
held_slotted c p k at = ap (λ x. bytes_at c.frames c.slots x) at

-- a file that has got longer than it has been since its length was made durable has got another length
resized_longer : (o : Option FileInfo) (size : Option Size) → ((info : FileInfo) (z : Size) → o ≡ Some info → size ≡ Some z → IsSizeOf info z) → shortest_of o size < length_of (with_length o size) → is_resized size ≡ true
resized_longer None size each longer = absurd (omega (arith, longer))
resized_longer (Some info) None each longer = absurd (omega (arith, longer))
resized_longer (Some info) (Some z) each longer = elim (cases_Bool z.resized) [
  | inl resized ↦ resized
  | inr still ↦ (let same = (each info z refl refl).same still in absurd (omega (arith, longer, same.0, same.1)))
]

-- a page that is cut off stays mapped
mapped_still : (file bytes : ℕ) (o : Option View) → is_some (option_map (cut_view file bytes) o) ≡ is_some o
mapped_still file bytes None = refl
mapped_still file bytes (Some view) = refl

some_of : {A : Type 0} (o : Option A) → IsSome o → (x : A) × (o ≡ Some x)
some_of None none = absurd (let never : false ≡ true = none in cc)
some_of (Some x) some = (x, refl)

module _ {M : Type 0} {m : Levels.Ghosts M} {D E : Type 0} (g : Ghosts D) (h : Ghosts E) (old : Core D E M m) (sound : IsSoundCore g h old) where
  -- pages within which files got longer again are touched
  pub ends_touched : AreEndsTouched old
  ends_touched f longer within =
      sound.ends.ends f (resized_longer (durable_files_of old.store f) (slice_get old.store.sizes.items f) (λ info z there is. sound.ready.each f info z there is) longer) longer within

  module _ (s : State) (shows : CoreShows g old s) (file bytes : ℕ) (whole : AreWhole old.frames) where
    -- the pages of a file, as all mappings see them, are no longer than a page
    short_page : (p : FilePage) (q : Place) (info : FileInfo) → (picture_of old).place (File p) ≡ q → files_of old.store p.file ≡ Some info → 4096 * p.page < info.length → length (s.volatile p.file p.page) ≤ 4096
    short_page p Home info at there inside =
        let same = ap length (shows.pages.clean p (untouched_home (picture_of old) (File p) sound.fit at) (info, there, inside)) in
        let long : length (home_page s p.file p.page) ≡ 4096 = length-cut (bytes_inside (s.shortest p.file) p.page) (s.durable.pages p.file p.page) (omega arith) (shows.whole p.file p.page) in
        omega (arith, same, long)
    short_page p (Frame n) info at there inside =
        let same = ap length (shows.pages.held p (bytes_of old.frames n.0) (held_framed (picture_of old) (File p) n.0 at)) in
        let cache = sound.fit.places.cached (File p) n.0 at in
        let long = whole n.0 (used_inside old.frames n.0 old.sound (λ free. (let never : Cache ≡ Free = sym cache ∙ free in cc))) in
        omega (arith, same, long)
    short_page p (Slot k) info at there inside =
        let same = ap length (shows.pages.held p ((slots_of old.swap).bytes k.0) (held_slotted (picture_of old) (File p) k.0 at)) in
        let one = sound.fit.places.slotted (File p) k.0 at in
        let used : IsInUse (slots_of old.swap) k.0 = omega (arith, one) in
        let few = none_long _ (λ w is. old.swap.whole k.0 w used is) in
        omega (arith, same, few)

    tells : TellsFile old.store s file
    tells = record {
      shortest = shows.shortest file;
      durable = λ k. let long = shows.whole file k in omega (arith, long);
      pages = λ k below.
          let inside = page_inside (s.files file) k below in
          let p : FilePage = record { file = file; page = k } in
          short_page p ((picture_of old).place (File p)) inside.0 refl (sym (shows.pages.files file) ∙ inside.1) inside.2;
    }

    checks_are : truncate_checks s file bytes ≡ resize_checks (files_of old.store) (can_resize old.store) file bytes
    checks_are =
        let files : s.files ≡ files_of old.store = λ t f. shows.pages.files f t in
        ap (λ (fs : Files). resize_checks fs s.resizes file bytes) files ∙ ap (λ (b : Bool). resize_checks (files_of old.store) b file bytes) shows.resizes

    module _ (info : FileInfo) (may : IsResizable (files_of old.store) (can_resize old.store) file bytes info) (other : info.length ≢ bytes) where
      truncates : outcome s (Truncate file bytes) ≡ record { reply = Done; state = truncated s file bytes }
      truncates =
          let long = ap length_in (shows.pages.files file ∙ may.there) in
          let test : (length_in (s.files file) == bytes) ≡ false = ne_eqb (length_in (s.files file)) bytes (λ e. other (sym long ∙ e)) in
          ap (λ (o : Option Errno). refused_or s o (if length_in (s.files file) == bytes then answers s Done else record { reply = Done; state = truncated s file bytes })) (ap first_of checks_are ∙ may.fine)
          ∙ rw test refl

      tables : table_count (outcome s (Truncate file bytes)).state ≡ table_count s
      tables = ap (λ (o : Outcome). table_count o.state) truncates ∙ tables_kept s (truncated s file bytes) refl (λ pid. refl) (λ pid page. mapped_still file bytes (s.views pid page))

      module _ (new : Core D E M m) (swaps : h.keeps_model new.swap.pages.disk) (keeps : g.keeps_model (disk_of new.store)) where
        homes_before : (found : AnyStore D) → ReadsStore g old.store found → new.store.store ≡ found.store → AreHomes g old.store s
        homes_before found reads same =
            homes_now g old s shows (λ f i z there is. sound.ready.each f i z there is) (reads.kept (subst (λ (x : Store D). g.keeps_model (Durable.disk_of x)) same keeps))

        -- and so does memory
        pub resized : (u : Unit {0}) → Resizes g h old new file bytes (Ok u) → Comes g h old new s (Truncate file bytes) Done
        resized u done =
            does g h old new s (Truncate file bytes) Done (record { reply = Done; state = truncated s file bytes }) truncates refl
            (done.shows s shows.pages (homes_before done.found done.reads done.resizes.same) tells keeps swaps)

        -- or it stalls
        pub stalled : (stall : Stall) → Resizes g h old new file bytes (Err stall) → Comes g h old new s (Truncate file bytes) (Stalled stall)
        stalled stall done =
            stalls_read g h old new s (Truncate file bytes) refl refl refl done.fit (ap (λ (o : Outcome). is_success o.reply) truncates) tables stall done.cause done.short
            (done.stays s shows.pages (homes_before done.found done.reads (ap (λ (x : AnyStore D). x.store) done.left)) keeps swaps)

  module _ (file bytes : ℕ) where
    -- nothing changed
    pub keeps_same : (reply : Reply) → AccountsFor g h old old reply → ((stall : Stall) → reply ≢ Stalled stall) → (reply ≡ Done → length_now old file ≡ bytes) → KeepsToFile g h old old file bytes reply
    keeps_same reply accounts none same = record {
      accounts = accounts;
      still = λ e. refl;
      found = old.store;
      reads = reads_none g old.store old.store refl;
      resizes = λ done other. absurd (other (same done));
      left = λ same. refl;
      device = device_none h old.swap.pages.disk;
      spaces = record { root = λ q. refl; at = λ q k. refl };
      seen = λ stall e. absurd (none stall e);
      idle = λ calm. (refl, refl);
      asks = asks_none g _ (disk_of old.store) (disk_of old.store) (λ k. refl);
      once = once_none _ (g.asked (disk_of old.store)) (g.asked (disk_of old.store)) (λ k. refl);
      asks_swap = asks_slots_same h old old None _ refl;
      wanted = λ stall e. absurd (none stall e);
      home = λ e. absurd (none StoreDevice e);
      refuses = λ stall e. absurd (none stall e);
    }

    module _ (new : Core D E M m) (other : length_now old file ≢ bytes) where
      module _ (u : Unit {0}) (done : Resizes g h old new file bytes (Ok u)) (there : IsSome (files_of old.store file)) where
        kept_now : kept_of new.store ≡ kept_of old.store
        kept_now = ap (λ (x : Store D). Durable.kept_of x) done.resizes.same ∙ done.reads.same

        durable_now : (f : ℕ) → durable_in (directory_of new.store) f ≡ durable_in (directory_of old.store) f
        durable_now f = ap (λ k. Durable.files_in (Durable.directory_in k) f) kept_now

        sizes_now : (f : ℕ) → f ≢ file → is_resized_in new.store.sizes.items f ≡ is_resized_in old.store.sizes.items f
        sizes_now f ne = ap is_resized (done.resizes.others f ne) ∙ ap (λ z. is_resized (slice_get z f)) done.reads.sizes

        -- each file that has got another length is there durably
        marked : MarksEnds (directory_of new.store) (picture_of new).touched
        marked = record {
          there = λ f resized. elim (cases_eq f file) [
            | inl same ↦ (
                let now = some_of (files_of old.store file) there in
                let was = there_of (durable_files_of old.store file) (slice_get old.store.sizes.items file) now.0 now.1 in
                (was.0, ap (durable_in (directory_of new.store)) same ∙ durable_now file ∙ was.1))
            | inr ne ↦ (let was = sound.ends.there f (sym (sizes_now f ne) ∙ resized) in (was.0, durable_now f ∙ was.1))
          ];
          ends = λ f resized longer within. done.ends ends_touched f longer within;
        }

        pub keeps_resized : KeepsToFile g h old new file bytes Done
        keeps_resized = record {
          accounts = record {
            sound = record { ready = done.ready; room = subst HasRoom (sym kept_now) sound.room; swap = done.swap; fit = done.fit; ends = marked };
            room = done.room;
            denied = λ e. absurd (let never : false ≡ true = e in cc);
            caused = record {
              later = omega (arith, done.cause.1);
              swap_later = done.device.later;
              calm = λ e. done.cause.1;
              swap_calm = λ e. done.cause.2;
              counted = omega (arith, done.cause.0);
              failed = λ e. cc;
              stalled = λ stall e. cc;
            };
          };
          still = λ e. absurd (other e);
          found = done.found;
          reads = done.reads;
          resizes = λ e ne. done.resizes;
          left = λ same. absurd (other (same refl));
          device = done.device;
          spaces = done.spaces;
          seen = λ stall e. cc;
          idle = done.idle;
          asks = done.asks;
          once = done.once;
          asks_swap = done.asks_swap;
          wanted = λ stall e. cc;
          home = λ e. cc;
          refuses = λ stall e. cc;
        }

      pub keeps_stalled : (stall : Stall) → Resizes g h old new file bytes (Err stall) → KeepsToFile g h old new file bytes (Stalled stall)
      keeps_stalled stall done =
          let later : g.failures (disk_of old.store) ≤ g.failures (disk_of new.store) = subst (λ (x : AnyStore D). g.failures (disk_of old.store) ≤ g.failures (disk_of x)) (sym done.left) done.reads.failures in
          let reads : ReadsStore g old.store new.store = subst (λ (x : AnyStore D). ReadsStore g old.store x) (sym done.left) done.reads in
          record {
            accounts = record {
              sound = sound_read old new g h reads done.ready done.swap done.fit (λ p touched. done.seen.touched (File p) ∙ touched) sound;
              room = done.room;
              denied = λ e. absurd (let never : false ≡ true = e in cc);
              caused = stall_caused g h old new stall later done.device.later done.cause;
            };
            still = λ e. absurd (other e);
            found = done.found;
            reads = done.reads;
            resizes = λ e ne. cc;
            left = λ same. done.left;
            device = done.device;
            spaces = done.spaces;
            seen = λ other e. done.seen;
            idle = done.idle;
            asks = done.asks;
            once = done.once;
            asks_swap = done.asks_swap;
            wanted = λ other e. done.wanted;
            home = λ e. done.home (same_stall stall StoreDevice e);
            refuses = λ other e. subst (λ (x : Stall). x ≢ StoreDevice → Refuses (picture_of new) None x) (same_stall stall other e) done.refuses;
          }
