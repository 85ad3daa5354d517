-- A store is taken up: what is known of it from one call to the next.
use Rattle.std.proofs.Common.{◌≡◌, ◌⊎◌, ◌<◌, ◌≤◌, ◌+◌, ℕ, Bool, true, false, List, Option, Some, None, Ok, Err, Result, refl, sym, ap, subst, ◌∙◌, ⊎_elim, inl, inr, arith}
use Rattle.std.specs.Prelude.{IsErrAnd, MatchResult}
use Rattle.disk_model.proofs.{Moments.{asks_once, asks_then, asks_wider}, Naming.{once_apart}}
use Rattle.disk_model.specs.{Moments.{AsksOnly, LeavesNow, Nothing, Touches}, Stop.{Image, MayLeave, NamesOnce}, declared.sector_disk.{DiskFault.{DiskFault}, SectorDisk.{Ghosts}}}
use Rattle.directories.specs.{Kinds.{IsKind}, declared.entry.Entry.{Entry}}
use Rattle.pool_journal.proofs.{BlockReads.{of_counted}, Copied.{slot_inside}, Loose.{map_high, map_low, no_map, slot_same}}
use Rattle.pool_journal.specs.{Journal.{IsPoolJournal, IsNewJournal}, Maps.{entries_of}, Pools.{pool, pool_entry, pool_gate, pool_slot, pool_home, pool_home_count, pool_named, pool_stands, pool_standing, slot_by, IsPoolMap, IsPoolRest}}
use Rattle.pool_journal.specs.{Recovering.{GivesAsNamed, IsGateOrMap, IsGateOrNamed, ResumesPool}, Sizes.{HasPool}, declared.{pool.PoolJournal.{PoolJournal}, sizes.PoolSizes.{PoolSizes}}}
use Rattle.sync_journal.{proofs.{Layouts.{same_stands}, Runs.{one_more}, Sectors.{same_image, reads_unsynced}}, specs.{Layout.{IsPageSector}, Layouts.{HomesStandAs}, Runs.{RunsOnDevice}}}
use Rattle.pool_store.proofs.{Blames.{blames_device, blames_look, blames_memory, told}, Keeping.{keeps_reading}, OneKind.{bad_by_all, has_room}, Standing.{stands_kept}}
use Rattle.pool_store.specs.{Pools.{AreSaid, IsBadPool, IsBadPool.{Unmarked, OtherKind, TooSmall, NoDirectory}, IsDirectory, pool_mark}, Reading.{IsDirectorySector, ReadsDirectory}}
use Rattle.pool_store.specs.{Resume.{HasPoolHead, IsAskedIn, IsAskedToOpen, IsDirectoryIn, IsReadIn, IsHeadOf, ReadsHead, ResumesStore, RefusesToResume, BlamesStore, store_on}, Store.{HasCommitRoom}, declared.{directory.Directory.{Directory}, faults.OpenFault.{OpenFault, TheVariants.{Device, Memory}}, resuming.Found.{Found}, room.CommitRoom.{CommitRoom}}}

-- an image with mark, kind, room and directory is one of a store
pub is_good : (m d n sectors : ℕ) (image : Image) (entries : List (Option Entry)) → image 0 ≡ pool_mark → IsKind m d (image 1) → pool_home m d ≤ sectors → IsDirectory d n (pool_standing m n image) entries → IsBadPool m d n sectors image → ⊥
is_good m d n sectors image entries mark kind room is (Unmarked other) = other mark
is_good m d n sectors image entries mark kind room is (OtherKind other) = other kind
is_good m d n sectors image entries mark kind room is (TooSmall few) = omega (arith, room, few)
is_good m d n sectors image entries mark kind room is (NoDirectory none) = none entries is

-- the gate, or a sector of either map
pub gate_or_maps : (m : ℕ) (second : Bool) (image : Image) (k n : ℕ) → IsGateOrMap m second k → (pool m n).IsAsked image k
gate_or_maps m false image k n = ⊎_elim (λ gate. inl gate) (λ map. inr (inl map))
gate_or_maps m true image k n = ⊎_elim (λ gate. inl gate) (λ map. inr (inr map))

-- of the named one what counts
pub gate_or_named : (m : ℕ) (image : Image) (k n : ℕ) → IsGateOrNamed m image k → (pool m n).IsAsked image k
gate_or_named m image k n named = gate_or_maps m (pool_named image) image k n (⊎_elim (λ gate. inl gate) (λ map. inr (of_counted m (pool_named image) _ k map)) named)

-- the page of a home stands behind the gate, and in no map
slot_high : (m : ℕ) (body : Bool) (r k : ℕ) → IsPageSector (pool_slot m body r) k → k < pool_gate + 8 → ⊥
slot_high m false r k page low = omega (arith, page.0, low)
slot_high m true r k page low = omega (arith, page.0, low)

stands_apart : (m : ℕ) (entries : Bool → ℕ → ℕ) (h k : ℕ) (second : Bool) → IsPageSector (pool_stands m h (slot_by m entries h)) k → (k < pool_gate + 8 → ⊥) × (IsPoolMap m second k → ⊥)
stands_apart m entries h k second = from (slot_by m entries h) refl
  where
    from : (o : Option (Bool × ℕ)) → slot_by m entries h ≡ o → IsPageSector (pool_stands m h o) k → (k < pool_gate + 8 → ⊥) × (IsPoolMap m second k → ⊥)
    from None is page = (λ low. omega (arith, page.0, low), λ map. map_low m second k map (omega (arith, page.0)))
    from (Some slot) is page = (slot_high m slot.0 slot.1 k page, no_map m second slot.0 slot.1 k (slot_inside m entries h slot is) page)

module _ {D : Type 0} (g : Ghosts D) where
  -- a device of the same size has the same pool
  pub still_pool : (sizes : PoolSizes) (old new : D) → g.sector_count new ≡ g.sector_count old → HasPool g sizes old → HasPool g sizes new
  still_pool sizes old new size has = record {
    sized = has.sized;
    room = subst (λ n. pool_home sizes.blocks 0 ≤ n) (sym size) has.room;
    homes = has.homes ∙ ap (pool_home_count sizes.blocks) (sym size);
  }

  -- a device that is only read stays at rest
  pub still_rests : (m n : ℕ) (second : Bool) (entries : Bool → ℕ → ℕ) (old new : D) → Touches g Nothing old new → IsPoolRest g m n second entries old → IsPoolRest g m n second entries new
  still_rests m n second entries old new reads rest = record {
    gate = ap (λ (image : Image). pool_named image) (same_image g old new reads) ∙ rest.gate;
    map = λ body r below. ap (λ (image : Image). pool_entry m n second image body r) (same_image g old new reads) ∙ rest.map body r below;
    synced = λ k u. rest.synced k (reads_unsynced g old new reads k u);
  }

  -- The journal of a store with a directory of so many pages is taken up, and the device was only read, and nothing of it is unsynced.
  pub record HasJournal (old read : D) (pages : ℕ) (journal : PoolJournal) : Type 0 where
    pub head : IsHeadOf g old read journal.sizes pages
    pub open head use *
    pub is : IsPoolJournal journal
    pub named : g.keeps_model read → journal.second ≡ pool_named (g.content old)
    pub given : g.keeps_model read → GivesAsNamed journal.sizes journal.map (g.content old)
    pub rest : g.keeps_model read → IsPoolRest g journal.sizes.blocks journal.sizes.homes journal.second (entries_of journal.map) read
    pub looks : RunsOnDevice g Nothing old read
    pub calm : g.failures read ≡ g.failures old
    pub synced : g.keeps_model read → (k : ℕ) → g.unsynced read k → ⊥
    pub asks : g.keeps_model read → AsksOnly g (IsAskedIn journal.sizes.blocks pages journal.sizes.homes (g.content old)) old read
    pub once : g.keeps_model read → NamesOnce (λ k. (k < 2) ⊎ IsGateOrNamed journal.sizes.blocks (g.content old) k) (g.asked old) (g.asked read)

  -- what is asked for of the image's kind
  pub asked_by_kind : (sizes : PoolSizes) (pages : ℕ) (old new : D) → IsHeadOf g old new sizes pages → g.keeps_model new → AsksOnly g (IsAskedIn sizes.blocks pages sizes.homes (g.content old)) old new
      → AsksOnly g (IsAskedToOpen (g.sector_count old) (g.content old)) old new
  asked_by_kind sizes pages old new head keeps = asks_wider g (IsAskedIn sizes.blocks pages sizes.homes (g.content old)) (IsAskedToOpen (g.sector_count old) (g.content old)) old new
      (λ k asked. inr (sizes.blocks, pages, head.kind keeps, subst (λ n. IsAskedIn sizes.blocks pages n (g.content old) k) head.pool.homes asked))

  pub asked_low : (old new : D) → NamesOnce (λ k. k < 2) (g.asked old) (g.asked new) → AsksOnly g (IsAskedToOpen (g.sector_count old) (g.content old)) old new
  asked_low old new = asks_once g (IsAskedToOpen (g.sector_count old) (g.content old)) (λ k. k < 2) old new (λ k low. inl low)

  -- what a later look leaves known
  head_later : (sizes : PoolSizes) (pages : ℕ) (old head new : D) → (g.keeps_model new → g.keeps_model head) → IsHeadOf g old head sizes pages → IsHeadOf g old new sizes pages
  head_later sizes pages old head new kept h = record { pool = h.pool; sized = h.sized; inside = h.inside; mark = λ keeps. h.mark (kept keeps); kind = λ keeps. h.kind (kept keeps) }

  -- mark and kind are those of a store that has room
  has_head : (sizes : PoolSizes) (pages : ℕ) (old read : D) → IsHeadOf g old read sizes pages → g.keeps_model read → HasPoolHead (g.sector_count old) (g.content old)
  has_head sizes pages old read head keeps = (
    sizes.blocks,
    pages,
    head.mark keeps,
    head.kind keeps,
    has_room sizes.blocks pages (g.sector_count old) head.sized (subst (λ n. pages ≤ n) head.pool.homes head.inside),
  )

  module _ (old : D) (only_now : g.keeps_model old → (image : Image) → g.left_since old (g.moment old) image → MayLeave (g.content old) (g.unsynced old) image) where
    -- no store is found
    pub not_taken : (fault : OpenFault) (new : D) (r : Result Found OpenFault) → IsErrAnd r (λ f. f ≡ fault) → RefusesToResume g old fault new
        → MatchResult r (λ found. ResumesStore g old (store_on found new)) (λ f. RefusesToResume g old f new)
    not_taken fault new r is refuses = told r fault (λ found. ResumesStore g old (store_on found new)) (λ f. RefusesToResume g old f new) is refuses

    refuses : (fault : OpenFault) (new : D) → BlamesStore g old fault new → RunsOnDevice g Nothing old new → (g.keeps_model new → AsksOnly g (IsAskedToOpen (g.sector_count old) (g.content old)) old new)
        → RefusesToResume g old fault new
    refuses fault new blames run asks = record {
      blames = blames;
      err_run = run;
      err_stays = λ m d. keeps_reading g old new only_now run m d (pool_home_count m (g.sector_count old));
      err_asks = asks;
    }

    -- since mark or kind are not those of one
    pub refuses_head : (fault : OpenFault) (new : D) → ReadsHead g old new (Err fault) → RefusesToResume g old fault new
    refuses_head fault new h = refuses fault new (blames_look g _ fault old old new refl (λ keeps bad. bad) (λ keeps is. absurd (h.no_memory (ap Err is))) h.looks) h.looks.looks.run (λ keeps. asked_low old new h.once)

    -- Mark and kind say how large they are:
    module _ (sizes : PoolSizes) (pages : ℕ) (head : D) (h : ReadsHead g old head (Ok (sizes, pages))) where
      -- memory is short,
      pub refuses_memory : RefusesToResume g old Memory head
      refuses_memory = refuses Memory head (blames_memory g old head h.looks.looks.calm (has_head sizes pages old head h.found)) h.looks.looks.run (λ keeps. asked_low old head h.once)

      module _ (was now : PoolJournal) (read : D) (is_new : IsNewJournal sizes was) {r : Result (Unit {0}) DiskFault} (e : ResumesPool g was now head read r) where
        run : RunsOnDevice g Nothing old read
        run = one_more g Nothing old head read h.looks.looks.run e.reads.run

        held : g.keeps_model read → g.content head ≡ g.content old
        held keeps = same_image g old head (h.looks.looks.run.touches (e.reads.run.kept keeps))

        head_is : IsHeadOf g old read sizes pages
        head_is = head_later sizes pages old head read e.reads.run.kept h.found

        asks : g.keeps_model read → AsksOnly g (IsAskedIn sizes.blocks pages sizes.homes (g.content old)) old read
        asks keeps = subst (λ s. AsksOnly g (IsAskedIn s.blocks pages s.homes (g.content old)) old read) is_new.size (asks_then g W old head read (asks_once g W (λ k. k < 2) old head (λ k under. inl under) h.once)
            (asks_once g W V head read (λ k at. inr (inl (gate_or_named was.sizes.blocks (g.content head) k was.sizes.homes at))) (e.once keeps)))
          where
            W : ℕ → Type 0
            W = IsAskedIn was.sizes.blocks pages was.sizes.homes (g.content old)

            V : ℕ → Type 0
            V = IsGateOrNamed was.sizes.blocks (g.content head)

        once : g.keeps_model read → NamesOnce (λ k. (k < 2) ⊎ IsGateOrNamed was.sizes.blocks (g.content old) k) (g.asked old) (g.asked read)
        once keeps = once_apart (λ k. k < 2) (IsGateOrNamed was.sizes.blocks (g.content old)) (λ k. (k < 2) ⊎ IsGateOrNamed was.sizes.blocks (g.content old) k) (g.asked old) (g.asked head) (g.asked read)
            (λ k low. inl low) (λ k at. inr at)
            (λ k low. ⊎_elim (λ gate. omega (arith, low, gate)) (λ map. map_high was.sizes.blocks (pool_named (g.content old)) k (of_counted was.sizes.blocks (pool_named (g.content old)) _ k map) (omega (arith, low))))
            h.once (subst (λ (image : Image). NamesOnce (IsGateOrNamed was.sizes.blocks image) (g.asked head) (g.asked read)) (held keeps) (e.once keeps))

        -- the device fails under the journal,
        pub refuses_journal : g.failures head < g.failures read → RefusesToResume g old Device read
        refuses_journal failed = refuses Device read (blames_device g old read (let calm = h.looks.looks.calm in omega (arith, failed, calm))) run
            (λ keeps. asked_by_kind sizes pages old read head_is keeps (asks keeps))

      -- or that is taken up.
      pub has_journal : (was now : PoolJournal) (read : D) → IsNewJournal sizes was → ResumesPool g was now head read (Ok (tt {0})) → HasJournal old read pages now
      has_journal was now read is_new e = record {
        head = subst (λ s. IsHeadOf g old read s pages) (sym same) (head_is was now read is_new e);
        is = e.is;
        named = λ keeps. e.named keeps ∙ ap (λ (image : Image). pool_named image) (held was now read is_new e keeps);
        given = λ keeps. subst (λ s. GivesAsNamed s now.map (g.content old)) (sym e.sizes) (subst (λ (image : Image). GivesAsNamed was.sizes now.map image) (held was now read is_new e keeps) (e.map keeps));
        rest = λ keeps. subst (λ s. IsPoolRest g s.blocks s.homes now.second (entries_of now.map) read) (sym e.sizes) (e.settled keeps).rest;
        looks = run was now read is_new e;
        calm = e.reads.cause.calm ∙ h.looks.looks.calm;
        synced = e.synced;
        asks = λ keeps. subst (λ s. AsksOnly g (IsAskedIn s.blocks pages s.homes (g.content old)) old read) (sym same) (asks was now read is_new e keeps);
        once = λ keeps. subst (λ s. NamesOnce (λ k. (k < 2) ⊎ IsGateOrNamed s.blocks (g.content old) k) (g.asked old) (g.asked read)) (sym e.sizes) (once was now read is_new e keeps);
      }
        where
          same : now.sizes ≡ sizes
          same = e.sizes ∙ is_new.size

    -- and then the directory is read
    module _ (pages : ℕ) (read new : D) (journal : PoolJournal) (j : HasJournal old read pages journal) {r : Result Directory OpenFault} (d : ReadsDirectory g journal pages read new r) where
      abbrev m : ℕ
      m = journal.sizes.blocks

      abbrev n : ℕ
      n = journal.sizes.homes

      kept : g.keeps_model new → g.keeps_model read
      kept = d.looks.looks.run.kept

      read_held : g.keeps_model new → g.content read ≡ g.content old
      read_held keeps = same_image g old read (j.looks.touches (kept keeps))

      wholly : RunsOnDevice g Nothing old new
      wholly = one_more g Nothing old read new j.looks d.looks.looks.run

      in_directory : g.keeps_model new → (k : ℕ) → IsDirectorySector journal pages k → IsDirectoryIn m pages n (g.content old) k
      in_directory keeps k at = (
        at.0,
        at.1,
        subst (λ first. IsPageSector first k)
            (ap (pool_stands m at.0) (slot_same m (entries_of journal.map) (pool_entry m n (pool_named (g.content old)) (g.content old)) at.0 (j.given (kept keeps)))) at.2,
      )

      all_asked : g.keeps_model new → AsksOnly g (IsAskedIn m pages n (g.content old)) old new
      all_asked keeps = asks_then g (IsAskedIn m pages n (g.content old)) old read new (j.asks (kept keeps))
          (asks_once g (IsAskedIn m pages n (g.content old)) (IsDirectorySector journal pages) read new
          (λ k at. inr (inr (in_directory keeps k at))) d.once)

      once_each : g.keeps_model new → NamesOnce (IsReadIn m pages n (g.content old)) (g.asked old) (g.asked new)
      once_each keeps = once_apart (λ k. (k < 2) ⊎ IsGateOrNamed m (g.content old) k) (IsDirectorySector journal pages) (IsReadIn m pages n (g.content old)) (g.asked old) (g.asked read) (g.asked new)
          (λ k first. inl first) (λ k at. inr (in_directory keeps k at))
          (λ k first at. (let apart = stands_apart m (entries_of journal.map) at.0 k (pool_named (g.content old)) at.2 in
          ⊎_elim (λ low. apart.0 (omega (arith, low))) (⊎_elim (λ gate. apart.0 (omega (arith, gate))) (λ map. apart.1 (of_counted m (pool_named (g.content old)) _ k map))) first))
          (j.once (kept keeps)) d.once

      -- it is none, or the device or memory fails
      pub refuses_directory : (fault : OpenFault) → ReadsDirectory g journal pages read new (Err fault) → RefusesToResume g old fault new
      refuses_directory fault told = refuses fault new
          (blames_look g _ fault old read new j.calm (λ keeps none. bad_by_all m pages (g.sector_count old) (g.content old) (j.kind (kept keeps))
          (subst (λ x. IsBadPool m pages x (g.sector_count old) (g.content old)) j.pool.homes
          (NoDirectory (subst (λ (image : Image). (entries : List (Option Entry)) → IsDirectory pages n (pool_standing m n image) entries → ⊥) (read_held keeps) none))))
          (λ keeps is. has_head journal.sizes pages old read j.head (kept keeps)) told.looks) wholly
          (λ keeps. asked_by_kind journal.sizes pages old new (head_later journal.sizes pages old read new kept j.head) keeps (all_asked keeps))

    -- the store is found
    pub takes : (pages : ℕ) (read new : D) (journal : PoolJournal) (directory : Directory) (room : CommitRoom) → HasJournal old read pages journal → HasCommitRoom journal.sizes.blocks room
        → ReadsDirectory g journal pages read new (Ok directory) → ResumesStore g old (store_on (record { journal = journal; directory = directory; room = room }) new)
    takes pages read new journal directory room j has r = record {
      finds = record {
        ready = record {
          is = record {
            is_journal = j.is;
            pool = still_pool journal.sizes old new all.size j.pool;
            is_directory = r.directory;
            at_rest = λ keeps. record {
              rest = still_rests blocks homes journal.second (entries_of journal.map) read new (r.looks.looks.run.touches keeps) (j.rest (before keeps));
              mark = ap (λ (image : Image). image 0) (held keeps) ∙ j.mark (before keeps);
              kind = subst (λ (image : Image). IsKind blocks directory.pages (image 1)) (sym (held keeps)) (kind keeps);
              said = subst (λ (image : Image). AreSaid directory.pages (pool_standing blocks homes image) directory.entries.items) (sym (held keeps)) (said keeps);
            };
          };
          room = has;
        };
        good = λ keeps. is_good blocks directory.pages homes (g.sector_count old) (g.content old) directory.entries.items (j.mark (before keeps)) (kind keeps)
            (has_room blocks directory.pages (g.sector_count old) r.directory.sized (subst (λ x. directory.pages ≤ x) j.pool.homes r.directory.inside)) (record { may = r.directory.may; said = said keeps });
        map = λ keeps. j.given (before keeps);
        synced = synced;
        now = λ keeps image may. stands_kept blocks directory.pages homes (g.sector_count old) (g.content old) image (stand keeps image may);
        homes = stand;
        stays = keeps_reading g old new only_now all blocks directory.pages homes;
      };
      named = λ keeps. j.named (before keeps);
      run = all;
      calm = r.looks.looks.calm ∙ j.calm;
      asks = λ keeps. subst (λ x. AsksOnly g (IsAskedIn blocks x homes (g.content old)) old new) (sym r.pages) (all_asked pages read new journal j r keeps);
      once = λ keeps. subst (λ x. NamesOnce (IsReadIn blocks x homes (g.content old)) (g.asked old) (g.asked new)) (sym r.pages) (once_each pages read new journal j r keeps);
    }
      where
        blocks : ℕ
        blocks = journal.sizes.blocks

        homes : ℕ
        homes = journal.sizes.homes

        before : g.keeps_model new → g.keeps_model read
        before = r.looks.looks.run.kept

        all : RunsOnDevice g Nothing old new
        all = wholly pages read new journal j r

        held : g.keeps_model new → g.content new ≡ g.content old
        held keeps = same_image g old new (all.touches keeps)

        kind : g.keeps_model new → IsKind blocks directory.pages (g.content old 1)
        kind keeps = subst (λ x. IsKind blocks x (g.content old 1)) (sym r.pages) (j.kind (before keeps))

        said : g.keeps_model new → AreSaid directory.pages (pool_standing blocks homes (g.content old)) directory.entries.items
        said keeps = subst (λ x. AreSaid x (pool_standing blocks homes (g.content old)) directory.entries.items) (sym r.pages)
            (subst (λ (image : Image). AreSaid pages (pool_standing blocks homes image) directory.entries.items) (read_held pages read new journal j r keeps) (r.said keeps))

        synced : g.keeps_model new → (k : ℕ) → g.unsynced new k → ⊥
        synced keeps k u = j.synced (before keeps) k (reads_unsynced g read new (r.looks.looks.run.touches keeps) k u)

        stand : g.keeps_model new → LeavesNow g new (HomesStandAs (pool blocks homes) (g.sector_count old) (g.content old))
        stand keeps image may = same_stands (pool blocks homes) (g.sector_count old) (g.content old) image
            (λ t k. (⊎_elim {C = image k ≡ g.content new k} (λ u. absurd (synced keeps k u)) (λ e. e) (may.kept k) ∙ ap (λ (image : Image). image k) (held keeps)) t)
