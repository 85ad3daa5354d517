-- A store of a pool that is opened, or taken up as it stands, in the words of stores of any layout.
use Rattle.stores.proofs.{Front.{most_stays}, Heads.{blocks_are, pages_are, same_blocks, same_mark, same_pages}, Says.{IsHeaded, as_pool, head_of}}
use Rattle.stores.proofs.Names.{ℕ, ◌≡◌, ◌⊎◌, ◌∙◌, ◌<◌, ◌≤◌, ◌*◌, true, false, List, Option, Some, None, refl, sym, ap, subst, ⊎_elim, inl, inr, arith, bytes_eq-Decides}
use Rattle.stores.proofs.Names.{Bool, not, Image, MayLeave, AsksOnly, LeavesNow, Touches, Nothing, RunsOnDevice, Ghosts, weaker, wider, true≢false}
use Rattle.std.{proofs.lemmas.{Bool.{cases_Bool, cases_lt}, Option.{none-some, same_Some}}, specs.{Option.{option_map}, Str.{bytes_eq}}}
use Rattle.vm_types.specs.{Limits.{file_limit, file_page_limit}, declared.file.FileInfo.{FileInfo}}
use Rattle.disk_model.proofs.{Moments.{asks_wider}, Naming.{once_none}}
use Rattle.directories.specs.{Kinds.{IsKind, kind_sector}, Layouts.{entry_in}, declared.entry.Entry.{Entry}}
use Rattle.file_store.specs.Standing.{AreBounded}
use Rattle.sync_journal.proofs.{Runs.{of_more}, Shared.{blocks_weaker}}
use Rattle.pool_journal.{proofs.{Counted.{free_and_live}, Loose.{map_high, map_low}, Taken.{live_same}}, specs.{Gates.{IsPoolGate}, Journal.{free_count}, Maps.{entries_of}, Pools.{pool, pool_entry, pool_home_count, pool_named, IsPoolMap}, Recovering.{RestoresInBlocks}}}
use Rattle.pool_store.specs.{Files.{info_in, info_of, page_in, StandsAs as PoolStandsAs}, Opened.{OpensPool, RefusesPool, IsWrittenToOpen}}
use Rattle.pool_store.proofs.OneKind.{bad_by_all}
use Rattle.pool_store.specs.{Pools.{files_in_pool, HaveBounds, IsBadPool, IsBadPool.{OtherKind}}, Store.{layout_of}}
use Rattle.pool_store.specs.Resume.{IsAskedToOpen, IsAskedOf, IsAskedIn, IsNoPool, FindsStore, ResumesStore, RefusesToResume as RefusesPoolResume}
use Rattle.pool_store.specs.declared.{faults.OpenFault.{OpenFault as PoolFault, TheVariants.{Device as PoolDevice, BadLayout as PoolLayout, Memory as PoolMemory}}, store.PoolStore.{PoolStore}}
use Rattle.stores.specs.{Faults.{of_pool}, Images.{ImageSays, directory_pages, free_pages, is_pool, map_blocks, most_pages, says, says_by, IsBadJournal, IsBadLayout, StandsAs}, Store.{files_of}, Opened.{OpensWith, RefusesToOpen, RunsOpening}, Resumed.{ResumesWith, RefusesToResume}}
use Rattle.stores.specs.declared.{faults.OpenFault.TheVariants.{Device, BadLayout, BadJournal, Memory}, store.Store.TheVariants.{Pool}}

-- what an image says by the layout of stores with maps of m blocks and a directory of d pages, on a device of so many sectors and n homes
abbrev pool_says : ℕ → ℕ → ℕ → ℕ → Image → ImageSays
pool_says m d n sectors image = record {
  info = info_in (files_in_pool m d n) image;
  page = page_in (files_in_pool m d n) image;
  HasBadLayout = (files_in_pool m d n).IsBad sectors image;
  HasBadJournal = (files_in_pool m d n).pages.IsBad sectors image;
  most = 504 * m;
  free = free_count m (pool_entry m n (pool_named image) image);
  IsClosed = (files_in_pool m d n).pages.IsClosed image;
  IsOutside = (files_in_pool m d n).pages.IsOutside image sectors;
  IsAsked = IsAskedToOpen sectors image;
  IsWritten = IsWrittenToOpen sectors image;
}

module _ (m d n sectors : ℕ) (homes : n ≡ pool_home_count m sectors) (image : Image) (head : IsHeaded m d image) (P : ImageSays → Type 0) where
  -- what is so of these words is so of the words of an image with mark and kind of such a store,
  pub by_head : P (pool_says m d n sectors image) → P (says sectors image)
  by_head here = subst (λ b. P (says_by b sectors image)) (sym head.mark)
      (subst (λ x. P (pool_says x (directory_pages image) (pool_home_count x sectors) sectors image)) (sym head.blocks)
      (subst (λ y. P (pool_says m y (pool_home_count m sectors) sectors image)) (sym head.pages)
      (subst (λ k. P (pool_says m d k sectors image)) homes here)))

-- and the other way round
pub of_head : (m d n sectors : ℕ) → n ≡ pool_home_count m sectors → (image : Image) → IsHeaded m d image → (P : ImageSays → Type 0) → P (says sectors image) → P (pool_says m d n sectors image)
of_head m d n sectors homes image head P = by_head m d n sectors homes image head (λ (words : ImageSays). P words → P (pool_says m d n sectors image)) (λ here. here)

-- a number lies from 1 to the most, or not
sized_cases : (most n : ℕ) → ((1 ≤ n) × (n ≤ most)) ⊎ ((1 ≤ n) × (n ≤ most) → ⊥)
sized_cases most n = ⊎_elim
    (λ none. inr (λ sized. omega (arith, none, sized.0)))
    (λ some. ⊎_elim (λ more. inr (λ sized. omega (arith, more, sized.1))) (λ few. inl (some, few)) (cases_lt most n))
    (cases_lt n 1)

-- a sector is a kind with these numbers, or not
pub kind_cases : (m d : ℕ) (sector : List ℕ) → IsKind m d sector ⊎ (IsKind m d sector → ⊥)
kind_cases m d sector =
    let decides = bytes_eq-Decides sector (kind_sector m d) in
    ⊎_elim
    (λ is. ⊎_elim
    (λ maps. ⊎_elim (λ pages. inl (record { bytes = decides.0 is; maps = maps; pages = pages })) (λ other. inr (λ kind. other kind.pages)) (sized_cases 256 d))
    (λ other. inr (λ kind. other kind.maps)) (sized_cases 2048 m))
    (λ is. inr (λ kind. (let other = decides.1 kind.bytes in cc)))
    (cases_Bool (bytes_eq sector (kind_sector m d)))

-- a kind has the numbers that the image has
pub same_kind : (m d : ℕ) (image : Image) → IsKind m d (image 1) → IsKind (map_blocks image) (directory_pages image) (image 1)
same_kind m d image kind = subst (λ x. IsKind x (directory_pages image) (image 1)) (sym (blocks_are m d image kind))
    (subst (λ y. IsKind m y (image 1)) (sym (pages_are m d image kind)) kind)

-- files whose entries are bounded are so
pub are_bounded : (entries : List (Option Entry)) → HaveBounds entries → AreBounded (λ f. option_map info_of (entry_in entries f))
are_bounded entries bounds = record { each = λ f k inside. from f k inside.0 inside.2 (entry_in entries f) refl inside.1 }
  where
    from : (f k : ℕ) (info : FileInfo) → 4096 * k < info.length → (o : Option Entry) → entry_in entries f ≡ o → option_map info_of o ≡ Some info → (f < file_limit) × (k < file_page_limit)
    from f k info inside None is none = absurd (none-some info none)
    from f k info inside (Some e) is same =
        let here = bounds f e is in
        let length : e.length ≡ info.length = ap (λ (i : FileInfo). i.length) (same_Some (info_of e) info same) in
        (here.0, (let short = here.1 in omega (arith, short, length, inside)))

-- of which fault a fault is
device_of : (fault : PoolFault) → of_pool fault ≡ Device → fault ≡ PoolDevice
device_of PoolDevice is = refl
device_of PoolLayout is = cc
device_of PoolMemory is = cc

bad_of : (fault : PoolFault) → of_pool fault ≡ BadLayout → fault ≡ PoolLayout
bad_of PoolDevice is = cc
bad_of PoolLayout is = refl
bad_of PoolMemory is = cc

memory_of : (fault : PoolFault) → of_pool fault ≡ Memory → fault ≡ PoolMemory
memory_of PoolDevice is = cc
memory_of PoolLayout is = cc
memory_of PoolMemory is = refl

no_journal : (fault : PoolFault) → of_pool fault ≡ BadJournal → ⊥
no_journal PoolDevice is = cc
no_journal PoolLayout is = cc
no_journal PoolMemory is = cc

-- an opening writes neither mark nor kind
front_unwritten : (m n sectors : ℕ) (image : Image) (k : ℕ) → k < 2 → (pool m n).IsRecovered image sectors k → ⊥
front_unwritten m n sectors image k low = ⊎_elim (λ gate. omega (arith, gate, low)) (λ map. map_high m _ k map (omega (arith, low)))

-- nor what lies outside of gate, pool and homes
outside_unwritten : (m n sectors : ℕ) (image : Image) (k : ℕ) → (pool m n).IsOutside image sectors k → (pool m n).IsRecovered image sectors k → ⊥
outside_unwritten m n sectors image k = ⊎_elim
    (λ low. ⊎_elim (λ gate. omega (arith, gate, low)) (λ map. map_high m _ k map (omega (arith, low))))
    (λ high. ⊎_elim (λ gate. omega (arith, gate, high)) (λ map. map_low m _ k map (omega (arith, high))))

-- maps that give the slots alike leave as many to none
same_free : (m : ℕ) (one other : Bool → ℕ → ℕ) → ((body : Bool) (r : ℕ) → r < 504 * m → one body r ≡ other body r) → free_count m one ≡ free_count m other
same_free m one other alike =
    let first = live_same (one false) (other false) (504 * m) (alike false) in
    let second = live_same (one true) (other true) (504 * m) (alike true) in
    let ours = free_and_live m one in
    let theirs = free_and_live m other in
    omega (arith, first, second, ours, theirs)

-- A store is found on a device, of which no more is asked for, and written, than an opening does.
record IsFound {D : Type 0} (g : Ghosts D) (old : D) (store : PoolStore D) : Type 0 where
  pub finds : FindsStore g old store
  pub run : RunsOnDevice g ((layout_of store).pages.IsRecovered (g.content old) (g.sector_count old)) old store.disk
  pub asks : g.keeps_model store.disk → AsksOnly g (IsAskedOf store (g.content old)) old store.disk
  pub closed_unwritten : g.keeps_model store.disk → (layout_of store).pages.IsClosed (g.content old) → Touches g Nothing old store.disk

module _ {D : Type 0} (g : Ghosts D) (old : D)
    (only_now : (d : D) (image : Image) → g.keeps_model d → g.left_since d (g.moment d) image → MayLeave (g.content d) (g.unsynced d) image) where
  abbrev sectors : ℕ
  sectors = g.sector_count old

  abbrev image : Image
  image = g.content old

  -- Where a stop may spoil whole blocks it stands for the same by the words of both.
  in_blocks : (m d n : ℕ) → n ≡ pool_home_count m sectors → (new : D) → IsHeaded m d image
      → RestoresInBlocks g m (not (pool_named image)) (PoolStandsAs (files_in_pool m d n) sectors image) old new
      → RestoresInBlocks g (map_blocks image) (not (pool_named image)) (StandsAs sectors image) old new
  in_blocks m d n homes new head run = subst (λ x. RestoresInBlocks g x second (StandsAs sectors image) old new) (sym head.blocks)
      (⊎_elim (λ none. inl none) (λ anew. inr (
        anew.0,
        anew.1,
        ⊎_elim
            (λ map. inl (blocks_weaker g (IsPoolMap m second) Was Is anew.0 new more map))
            (λ named. inr (named.0, blocks_weaker g (IsPoolMap m second) Was Is anew.0 named.0 more named.1, blocks_weaker g IsPoolGate Was Is named.0 new more named.2))
            anew.2,
      )) run)
    where
      second : Bool
      second = not (pool_named image)

      Was : Image → Type 0
      Was = PoolStandsAs (files_in_pool m d n) sectors image

      Is : Image → Type 0
      Is = StandsAs sectors image

      more : (left : Image) → Was left → Is left
      more left stays = as_pool m d n sectors homes image left head stays

  -- The store is found:
  module _ (store : PoolStore D) (o : IsFound g old store) where
    abbrev m : ℕ
    m = store.journal.sizes.blocks

    abbrev d : ℕ
    d = store.directory.pages

    abbrev n : ℕ
    n = store.journal.sizes.homes

    abbrev disk : D
    disk = store.disk

    homes : n ≡ pool_home_count m sectors
    homes = o.finds.ready.is.pool.homes ∙ ap (pool_home_count m) o.run.size

    front : g.keeps_model disk → (k : ℕ) → k < 2 → image k ≡ g.content disk k
    front keeps k low = ⊎_elim (λ at. absurd (front_unwritten m n sectors image k low at)) (λ same. sym same) ((o.run.touches keeps).content k)

    kind : g.keeps_model disk → IsKind m d (image 1)
    kind keeps = subst (λ sector. IsKind m d sector) (sym (front keeps 1 (omega arith))) (o.finds.ready.is.at_rest keeps).kind

    head : g.keeps_model disk → IsHeaded m d image
    head keeps = (let now = head_of g store o.finds.ready keeps in record {
      mark = same_mark (g.content disk) image (front keeps 0 (omega arith)) ∙ now.mark;
      blocks = same_blocks (g.content disk) image (front keeps 1 (omega arith)) ∙ now.blocks;
      pages = same_pages (g.content disk) image (front keeps 1 (omega arith)) ∙ now.pages;
    })

    runs : RunsOpening g old disk
    runs = record {
      size = o.run.size;
      kept = o.run.kept;
      later = o.run.later;
      asks = λ keeps. by_head m d n sectors homes image (head keeps) (λ (words : ImageSays). AsksOnly g words.IsAsked old disk)
          (asks_wider g (IsAskedOf store image) (IsAskedToOpen sectors image) old disk
          (λ k at. inr (m, d, kind keeps, subst (λ x. IsAskedIn m d x image k) homes at)) (o.asks keeps));
      touches = λ keeps. by_head m d n sectors homes image (head keeps) (λ (words : ImageSays). Touches g words.IsWritten old disk)
          (wider g ((pool m n).IsRecovered image sectors) (IsWrittenToOpen sectors image) old disk (λ k at. (m, d, kind keeps, at)) (o.run.touches keeps));
      outside = λ keeps. by_head m d n sectors homes image (head keeps) (λ (words : ImageSays). (k : ℕ) → words.IsOutside k → g.content disk k ≡ image k)
          (λ k at. ⊎_elim (λ written. absurd (outside_unwritten m n sectors image k at written)) (λ same. same) ((o.run.touches keeps).content k));
      closed_unwritten = λ keeps closed. o.closed_unwritten keeps (of_head m d n sectors homes image (head keeps) (λ (words : ImageSays). words.IsClosed) closed);
      any_moment = λ keeps still. weaker g old disk (PoolStandsAs (layout_of store) sectors image) (StandsAs sectors image)
          (λ left stays. as_pool m d n sectors homes image left (head keeps) stays) (o.finds.stays.through.any_moment keeps still);
      blocks = λ keeps still marked. in_blocks m d n homes disk (head keeps) (o.finds.stays.blocks keeps still (kind keeps) image (λ files pages stands. stands));
      most_moment = λ keeps still. most_stays g ((pool m n).IsRecovered image sectors) old disk (λ left since. only_now old left (o.run.kept keeps) since)
          (λ k low. still k) (front_unwritten m n sectors image) (o.run.touches keeps);
    }

    -- its image was that of a store,
    good : g.keeps_model disk → IsBadLayout sectors image → ⊥
    good keeps bad = o.finds.good keeps (of_head m d n sectors homes image (head keeps) (λ (words : ImageSays). words.HasBadLayout) bad)

    no_bad_journal : g.keeps_model disk → IsBadJournal sectors image → ⊥
    no_bad_journal keeps bad = of_head m d n sectors homes image (head keeps) (λ (words : ImageSays). words.HasBadJournal) bad

    -- and stands for what it did,
    stands : g.keeps_model disk → LeavesNow g disk (StandsAs sectors image)
    stands keeps left may = as_pool m d n sectors homes image left (head keeps) (o.finds.now keeps left may)

    bounds : AreBounded (files_of (Pool store))
    bounds = are_bounded store.directory.entries.items o.finds.ready.is.is_directory.may.bounded

    -- and it has as many slots as that says,
    most : g.keeps_model disk → 504 * m ≡ most_pages sectors image
    most keeps = by_head m d n sectors homes image (head keeps) (λ (words : ImageSays). 504 * m ≡ words.most) refl

    -- and as many free.
    free : g.keeps_model disk → free_count m (entries_of store.journal.map) ≡ free_pages sectors image
    free keeps = by_head m d n sectors homes image (head keeps) (λ (words : ImageSays). free_count m (entries_of store.journal.map) ≡ words.free)
        (same_free m (entries_of store.journal.map) (pool_entry m n (pool_named image) image) (o.finds.map keeps))

  -- It is opened,
  pub pool_opens : (store : PoolStore D) → OpensPool g old store → OpensWith g Nothing old (Pool store)
  pool_opens store o =
      let found : IsFound g old store = record { finds = o.finds; run = o.run; asks = o.asks; closed_unwritten = o.closed_unwritten } in
      record {
        run = runs store found;
        ready = o.finds.ready;
        bounded = bounds store found;
        good_layout = good store found;
        good_journal = no_bad_journal store found;
        now = stands store found;
        homes = o.finds.homes;
        synced = o.finds.synced;
        most = most store found;
        carried = λ keeps. (o.finds.map keeps, o.anew keeps);
        emptied = λ keeps none. absurd (true≢false (sym (head store found keeps).mark ∙ none));
        once = λ keeps. (old, once_none Nothing (g.asked old) (g.asked old) (λ k. refl), o.once keeps);
        calm = o.calm;
      }

  -- or taken up as it stands.
  pub pool_resumes : (store : PoolStore D) → ResumesStore g old store → ResumesWith g Nothing old (Pool store)
  pool_resumes store r =
      let found : IsFound g old store = record {
        finds = r.finds;
        run = of_more g Nothing ((layout_of store).pages.IsRecovered image sectors) old store.disk (λ k none. absurd none) r.run;
        asks = r.asks;
        closed_unwritten = λ keeps closed. r.run.touches keeps;
      } in
      record {
        resuming = record { run = runs store found; pool_unwritten = λ keeps marked. r.run.touches keeps };
        ready = r.finds.ready;
        bounded = bounds store found;
        good_layout = good store found;
        good_journal = no_bad_journal store found;
        now = stands store found;
        homes = r.finds.homes;
        synced = r.finds.synced;
        named = λ keeps. (r.named keeps, r.finds.map keeps);
        free = free store found;
        most = most store found;
        once = λ keeps. (old, once_none Nothing (g.asked old) (g.asked old) (λ k. refl), r.once keeps);
        calm = r.calm;
      }

  -- Or the device is given back: of an image of whatever kind, with the numbers that it has.
  module _ (marked : g.keeps_model old → is_pool image ≡ true) (fault : PoolFault) (new : D) (r : RefusesPool g old fault new) where
    abbrev blocks : ℕ
    blocks = map_blocks image

    abbrev pages : ℕ
    pages = directory_pages image

    abbrev count : ℕ
    count = pool_home_count blocks sectors

    -- bad by the numbers that it has, it is so by any
    no_pool : IsBadPool blocks pages count sectors image → IsNoPool sectors image
    no_pool bad = ⊎_elim (λ is. bad_by_all blocks pages sectors image is bad) (λ none x y. OtherKind (λ is. none (same_kind x y image is)))
        (kind_cases blocks pages (image 1))

    headed : g.keeps_model new → IsHeaded blocks pages image
    headed keeps = record { mark = marked (r.err_run.kept keeps); blocks = refl; pages = refl }

    refused_runs : RunsOpening g old new
    refused_runs = record {
      size = r.err_run.size;
      kept = r.err_run.kept;
      later = r.err_run.later;
      asks = λ keeps. by_head blocks pages count sectors refl image (headed keeps) (λ (words : ImageSays). AsksOnly g words.IsAsked old new) (r.err_asks keeps);
      touches = λ keeps. by_head blocks pages count sectors refl image (headed keeps) (λ (words : ImageSays). Touches g words.IsWritten old new) (r.err_run.touches keeps);
      outside = λ keeps. by_head blocks pages count sectors refl image (headed keeps) (λ (words : ImageSays). (k : ℕ) → words.IsOutside k → g.content new k ≡ image k)
          (λ k at. ⊎_elim
          (λ written. absurd (outside_unwritten blocks count sectors image k at
          (subst (λ x. (pool x (pool_home_count x sectors)).IsRecovered image sectors k) (sym (blocks_are written.0 written.1 image written.2)) written.3)))
          (λ same. same) ((r.err_run.touches keeps).content k));
      closed_unwritten = λ keeps closed. ⊎_elim
          (λ is. r.err_closed_unwritten keeps blocks pages is (of_head blocks pages count sectors refl image (headed keeps) (λ (words : ImageSays). words.IsClosed) closed))
          (λ none. r.bad_unwritten keeps (λ x y. OtherKind (λ is. none (same_kind x y image is))))
          (kind_cases blocks pages (image 1));
      any_moment = λ keeps still. weaker g old new (PoolStandsAs (files_in_pool blocks pages count) sectors image) (StandsAs sectors image)
          (λ left stays. as_pool blocks pages count sectors refl image left (headed keeps) stays) ((r.err_stays blocks pages).through.any_moment keeps still);
      blocks = λ keeps still marked. ⊎_elim
          (λ is. in_blocks blocks pages count refl new (headed keeps) ((r.err_stays blocks pages).blocks keeps still is image (λ files pages stands. stands)))
          (λ none. inl (r.bad_unwritten keeps (λ x y. OtherKind (λ is. none (same_kind x y image is)))))
          (kind_cases blocks pages (image 1));
      most_moment = λ keeps still. most_stays g (IsWrittenToOpen sectors image) old new (λ left since. only_now old left (r.err_run.kept keeps) since) (λ k low. still k)
          (λ k low written. front_unwritten written.0 (pool_home_count written.0 sectors) sectors image k low written.3) (r.err_run.touches keeps);
    }

    pub pool_refuses : RefusesToOpen g old (of_pool fault) new
    pool_refuses = record {
      err_run = refused_runs;
      device = λ is. r.blames.device (device_of fault is);
      err_calm = λ other. r.blames.err_calm (λ is. other (ap of_pool is));
      unwritten = λ keeps other. r.unwritten keeps (λ is. other (ap of_pool is));
      bad_unwritten = λ keeps. by_head blocks pages count sectors refl image (headed keeps)
          (λ (words : ImageSays). words.HasBadLayout ⊎ words.HasBadJournal → Touches g Nothing old new)
          (⊎_elim (λ bad. r.bad_unwritten keeps (no_pool bad)) (λ none. absurd none));
      bad_layout = λ keeps is. by_head blocks pages count sectors refl image (headed keeps) (λ (words : ImageSays). words.HasBadLayout) (r.blames.bad keeps (bad_of fault is) blocks pages);
      bad_journal = λ keeps is. absurd (no_journal fault is);
      layout_first = λ keeps is. absurd (no_journal fault is);
      memory = λ keeps is. r.blames.memory keeps (memory_of fault is);
    }

  -- as it is where nothing at all is written.
  pub pool_refuses_resume : (g.keeps_model old → is_pool image ≡ true) → (fault : PoolFault) (new : D) → RefusesPoolResume g old fault new → RefusesToResume g old (of_pool fault) new
  pool_refuses_resume marked fault new r =
      let refused = pool_refuses marked fault new (record {
        blames = r.blames;
        unwritten = λ keeps other. r.err_run.touches keeps;
        bad_unwritten = λ keeps bad. r.err_run.touches keeps;
        err_closed_unwritten = λ keeps m d is closed. r.err_run.touches keeps;
        err_run = of_more g Nothing (IsWrittenToOpen sectors image) old new (λ k none. absurd none) r.err_run;
        err_stays = r.err_stays;
        err_asks = r.err_asks;
      }) in
      record { refused = refused; resuming = record { run = refused.err_run; pool_unwritten = λ keeps marked. r.err_run.touches keeps } }
