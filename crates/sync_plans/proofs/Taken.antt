-- A store that is taken up with nothing written, and whose files then change, or that is refused.
use Rattle.sync_plans.proofs.Names.{ℕ, ◌*◌, ◌≡◌, ◌<◌, true, List, Option, length, Result, Ok, Err, IfErr, IfErr-weaker, OnOk, inl, inr, ⊎_elim, refl, sym, subst, ◌∙◌, arith, on_ok_weaker, CommitFault}
use Rattle.sync_plans.proofs.Names.{Ghosts, Image, LeavesNow, LeavesOnly, MayLeave, Nothing, Touches, joined, still_leaves, DiskFault, FileInfo, FilePage, Change, Directory, Pool, IsNewPage, PoolSizes, PoolStore, entries_of, info_by, PoolFault, PoolDevice, PoolLayout, PoolMemory}
use Rattle.sync_plans.proofs.Names.{FreesSlots, IsReadyPool, RefusesPool, ResumesStore, StandsFor, file_info, is_pool, pool_resumes, so_before, so_since, while_read}
use Rattle.sync_plans.proofs.Grown.{stays_freed}
use Rattle.std.proofs.lemmas.Option.{get_or_from_slice_get, slice_get_within}
use Rattle.sync_plans.specs.{Pages.{lent_page}, Resizing.{AreAllWritable, AreBrought, AreResizable, ChangesOpenStore, RefusesChanges, RefusesSizes, RefusesSizesOf, ResizesOpenStore, ResizesStore, StandsForSized}, Requests.{HasLayout, IsStore, KeepsOutside, StaysStore}}
use Rattle.pool_growth.specs.{Checks.{ArePagesRefused, IsKeptPage}, Sizes.{files_sized}, declared.{faults.BadPages.{BadPages as Unfit, TheVariants.{Order, NotNew, Outside, End, TooMany}}, sizes.FileSize.{FileSize}}}
use Rattle.pool_journal.specs.Journal.{free_count}
use Rattle.sync_journal.specs.{Source.{HasCauses}, declared.faults.CommitFault.TheVariants.{Source as SourceFailed, Device as DeviceFailed}}
use Rattle.sync_plans.specs.declared.{lent_pages.PageBytes.{PageBytes}, resizing.{ResizeRefusal.{ResizeRefusal}, ResizeRefusal.TheVariants.{Device, NoPool, Memory, BadPages, ReadOnly, NoHomes}}}

-- where lent pages are the source, a fault is one of the device
pub blamed : (before now : ℕ) (fault : CommitFault) → HasCauses before now 0 0 (Err fault) → before < now
blamed before now SourceFailed causes = absurd (let more = causes.source refl in omega (arith, more))
blamed before now DeviceFailed causes = causes.device refl

-- pages that are brought with changes are refused only where too few slots are free
pub refused_pages : {D : Type 0} (store : PoolStore D) (changes : List Change) (fresh list : List FilePage) (count : ℕ) (fault : Unfit)
    → AreBrought store.journal.sizes.blocks store.directory changes fresh list count → ArePagesRefused store changes fresh list fault
    → (fault ≡ TooMany) × (free_count store.journal.sizes.blocks (entries_of store.journal.map) < 2 * (504 * store.journal.sizes.blocks))
refused_pages store changes fresh list count Order are refused = absurd (refused (are.fresh_rise, are.rising))
refused_pages store changes fresh list count (NotNew p) are refused = absurd (refused.2
    (subst (λ (q : FilePage). IsNewPage (info_by store.directory) changes q.file q.page) (get_or_from_slice_get fresh refused.0 p p refused.1) (are.new refused.0 p (slice_get_within fresh refused.0 p refused.1))))
refused_pages store changes fresh list count (Outside p) are refused = absurd (refused.2
    (subst (λ (q : FilePage). IsKeptPage store.directory changes q) (get_or_from_slice_get list refused.0 p p refused.1) (are.kept refused.0 p (slice_get_within list refused.0 p refused.1))))
refused_pages store changes fresh list count (End f) are refused = absurd (refused (are.ends f))
refused_pages store changes fresh list count TooMany are refused = (refl, (let few = are.few in omega (arith, refused, few)))

-- and after all pages went home never
pub refused_tidied : {D : Type 0} (old new : PoolStore D) (changes : List Change) (fresh list : List FilePage) (count : ℕ) (fault : Unfit) → new.directory ≡ old.directory
    → new.journal.sizes ≡ old.journal.sizes → free_count old.journal.sizes.blocks (entries_of new.journal.map) ≡ 2 * (504 * old.journal.sizes.blocks)
    → AreBrought old.journal.sizes.blocks old.directory changes fresh list count → ArePagesRefused new changes fresh list fault → ⊥
refused_tidied old new changes fresh list count fault directory sizes room are refused =
    let are' = subst (λ (d : Directory). AreBrought new.journal.sizes.blocks d changes fresh list count) (sym directory)
    (subst (λ (s : PoolSizes). AreBrought s.blocks old.directory changes fresh list count) (sym sizes) are) in
    let room' : free_count new.journal.sizes.blocks (entries_of new.journal.map) ≡ 2 * (504 * new.journal.sizes.blocks) =
    subst (λ (s : PoolSizes). free_count s.blocks (entries_of new.journal.map) ≡ 2 * (504 * s.blocks)) (sym sizes) room in
    let short = (refused_pages new changes fresh list count fault are' refused).1 in
    omega (arith, room', short)

-- Changes of an open store are refused, when pages went home, or none did
pub refuses_open : {D : Type 0} (g : Ghosts D) (old mid : PoolStore D) (outcome : Result (Unit {0}) DiskFault) (changes : List Change) (fresh list : List FilePage) (bytes : List PageBytes) (refusal : ResizeRefusal)
    → IsReadyPool g old → (g.keeps_model old.disk → (k : ℕ) → g.unsynced old.disk k → ⊥) → FreesSlots g (Pool old) (Pool mid) outcome
    → RefusesChanges g old mid.disk changes fresh list (length bytes) refusal → ChangesOpenStore g old mid.disk changes fresh list bytes (Err refusal)
refuses_open g old mid outcome changes fresh list bytes refusal ready synced frees refused = record {
  stays = stays_freed g old mid outcome ready synced frees;
  changed = λ keeps store. tt;
  refused = refused;
}

-- A device of which nothing is unsynced
module _ {D : Type 0} (g : Ghosts D) (old : D) (synced : g.keeps_model old → (k : ℕ) → g.unsynced old k → ⊥)
    (only_now : (d : D) (image : Image) → g.keeps_model d → g.left_since d (g.moment d) image → MayLeave (g.content d) (g.unsynced d) image) where
  abbrev sectors : ℕ
  sectors = g.sector_count old

  abbrev content : Image
  content = g.content old

  -- is read, and nothing of it is written,
  read_alone : (mid : D) → g.keeps_model old → Touches g Nothing old mid → (P : Image → Type 0) → P content → LeavesOnly g old mid P
  read_alone mid keeps run P here = while_read g old mid run P here (λ image left. only_now old image keeps left) (synced keeps)

  -- and its store is refused,
  pub stays_refused_pool : (fault : PoolFault) (new : D) → RefusesPool g old fault new → StaysStore g old new
  stays_refused_pool fault new r = record {
    size = r.err_run.size;
    layout_moment = λ keeps store. read_alone new (r.err_run.kept keeps) (r.err_run.touches keeps) (HasLayout sectors) store.layout;
    bad_unwritten = λ keeps bad. r.err_run.touches keeps;
  }

  pub told_pool : (fault : PoolFault) (new : D) (sizes : List FileSize) (fresh list : List FilePage) (count : ℕ) (refusal : ResizeRefusal) → RefusesPool g old fault new
      → (refusal ≡ Device → fault ≡ PoolDevice) → (refusal ≡ NoPool → fault ≡ PoolLayout) → (refusal ≡ Memory → fault ≡ PoolMemory)
      → (refusal ≡ BadPages → ⊥) → (refusal ≡ ReadOnly → ⊥) → (refusal ≡ NoHomes → ⊥) → RefusesSizes g old new sizes fresh list count refusal
  told_pool fault new sizes fresh list count refusal r device none memory pages read_only homes = record {
    cause = λ is. r.blames.device (device is);
    image = λ keeps. record {
      none = λ is. r.blames.bad keeps (none is);
      memory = λ is. r.blames.memory keeps (memory is);
      pages = λ is. absurd (pages is);
      read_only = λ is. absurd (read_only is);
      homes = λ is. absurd (homes is);
    };
  }

  -- or taken up, and its files are to get sizes.
  module _ (store : PoolStore D) (found : ResumesStore g old store) (last : D) (sizes : List FileSize) (fresh list : List FilePage) (bytes : List PageBytes) (result : Result (Unit {0}) ResizeRefusal)
      (e : ResizesOpenStore g store last sizes fresh list bytes result) where
    abbrev mid : D
    mid = store.disk

    found_good : g.keeps_model mid → IsStore sectors content
    found_good keeps = let opened = pool_resumes g old only_now store found in record { layout = opened.good_layout keeps; journal = opened.good_journal keeps }

    module _ (keeps : g.keeps_model last) where
      keeps' : g.keeps_model mid
      keeps' = e.stays.kept keeps

      run : Touches g Nothing old mid
      run = found.run.touches keeps'

      is_store : IsStore (g.sector_count mid) (g.content mid)
      is_store = so_since g old mid run IsStore found.run.size (found_good keeps')

      before_it : (P : Image → Type 0) → P content → LeavesOnly g old mid P
      before_it = read_alone mid (found.run.kept keeps') run

      layout_all : LeavesOnly g old last (HasLayout sectors)
      layout_all = joined g old mid last (HasLayout sectors) (before_it (HasLayout sectors) (found_good keeps').layout)
          (subst (λ n. LeavesOnly g mid last (HasLayout n)) found.run.size (e.stays.layout_moment keeps is_store))

      left_in : (files : ℕ → Option FileInfo) (before : ℕ → ℕ → List ℕ) → LeavesNow g old (StandsFor sectors files before) → LeavesNow g mid (StandsFor (g.sector_count mid) files before)
      left_in files before left = subst (λ n. LeavesNow g mid (StandsFor n files before)) (sym found.run.size) (still_leaves g old mid (StandsFor sectors files before) run left)

      all_of : ResizesStore g mid last sizes fresh list (length bytes) (lent_page bytes) → ResizesStore g old last sizes fresh list (length bytes) (lent_page bytes)
      all_of c = record {
        store = found_good keeps';
        pool = so_before g old mid run (λ n image. is_pool image ≡ true) found.run.size c.pool;
        writable = so_before g old mid run (λ n image. AreAllWritable (file_info n image) sizes list) found.run.size c.writable;
        resizable = so_before g old mid run (λ n image. AreResizable n image sizes fresh list (length bytes)) found.run.size c.resizable;
        ok = λ files before after left sized. subst (λ n. LeavesNow g last (StandsFor n (files_sized files sizes) after)) found.run.size (c.ok files before after (left_in files before left) sized);
        synced = c.synced;
        any_moment = λ files before after left sized. joined g old mid last (StandsForSized sectors sizes files before after)
            (before_it (StandsForSized sectors sizes files before after) (inl (left content (record { kept = λ k. inr refl }))))
            (subst (λ n. LeavesOnly g mid last (StandsForSized n sizes files before after)) found.run.size (c.any_moment files before after (left_in files before left) sized));
        outside = so_before g old mid run (λ n image. KeepsOutside n image (g.content last)) found.run.size c.outside;
      }

      pub resizes_all : OnOk result (ResizesStore g old last sizes fresh list (length bytes) (lent_page bytes))
      resizes_all = on_ok_weaker result all_of (e.resized keeps is_store)

      refused_before : IfErr result (RefusesSizesOf sectors content sizes fresh list (length bytes))
      refused_before = IfErr-weaker result _ _ (λ refusal r. so_before g old mid run (λ n image. RefusesSizesOf n image sizes fresh list (length bytes) refusal) found.run.size r) (e.refused keeps is_store)

    pub stays_resized : StaysStore g old last
    stays_resized = record {
      size = e.stays.size ∙ found.run.size;
      layout_moment = λ keeps store. layout_all keeps;
      bad_unwritten = λ keeps. (let good = found_good (e.stays.kept keeps) in ⊎_elim (λ bad. absurd (good.layout bad)) (λ bad. absurd (good.journal bad)));
    }

    with_cause : (r : Result (Unit {0}) ResizeRefusal) → IfErr r (λ refusal. refusal ≡ Device → g.failures mid < g.failures last)
        → (g.keeps_model last → IfErr r (RefusesSizesOf sectors content sizes fresh list (length bytes))) → IfErr r (RefusesSizes g old last sizes fresh list (length bytes))
    with_cause (Ok done) cause image = tt
    with_cause (Err refusal) cause image = record { cause = λ is. subst (λ n. n < g.failures last) found.calm (cause is); image = image }

    pub refused_all : IfErr result (RefusesSizes g old last sizes fresh list (length bytes))
    refused_all = with_cause result e.cause refused_before
