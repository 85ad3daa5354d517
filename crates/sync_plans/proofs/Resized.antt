-- Sizes that files of an open store get by changes, or that are refused, in the words of its image.
use Rattle.sync_plans.proofs.Names.{ℕ, ◌*◌, ◌≡◌, ◌⊎◌, Bool, List, Option, Result, Err, IfErr-weaker, length, inr, ⊎_elim, refl, sym, ap, subst, ◌∙◌, arith, fun_ext, on_ok_weaker}
use Rattle.sync_plans.proofs.Names.{Ghosts, Image, LeavesNow, LeavesOnly, DiskFault, FileInfo, FilePage, Change, PoolStore, Pool, IsReadyPool, FreesSlots, IsNewPage, files_after, info_by}
use Rattle.sync_plans.proofs.Names.{StandsFor, capacity_by, capacity_pages, by_head, files_said, file_info, head_of, is_pool, pool_home_count, ImageSays}
use Rattle.std.specs.Prelude.{slice_index_or}
use Rattle.sync_plans.proofs.{Grown.{has_head, stays_freed}, Sized.{changed_same, changes_as_sizes, files_same, new_said, new_same}}
use Rattle.sync_plans.specs.{Resizing.{AreAllWritable, AreBrought, AreResizable, ChangesOpenStore, ChangesStore, HasReadOnlyPage, HasReadOnlySize, LacksHomesIn, RefusesChanges, RefusesSizesOf, ResizesOpenStore, ResizesStore}}
use Rattle.sync_plans.specs.declared.{lent_pages.PageBytes.{PageBytes}, resizing.{ResizeRefusal.{ResizeRefusal}, ResizeRefusal.TheVariants.{Device}}}
use Rattle.pool_growth.specs.{Asked.{changed_pages}, Checks.{BeginsInside, ListsEnd}, Sizes.{changes_to, files_sized, room_behind, AreSizes, LacksHomes, SaySizes}, declared.sizes.FileSize.{FileSize}}
use Rattle.pool_journal.specs.Pools.{pool_standing}
use Rattle.pool_store.specs.Pools.{IsDirectory}
use Rattle.stores.specs.Images.{directory_pages, map_blocks}

-- An open store
module _ {D : Type 0} (g : Ghosts D) (old : PoolStore D) (ready : IsReadyPool g old) where
  abbrev all : ℕ
  all = g.sector_count old.disk

  abbrev content : Image
  content = g.content old.disk

  abbrev m : ℕ
  m = old.journal.sizes.blocks

  abbrev n : ℕ
  n = old.journal.sizes.homes

  -- whose device keeps its model
  module _ (keeps : g.keeps_model old.disk) where
    -- has the files, and takes as many pages, as its image says.
    same_files : info_by old.directory ≡ file_info all content
    same_files = fun_ext (files_said g (Pool old) ready keeps)

    same_pages : directory_pages content ≡ old.directory.pages
    same_pages = (head_of g old ready keeps).pages

    same_blocks : map_blocks content ≡ m
    same_blocks = (head_of g old ready keeps).blocks

    same_capacity : capacity_pages all content ≡ 2 * (504 * m)
    same_capacity =
        let head = head_of g old ready keeps in
        by_head m old.directory.pages n all ready.pool.homes content head (λ (said : ImageSays). capacity_by (is_pool content) said.most ≡ 2 * (504 * m))
        (ap (λ (pool : Bool). capacity_by pool (504 * m)) head.mark)

    same_homes : n ≡ pool_home_count (map_blocks content) all
    same_homes = ready.pool.homes ∙ ap (λ b. pool_home_count b all) (sym same_blocks)

    -- Sizes may be asked of one if they may be of the other,
    pub are_sizes : (sizes : List FileSize) → AreSizes (16 * directory_pages content) sizes → AreSizes (length old.directory.entries.items) sizes
    are_sizes sizes may = subst (λ k. AreSizes k sizes) (ap (λ d. 16 * d) same_pages ∙ sym ready.is_directory.size) may

    -- files may only be read of one that may of the other,
    pub read_only_said : (sizes : List FileSize) (list : List FilePage) → HasReadOnlySize (info_by old.directory) sizes ⊎ HasReadOnlyPage (info_by old.directory) list
        → HasReadOnlySize (file_info all content) sizes ⊎ HasReadOnlyPage (file_info all content) list
    read_only_said sizes list = subst (λ (files : ℕ → Option FileInfo). HasReadOnlySize files sizes ⊎ HasReadOnlyPage files list) same_files

    -- and homes that one lacks the other does.
    pub homes_lacked : (sizes : List FileSize) (f : ℕ) → LacksHomes old.directory.entries.items (room_behind old.directory n) sizes f → LacksHomesIn all content sizes
    homes_lacked sizes f lacks = record {
      directory = old.directory;
      pages = sym same_pages;
      stands = subst (λ d. IsDirectory d (pool_home_count (map_blocks content) all) (pool_standing (map_blocks content) (pool_home_count (map_blocks content) all) content) old.directory.entries.items)
          (sym same_pages)
          (subst (λ k. IsDirectory old.directory.pages k (pool_standing (map_blocks content) k content) old.directory.entries.items) same_homes
          (subst (λ b. IsDirectory old.directory.pages n (pool_standing b n content) old.directory.entries.items) (sym same_blocks)
          (record { may = ready.is_directory.may; said = (ready.at_rest keeps).said })));
      file = f;
      lacks = subst (λ k. LacksHomes old.directory.entries.items (room_behind old.directory k) sizes f) same_homes lacks;
    }

    -- Changes that say what sizes ask for
    module _ (sizes : List FileSize) (changes : List Change) (says : SaySizes (info_by old.directory) sizes changes) where
      said : SaySizes (file_info all content) sizes changes
      said = subst (λ (files : ℕ → Option FileInfo). SaySizes files sizes changes) same_files says

      then_same : (f : ℕ) → files_after (info_by old.directory) changes f ≡ files_sized (file_info all content) sizes f
      then_same f = ap (λ (files : ℕ → Option FileInfo). files_after files changes f) same_files ∙ files_same (file_info all content) sizes changes said f

      same_changed : length (changed_pages changes old.directory.pages) ≡ length (changed_pages (changes_to (file_info all content) sizes) (directory_pages content))
      same_changed = ap length (changed_same (file_info all content) sizes changes said old.directory.pages ∙ ap (changed_pages (changes_to (file_info all content) sizes)) (sym same_pages))

      -- bring the new pages that these ask for,
      same_new : (f k : ℕ) → IsNewPage (info_by old.directory) changes f k → IsNewPage (file_info all content) (changes_to (file_info all content) sizes) f k
      same_new f k new = new_same (file_info all content) sizes changes said f k (subst (λ (files : ℕ → Option FileInfo). IsNewPage files changes f k) same_files new)

      new_of_sizes : (f k : ℕ) → IsNewPage (file_info all content) (changes_to (file_info all content) sizes) f k → IsNewPage (info_by old.directory) changes f k
      new_of_sizes f k new = subst (λ (files : ℕ → Option FileInfo). IsNewPage files changes f k) (sym same_files) (new_said (file_info all content) sizes changes said f k new)

      -- are brought with pages where the sizes are good for them,
      pub are_brought : (fresh list : List FilePage) (count : ℕ) → AreResizable all content sizes fresh list count → AreBrought m old.directory changes fresh list count
      are_brought fresh list count may = record {
        fresh_rise = may.fresh_rise;
        new = λ k d low. new_of_sizes (slice_index_or fresh k d).file (slice_index_or fresh k d).page (may.new k d low);
        rising = may.rising;
        kept = λ k d low. (
          subst (λ (files : ℕ → Option FileInfo). BeginsInside (files (slice_index_or list k d).file) (slice_index_or list k d).page) (sym same_files) (may.before k d low),
          subst (λ o. BeginsInside o (slice_index_or list k d).page) (sym (then_same (slice_index_or list k d).file)) (may.after k d low),
        );
        ends = λ f. subst (λ o. ListsEnd list f (info_by old.directory f) o) (sym (then_same f))
            (subst (λ (files : ℕ → Option FileInfo). ListsEnd list f (files f) (files_sized (file_info all content) sizes f)) (sym same_files) (may.ends f));
        few =
            let changed = same_changed in
            let most = same_capacity in
            let few = may.few in
            omega (arith, changed, most, few);
        all = may.all;
      }

      -- and the sizes are good for them where they are,
      are_resizable : AreSizes (length old.directory.entries.items) sizes → (fresh list : List FilePage) (count : ℕ) → AreBrought m old.directory changes fresh list count → AreResizable all content sizes fresh list count
      are_resizable asked fresh list count are = record {
        may = subst (λ k. AreSizes k sizes) (ready.is_directory.size ∙ ap (λ d. 16 * d) (sym same_pages)) asked;
        fresh_rise = are.fresh_rise;
        new = λ k d low. same_new (slice_index_or fresh k d).file (slice_index_or fresh k d).page (are.new k d low);
        rising = are.rising;
        before = λ k d low.
            subst (λ (files : ℕ → Option FileInfo). BeginsInside (files (slice_index_or list k d).file) (slice_index_or list k d).page) same_files (are.kept k d low).0;
        after = λ k d low. subst (λ o. BeginsInside o (slice_index_or list k d).page) (then_same (slice_index_or list k d).file) (are.kept k d low).1;
        ends = λ f. subst (λ (files : ℕ → Option FileInfo). ListsEnd list f (files f) (files_sized (file_info all content) sizes f)) same_files
            (subst (λ o. ListsEnd list f (info_by old.directory f) o) (then_same f) (are.ends f));
        few =
            let changed = same_changed in
            let most = same_capacity in
            let few = are.few in
            omega (arith, changed, most, few);
        all = are.all;
      }

      -- make of the files what those do,
      pub resizes_store : (new : D) (fresh list : List FilePage) (count : ℕ) (given : ℕ → List ℕ) → AreSizes (length old.directory.entries.items) sizes → AreAllWritable (info_by old.directory) sizes list
          → ChangesStore g old new changes fresh list count given → ResizesStore g old.disk new sizes fresh list count given
      resizes_store new fresh list count given asked writable c = record {
        store = c.store;
        pool = c.pool;
        writable = subst (λ (files : ℕ → Option FileInfo). AreAllWritable files sizes list) same_files writable;
        resizable = are_resizable asked fresh list count c.brought;
        ok = λ files before after left sized. subst (λ (now : ℕ → Option FileInfo). LeavesNow g new (StandsFor all now after)) (fun_ext (files_same files sizes changes (says_of files before left)))
            (c.ok files before after left (changes_as_sizes files sizes changes (says_of files before left) fresh list given before after sized));
        synced = c.synced;
        any_moment = λ files before after left sized. subst (λ (now : ℕ → Option FileInfo). LeavesOnly g old.disk new (λ image. StandsFor all files before image ⊎ StandsFor all now after image))
            (fun_ext (files_same files sizes changes (says_of files before left)))
            (c.any_moment files before after left (changes_as_sizes files sizes changes (says_of files before left) fresh list given before after sized));
        outside = c.outside;
      }
        where
          says_of : (files : ℕ → Option FileInfo) (before : ℕ → ℕ → List ℕ) → LeavesNow g old.disk (StandsFor all files before) → SaySizes files sizes changes
          says_of files before left = subst (λ (is : ℕ → Option FileInfo). SaySizes is sizes changes)
              (fun_ext (λ f. (left content (record { kept = λ k. inr refl })).facts f)) said

      -- and are refused only where those are.
      pub refuses_sizes : (new : D) (fresh list : List FilePage) (count : ℕ) (refusal : ResizeRefusal) → RefusesChanges g old new changes fresh list count refusal → RefusesSizesOf all content sizes fresh list count refusal
      refuses_sizes new fresh list count refusal r = record {
        none = λ is. absurd (⊎_elim (λ device. cc) (⊎_elim (λ pages. cc) (λ memory. cc)) r.else);
        memory = λ is. has_head g old ready keeps;
        pages = λ is may. r.pages is (are_brought fresh list count may);
        read_only = λ is. absurd (⊎_elim (λ device. cc) (⊎_elim (λ pages. cc) (λ memory. cc)) r.else);
        homes = λ is. absurd (⊎_elim (λ device. cc) (⊎_elim (λ pages. cc) (λ memory. cc)) r.else);
      }

  -- So its files get sizes by changes,
  pub resized_open : (new : D) (sizes : List FileSize) (changes : List Change) (fresh list : List FilePage) (bytes : List PageBytes) (result : Result (Unit {0}) ResizeRefusal) → AreSizes (length old.directory.entries.items) sizes
      → SaySizes (info_by old.directory) sizes changes → AreAllWritable (info_by old.directory) sizes list → ChangesOpenStore g old new changes fresh list bytes result → ResizesOpenStore g old new sizes fresh list bytes result
  resized_open new sizes changes fresh list bytes result asked says writable e = record {
    stays = e.stays;
    resized = λ keeps store. on_ok_weaker result (resizes_store (e.stays.kept keeps) sizes changes says new fresh list (length bytes) _ asked writable) (e.changed keeps store);
    refused = λ keeps store. IfErr-weaker result _ _ (λ refusal r. refuses_sizes (e.stays.kept keeps) sizes changes says new fresh list (length bytes) refusal r) e.refused;
    cause = IfErr-weaker result _ _ (λ refusal r. r.cause) e.refused;
  }

  -- or are refused, with nothing written.
  pub unsized : (outcome : Result (Unit {0}) DiskFault) (sizes : List FileSize) (fresh list : List FilePage) (bytes : List PageBytes) (refusal : ResizeRefusal)
      → (g.keeps_model old.disk → (k : ℕ) → g.unsynced old.disk k → ⊥) → FreesSlots g (Pool old) (Pool old) outcome → (refusal ≡ Device → ⊥)
      → (g.keeps_model old.disk → RefusesSizesOf all content sizes fresh list (length bytes) refusal) → ResizesOpenStore g old old.disk sizes fresh list bytes (Err refusal)
  unsized outcome sizes fresh list bytes refusal synced frees other refused = record {
    stays = stays_freed g old old outcome ready synced frees;
    resized = λ keeps store. tt;
    refused = λ keeps store. refused keeps;
    cause = λ is. absurd (other is);
  }
