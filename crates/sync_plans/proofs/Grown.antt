-- Files of an open store that change with pages of theirs, in the words of images of either kind.
use Rattle.sync_plans.proofs.Names.{ℕ, Bool, true, false, ◌+◌, ◌*◌, ◌≡◌, ◌⊎◌, ◌<◌, ◌≤◌, List, Option, length, slice_get-get_or, Result, Ok, Err, OnOk, inl, inr, ⊎_elim, refl, sym, ap, subst, ◌∙◌, arith, fun_ext, on_ok_weaker}
use Rattle.sync_plans.proofs.Names.{Ghosts, SourceGhosts, Image, LeavesNow, LeavesOnly, joined, weaker, CommitFault, DiskFault, FileInfo, FilePage, Change, Directory, PoolSizes, PoolStore, Pool, IsReadyPool, StandsInPool}
use Rattle.sync_plans.proofs.Names.{AreFileChanges, AreKeptPages, ChangesFiles, CommitsChanges, FreesSlots, HasPoolHead, AreNewPages, IsNewSector, files_after, info_by, entries_of, files_in_pool, new_inside, pool_gate, pool_home}
use Rattle.sync_plans.proofs.Names.{StandsFor, file_info, standing_page, committed_inside, files_said, from_pool, has_room, head_of, left_of_pool, of_head, stands_for_own, to_pool, ImageSays}
use Rattle.std.specs.{List.{AllPairs}, Prelude.{slice_index_or}}
use Rattle.pool_growth.specs.Checks.{PrecedesPage}
use Rattle.pool_journal.{proofs.Free.{free_most}, specs.Pools.{pool_slot}}
use Rattle.pool_store.specs.Store.{files_of}
use Rattle.sync_journal.specs.Layout.{IsPageSector}
use Rattle.sync_plans.proofs.{Possible.{some_pages}, Runs.{freed_outside, outside_then}}
use Rattle.sync_plans.specs.declared.{lent_pages.PageBytes.{PageBytes}, resizing.ResizeRefusal.TheVariants.{Device as Failed}}
use Rattle.sync_plans.specs.{Pages.{lent_page}, Resizing.{AreBrought, ChangesOpenStore, ChangesStore, StandsForChanged, StaysOpen}, Requests.{HasLayout, IsStore, KeepsOutside}}

-- no slot lies there
not_slot : (m : ℕ) (body : Bool) (r k : ℕ) → r < 504 * m → IsPageSector (pool_slot m body r) k → (n : ℕ) → (k < pool_gate) ⊎ (pool_home m n ≤ k) → ⊥
not_slot m false r k below at n = ⊎_elim (λ low. omega (arith, low, at.0)) (λ high. omega (arith, high, at.1, below))
not_slot m true r k below at n = ⊎_elim (λ low. omega (arith, low, at.0)) (λ high. omega (arith, high, at.1, below))

-- A commit of changes
module _ {D S : Type 0} (g : Ghosts D) (s : SourceGhosts S) (old new : PoolStore D) (changes : List Change) (fresh list : List FilePage) (given given' : S)
    (result : Result (Unit {0}) CommitFault) (ready : IsReadyPool g old) (e : CommitsChanges g s old new changes fresh list given given' result) where
  abbrev sectors : ℕ
  sectors = g.sector_count old.disk

  abbrev m : ℕ
  m = old.journal.sizes.blocks

  abbrev d : ℕ
  d = old.directory.pages

  abbrev n : ℕ
  n = old.journal.sizes.homes

  from : (files : ℕ → Option FileInfo) (pages : ℕ → ℕ → List ℕ) (image : Image) → StandsInPool (files_in_pool m d n) sectors files pages image → StandsFor sectors files pages image
  from files pages image stands = from_pool m d n sectors ready.pool.homes files pages image stands

  module _ (keeps : g.keeps_model new.disk) (gives : s.keeps_model given') (files : ℕ → Option FileInfo) (before after : ℕ → ℕ → List ℕ)
      (left : LeavesNow g old.disk (StandsFor sectors files before)) (changed : ChangesFiles files changes fresh list (s.pages given) before after) where
    left_in_pool : LeavesNow g old.disk (StandsInPool (files_in_pool m d n) sectors files before)
    left_in_pool image may = to_pool m d n sectors ready.pool.homes files before image (left_of_pool g old ready (e.kept keeps) image may) (left image may)

    -- leaves the files before or after at every moment,
    pub while_changed : LeavesOnly g old.disk new.disk (StandsForChanged sectors changes files before after)
    while_changed = weaker g old.disk new.disk
        (λ image. StandsInPool (files_in_pool m d n) sectors files before image ⊎ StandsInPool (files_in_pool m d n) sectors (files_after files changes) after image)
        (StandsForChanged sectors changes files before after)
        (λ image. ⊎_elim (λ was. inl (from files before image was)) (λ is. inr (from (files_after files changes) after image is)))
        (e.any_moment keeps gives files before after left_in_pool changed)

    -- and those after then.
    pub then_changed : OnOk result (LeavesNow g new.disk (StandsFor sectors (files_after files changes) after))
    then_changed = on_ok_weaker result (λ now image may. from (files_after files changes) after image (now image may)) (e.ok keeps gives files before after left_in_pool changed)

  -- It writes nothing outside of gate, journal, pool and homes.
  not_new : AreFileChanges n old.directory changes → (k : ℕ) → IsNewSector old.journal old.directory changes k → (k < pool_gate) ⊎ (pool_home m n ≤ k) → ⊥
  not_new are k new out =
      let inside = (new_inside n old.directory changes are new.0 new.1).1 in
      ⊎_elim
      (λ home. ⊎_elim (λ low. omega (arith, low, home.0)) (λ high. omega (arith, high, home.1, inside)) out)
      (λ slot. not_slot m slot.0 slot.1 k slot.2 slot.4 n out)
      new.2

  pub changed_outside : AreFileChanges n old.directory changes → g.keeps_model new.disk → KeepsOutside sectors (g.content old.disk) (g.content new.disk)
  changed_outside are keeps k out =
      let keeps' = e.kept keeps in
      let head = head_of g old ready keeps' in
      ⊎_elim
      (⊎_elim
      (λ new. absurd (not_new are k new (of_head m d n sectors ready.pool.homes (g.content old.disk) head (λ (said : ImageSays). said.IsOutside k) out)))
      (λ written. absurd (committed_inside g (Pool old) ready keeps' head.mark k written out)))
      (λ same. same) ((e.touches keeps).content k)

-- Pages that a store takes with changes, and that rise, are brought with these where there are as many bytes as pages.
are_brought : {D : Type 0} (store : PoolStore D) (changes : List Change) (fresh list : List FilePage) (count : ℕ) → AreNewPages (info_by store.directory) changes fresh → AreKeptPages store changes list
    → AllPairs PrecedesPage fresh × AllPairs PrecedesPage list → count ≡ length fresh + length list → AreBrought store.journal.sizes.blocks store.directory changes fresh list count
are_brought store changes fresh list count news kept rising all = record {
  fresh_rise = rising.0;
  new = λ k d low. news.new k (slice_index_or fresh k d) (slice_get-get_or fresh k d low);
  rising = rising.1;
  kept = λ k d low. (let at = slice_get-get_or list k d low in (kept.before k (slice_index_or list k d) at, kept.after k (slice_index_or list k d) at));
  ends = kept.ends;
  few = (let few = kept.few in let most = free_most store.journal.sizes.blocks (entries_of store.journal.map) in omega (arith, few, most));
  all = all;
}

-- Mark and kind of the image of an open store are those of one.
pub has_head : {D : Type 0} (g : Ghosts D) (store : PoolStore D) → IsReadyPool g store → g.keeps_model store.disk → HasPoolHead (g.sector_count store.disk) (g.content store.disk)
has_head g store ready keeps =
    let rest = ready.at_rest keeps in
    let m = store.journal.sizes.blocks in
    let d = store.directory.pages in
    (m, d, rest.mark, rest.kind, has_room m d (g.sector_count store.disk) ready.is_directory.sized (subst (λ n. d ≤ n) ready.pool.homes ready.is_directory.inside))

-- A store of which nothing is unsynced, pages of which go home:
module _ {D : Type 0} (g : Ghosts D) (old mid : PoolStore D) (outcome : Result (Unit {0}) DiskFault) (ready : IsReadyPool g old)
    (synced : g.keeps_model old.disk → (k : ℕ) → g.unsynced old.disk k → ⊥) (frees : FreesSlots g (Pool old) (Pool mid) outcome) where
  abbrev all : ℕ
  all = g.sector_count old.disk

  abbrev content : Image
  content = g.content old.disk

  abbrev files_then : ℕ → Option FileInfo
  files_then = file_info all content

  abbrev pages_then : ℕ → ℕ → List ℕ
  pages_then = standing_page all content

  own : g.keeps_model old.disk → IsStore all content → LeavesNow g old.disk (StandsFor all files_then pages_then)
  own keeps store image may =
      let same : image ≡ content = λ t k. (⊎_elim {C = image k ≡ content k} (λ u. absurd (synced keeps k u)) (λ e. e) (may.kept k)) t in
      subst (λ (i : Image). StandsFor all files_then pages_then i) (sym same) (stands_for_own all content store.layout store.journal)

  -- meanwhile it has the layout of a store,
  pub layout_freed : g.keeps_model mid.disk → IsStore all content → LeavesOnly g old.disk mid.disk (HasLayout all)
  layout_freed keeps store = weaker g old.disk mid.disk (StandsFor all files_then pages_then) (HasLayout all) (λ image s. s.layout)
      (frees.any_moment keeps files_then pages_then (own (frees.kept keeps) store))

  pub stays_freed : StaysOpen g old.disk mid.disk
  stays_freed = record { size = frees.size; kept = frees.kept; layout_moment = layout_freed }

  -- and what lies outside stays.
  pub outside_freed : g.keeps_model mid.disk → KeepsOutside all content (g.content mid.disk)
  outside_freed keeps = freed_outside g (Pool old) ready (frees.kept keeps) (g.content mid.disk) (frees.homes keeps (g.content mid.disk) (record { kept = λ n. inr refl }))

  -- Then its files change.
  module _ {S : Type 0} (s : SourceGhosts S) (new : PoolStore D) (changes : List Change) (fresh list : List FilePage) (given given' : S) (result : Result (Unit {0}) CommitFault)
      (ready' : IsReadyPool g mid) (same : mid.directory ≡ old.directory) (sizes : mid.journal.sizes ≡ old.journal.sizes) (were : AreFileChanges old.journal.sizes.homes old.directory changes)
      (news : AreNewPages (files_of mid) changes fresh) (kept : AreKeptPages mid changes list) (e : CommitsChanges g s mid new changes fresh list given given' result) (gives : s.keeps_model given') where
    pub are : AreFileChanges mid.journal.sizes.homes mid.directory changes
    are = subst (λ (d : Directory). AreFileChanges mid.journal.sizes.homes d changes) (sym same)
        (subst (λ (z : PoolSizes). AreFileChanges z.homes old.directory changes) (sym sizes) were)

    brought : (count : ℕ) → AllPairs PrecedesPage fresh × AllPairs PrecedesPage list → count ≡ length fresh + length list → AreBrought old.journal.sizes.blocks old.directory changes fresh list count
    brought count rising sum = subst (λ (d : Directory). AreBrought old.journal.sizes.blocks d changes fresh list count) same
        (subst (λ (z : PoolSizes). AreBrought z.blocks mid.directory changes fresh list count) sizes (are_brought mid changes fresh list count news kept rising sum))

    module _ (keeps : g.keeps_model new.disk) where
      keeps' : g.keeps_model mid.disk
      keeps' = e.kept keeps

      now_freed : (files : ℕ → Option FileInfo) (before : ℕ → ℕ → List ℕ) → LeavesNow g old.disk (StandsFor all files before) → LeavesNow g mid.disk (StandsFor (g.sector_count mid.disk) files before)
      now_freed files before left = subst (λ n. LeavesNow g mid.disk (StandsFor n files before)) (sym frees.size) (frees.stands keeps' files before left)

      while_new : (files : ℕ → Option FileInfo) (before after : ℕ → ℕ → List ℕ) → LeavesNow g old.disk (StandsFor all files before) → ChangesFiles files changes fresh list (s.pages given) before after
          → LeavesOnly g mid.disk new.disk (StandsForChanged all changes files before after)
      while_new files before after left changed = subst (λ n. LeavesOnly g mid.disk new.disk (StandsForChanged n changes files before after)) frees.size
          (while_changed g s mid new changes fresh list given given' result ready' e keeps gives files before after (now_freed files before left) changed)

      -- There is something that they become,
      possible : (after : ℕ → ℕ → List ℕ) × ChangesFiles files_then changes fresh list (s.pages given) pages_then after
      possible =
          let some = some_pages (info_by mid.directory) changes fresh news list kept.before kept.distinct (s.pages given) pages_then in
          (some.0, subst (λ files. ChangesFiles files changes fresh list (s.pages given) pages_then some.0) (ap info_by same ∙ fun_ext (files_said g (Pool old) ready (frees.kept keeps'))) some.1)

      -- so that meanwhile it has the layout of a store.
      pub layout_changed : IsStore all content → LeavesOnly g old.disk new.disk (HasLayout all)
      layout_changed store = joined g old.disk mid.disk new.disk (HasLayout all) (layout_freed keeps' store)
          (weaker g mid.disk new.disk (StandsForChanged all changes files_then pages_then possible.0) (HasLayout all) (λ image. ⊎_elim (λ was. was.layout) (λ is. is.layout))
          (while_new files_then pages_then possible.0 (own (frees.kept keeps') store) possible.1))

      while_all : (files : ℕ → Option FileInfo) (before after : ℕ → ℕ → List ℕ) → LeavesNow g old.disk (StandsFor all files before) → ChangesFiles files changes fresh list (s.pages given) before after
          → LeavesOnly g old.disk new.disk (StandsForChanged all changes files before after)
      while_all files before after left changed = joined g old.disk mid.disk new.disk (StandsForChanged all changes files before after)
          (weaker g old.disk mid.disk (StandsFor all files before) (StandsForChanged all changes files before after) (λ image was. inl was) (frees.any_moment keeps' files before left))
          (while_new files before after left changed)

      then_all : (files : ℕ → Option FileInfo) (before after : ℕ → ℕ → List ℕ) → LeavesNow g old.disk (StandsFor all files before) → ChangesFiles files changes fresh list (s.pages given) before after
          → OnOk result (LeavesNow g new.disk (StandsFor all (files_after files changes) after))
      then_all files before after left changed = subst (λ n. OnOk result (LeavesNow g new.disk (StandsFor n (files_after files changes) after))) frees.size
          (then_changed g s mid new changes fresh list given given' result ready' e keeps gives files before after (now_freed files before left) changed)

      outside_all : KeepsOutside all content (g.content new.disk)
      outside_all = outside_then all content (g.content mid.disk) (g.content new.disk) (outside_freed keeps')
          (subst (λ n. KeepsOutside n (g.content mid.disk) (g.content new.disk)) frees.size (changed_outside g s mid new changes fresh list given given' result ready' e are keeps))

      -- So they do all at once.
      pub changes_store : (count : ℕ) → AreBrought old.journal.sizes.blocks old.directory changes fresh list count → result ≡ Ok tt → IsStore all content
          → ChangesStore g old new.disk changes fresh list count (s.pages given)
      changes_store count brought ok store =
          let on : (P : Type 0) → OnOk result P → P = λ P was. subst (λ (r : Result (Unit {0}) CommitFault). OnOk r P) ok was in
          record {
            store = store;
            pool = (head_of g old ready (frees.kept keeps')).mark;
            brought = brought;
            ok = λ files before after left changed. on (LeavesNow g new.disk (StandsFor all (files_after files changes) after)) (then_all files before after left changed);
            synced = on ((k : ℕ) → g.unsynced new.disk k → ⊥) (e.synced keeps);
            any_moment = while_all;
            outside = outside_all;
          }

    stays_changed : StaysOpen g old.disk new.disk
    stays_changed = record { size = e.size ∙ frees.size; kept = λ keeps. frees.kept (e.kept keeps); layout_moment = layout_changed }

    pub changed_open : (bytes : List PageBytes) → AllPairs PrecedesPage fresh × AllPairs PrecedesPage list → length bytes ≡ length fresh + length list → s.pages given ≡ lent_page bytes → result ≡ Ok tt
        → ChangesOpenStore g old new.disk changes fresh list bytes (Ok tt)
    changed_open bytes rising sum lent ok = record {
      stays = stays_changed;
      changed = λ keeps store. subst (λ (pages : ℕ → List ℕ). ChangesStore g old new.disk changes fresh list (length bytes) pages) lent (changes_store keeps (length bytes) (brought (length bytes) rising sum) ok store);
      refused = tt;
    }

    -- Or the device fails.
    pub failed_open : (bytes : List PageBytes) → g.failures mid.disk < g.failures new.disk → ChangesOpenStore g old new.disk changes fresh list bytes (Err Failed)
    failed_open bytes more = record {
      stays = stays_changed;
      changed = λ keeps store. tt;
      refused = record { cause = λ is. (let later = frees.cause.later in omega (arith, later, more)); pages = λ is. cc; else = inl refl };
    }
