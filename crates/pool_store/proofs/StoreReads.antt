-- A store of which a page is read.
use Rattle.std.proofs.Common.{ℕ, ◌≡◌, ◌≤◌, ◌^◌, ⊎_elim, inl, inr, List, sym, ap, subst, ◌∙◌, arith, Some}
use Rattle.std.proofs.lemmas.Option.{same_Some}
use Rattle.disk_model.specs.{Moments.{Nothing}, Sectors.{joined}, Stop.{Image, Names}, declared.sector_disk.SectorDisk.{Ghosts}}
use Rattle.vm_types.specs.declared.file.{FileInfo.{FileInfo}, FilePage.{FilePage}}
use Rattle.sync_journal.{proofs.Sectors.{same_image}, specs.{Layout.{IsPageSector}, Runs.{RunsOnDevice}}}
use Rattle.pool_journal.{proofs.Copied.{still_pool}, specs.{Maps.{entries_of}, Pools.{pool_standing}, Recovering.{state_of}, Sizes.{HasPool}, declared.sizes.PoolSizes.{PoolSizes}}}
use Rattle.directories.specs.{Homes.{home_of_page}, Kinds.{IsKind}}
use Rattle.file_store.specs.Layout.{padded_page, bytes_inside}
use Rattle.pool_store.{proofs.{Entries.{entry_stood}, Homes.{entry_there}, PageReads.{still_rest}}, specs.{Files.{page_at, page_of, page_in}, Pools.{AreSaid, entry_by}, Store.{entry_of, info_by, home_by, home_of, layout_of, IsReadyPool, IsSectorOf}}}
use Rattle.pool_store.specs.declared.store.PoolStore.{PoolStore}

-- a device has 2^30 homes at most
pub homes_few : {D : Type 0} (g : Ghosts D) (sizes : PoolSizes) (disk : D) → HasPool g sizes disk → sizes.homes ≤ 2 ^ 30
homes_few g sizes disk has = (let homes = has.homes in omega (arith, homes))

module _ {D : Type 0} (g : Ghosts D) (store : PoolStore D) where
  -- a store stays ready while its device is read
  pub still_ready : (new : D) → RunsOnDevice g Nothing store.disk new → IsReadyPool g store
      → IsReadyPool g (record { disk = new; journal = store.journal; directory = store.directory; room = store.room })
  still_ready new run ready = record {
    is = record {
      is_journal = ready.is_journal;
      pool = still_pool g store.journal.sizes store.disk new run.size ready.pool;
      is_directory = ready.is_directory;
      at_rest = λ keeps.
          let was = ready.at_rest (run.kept keeps) in
          let reads = run.touches keeps in
          let same = same_image g store.disk new reads in
          let m = store.journal.sizes.blocks in
          record {
            rest = still_rest g store.disk new reads m store.journal.sizes.homes store.journal.second (entries_of store.journal.map) was.rest;
            mark = ap (λ (image : Image). image 0) same ∙ was.mark;
            kind = subst (λ (image : Image). IsKind m store.directory.pages (image 1)) (sym same) was.kind;
            said = subst (λ (image : Image). AreSaid store.directory.pages (pool_standing m store.journal.sizes.homes image) store.directory.entries.items) (sym same) was.said;
          };
    };
    room = ready.room;
  }

  -- the sectors of the home are the page's
  pub page_named : (p : FilePage) (home : ℕ) (new : D) → home_of store.directory p ≡ Some home
      → Names (IsPageSector ((layout_of store).pages.stands_at (state_of store.journal) home)) (g.asked store.disk) (g.asked new) → Names (IsSectorOf store p) (g.asked store.disk) (g.asked new)
  page_named p home new is names = record {
    named = λ k at. names.named k (subst (λ h. IsPageSector ((layout_of store).pages.stands_at (state_of store.journal) h) k) (same_Some at.0 home (sym at.1 ∙ is)) at.2);
    others = λ k. ⊎_elim (λ here. inl (home, is, here)) (λ same. inr same) (names.others k);
  }

  -- what stands for the home is the page's bytes, and what lies past its file's end
  pub page_given : (p : FilePage) (info : FileInfo) (home inside : ℕ) (bytes page : List ℕ) → IsReadyPool g store → g.keeps_model store.disk
      → info_by store.directory p.file ≡ Some info → home_of store.directory p ≡ Some home → inside ≡ bytes_inside info.length p.page
      → bytes ≡ joined (pool_standing store.journal.sizes.blocks store.journal.sizes.homes (g.content store.disk) home) 8
      → page ≡ padded_page inside bytes → page ≡ page_in (layout_of store) (g.content store.disk) p.file p.page
  page_given p info home inside bytes page ready keeps info_is home_is inside_is bytes_is page_is =
      let at = entry_there (entry_of store.directory p.file) info info_is in
      let stands : ℕ → ℕ → List ℕ = pool_standing store.journal.sizes.blocks store.journal.sizes.homes (g.content store.disk) in
      let entry : entry_by store.directory.pages stands p.file ≡ Some at.0 =
      entry_stood store.directory.pages stands store.directory.entries.items ready.is_directory.size (ready.at_rest keeps).said p.file ∙ at.1 in
      let long : info.length ≡ at.0.length = ap (λ (i : FileInfo). i.length) (sym at.2) in
      let has : home_of_page at.0 p.page ≡ Some home = ap (λ e. home_by e p.page) (sym at.1) ∙ home_is in
      page_is
      ∙ ap (λ n. padded_page n bytes) (inside_is ∙ ap (λ n. bytes_inside n p.page) long)
      ∙ ap (padded_page (bytes_inside at.0.length p.page)) bytes_is
      ∙ sym (ap (page_of stands p.page) entry ∙ ap (page_at stands (bytes_inside at.0.length p.page)) has)
