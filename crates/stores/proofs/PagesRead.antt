-- A page that is read from a store of either kind, in the words of both.
use Rattle.stores.proofs.Names.{ℕ, ◌≡◌, false, List, Result, OnOk, ap, sym, subst, ◌∙◌, ⊎_elim, Image, Ghosts, Nothing, Touches}
use Rattle.vm_types.specs.declared.file.FilePage.{FilePage}
use Rattle.file_store.specs.Store as InFiles
use Rattle.file_store.specs.declared.store.FileStore.{FileStore}
use Rattle.pool_journal.specs.Pools.{pool_home_count}
use Rattle.pool_store.specs.{Files.{page_in}, Pools.{files_in_pool}, Resume.{pool_on}, Store.{IsReadyPool, ReadsPoolPage}, declared.store.PoolStore.{PoolStore}}
use Rattle.stores.specs.{Images.{is_pool, directory_pages, says_by, standing_page}, Store.{OfJournal, OfPool, IsReadyStore, ReadsFilePage}}
use Rattle.stores.specs.declared.store.Store.TheVariants.{Journal, Pool}
use Rattle.stores.proofs.{Heads.{same_mark}, Says.{IsHeaded, head_of}}

-- a device that is only read has the mark that it had
pub unmarked_still : {D : Type 0} (g : Ghosts D) (old new : D) → Touches g Nothing old new → is_pool (g.content old) ≡ false → is_pool (g.content new) ≡ false
unmarked_still g old new reads unmarked = same_mark (g.content old) (g.content new) (⊎_elim (λ never. absurd never) (λ same. same) (reads.content 0)) ∙ unmarked

-- how a page of a file stands in an image whose mark and kind are those of a pool of these sizes
pub page_headed : (m d n sectors : ℕ) → n ≡ pool_home_count m sectors → (image : Image) → IsHeaded m d image → (f k : ℕ)
    → standing_page sectors image f k ≡ page_in (files_in_pool m d n) image f k
page_headed m d n sectors homes image head f k =
    ap (λ pool. (says_by pool sectors image).page f k) head.mark
    ∙ ap (λ blocks. page_in (pool_on blocks (directory_pages image) sectors) image f k) head.blocks
    ∙ ap (λ pages. page_in (pool_on m pages sectors) image f k) head.pages
    ∙ ap (λ homes. page_in (files_in_pool m d homes) image f k) (sym homes)

module _ {D T E : Type 0} (g : Ghosts D) (p : FilePage) (to : List ℕ) (result : Result T E) where
  -- a store of layout 2 reads it so
  pub kind_page : (old new : FileStore D) → IsReadyStore g (Journal old) → InFiles.ReadsFilePage g old new p to result
      → ReadsFilePage g (Journal old) (Journal new) p to result
  kind_page old new ready reads = record {
    page = λ keeps. subst (λ pool. OnOk result (to ≡ (says_by pool (g.sector_count old.disk) (g.content old.disk)).page p.file p.page)) (sym (ready.1 (reads.kept keeps))) (reads.page keeps);
    ready = (reads.ready, λ keeps. unmarked_still g old.disk new.disk (reads.touches keeps) (ready.1 (reads.kept keeps)));
    same = ap (λ directory. OfJournal directory new.journal) reads.files ∙ ap (OfJournal old.directory) reads.journal;
    size = reads.size;
    kept = reads.kept;
    touches = reads.touches;
    asks = reads.asks;
    once = reads.once;
    cause = reads.cause;
  }

  -- and one of layout 4
  pub pool_page : (old new : PoolStore D) → IsReadyPool g old → ReadsPoolPage g old new p to result → ReadsFilePage g (Pool old) (Pool new) p to result
  pool_page old new ready reads = record {
    page = λ keeps. subst (λ page. OnOk result (to ≡ page))
        (sym (page_headed old.journal.sizes.blocks old.directory.pages old.journal.sizes.homes (g.sector_count old.disk) ready.pool.homes (g.content old.disk)
        (head_of g old ready (reads.kept keeps)) p.file p.page)) (reads.page keeps);
    ready = reads.ready;
    same = ap (λ directory. OfPool directory new.journal) reads.same.0 ∙ ap (OfPool old.directory) reads.same.1;
    size = reads.size;
    kept = reads.kept;
    touches = reads.touches;
    asks = reads.asks;
    once = reads.once;
    cause = reads.cause;
  }
