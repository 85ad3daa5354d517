-- What an image says, by the words of the layout that its mark tells.
use Rattle.stores.proofs.Names.{ℕ, ◌≡◌, ◌∙◌, ◌<◌, Bool, true, false, List, [], ◌∷◌, Option, refl, sym, ap, subst, ⊎_elim, arith, get_or, cases_eq, true≢false, Image, LeavesNow, MayLeave, Ghosts}
use Rattle.vm_types.specs.declared.file.FileInfo.{FileInfo}
use Rattle.file_store.specs.Layout.{mark, pool_mark}
use Rattle.file_store.specs.Standing as InFiles
use Rattle.file_store.specs.Standing.IsBadLayoutIn.{Unmarked}
use Rattle.file_store.specs.declared.store.FileStore.{FileStore}
use Rattle.pool_journal.{proofs.Loose.{loose_high}, specs.{Maps.{entries_of}, Pools.{pool_home_count}}}
use Rattle.pool_store.specs.Files as InPool
use Rattle.pool_store.specs.Pools.{files_in_pool}
use Rattle.pool_store.specs.Pools.IsBadPool.{Unmarked as NoMark, OtherKind}
use Rattle.pool_store.specs.Resume.{pool_on}
use Rattle.pool_store.specs.Store.{IsReadyPool}
use Rattle.pool_store.specs.declared.store.PoolStore.{PoolStore}
use Rattle.sync_journal.specs.{Commit.{IsAtRest}, Journal.{live_homes}}
use Rattle.stores.proofs.Heads.{is_marked, mark_of as of_pool, blocks_are, pages_are, same_mark, same_blocks, same_pages}
use Rattle.stores.specs.Images.{is_pool, map_blocks, directory_pages, says_by, SaysFiles, StandsFor, StandsAs}
use Rattle.stores.specs.Store.{disk_of, IsReadyStore}
use Rattle.stores.specs.declared.{store.Store.{Store}, store.Store.TheVariants.{Journal, Pool}}

-- the mark of a pool is not that of layout 2, at its eighth byte
other_mark : pool_mark ≡ mark → ⊥
unfolding mark pool_mark
other_mark same = let eighth : 52 ≡ 50 = ap (λ (s : List ℕ). get_or s 7 0) same in omega (arith, eighth)

-- an image that stands for files by the words of layout 2 has no mark of a pool
pub kind_unmarked : (sectors : ℕ) (files : ℕ → Option FileInfo) (pages : ℕ → ℕ → List ℕ) (image : Image) → InFiles.StandsFor sectors files pages image → is_pool image ≡ false
kind_unmarked sectors files pages image stands = from (is_pool image) refl
  where
    from : (b : Bool) → is_pool image ≡ b → is_pool image ≡ false
    from false is = is
    from true is = absurd (stands.layout (Unmarked (λ other. other_mark (sym (of_pool image is) ∙ other))))

kind_says : (sectors : ℕ) (files : ℕ → Option FileInfo) (pages : ℕ → ℕ → List ℕ) (image : Image) → InFiles.StandsFor sectors files pages image → SaysFiles (says_by false sectors image) files pages
kind_says sectors files pages image stands = record { layout = stands.layout; journal = stands.journal; facts = stands.facts; same = stands.same }

pub from_kind : (sectors : ℕ) (files : ℕ → Option FileInfo) (pages : ℕ → ℕ → List ℕ) (image : Image) → InFiles.StandsFor sectors files pages image → StandsFor sectors files pages image
from_kind sectors files pages image stands = subst (λ b. SaysFiles (says_by b sectors image) files pages) (sym (kind_unmarked sectors files pages image stands))
    (kind_says sectors files pages image stands)

pub to_kind : (sectors : ℕ) (files : ℕ → Option FileInfo) (pages : ℕ → ℕ → List ℕ) (image : Image) → is_pool image ≡ false → StandsFor sectors files pages image → InFiles.StandsFor sectors files pages image
to_kind sectors files pages image unmarked stands =
    let says = subst (λ b. SaysFiles (says_by b sectors image) files pages) unmarked stands in
    record { layout = says.layout; journal = says.journal; facts = says.facts; same = says.same }

-- An image has mark and kind of a store with maps of m blocks and a directory of d pages.
pub record IsHeaded (m d : ℕ) (image : Image) : Type 0 where
  pub mark : is_pool image ≡ true
  pub blocks : map_blocks image ≡ m
  pub pages : directory_pages image ≡ d

-- on a device of n homes
module _ (m d n sectors : ℕ) (homes : n ≡ pool_home_count m sectors) where
  pub pool_headed : (files : ℕ → Option FileInfo) (pages : ℕ → ℕ → List ℕ) (image : Image) → InPool.StandsFor (files_in_pool m d n) sectors files pages image → IsHeaded m d image
  pool_headed files pages image stands = record {
    mark = from (is_pool image) refl;
    blocks = ⊎_elim (λ e. e) (λ other. absurd (stands.good (OtherKind (λ kind. other (blocks_are m d image kind))))) (cases_eq (map_blocks image) m);
    pages = ⊎_elim (λ e. e) (λ other. absurd (stands.good (OtherKind (λ kind. other (pages_are m d image kind))))) (cases_eq (directory_pages image) d);
  }
    where
      from : (b : Bool) → is_pool image ≡ b → is_pool image ≡ true
      from true is = is
      from false is = absurd (stands.good (NoMark (λ marked. true≢false (sym (is_marked image marked) ∙ is))))

  -- its sizes are those that the image says
  sizes_said : (files : ℕ → Option FileInfo) (pages : ℕ → ℕ → List ℕ) (image : Image) → IsHeaded m d image → InPool.StandsFor (files_in_pool m d n) sectors files pages image
      → InPool.StandsFor (pool_on (map_blocks image) (directory_pages image) sectors) sectors files pages image
  sizes_said files pages image head stands = subst (λ x. InPool.StandsFor (pool_on (map_blocks image) x sectors) sectors files pages image) (sym head.pages)
      (subst (λ x. InPool.StandsFor (pool_on x d sectors) sectors files pages image) (sym head.blocks)
      (subst (λ x. InPool.StandsFor (files_in_pool m d x) sectors files pages image) homes stands))

  said_sizes : (files : ℕ → Option FileInfo) (pages : ℕ → ℕ → List ℕ) (image : Image) → IsHeaded m d image
      → InPool.StandsFor (pool_on (map_blocks image) (directory_pages image) sectors) sectors files pages image → InPool.StandsFor (files_in_pool m d n) sectors files pages image
  said_sizes files pages image head stands = subst (λ x. InPool.StandsFor (files_in_pool m d x) sectors files pages image) (sym homes)
      (subst (λ x. InPool.StandsFor (pool_on x d sectors) sectors files pages image) head.blocks
      (subst (λ x. InPool.StandsFor (pool_on (map_blocks image) x sectors) sectors files pages image) head.pages stands))

  pub from_pool : (files : ℕ → Option FileInfo) (pages : ℕ → ℕ → List ℕ) (image : Image) → InPool.StandsFor (files_in_pool m d n) sectors files pages image → StandsFor sectors files pages image
  from_pool files pages image stands =
      let head = pool_headed files pages image stands in
      let said = sizes_said files pages image head stands in
      let says : SaysFiles (says_by true sectors image) files pages = record { layout = said.good; journal = said.journal; facts = said.facts; same = said.same } in
      subst (λ b. SaysFiles (says_by b sectors image) files pages) (sym head.mark) says

  pub to_pool : (files : ℕ → Option FileInfo) (pages : ℕ → ℕ → List ℕ) (image : Image) → IsHeaded m d image → StandsFor sectors files pages image → InPool.StandsFor (files_in_pool m d n) sectors files pages image
  to_pool files pages image head stands =
      let says = subst (λ b. SaysFiles (says_by b sectors image) files pages) head.mark stands in
      said_sizes files pages image head (record { good = says.layout; journal = says.journal; facts = says.facts; same = says.same })

  pub as_pool : (old image : Image) → IsHeaded m d old → InPool.StandsAs (files_in_pool m d n) sectors old image → StandsAs sectors old image
  as_pool old image head stays files pages was = from_pool files pages image (stays files pages (to_pool files pages old head was))

pub as_kind : (sectors : ℕ) (old image : Image) → is_pool old ≡ false → InFiles.StandsAs sectors old image → StandsAs sectors old image
as_kind sectors old image unmarked stays files pages was = from_kind sectors files pages image (stays files pages (to_kind sectors files pages old unmarked was))

-- an image's head is that of another with the same mark and kind
head_same : (m d : ℕ) (old image : Image) → image 0 ≡ old 0 → image 1 ≡ old 1 → IsHeaded m d old → IsHeaded m d image
head_same m d old image first second head = record { mark = same_mark old image first ∙ head.mark; blocks = same_blocks old image second ∙ head.blocks; pages = same_pages old image second ∙ head.pages }

module _ {D : Type 0} (g : Ghosts D) where
  -- at rest mark and directory are synced,
  front_at_rest : (live : List ℕ) (d : D) → IsAtRest g live d → (k : ℕ) → k < 2 → g.unsynced d k → ⊥
  front_at_rest [] d rest k low unsynced = let inside = rest.synced k unsynced in omega (arith, inside.0, low)
  front_at_rest (home ∷ homes) d rest k low unsynced = rest.synced k unsynced

  -- and so are mark and kind, as a ready store has them
  pub front_synced : (store : Store D) → IsReadyStore g store → g.keeps_model (disk_of store) → (k : ℕ) → k < 2 → g.unsynced (disk_of store) k → ⊥
  front_synced (Journal store) ready keeps k low unsynced = front_at_rest (live_homes store.journal) store.disk (ready.0.at_rest keeps).journal k low unsynced
  front_synced (Pool store) ready keeps k low unsynced =
      loose_high store.journal.sizes.blocks store.journal.second (entries_of store.journal.map) k ((ready.at_rest keeps).rest.synced k unsynced) (omega (arith, low))

  -- what is synced a stop leaves
  left : (d : D) (k : ℕ) → (g.unsynced d k → ⊥) → (c : Image) → MayLeave (g.content d) (g.unsynced d) c → c k ≡ g.content d k
  left d k synced c may = ⊎_elim (λ unsynced. absurd (synced unsynced)) (λ e. e) (may.kept k)

  -- what a device may leave on which such a store is ready has the mark, and the kind, that it has
  pub left_of_kind : (store : FileStore D) → IsReadyStore g (Journal store) → g.keeps_model store.disk → LeavesNow g store.disk (λ image. is_pool image ≡ false)
  left_of_kind store ready keeps c may =
      same_mark (g.content store.disk) c (left store.disk 0 (front_synced (Journal store) ready keeps 0 (omega arith)) c may) ∙ ready.1 keeps

  pub head_of : (store : PoolStore D) → IsReadyPool g store → g.keeps_model store.disk
      → IsHeaded store.journal.sizes.blocks store.directory.pages (g.content store.disk)
  head_of store ready keeps =
      let rest = ready.at_rest keeps in
      let image = g.content store.disk in
      let m = store.journal.sizes.blocks in
      let d = store.directory.pages in
      record { mark = is_marked image rest.mark; blocks = blocks_are m d image rest.kind; pages = pages_are m d image rest.kind }

  pub left_of_pool : (store : PoolStore D) → IsReadyPool g store → g.keeps_model store.disk
      → LeavesNow g store.disk (IsHeaded store.journal.sizes.blocks store.directory.pages)
  left_of_pool store ready keeps c may = head_same store.journal.sizes.blocks store.directory.pages (g.content store.disk) c
      (left store.disk 0 (front_synced (Pool store) ready keeps 0 (omega arith)) c may)
      (left store.disk 1 (front_synced (Pool store) ready keeps 1 (omega arith)) c may)
      (head_of store ready keeps)
