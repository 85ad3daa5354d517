-- What the image of a ready store says, which of the layouts it has, and what an image says that stands for what another says.
use Rattle.stores.proofs.{Heads.{same_blocks, same_mark, same_pages}, KindOpens.{in_kind}, PoolOpens.{by_head, of_head}, Says.{head_of}}
use Rattle.stores.proofs.Names.{ℕ, ◌≡◌, ◌≤◌, ◌*◌, ◌∙◌, Bool, true, false, Some, refl, sym, ap, ⊎_elim, inl, inr, arith, true≢false, Ghosts, Image}
use Rattle.std.specs.Option.{option_map}
use Rattle.file_store.specs.Store as InFiles
use Rattle.pool_journal.{proofs.Loose.{few, loose_high, loose_low, no_home, stands_from}, specs.{Maps.{entries_of}, Pools.{pool, pool_home_count}}}
use Rattle.pool_store.{proofs.Entries.{entry_stood}, specs.Files.{info_of}}
use Rattle.pool_store.specs.Store as InPool
use Rattle.stores.specs.Images.{ImageSays, directory_pages, file_info, is_pool, map_blocks, says_by, standing_page, IsBadLayout, IsBadJournal, IsOutside, StandsFor, StandsAs}
use Rattle.stores.specs.Store.{disk_of, kept_of, files_of, free_of, always_free_in, IsCommittedIn, IsReadyStore, IsUsedIn}
use Rattle.stores.specs.declared.store.{Store.{Store}, Store.TheVariants.{Journal, Pool}}

module _ {D : Type 0} (g : Ghosts D) where
  -- the files that a ready store has are those that its image says
  pub files_said : (store : Store D) → IsReadyStore g store → g.keeps_model (disk_of store)
      → (f : ℕ) → files_of store f ≡ file_info (g.sector_count (disk_of store)) (g.content (disk_of store)) f
  files_said (Journal store) ready keeps f =
      in_kind (λ said. InFiles.files_of store f ≡ said.info f) (g.sector_count store.disk) (g.content store.disk) (ready.1 keeps)
      (ap (option_map (λ e. e.info)) ((ready.0.at_rest keeps).directory f))
  files_said (Pool store) ready keeps f =
      let m = store.journal.sizes.blocks in
      let d = store.directory.pages in
      let n = store.journal.sizes.homes in
      let image = g.content store.disk in
      by_head m d n (g.sector_count store.disk) ready.pool.homes image (head_of g store ready keeps) (λ (said : ImageSays). InPool.files_of store f ≡ said.info f)
      (ap (option_map info_of) (sym (entry_stood d ((pool m n).standing image) store.directory.entries.items ready.is_directory.size (ready.at_rest keeps).said f)))

  -- without the mark of a pool it has room for as many pages as every commit may take,
  pub roomy : (store : Store D) → IsReadyStore g store → g.keeps_model (disk_of store) → is_pool (g.content (disk_of store)) ≡ false
      → (always_free_in (kept_of store) ≡ 1023) × (always_free_in (kept_of store) ≤ free_of store)
  roomy (Journal store) ready keeps unmarked = (refl, omega arith)
  roomy (Pool store) ready keeps unmarked = absurd (true≢false (sym (head_of g store ready keeps).mark ∙ unmarked))

  -- with it that is as many as a body has slots,
  pub always_said : (store : Store D) → IsReadyStore g store → g.keeps_model (disk_of store) → is_pool (g.content (disk_of store)) ≡ true
      → always_free_in (kept_of store) ≡ 504 * map_blocks (g.content (disk_of store))
  always_said (Journal store) ready keeps marked = absurd (true≢false (sym marked ∙ ready.1 keeps))
  always_said (Pool store) ready keeps marked = ap (λ m. 504 * m) (sym (head_of g store ready keeps).blocks)

  -- and nothing that a commit uses lies outside of gate, maps, slots and homes,
  pub used_inside : (store : Store D) → IsReadyStore g store → g.keeps_model (disk_of store) → is_pool (g.content (disk_of store)) ≡ true
      → (k : ℕ) → IsUsedIn (kept_of store) k → IsOutside (g.sector_count (disk_of store)) (g.content (disk_of store)) k → ⊥
  used_inside (Journal store) ready keeps marked k used outside = absurd (true≢false (sym marked ∙ ready.1 keeps))
  used_inside (Pool store) ready keeps marked k used outside =
      let m = store.journal.sizes.blocks in
      let n = store.journal.sizes.homes in
      let second = store.journal.second in
      let entries = entries_of store.journal.map in
      let rest = (ready.at_rest keeps).rest in
      ⊎_elim
      (λ low. ⊎_elim (λ gate. omega (arith, gate, low)) (⊎_elim
      (λ loose. loose_high m second entries k loose (omega (arith, low)))
      (λ slot. (let from = stands_from m 0 0 (Some (slot.0, slot.1)) in omega (arith, from, slot.3.0, low)))) used)
      (λ high. ⊎_elim (λ gate. omega (arith, gate, high)) (⊎_elim
      (λ loose. loose_low m n second entries (few g m n second entries store.disk rest) k loose high)
      (λ slot. no_home m slot.0 slot.1 k slot.2 slot.3 (omega (arith, high)))) used)
      (of_head m store.directory.pages n (g.sector_count store.disk) ready.pool.homes (g.content store.disk) (head_of g store ready keeps)
      (λ (said : ImageSays). said.IsOutside k) outside)

  -- nor what it writes.
  pub committed_inside : (store : Store D) → IsReadyStore g store → g.keeps_model (disk_of store) → is_pool (g.content (disk_of store)) ≡ true
      → (k : ℕ) → IsCommittedIn (kept_of store) k → IsOutside (g.sector_count (disk_of store)) (g.content (disk_of store)) k → ⊥
  committed_inside (Journal store) ready keeps marked k written = absurd (true≢false (sym marked ∙ ready.1 keeps))
  committed_inside (Pool store) ready keeps marked k written =
      used_inside (Pool store) ready keeps marked k (⊎_elim (λ gate. inl gate) (λ loose. inr (inl loose)) written)

-- Mark and kind lie outside,
pub mark_outside : (sectors : ℕ) (image : Image) → IsOutside sectors image 0
mark_outside sectors image = from (is_pool image)
  where
    from : (in_pool : Bool) → (says_by in_pool sectors image).IsOutside 0
    from false = inl (omega arith)
    from true = inl (omega arith)

pub kind_outside : (sectors : ℕ) (image : Image) → is_pool image ≡ true → IsOutside sectors image 1
kind_outside sectors image marked =
    by_head (map_blocks image) (directory_pages image) (pool_home_count (map_blocks image) sectors) sectors refl image
    (record { mark = marked; blocks = refl; pages = refl }) (λ (said : ImageSays). said.IsOutside 1) (inl (omega arith))

-- and what lies outside of a pool lies outside by every image with the same mark and kind.
pub outside_alike : (sectors : ℕ) (old image : Image) → image 0 ≡ old 0 → image 1 ≡ old 1 → is_pool old ≡ true
    → (k : ℕ) → IsOutside sectors old k → IsOutside sectors image k
outside_alike sectors old image first second marked k outside =
    let m = map_blocks old in
    let d = directory_pages old in
    let n = pool_home_count m sectors in
    by_head m d n sectors refl image (record { mark = same_mark old image first ∙ marked; blocks = same_blocks old image second; pages = same_pages old image second })
    (λ (said : ImageSays). said.IsOutside k)
    (of_head m d n sectors refl old (record { mark = marked; blocks = refl; pages = refl }) (λ (said : ImageSays). said.IsOutside k) outside)

-- An image of a store stands for what it says,
pub stands_for_own : (sectors : ℕ) (image : Image) → (IsBadLayout sectors image → ⊥) → (IsBadJournal sectors image → ⊥)
    → StandsFor sectors (file_info sectors image) (standing_page sectors image) image
stands_for_own sectors image layout journal = record { layout = layout; journal = journal; facts = λ f. refl; same = λ f k is. refl }

-- and another one that stands for that stands for all that it stands for.
pub stands_as_said : (sectors : ℕ) (old image : Image) → StandsFor sectors (file_info sectors old) (standing_page sectors old) image → StandsAs sectors old image
stands_as_said sectors old image said files pages was = record {
  layout = said.layout;
  journal = said.journal;
  facts = λ f. said.facts f ∙ was.facts f;
  same = λ f k is. said.same f k (is.0, was.facts f ∙ is.1, is.2) ∙ was.same f k is;
}
