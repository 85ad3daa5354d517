-- The stores that a format and an upgrade make.
use Rattle.{std.{proofs.{Common.{ℕ, ◌≡◌, ◌⊎◌, ⊎_elim, inl, inr, Bool, true, false, List, Option, refl, sym, subst}, lemmas.{Bool.{cases_Bool}, Slice.Eq.{bytes_eq-Decides}}}, specs.Str.{bytes_eq}}, disk_model.specs.Stop.{Image}}
use Rattle.sync_journal.specs.declared.version.{Version.{Version}, Version.TheVariants.{Two}}
use Rattle.{directories.specs.Kinds.{IsKind}, pool_journal.specs.Pools.{pool_home_count}, vm_types.specs.{Files.{Files}, View.{Pages}}}
use Rattle.file_store.specs.Standing as InFiles
use Rattle.file_store.specs.{Directory.{IsBadDirectory}, Format.{IsStoreIfMarked, IsStoreOf, files_given}, Layout.{mark, pool_mark}, Standing.{IsBadLayoutIn.{BadDirectory, Unmarked}, OldStandsFor}, Versions.{home_pages_of}}
use Rattle.file_store.specs.declared.sources.FileSource.{FileSource}
use Rattle.pool_store.specs.{Files.{page_in}, Format.{IsPoolOrNone, IsPoolStoreOf, new_pages}, Pools.{IsBadPool.{OtherKind}, files_in_pool}}
use Rattle.stores.{proofs.{Heads.{mark_of as pool_marked}, Says.{from_kind, from_pool, to_kind}}, specs.Images.{IsBadLayout, StandsFor, directory_pages, is_pool, map_blocks, says_by}}
use Rattle.upgrades.{proofs.Versions.{is_two}, specs.Old.{version_in}}
use Rattle.lives.{proofs.NewKinds.{format_kind, three_is_none, upgrade_kind, with_kind}, specs.{Formatted.{StandsForSources}, Upgraded.{HasBadOldJournal, HasBadOldLayout, IsUpgradeBy, IsUpgradeOrNone, StoodFor, old_info, old_page}}}
use Rattle.stores.specs.{NewStores.{IsNewStore, IsNewOrNone}, declared.new_stores.NewStore.{NewStore, TheVariants.{Journal, Pool}}}

-- an image is bad by the words of its layout
pool_bad : (sectors : ℕ) (image : Image) → is_pool image ≡ true → ((m d : ℕ) → IsKind m d (image 1) → ⊥) → IsBadLayout sectors image
pool_bad sectors image is no_kind = subst (λ b. (says_by b sectors image).HasBadLayout) (sym is) (OtherKind (no_kind (map_blocks image) (directory_pages image)))

kind_bad : (sectors : ℕ) (image : Image) → is_pool image ≡ false → InFiles.IsBadLayout sectors image → IsBadLayout sectors image
kind_bad sectors image is bad = subst (λ b. (says_by b sectors image).HasBadLayout) (sym is) bad

-- an image without the mark of layout 2 is no store: with the mark of a pool it has no kind of one
none_or : (P : Type 0) (sectors : ℕ) (image : Image) → (image 0 ≡ mark → P) → (image 0 ≡ pool_mark → (m d : ℕ) → IsKind m d (image 1) → ⊥)
    → IsBadLayout sectors image ⊎ P
none_or P sectors image marked no_kind =
    let decides = bytes_eq-Decides (image 0) mark in
    ⊎_elim (λ is. inr (marked (decides.0 is)))
    (λ is. inl (bad (is_pool image) refl (Unmarked (λ same. let other = decides.1 same in cc))))
    (cases_Bool (bytes_eq (image 0) mark))
  where
    bad : (b : Bool) → is_pool image ≡ b → InFiles.IsBadLayout sectors image → IsBadLayout sectors image
    bad true is unmarked = pool_bad sectors image is (no_kind (pool_marked image is))
    bad false is unmarked = kind_bad sectors image is unmarked

module _ {R : Type 0} (remaining : R → Option (List ℕ)) (sectors : ℕ) (sources : List (FileSource R)) (image : Image) where
  journal_stands : IsStoreOf remaining sectors sources image → StandsForSources remaining sectors sources image
  journal_stands store = (
    record { files = files_given sources; pages = InFiles.standing_page image },
    record { files = refl; pages = λ f k source page at inside told. store.pages f k source page at inside told },
    from_kind sectors (files_given sources) (InFiles.standing_page image) image
        (record { layout = store.layout; journal = store.journal; facts = store.facts; same = λ f k inside. refl }),
  )

  pool_stands : (blocks : ℕ) → IsPoolStoreOf blocks remaining sectors sources image → StandsForSources remaining sectors sources image
  pool_stands blocks store = (
    record { files = files_given sources; pages = page_in (files_in_pool blocks new_pages (pool_home_count blocks sectors)) image },
    record { files = refl; pages = λ f k source page at inside told. store.pages f k source page at inside told },
    from_pool blocks new_pages (pool_home_count blocks sectors) sectors refl (files_given sources) (page_in (files_in_pool blocks new_pages (pool_home_count blocks sectors)) image) image
        (record { good = store.good; journal = λ bad. bad; facts = store.facts; same = λ f k inside. refl }),
  )

  pub stands_for_sources : (store : NewStore) → IsNewStore remaining store sectors sources image → StandsForSources remaining sectors sources image
  stands_for_sources Journal made = journal_stands made
  stands_for_sources (Pool blocks) made = pool_stands blocks made.1

  stopped_journal : IsStoreIfMarked remaining sectors sources image → IsBadLayout sectors image ⊎ StandsForSources remaining sectors sources image
  stopped_journal made = none_or (StandsForSources remaining sectors sources image) sectors image (λ marked. journal_stands (made.store marked))
      (λ pool m d. format_kind m d remaining sources image (made.made (inr (inr (inr pool)))))

  stopped_pool : (blocks : ℕ) → IsPoolOrNone blocks remaining sectors sources image → IsBadLayout sectors image ⊎ StandsForSources remaining sectors sources image
  stopped_pool blocks made = here (is_pool image) refl
    where
      here : (b : Bool) → is_pool image ≡ b → IsBadLayout sectors image ⊎ StandsForSources remaining sectors sources image
      here true is = inr (pool_stands blocks (made.whole (pool_marked image is)))
      here false is = inl (kind_bad sectors image is made.older)

  pub stopped_format : (store : NewStore) → IsNewOrNone remaining store sectors sources image → IsBadLayout sectors image ⊎ StandsForSources remaining sectors sources image
  stopped_format Journal made = stopped_journal made
  stopped_format (Pool blocks) made = stopped_pool blocks made

-- what an image of layout 2 stands for is what an upgrade to layout 4 reads
pub lived_before : (blocks sectors : ℕ) (files : Files) (pages : Pages) (image : Image) → is_pool image ≡ false → StandsFor sectors files pages image
    → StoodFor (Pool blocks) sectors files pages image
lived_before blocks sectors files pages image unmarked stood =
    let said = to_kind sectors files pages image unmarked stood in
    let two : version_in image ≡ Two =
    is_two (image 1) (λ is. said.layout (BadDirectory (subst (λ (sector : List ℕ). IsBadDirectory (home_pages_of Two sectors) sector) (sym is) (three_is_none (home_pages_of Two sectors))))) in
    let old : OldStandsFor Two sectors files pages image =
    record { layout = said.layout; journal = λ bad. said.journal (record { gate = bad.holds; map = bad.map }); facts = said.facts; same = said.same } in
    subst (λ (version : Version). OldStandsFor version sectors files pages image) (sym two) old

-- an image that an upgrade reads stands for what it says
pub old_stands : (store : NewStore) (sectors : ℕ) (old : Image) → (HasBadOldLayout store sectors old → ⊥) → (HasBadOldJournal store sectors old → ⊥)
    → StoodFor store sectors (old_info store old) (old_page store old) old
old_stands Journal sectors old layout journal = record { layout = layout; journal = journal; facts = λ f. refl; same = λ f k inside. refl }
old_stands (Pool blocks) sectors old layout journal = record { layout = layout; journal = journal; facts = λ f. refl; same = λ f k inside. refl }

pub upgrade_stands : (store : NewStore) (old_sectors sectors : ℕ) (files : Files) (pages : Pages) (old image : Image) → StoodFor store old_sectors files pages old
    → IsUpgradeBy store old_sectors sectors old image → StandsFor sectors files pages image
upgrade_stands Journal old_sectors sectors files pages old image stood made = from_kind sectors files pages image (made.stands files pages stood)
upgrade_stands (Pool blocks) old_sectors sectors files pages old image stood made =
    from_pool blocks new_pages (pool_home_count blocks sectors) sectors refl files pages image (made.stands files pages stood)

stopped_to_pool : (blocks old_sectors sectors : ℕ) (files : Files) (pages : Pages) (old image : Image) → StoodFor (Pool blocks) old_sectors files pages old
    → IsUpgradeOrNone (Pool blocks) old_sectors sectors old image → IsBadLayout sectors image ⊎ StandsFor sectors files pages image
stopped_to_pool blocks old_sectors sectors files pages old image stood made = here (is_pool image) refl
  where
    older : (b : Bool) → bytes_eq (image 0) mark ≡ b → InFiles.IsBadLayout sectors image
    older true is = with_kind blocks new_pages sectors image (made.made (inl ((bytes_eq-Decides (image 0) mark).0 is))).kind
    older false is = Unmarked (λ same. let other = (bytes_eq-Decides (image 0) mark).1 same in cc)

    here : (b : Bool) → is_pool image ≡ b → IsBadLayout sectors image ⊎ StandsFor sectors files pages image
    here true is = inr (upgrade_stands (Pool blocks) old_sectors sectors files pages old image stood (made.store (pool_marked image is)))
    here false is = inl (kind_bad sectors image is (older (bytes_eq (image 0) mark) refl))

pub stopped_upgrade : (store : NewStore) (old_sectors sectors : ℕ) (files : Files) (pages : Pages) (old image : Image) → StoodFor store old_sectors files pages old
    → IsUpgradeOrNone store old_sectors sectors old image → IsBadLayout sectors image ⊎ StandsFor sectors files pages image
stopped_upgrade Journal old_sectors sectors files pages old image stood made = none_or (StandsFor sectors files pages image) sectors image
    (λ marked. upgrade_stands Journal old_sectors sectors files pages old image stood (made.store marked))
    (λ pool m d. upgrade_kind m d old_sectors files pages old image stood (made.made (inr (inr (inr pool)))))
stopped_upgrade (Pool blocks) old_sectors sectors files pages old image stood made = stopped_to_pool blocks old_sectors sectors files pages old image stood made
