-- In which sectors of an image the pages of a file stand, where its store was opened.
use Rattle.{std.proofs.{Common.{◌≡◌, ◌⊎◌, ℕ, Bool, false, ◌<◌, ◌≤◌, ◌+◌, ◌*◌, List, [], Option, Some, None, refl, sym, ap, subst, ◌∙◌, ⊎_elim, inl, inr, arith}, lemmas.Option.{none-some, same_Some}}, std.specs.Option.{option_map}}
use Rattle.{disk_model.specs.{Moments.{Touches}, Stop.{Image}, declared.sector_disk.SectorDisk.{Ghosts}}, vm_types.specs.declared.file.FileInfo.{FileInfo}}
use Rattle.sync_journal.specs.{Commit.{one_journal}, Journal.{live_homes}, Layout.{IsPageSector, home_sector}, Map.{place_among, home_rank}, Standing.{place_or_home}}
use Rattle.sync_journal.specs.declared.journal.Journal.{Journal as OneJournal}
use Rattle.file_store.{proofs.Images.{same_head, entry_same}, specs.{Standing.{directory_entry}, Store.{entry_of, entry_home, home_of}, declared.{directory.{Directory.{Directory}, Entry.{Entry}}, store.FileStore.{FileStore}}}}
use Rattle.pool_journal.{proofs.Loose.{firm_page, slot_same, stood}, specs.{Maps.{entries_of}, Pools.{pool, pool_entry, pool_gate, pool_home_count, pool_named, pool_stands, pool_standing, slot_by, IsLoose}}}
use Rattle.directories.specs.{Homes.{home_of_page}, declared.entry.Entry.{Entry as PoolEntry}}
use Rattle.pool_store.{proofs.{Entries.{entry_stood}, Standing.{AreAlike, entry_same as pool_entry_same}}, specs.{Pools.{entry_by, files_in_pool}, Store.{home_by}, declared.store.PoolStore.{PoolStore}}}
use Rattle.pool_store.specs.Store as InPool
use Rattle.stores.proofs.{Heads.{blocks_are, same_blocks, same_mark, same_pages}, PoolOpens.{of_head}, Said.{kind_outside, mark_outside}, Says.{IsHeaded, head_of}}
use Rattle.stores.specs.{Images.{ImageSays, directory_pages, is_pool, says_by}, Opened.{OpensFrom}}
use Rattle.{stores.specs.{Store.{disk_of}, declared.store.{Store.{Store}, Store.TheVariants.{Journal, Pool}}}, programs.{proofs.Copies.{has_entry}, specs.Showing.{IsInPagesOf, IsInHomesOf, IsSectorOfFile}}}

-- where nothing stands in the journal alone, a page stands in its home
at_home : (journal : OneJournal) (h k : ℕ) → live_homes journal ≡ [] → IsPageSector (one_journal.stands_at (live_homes journal) h) k → IsPageSector (home_sector h) k
unfolding place_among
at_home journal h k none sector = subst (λ (s : List ℕ). IsPageSector (place_or_home h (home_rank s h)) k) none sector

-- the home of a page
first_and_page : (directory : Directory) (f page : ℕ) (entry : Entry) → entry_of directory f ≡ Some entry → home_of directory (record { file = f; page = page }) ≡ entry.first + page
unfolding home_of
first_and_page directory f page entry is = ap (λ (e : Option Entry). entry_home e page) is

-- the entry that gives a page its home
home_entry : (o : Option PoolEntry) (page home : ℕ) → home_by o page ≡ Some home → (e : PoolEntry) × (o ≡ Some e) × (home_of_page e page ≡ Some home)
home_entry None page home is = absurd (none-some home is)
home_entry (Some e) page home is = (e, refl, is)

-- a sector in which a page of file f stands, of a pool with maps of m blocks, a directory of d pages and n homes
abbrev IsInSizes : ℕ → ℕ → ℕ → Image → ℕ → ℕ → Type 0
IsInSizes m d n image f k = (entry : PoolEntry) × (page : ℕ) × (home : ℕ) × ((files_in_pool m d n).entry image f ≡ Some entry)
    × (home_of_page entry page ≡ Some home) × IsPageSector ((files_in_pool m d n).pages.stands_at (pool_named image, pool_entry m n (pool_named image) image) home) k

module _ {D : Type 0} (g : Ghosts D) (old : D) where
  abbrev sectors : ℕ
  sectors = g.sector_count old

  abbrev image : Image
  image = g.content old

  -- The store that was opened has layout 2:
  module _ (store : FileStore D) (opened : OpensFrom g old (Journal store)) (keeps : g.keeps_model store.disk) where
    unmarked : is_pool image ≡ false
    unmarked = same_mark (g.content store.disk) image (sym (opened.outside keeps 0 (mark_outside sectors image))) ∙ opened.ready.1 keeps

    around : (k : ℕ) → one_journal.IsOutside image sectors k → g.content store.disk k ≡ image k
    around = subst (λ b. (k : ℕ) → (says_by b sectors image).IsOutside k → g.content store.disk k ≡ image k) unmarked (opened.outside keeps)

    -- the sectors of its files are those of their homes.
    in_homes : (f k : ℕ) → IsSectorOfFile (Journal store) f k → IsInHomesOf image f k
    in_homes f k sector =
        let head = same_head sectors image (g.content store.disk) around in
        let rest = opened.ready.0.at_rest keeps in
        let same : entry_of store.directory f ≡ directory_entry image f = rest.directory f ∙ entry_same image (g.content store.disk) head f in
        let page = sector.0 in
        let info = sector.1.0 in
        let found = has_entry (entry_of store.directory f) info sector.1.1 in
        let entry = found.0 in
        let length : entry.info ≡ info = same_Some entry.info info (sym (ap (option_map (λ (e : Entry). e.info)) found.1) ∙ sector.1.1) in
        let inside : 4096 * page < entry.info.length = subst (λ (i : FileInfo). 4096 * page < i.length) (sym length) sector.1.2 in
        let home = first_and_page store.directory f page entry found.1 in (
          entry,
          entry.first + page,
          sym same ∙ found.1,
          (omega arith, omega (arith, inside)),
          subst (λ (h : ℕ). IsPageSector (home_sector h) k) home (at_home store.journal _ k (opened.carried keeps) sector.2),
        )

    in_file_of_kind : (f k : ℕ) → IsSectorOfFile (Journal store) f k → IsInPagesOf (is_pool image) sectors image f k
    in_file_of_kind f k sector = subst (λ b. IsInPagesOf b sectors image f k) (sym unmarked) (in_homes f k sector)

  -- Or it has a pool.
  module _ (store : PoolStore D) (opened : OpensFrom g old (Pool store)) (keeps : g.keeps_model store.disk) where
    abbrev m : ℕ
    m = store.journal.sizes.blocks

    abbrev d : ℕ
    d = store.directory.pages

    abbrev n : ℕ
    n = store.journal.sizes.homes

    abbrev now : Image
    now = g.content store.disk

    abbrev given : Bool → ℕ → ℕ
    given = pool_entry m n (pool_named image) image

    head : IsHeaded m d image
    head =
        let is = head_of g store opened.ready keeps in
        let mark = same_mark now image (sym (opened.outside keeps 0 (mark_outside sectors image))) ∙ is.mark in
        let kind = sym (opened.outside keeps 1 (kind_outside sectors image mark)) in
        record { mark = mark; blocks = same_blocks now image kind ∙ is.blocks; pages = same_pages now image kind ∙ is.pages }

    homes : n ≡ pool_home_count m sectors
    homes = opened.ready.pool.homes ∙ ap (pool_home_count m) opened.size

    -- Behind the gate nothing was written but the map that it did not name,
    behind : (k : ℕ) → pool_gate + 8 ≤ k → IsLoose m (pool_named image) given k ⊎ (now k ≡ image k)
    behind k from = ⊎_elim
        (λ at. inl (inl (⊎_elim (λ gate. absurd (omega (arith, gate, from))) (λ map. map)
        (subst (λ x. (pool x (pool_home_count x sectors)).IsRecovered image sectors k) (sym (blocks_are at.0 at.1 image at.2) ∙ head.blocks) at.3))))
        (λ same. inr same)
        ((of_head m d n sectors homes image head (λ (words : ImageSays). Touches g words.IsWritten old store.disk) (opened.touches keeps)).content k)

    -- the map in memory gives each home the slot that the named one does,
    slots : (h : ℕ) → slot_by m (entries_of store.journal.map) h ≡ slot_by m given h
    slots h = slot_same m (entries_of store.journal.map) given h (opened.carried keeps).0

    -- so each home stands as it did,
    alike : (h : ℕ) → AreAlike (pool_standing m n image) (pool_standing m n now) h
    alike h i below = stood g m n store.journal.second (entries_of store.journal.map) store.disk (opened.ready.at_rest keeps).rest h i
        ∙ ap (λ o. now (pool_stands m h o + i)) (slots h) ∙ firm_page m (pool_named image) given image now behind h i below

    -- the directory too,
    entry_is : (f : ℕ) → entry_by d (pool_standing m n image) f ≡ InPool.entry_of store.directory f
    entry_is f = sym (pool_entry_same d (pool_standing m n image) (pool_standing m n now) (λ h below. alike h) f)
        ∙ entry_stood d (pool_standing m n now) store.directory.entries.items opened.ready.is_directory.size (opened.ready.at_rest keeps).said f

    -- and the pages of its files stand where the image says.
    in_sizes : (f k : ℕ) → IsSectorOfFile (Pool store) f k → IsInSizes m d n image f k
    in_sizes f k sector =
        let page = sector.0 in
        let home = sector.2.0 in
        let found = home_entry (InPool.entry_of store.directory f) page home sector.2.1 in (
          found.0,
          page,
          home,
          entry_is f ∙ found.1,
          found.2,
          subst (λ o. IsPageSector (pool_stands m home o) k) (slots home) sector.2.2,
        )

    in_file_of_pool : (f k : ℕ) → IsSectorOfFile (Pool store) f k → IsInPagesOf (is_pool image) sectors image f k
    in_file_of_pool f k sector = subst (λ b. IsInPagesOf b sectors image f k) (sym head.mark)
        (subst (λ x. IsInSizes x (directory_pages image) (pool_home_count x sectors) image f k) (sym head.blocks)
        (subst (λ y. IsInSizes m y (pool_home_count m sectors) image f k) (sym head.pages)
        (subst (λ z. IsInSizes m d z image f k) homes (in_sizes f k sector))))

  -- The sectors of an opened store's file are those of the image.
  pub in_file : (store : Store D) (f k : ℕ) → OpensFrom g old store → g.keeps_model (disk_of store) → IsSectorOfFile store f k → IsInPagesOf (is_pool image) sectors image f k
  in_file (Journal store) f k opened keeps sector = in_file_of_kind store opened keeps f k sector
  in_file (Pool store) f k opened keeps sector = in_file_of_pool store opened keeps f k sector
