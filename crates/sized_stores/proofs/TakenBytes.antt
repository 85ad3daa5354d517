-- What a commit of the listed changes and pages makes of the files' bytes is what a commit of lengths makes of them.
use Rattle.std.proofs.Common.{ℕ, ◌+◌, ◌-◌, ◌*◌, ◌/◌, ◌<◌, ◌≤◌, ◌≡◌, ◌⊎◌, true, false, List, ◌++◌, length, map, slice_get, Option, Some, None, nat_lt, inl, inr, ⊎_elim, refl, sym, ap, subst, ◌∙◌, arith}
use Rattle.std.proofs.lemmas.{Bool.{cases_Bool, cases_lt, cond-false, cond-true, false≢true, le-ltb, lt-ltb}, Option.{same_Some, slice_get_past, slice_get_within}}
use Rattle.vm_types.specs.{Files.{bytes_inside, cut, inside_of}, View.{zero_page}, declared.{file.FileInfo.{FileInfo}, file.FilePage.{FilePage}}}
use Rattle.disk_model.specs.{Moments.{LeavesNow}, Sectors.{joined}, declared.sector_disk.SectorDisk.{Ghosts}}
use Rattle.directories.proofs.Owned.{gives_homes}
use Rattle.directories.specs.Layouts.{entry_in}
use Rattle.file_store.{proofs.Pieces.{length-trimmed, trimmed-trimmed, trimmed_fill}, specs.{Commit.{cut_page}, Layout.{padded_page}, Standing.{IsPageOf}}}
use Rattle.growth.specs.declared.changes.Change.{Change}
use Rattle.pool_growth.proofs.{Cut.{cut_inside, entry_counted, home_has, inside_small, is_counted, padded_zeros, page_with_home}, Numbered.{stands_or}}
use Rattle.pool_growth.specs.{Files.{files_after, file_page_count, ChangesFiles, StandsInList}, Sizes.{SaySizes}}
use Rattle.pool_journal.specs.Pools.{pool_standing}
use Rattle.pool_store.{proofs.Entries.{entry_stood}, specs.{Files.{page_of}, Store.{info_by, IsReadyPool}}}
use Rattle.pool_store.specs.declared.store.PoolStore.{PoolStore}
use Rattle.stores.{proofs.Says.{head_of, to_pool}, specs.{Images.{StandsFor}, declared.store.Store.TheVariants.{Pool}}}
use Rattle.sized_stores.proofs.TakenLengths.{has_been, has_now, has_size, one_of, one_there, sized_then, HasSize}
use Rattle.sized_stores.proofs.TakenPages.{at_behind, at_front, none_then, of_both, one_then, page_then, picked_all, picked_stands}
use Rattle.sized_stores.specs.{Commit.{is_one_of, files_then, size_asked, AreResized, ArePagesNow, TakesSizes}, Given.{given_page, page_in}, Listing.{is_new_in, ListsPages}, Reading.{left_page}, Store.{directory_of, length_of, shortest_in, IsReadySized}}
use Rattle.sized_stores.specs.declared.{room.PageList.{PageList}, store.SizedStore.{SizedStore}}

-- a page of which nothing is left is zeros
none_left : (bytes : List ℕ) → cut 0 bytes ≡ zero_page
unfolding zero_page
none_left bytes = refl

lost_left : (shortest k : ℕ) (bytes : List ℕ) → shortest ≤ 4096 * k → left_page shortest k bytes ≡ zero_page
lost_left shortest k bytes lost = (let none : bytes_inside shortest k ≡ 0 = omega (arith, lost) in ap (λ n. cut n bytes) none) ∙ none_left bytes

zeros_cut : (o : Option FileInfo) (info : FileInfo) (k : ℕ) → o ≡ Some info → cut_page o k zero_page ≡ zero_page
zeros_cut o info k is = cut_inside o info k zero_page is ∙ padded_zeros (inside_of o k) (inside_small o k)

-- the pages that are given for listed ones
module _ (fresh kept : List ℕ) (pages : ℕ → List ℕ) where
  given_new : (j place : ℕ) → slice_get fresh j ≡ Some place → given_page fresh kept pages j ≡ pages place
  given_new j place at = ap (page_in pages) (cond-true (nat_lt j (length fresh)) (slice_get fresh j) (slice_get kept (j - length fresh)) (lt-ltb j (length fresh) (slice_get_within fresh j place at)) ∙ at)

  given_behind : (n j : ℕ) → n ≡ length fresh → given_page fresh kept pages (n + j) ≡ page_in pages (slice_get kept j)
  given_behind n j is = ap (page_in pages)
      (cond-false (nat_lt (n + j) (length fresh)) (slice_get fresh (n + j)) (slice_get kept (n + j - length fresh)) (le-ltb (n + j) (length fresh) (omega (arith, is)))
      ∙ (let back : n + j - length fresh ≡ j = omega (arith, is) in ap (slice_get kept) back))

-- Pages of an open store stand with zeros past their files' ends.
module _ {D : Type 0} (g : Ghosts D) (store : PoolStore D) (ready : IsReadyPool g store) (keeps : g.keeps_model store.disk) (before : ℕ → ℕ → List ℕ)
    (left : LeavesNow g store.disk (StandsFor (g.sector_count store.disk) (info_by store.directory) before)) where
  pub stand_cut : (f k : ℕ) → IsPageOf (info_by store.directory) f k → (bytes : List ℕ) × (before f k ≡ padded_page (inside_of (info_by store.directory f) k) bytes)
  stand_cut f k at =
      let m = store.journal.sizes.blocks in
      let d = store.directory.pages in
      let n = store.journal.sizes.homes in
      let entries = store.directory.entries.items in
      let image = g.content store.disk in
      let stood : ℕ → ℕ → List ℕ = pool_standing m n image in
      let stands = to_pool m d n (g.sector_count store.disk) ready.pool.homes (info_by store.directory) before image (head_of g store ready keeps) (left image (record { kept = λ i. inr refl })) in
      let some = entry_counted (entry_in entries f) k (is_counted (info_by store.directory f) at.0 k at.1 at.2) in
      let home = (gives_homes d n entries ready.is_directory.good).each f k some.0 some.1 some.2 in (
        joined (stood home.0) 8,
        sym (stands.same f k at) ∙ ap (page_of stood k) (entry_stood d stood entries ready.is_directory.size (ready.at_rest keeps).said f)
            ∙ page_with_home stood k home.0 (entry_in entries f) (home_has entries f k home.0 home.1),
      )

-- as much of a page is left as lies inside its file, where the file is as short as it has been, or the page was not cut
same_inside : (shortest length k : ℕ) → shortest ≤ length → (4096 * k + 4096 ≤ shortest) ⊎ (length ≤ shortest) → bytes_inside length k ≡ bytes_inside shortest k
same_inside shortest length k low whole = ⊎_elim (λ all. omega (arith, low, all)) (λ same. omega (arith, low, same)) whole

module _ {D : Type 0} (g : Ghosts D) (s : SizedStore D) (store : PoolStore D) (ready : IsReadySized g (record s { store = Pool store })) (files : List ℕ) (list : List FilePage)
    (are : AreResized (record s { store = Pool store }) files) (now : ArePagesNow (record s { store = Pool store }) files list)
    (changes : List Change) (says : SaySizes (info_by store.directory) (map (size_asked s.sizes.items) files) changes)
    (limit : ℕ) (fresh kept : PageList) (lists : ListsPages store.directory s.sizes.items files list limit fresh kept)
    (given : ℕ → List ℕ) (before after made : ℕ → ℕ → List ℕ) (takes : TakesSizes (record s { store = Pool store }) files list given before after)
    (changed : ChangesFiles (info_by store.directory) changes fresh.pages.items kept.pages.items (given_page fresh.places.items kept.places.items given) before made)
    (stands : (f k : ℕ) → IsPageOf (info_by store.directory) f k → (bytes : List ℕ) × (before f k ≡ padded_page (inside_of (info_by store.directory f) k) bytes)) where
  abbrev old : SizedStore D
  old = record s { store = Pool store }

  abbrev was : ℕ → Option FileInfo
  was = info_by store.directory

  abbrev later : ℕ → Option FileInfo
  later = files_after was changes

  abbrev front : List FilePage
  front = lists.front

  abbrev zeros : List FilePage
  zeros = lists.zeros

  abbrev Agrees : ℕ → ℕ → Type 0
  Agrees f k = made f k ≡ after f k

  at_page : (p : FilePage) (f k : ℕ) → p.file ≡ f → p.page ≡ k → Agrees p.file p.page → Agrees f k
  at_page p f k file page agrees = subst (λ n. Agrees f n) page (subst (λ h. Agrees h p.page) file agrees)

  in_kept : (i : ℕ) (p : FilePage) → slice_get (front ++ zeros) i ≡ Some p → slice_get kept.pages.items i ≡ Some p
  in_kept i p at = ap (λ (ps : List FilePage). slice_get ps i) lists.is ∙ at

  -- Pages of the list are as given,
  of_listed : (i : ℕ) (p : FilePage) → slice_get list i ≡ Some p → Agrees p.file p.page
  of_listed i p is =
      let told : after p.file p.page ≡ cut_page (later p.file) p.page (given i) = takes.listed i p is ∙ ap (λ o. cut_page o p.page (given i)) (page_then g s store ready files list are now changes says i p is) in
      ⊎_elim
      (λ new.
      let at = picked_all was true list fresh.pages.items fresh.places.items lists.new i p is new in
      changed.added at.0 p at.1 ∙ ap (cut_page (later p.file) p.page) (given_new fresh.places.items kept.places.items given at.0 i at.2) ∙ sym told)
      (λ not_new.
      let at = picked_all was false list front kept.places.items lists.old i p is not_new in
      changed.listed at.0 p (in_kept at.0 p (at_front front zeros at.0 p at.1))
      ∙ ap (cut_page (later p.file) p.page) (given_behind fresh.places.items kept.places.items given (length fresh.pages.items) at.0 lists.new.long ∙ ap (page_in given) at.2) ∙ sym told)
      (cases_Bool (is_new_in was p))

  -- those that are zeros since are zeros,
  of_zero : (j : ℕ) (p : FilePage) → slice_get zeros j ≡ Some p → made p.file p.page ≡ zero_page
  of_zero j p is =
      let zero = lists.each j p is in
      let there = are.there zero.0.0 p.file zero.0.1 in
      let has = has_size s store ready p.file there.0 there.1 in
      let none : slice_get kept.places.items (length front + j) ≡ None = slice_get_past kept.places.items (length front + j) (let long = lists.old.long in omega (arith, long)) in
      changed.listed (length front + j) p (in_kept (length front + j) p (at_behind front zeros j p is))
      ∙ ap (cut_page (later p.file) p.page) (given_behind fresh.places.items kept.places.items given (length fresh.pages.items) (length front + j) lists.new.long ∙ ap (page_in given) none)
      ∙ zeros_cut (later p.file) _ p.page (sym (one_then g s store ready files list are now changes says p.file (one_of files zero.0.0 p.file zero.0.1)) ∙ has_now s store ready p.file there.0 there.1 has)

  -- and of the others
  module _ (f k : ℕ) (page : IsPageOf (files_then (record s { store = Pool store }) files) f k) (unlisted : StandsInList list f k → ⊥) where
    not_kept : ((j : ℕ) (p : FilePage) → slice_get zeros j ≡ Some p → p.file ≡ f → p.page ≡ k → ⊥) → StandsInList kept.pages.items f k → ⊥
    not_kept none at = ⊎_elim
        (λ here. unlisted (picked_stands was false list front kept.places.items lists.old f k (at.0, at.1, here, at.3, at.4)))
        (λ behind. none behind.0 at.1 behind.2 at.3 at.4)
        (of_both front zeros at.0 at.1 (sym (ap (λ (ps : List FilePage). slice_get ps at.0) lists.is) ∙ at.2))

    -- those of other files stay;
    of_none : is_one_of files f ≡ false → Agrees f k
    of_none none =
        let same : was f ≡ later f = none_then g s store ready files list are now changes says f none in
        let at : was f ≡ Some page.0 = same ∙ sized_then s store ready files are changes says f ∙ page.1 in
        let before_is = stands f k (page.0, at, page.2) in
        let inside : ℕ = inside_of (was f) k in
        changed.others f k
        (λ new. (let counted = is_counted (was f) page.0 k at page.2 in omega (arith, new.0, counted)))
        (not_kept (λ j p is file _. (let zero = lists.each j p is in true_no (one_of files zero.0.0 p.file zero.0.1) (ap (is_one_of files) file ∙ none))))
        ∙ ap (λ o. cut_page o k (before f k)) (sym same)
        ∙ cut_inside (was f) page.0 k (before f k) at
        ∙ ap (padded_page inside) before_is.1
        ∙ trimmed-trimmed inside before_is.0 (inside_small (was f) k)
        ∙ sym before_is.1
        ∙ sym (takes.others f k none unlisted)
      where
        true_no : {b : _} → b ≡ true → b ≡ false → ⊥
        true_no one two = false≢true (sym two ∙ one)

    -- of these ones
    module _ (one : is_one_of files f ≡ true) (info : FileInfo) (is : was f ≡ Some info) (has : HasSize s.sizes.items f info) where
      abbrev short : ℕ
      short = has.size.shortest

      abbrev sized : FileInfo
      sized = record { length = has.size.length; read_only = info.read_only }

      later_is : later f ≡ Some sized
      later_is = sym (one_then g s store ready files list are now changes says f one) ∙ has_now s store ready f info is has

      inside : 4096 * k < has.size.length
      inside =
          let same : page.0.length ≡ has.size.length = ap (λ (i : FileInfo). i.length) (same_Some page.0 sized (sym page.1 ∙ sym (sized_then s store ready files are changes says f) ∙ later_is)) in
          (let at = page.2 in omega (arith, at, same))

      left_after : after f k ≡ left_page short k (before f k)
      left_after = takes.left f k one unlisted ∙ ap (λ n. left_page n k (before f k)) (has_been s store ready f info is has)

      -- new pages are zeros,
      of_new : file_page_count (was f) ≤ k → Agrees f k
      of_new past =
          changed.blank f k (past, is_counted (later f) sized k later_is inside) (λ at. unlisted (picked_stands was true list fresh.pages.items fresh.places.items lists.new f k at))
          ∙ sym (left_after ∙ lost_left short k (before f k) (let count = ap file_page_count is in let low = has.is.was in omega (arith, past, count, low)))

      -- so are those that were cut off,
      of_lost : k < file_page_count (was f) → short ≤ 4096 * k → Agrees f k
      of_lost here lost =
          let place = one_there files f one in
          let been = has_been s store ready f info is has in
          let length = ap length_of (has_now s store ready f info is has) in
          let at = lists.all f k (
            place,
            record {
              lost = omega (arith, lost, been);
              had = (let same = ap length_of is in let count = ap file_page_count is in omega (arith, same, here, count));
              has = omega (arith, length, inside);
              unlisted = unlisted;
            },
          ) in
          subst (λ n. made f n ≡ zero_page) at.4 (subst (λ h. made h at.1.page ≡ zero_page) at.3 (of_zero at.0 at.1 at.2)) ∙ sym (left_after ∙ lost_left short k (before f k) lost)

      -- and of the rest as much is left as lies inside the file.
      of_left : k < file_page_count (was f) → 4096 * k < short → Agrees f k
      of_left here less =
          let low = has.is.is in
          let before_is = stands f k (info, is, (let count = ap file_page_count is in omega (arith, here, count))) in
          let long : length (before f k) ≡ 4096 = ap length before_is.1 ∙ length-trimmed (inside_of (was f) k) before_is.0 (inside_small (was f) k) in
          let part : bytes_inside short k ≤ 4096 = omega arith in
          changed.others f k (λ new. omega (arith, new.0, here))
          (not_kept (λ j p at file number. (
          let zero = lists.each j p at in
          let lost = zero.1.lost in
          let been = has_been s store ready f info is has in
          let same : shortest_in (directory_of old) p.file ≡ shortest_in (directory_of old) f = ap (shortest_in (directory_of old)) file in
          omega (arith, lost, been, same, number, less))))
          ∙ cut_inside (later f) sized k (before f k) later_is
          ∙ ap (λ o. padded_page (inside_of o k) (before f k)) later_is
          ∙ ap (λ n. padded_page n (before f k)) (same_inside short has.size.length k low (whole low))
          ∙ sym (left_after ∙ trimmed_fill (bytes_inside short k) (before f k) long part)
        where
          whole : short ≤ has.size.length → (4096 * k + 4096 ≤ short) ⊎ (has.size.length ≤ short)
          whole low = ⊎_elim
              (λ (within : short < 4096 * k + 4096). ⊎_elim
              (λ (longer : short < has.size.length). absurd (unlisted (
              let been = has_been s store ready f info is has in
              let length = ap length_of (has_now s store ready f info is has) in
              let number : short / 4096 ≡ k = omega (arith, within, less) in
              subst (λ n. StandsInList list f n) number (subst (λ n. StandsInList list f (n / 4096)) been
              (now.ends f one (omega (arith, been, longer, length)) (λ none. omega (arith, none, been, within, less)))))))
              (λ same. inr same)
              (cases_lt short has.size.length))
              (λ all. inl all)
              (cases_lt short (4096 * k + 4096))

      of_one : Agrees f k
      of_one = ⊎_elim
          (λ here. ⊎_elim (λ less. of_left here less) (λ lost. of_lost here lost) (cases_lt (4096 * k) short))
          (λ past. of_new past)
          (cases_lt k (file_page_count (was f)))

    of_unlisted : Agrees f k
    of_unlisted = ⊎_elim
        (λ one. (let place = one_there files f one in let there = are.there place.0 f place.1 in of_one one there.0 there.1 (has_size s store ready f there.0 there.1)))
        of_none (cases_Bool (is_one_of files f))

  -- So all of them are.
  pub agree : (f k : ℕ) → IsPageOf (files_then (record s { store = Pool store }) files) f k → made f k ≡ after f k
  agree f k page = ⊎_elim (λ at. at_page at.1 f k at.3 at.4 (of_listed at.0 at.1 at.2)) (λ unlisted. of_unlisted f k page unlisted) (stands_or list f k)
