-- What a commit makes of the files.
use Rattle.std.proofs.Common.{◌≡◌, ℕ, ◌<◌, ◌≤◌, ◌⊎◌, ⊎_elim, inl, inr, List, length, get_or, slice_get, Option, Some, None, refl, sym, ap, ◌∙◌, arith}
use Rattle.std.{proofs.lemmas.{Bool.{cases_eq, cases_lt}, Option.{same_Some, slice_get_within}}, specs.Option.{option_map}}
use Rattle.vm_types.specs.{Files.{bytes_inside, inside_of}, declared.file.{FileInfo.{FileInfo}, FilePage.{FilePage}}}
use Rattle.disk_model.{proofs.Pieces.{joined-same, joined_parts}, specs.{Sectors.{joined, part_of}, Stop.{Image}}}
use Rattle.sync_journal.proofs.Images.{Means, place_means}
use Rattle.sync_journal.specs.{Commit.{changed, sector_or}, Layouts.{IsKept, StandsForPages, StandsForEitherPages}, Map.{home_rank}}
use Rattle.pool_journal.specs.{Giving.{AreRising}, Pools.{pool, pool_standing}}
use Rattle.directories.{specs.{Homes.{home_of_page}, declared.entry.Entry.{Entry}}, proofs.Owned.{gives_homes}}
use Rattle.file_store.{proofs.Pieces.{trimmed-trimmed, length-trimmed}, specs.{Commit.{cut_page, Changes}, Layout.{padded_page}, Standing.{IsPageOf}}}
use Rattle.pool_store.proofs.{Entries.{entry_stood}, Homes.{entry_there}, Ordered.{ArePlaced, page_is, one_page, home_behind}, Standing.{AreAlike, SameHead, entry_same, bad_moves, stands_kept}}
use Rattle.pool_store.specs.{Commit.{PutsHomes, PutsHomesOrNone}, Files.{StandsFor, StandsForEither, info_of, page_at, page_of}, Places.{cut_pages, inside_at, inside_by, index_at}, Pools.{AreSaid, entry_by, files_in_pool}, Store.{entry_of, home_by, home_of, IsDirectoryOn}}
use Rattle.pool_store.specs.declared.{directory.Directory.{Directory}, room.Place.{Place}}

-- places of rising homes are one where the homes are
rising_place : (homes : List ℕ) → AreRising homes → (i j : ℕ) → i < length homes → j < length homes → get_or homes i 0 ≡ get_or homes j 0 → i ≡ j
rising_place homes rising i j one two same = ⊎_elim (λ e. e)
    (λ differ. ⊎_elim (λ less. (let rises = rising i j less two in absurd (omega (arith, rises, same))))
    (λ from. (let rises = rising j i (omega (arith, differ, from)) one in absurd (omega (arith, rises, same)))) (cases_lt i j))
    (cases_eq i j)

-- where a home stands in a list
record HasPlace (homes : List ℕ) (h j : ℕ) : Type 0 where
  below : j < length homes
  is : get_or homes j 0 ≡ h

-- Pages of a list, in the order of their homes,
module _ (n : ℕ) (directory : Directory) (on : IsDirectoryOn n directory) (list : List FilePage) (places : List Place) (homes : List ℕ) (placed : ArePlaced directory list places homes) where
  -- where a home is that of a page of the list, if it is
  places_of : (h : ℕ) → ((home_rank homes h ≡ None) × ((j : ℕ) → HasPlace homes h j → ⊥)) ⊎ ((j : ℕ) × (home_rank homes h ≡ Some j) × HasPlace homes h j)
  places_of h = from (home_rank homes h) refl (place_means (λ j. get_or homes j 0) h (length homes))
    where
      from : (o : Option ℕ) → home_rank homes h ≡ o → Means (λ j. get_or homes j 0) h (length homes) o
          → ((home_rank homes h ≡ None) × ((j : ℕ) → HasPlace homes h j → ⊥)) ⊎ ((j : ℕ) × (home_rank homes h ≡ Some j) × HasPlace homes h j)
      from None is none = inl (is, λ j has. none j has.below has.is)
      from (Some j) is has = inr (j, is, record { below = has.0; is = has.1 })

  -- a page of the list has a place
  place_of : (i h : ℕ) (p : FilePage) → slice_get list i ≡ Some p → home_of directory p ≡ Some h → (j : ℕ) × HasPlace homes h j × (index_at places j ≡ i)
  place_of i h p at is =
      let found = placed.found i (slice_get_within list i p at) in
      let each = placed.each found.0 found.1 in
      let page : each.0 ≡ p = same_Some each.0 p (sym each.1 ∙ ap (slice_get list) found.2 ∙ at) in
      (found.0, record { below = found.1; is = same_Some (get_or homes found.0 0) h (sym each.2 ∙ ap (home_of directory) page ∙ is) }, found.2)

  -- the directory has no home of one
  pub none_of_directory : (h : ℕ) → h < directory.pages → home_rank homes h ≡ None
  none_of_directory h below = ⊎_elim (λ none. none.0)
      (λ some. (let each = placed.each some.0 some.2.below in let behind = home_behind n directory on each.0 (get_or homes some.0 0) each.2 in absurd (omega (arith, below, behind.0, some.2.is))))
      (places_of h)

  -- are committed over a pool, with zeros past their files' ends.
  module _ (m sectors : ℕ) (given : ℕ → List ℕ) (old : Image) where
    abbrev cut : ℕ → List ℕ
    cut i = cut_pages directory list given (index_at places i)

    abbrev pub After : ℕ → ℕ → List ℕ
    After = changed (pool_standing m n old) homes cut

    abbrev pub Either : Image → Type 0
    Either = IsKept (pool m n) sectors old (StandsForEitherPages (pool m n) (pool_standing m n old) After)

    module _ (said : AreSaid directory.pages (pool_standing m n old) directory.entries.items) where
      -- in memory stands what the image says
      pub in_memory : (f : ℕ) → entry_by directory.pages (pool_standing m n old) f ≡ entry_of directory f
      in_memory f = entry_stood directory.pages (pool_standing m n old) directory.entries.items on.size said f

      module _ (image : Image) (kept : IsKept (pool m n) sectors old (StandsForPages (pool m n) After) image) where
        abbrev left : ℕ → ℕ → List ℕ
        left = pool_standing m n image

        other_home : (h : ℕ) → home_rank homes h ≡ None → AreAlike (pool_standing m n old) left h
        unfolding changed
        other_home h none i below = kept.stands.each h i below ∙ ap (sector_or cut (pool_standing m n old h i) i) none

        own_home : (h j : ℕ) → home_rank homes h ≡ Some j → (i : ℕ) → i < 8 → left h i ≡ part_of (cut j) i
        unfolding changed
        own_home h j some i below = kept.stands.each h i below ∙ ap (sector_or cut (pool_standing m n old h i) i) some

        head : SameHead m directory.pages n old image
        head = record {
          mark = kept.outside 0 (inl (omega arith));
          kind = kept.outside 1 (inl (omega arith));
          directory = λ h below. other_home h (none_of_directory h below);
        }

        -- what stands for the homes
        pub homes_put : PutsHomes (files_in_pool m directory.pages n) sectors directory list given old image
        homes_put = record {
          listed = λ i h j p at is below.
              let own = place_of i h p at is in
              ⊎_elim (λ none. absurd (none.1 own.0 own.1))
              (λ some.
              let same : some.0 ≡ own.0 = rising_place homes placed.rising some.0 own.0 some.2.below own.1.below (some.2.is ∙ sym own.1.is) in
              own_home h some.0 some.1 j below ∙ ap (λ k. part_of (cut k) j) same ∙ ap (λ k. part_of (cut_pages directory list given k) j) own.2)
              (places_of h);
          others = λ h j other below. ⊎_elim
              (λ none. other_home h none.0 j below)
              (λ some. (let each = placed.each some.0 some.2.below in absurd (other (index_at places some.0) each.0 each.1 (each.2 ∙ ap Some some.2.is))))
              (places_of h);
          outside = kept.outside;
        }

        -- a page of a file with this entry
        abbrev inside : Entry → ℕ → ℕ
        inside e k = bytes_inside e.length k

        page_left : (f k h : ℕ) (e : Entry) → entry_of directory f ≡ Some e → home_of_page e k ≡ Some h
            → page_of left k (entry_by directory.pages left f) ≡ padded_page (inside e k) (joined (left h) 8)
        page_left f k h e is home =
            ap (page_of left k) (entry_same directory.pages (pool_standing m n old) left head.directory f ∙ in_memory f ∙ is) ∙ ap (page_at left (inside e k)) home

        page_was : (f k h : ℕ) (e : Entry) → entry_of directory f ≡ Some e → home_of_page e k ≡ Some h
            → page_of (pool_standing m n old) k (entry_by directory.pages (pool_standing m n old) f) ≡ padded_page (inside e k) (joined (pool_standing m n old h) 8)
        page_was f k h e is home = ap (page_of (pool_standing m n old) k) (in_memory f ∙ is) ∙ ap (page_at (pool_standing m n old) (inside e k)) home

        -- not of the list: as before
        unlisted : (f k h : ℕ) (e : Entry) → entry_of directory f ≡ Some e → home_of_page e k ≡ Some h → home_rank homes h ≡ None
            → page_of left k (entry_by directory.pages left f) ≡ page_of (pool_standing m n old) k (entry_by directory.pages (pool_standing m n old) f)
        unlisted f k h e is home none = page_left f k h e is home
            ∙ ap (padded_page (inside e k)) (joined-same 8 (left h) (pool_standing m n old h) (other_home h none))
            ∙ sym (page_was f k h e is home)

        -- of the list: as given
        listed : (h j : ℕ) (e : Entry) (p : FilePage) → entry_of directory p.file ≡ Some e → home_of_page e p.page ≡ Some h → home_rank homes h ≡ Some j → slice_get list (index_at places j) ≡ Some p
            → page_of left p.page (entry_by directory.pages left p.file) ≡ padded_page (inside e p.page) (given (index_at places j))
        listed h j e p is home some at =
            let many : inside_at directory list (index_at places j) ≡ inside e p.page = ap (inside_by directory) at ∙ ap (λ o. inside_of (option_map info_of o) p.page) is in
            let whole : cut j ≡ padded_page (inside e p.page) (given (index_at places j)) = ap (λ b. padded_page b (given (index_at places j))) many in
            let small : inside e p.page ≤ 4096 = omega arith in
            page_left p.file p.page h e is home
            ∙ ap (padded_page (inside e p.page)) (joined-same 8 (left h) (part_of (cut j)) (own_home h j some)
            ∙ joined_parts (cut j) (ap length whole ∙ length-trimmed (inside e p.page) (given (index_at places j)) small) ∙ whole)
            ∙ trimmed-trimmed (inside e p.page) (given (index_at places j)) small

        -- So the image stands for the files after.
        module _ (files : ℕ → Option FileInfo) (before after : ℕ → ℕ → List ℕ) (was : StandsFor (files_in_pool m directory.pages n) sectors files before old) (changes : Changes files list given before after) where
          facts : (f : ℕ) → option_map info_of (entry_by directory.pages left f) ≡ files f
          facts f = ap (option_map info_of) (entry_same directory.pages (pool_standing m n old) left head.directory f) ∙ was.facts f

          same_page : (f k h : ℕ) (e : Entry) (within : IsPageOf files f k) → entry_of directory f ≡ Some e → info_of e ≡ within.0 → home_of_page e k ≡ Some h
              → page_of left k (entry_by directory.pages left f) ≡ after f k
          same_page f k h e within is info home =
              let page : FilePage = record { file = f; page = k } in
              let of_page : home_of directory page ≡ Some h = ap (λ o. home_by o k) is ∙ home in
              ⊎_elim
              (λ none. unlisted f k h e is home none.0 ∙ was.same f k within
              ∙ sym (changes.others f k (λ i p at file number.
              let own = place_of i h p at (ap (home_of directory) (page_is p f k file number) ∙ of_page) in none.1 own.0 own.1)))
              (λ some.
              let each = placed.each some.0 some.2.below in
              let same : each.0 ≡ page = one_page n directory on each.0 page h (each.2 ∙ ap Some some.2.is) of_page in
              let i : ℕ = index_at places some.0 in
              let at : slice_get list i ≡ Some page = each.1 ∙ ap Some same in
              listed h some.0 e page is home some.1 at
              ∙ ap (λ (x : FileInfo). padded_page (bytes_inside x.length k) (given i)) info
              ∙ sym (ap (λ o. cut_page o k (given i)) within.1)
              ∙ sym (changes.listed i page at))
              (places_of h)

          same_pages : (f k : ℕ) → IsPageOf files f k → page_of left k (entry_by directory.pages left f) ≡ after f k
          same_pages f k within =
              let there = entry_there (entry_of directory f) within.0 (ap (option_map info_of) (sym (in_memory f)) ∙ was.facts f ∙ within.1) in
              let more : there.0.length ≡ within.0.length = ap (λ (i : FileInfo). i.length) there.2 in
              let has = (gives_homes directory.pages n directory.entries.items on.good).each f k there.0 there.1 (omega (arith, more, within.2)) in
              same_page f k has.0 there.0 within there.1 there.2 (ap (λ (x : Entry). home_of_page x k) (same_Some there.0 has.1.entry (sym there.1 ∙ has.1.file)) ∙ has.1.home)

          pub stands_changed : StandsFor (files_in_pool m directory.pages n) sectors files after image
          stands_changed = record {
            good = λ bad. was.good (bad_moves m directory.pages n sectors old image head bad);
            journal = λ bad. bad;
            facts = facts;
            same = same_pages;
          }

      -- at any moment the image stands for the files before or after
      pub stands_either : (files : ℕ → Option FileInfo) (before after : ℕ → ℕ → List ℕ) → StandsFor (files_in_pool m directory.pages n) sectors files before old → Changes files list given before after
          → (image : Image) → Either image → StandsForEither (files_in_pool m directory.pages n) sectors files before after image
      stands_either files before after was changes image kept = ⊎_elim
          (λ stands. inl (stands_kept m directory.pages n sectors old image (record { stands = stands; journal = kept.journal; outside = kept.outside }) files before was))
          (λ stands. inr (stands_changed image (record { stands = stands; journal = kept.journal; outside = kept.outside }) files before after was changes))
          kept.stands

      -- and so do the homes
      pub homes_either : (image : Image) → Either image → PutsHomesOrNone (files_in_pool m directory.pages n) sectors directory list given old image
      homes_either image kept = ⊎_elim
          (λ stands. inl (record { stands = stands; journal = kept.journal; outside = kept.outside }))
          (λ stands. inr (homes_put image (record { stands = stands; journal = kept.journal; outside = kept.outside })))
          kept.stands
