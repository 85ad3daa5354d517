-- What an image stands for while files change, and after it.
use Rattle.std.proofs.Common.{ℕ, ◌≡◌, ◌<◌, ◌≤◌, ◌+◌, ◌-◌, ◌*◌, ◌/◌, ◌%◌, ◌⊎◌, ⊎_elim, inl, inr, ◌++◌, List, [], length, get_or, Option, Some, None, slice_get, true, false, true≢false, length-append, refl, sym, ap, subst, ◌∙◌, arith}
use Rattle.std.proofs.lemmas.{Bool.{cases_Bool, cases_eq, cases_lt, cond-true, cond-false, Decides.{nat_tests}}, List.{get_or_append_left, get_or-append_right}, Option.{same_Some, slice_get_within}}
use Rattle.std.specs.{Option.{option_map}, Prelude.{nat_lt}}
use Rattle.vm_types.specs.{Files.{bytes_inside, inside_of}, declared.{file.FileInfo.{FileInfo}, file.FilePage.{FilePage}}}
use Rattle.disk_model.{proofs.Pieces.{joined-same, joined_parts}, specs.{Sectors.{joined, part_of}, Stop.{Image}}}
use Rattle.directories.{specs.{Entries.{SaysEntry, entry_bytes}, Homes.{HasHome}, Kinds.{IsKind}, Layouts.{entry_in}, declared.entry.Entry.{Entry}}, proofs.Owned.{gives_homes}}
use Rattle.file_store.{proofs.Pieces.{trimmed-trimmed, length-trimmed}, specs.{Commit.{cut_page}, Layout.{padded_page}, Standing.{IsPageOf}}}
use Rattle.growth.specs.{Changes.{entry_then}, declared.changes.Change.{Change}}
use Rattle.pool_growth.proofs.{Cut.{begins_inside, cut_further, cut_inside, entry_counted, home_has, inside_small, is_counted, joined_zeros, no_more_inside, padded_zeros, page_with_home}, Directory.{are_changed, changed_found, in_front, unchanged, StandsIn}}
use Rattle.pool_growth.proofs.Ordering.{given_listed, given_new, ArePlacedThen}
use Rattle.pool_growth.proofs.{New.{entry_later, front_not_new, info_later, later_homed, home_is, new_homed, new_own, old_not_new}, Numbered.{stands_or}}
use Rattle.pool_growth.specs.{Asked.{entries_then, is_changed, AreFileChanges, AreNewPages, changed_pages}, Files.{files_after, given_page, file_page_count, ChangesFiles, StandsInList, IsNewPage}}
use Rattle.pool_growth.specs.{Front.{AreChangedPages}, Late.{cut_given, late_page}, Putting.{cut_new, inside_then, new_home, IsNewHome, LeavesOtherHomes, NewPagesStand, OthersAreBlank}}
use Rattle.pool_journal.specs.Pools.{pool, pool_standing}
use Rattle.pool_store.proofs.{Entries.{entry_stood}, Ordered.{page_is}, Standing.{AreAlike, SameHead, bad_moves, entry_same}}
use Rattle.pool_store.specs.{Files.{StandsFor, StandsAs, info_of, page_of}, Places.{index_at}, Pools.{AreSaid, entry_by, entry_standing, files_in_pool, IsBadPool, IsBadPool.{Unmarked, OtherKind, TooSmall, NoDirectory}}}
use Rattle.pool_store.specs.{Store.{info_by, IsDirectoryOn}, declared.{directory.Directory.{Directory}, room.Place.{Place}}}
use Rattle.sync_journal.{proofs.Images.{Means, place_means}, specs.{Commit.{changed, sector_or}, Layouts.{IsKept, StandsForPages}, Map.{home_rank}}}

-- the first pages that go into slots are those of the directory, whatever a source gives
pub late_front : (directory : Directory) (changes : List Change) (fresh list : List FilePage) (front : List (List ℕ)) (places : List Place) (put : ℕ) (given : ℕ → List ℕ) (j : ℕ)
    → j < length front → late_page directory changes fresh list front places put given j ≡ get_or front j []
late_front directory changes fresh list front places put given j below =
    cond-true (nat_lt j (length front)) (get_or front j []) (cut_given directory changes fresh list given (put + index_at places (j - length front))) (grind (arith, below, nat_tests))

module _ (n : ℕ) (directory : Directory) (on : IsDirectoryOn n directory) (changes : List Change) (are : AreFileChanges n directory changes)
    (m sectors : ℕ) (old : Image) (said : AreSaid directory.pages (pool_standing m n old) directory.entries.items) where
  abbrev infos : ℕ → Option FileInfo
  infos = info_by directory

  abbrev later : ℕ → Option FileInfo
  later = files_after infos changes

  abbrev entries : List (Option Entry)
  entries = directory.entries.items

  abbrev now_entries : List (Option Entry)
  now_entries = entries_then directory changes

  abbrev stood : ℕ → ℕ → List ℕ
  stood = pool_standing m n old

  -- in memory stands what the image says
  in_memory : (f : ℕ) → entry_by directory.pages stood f ≡ entry_in entries f
  in_memory f = entry_stood directory.pages stood entries on.size said f

  files_are : (files : ℕ → Option FileInfo) (pages : ℕ → ℕ → List ℕ) → StandsFor (files_in_pool m directory.pages n) sectors files pages old → (f : ℕ) → infos f ≡ files f
  files_are files pages was f = ap (option_map info_of) (sym (in_memory f)) ∙ was.facts f

  -- a page that was one has a home
  had_home : (f k : ℕ) → k < file_page_count (infos f) → (h : ℕ) × HasHome entries f k h
  had_home f k there = (let some = entry_counted (entry_in entries f) k there in (gives_homes directory.pages n entries on.good).each f k some.0 some.1 some.2)

  -- which no new page has
  no_new : (f k h : ℕ) → k < file_page_count (infos f) → HasHome entries f k h → IsNewHome directory changes h → ⊥
  no_new f k h there has = old_not_new n directory on changes are f k h there has

  no_new_in_front : (h : ℕ) → h < directory.pages → IsNewHome directory changes h → ⊥
  no_new_in_front h below = front_not_new n directory on changes are h below

  -- a page with a home, as it stood
  page_stood : (f k h : ℕ) → HasHome entries f k h → page_of stood k (entry_by directory.pages stood f) ≡ padded_page (inside_of (infos f) k) (joined (stood h) 8)
  page_stood f k h has = ap (page_of stood k) (in_memory f) ∙ page_with_home stood k h (entry_in entries f) (home_has entries f k h has)

  -- and a home where the parts of a page stand has that page
  in_parts : (stands : ℕ → ℕ → List ℕ) (h : ℕ) (page : List ℕ) → ((i : ℕ) → i < 8 → stands h i ≡ part_of page i) → length page ≡ 4096 → joined (stands h) 8 ≡ page
  in_parts stands h page each whole = joined-same 8 (stands h) (part_of page) each ∙ joined_parts page whole

  -- An image in which nothing but the homes of new pages stands otherwise:
  module _ (image : Image) (others : LeavesOtherHomes m n (IsNewHome directory changes) old image) where
    abbrev still : ℕ → ℕ → List ℕ
    still = pool_standing m n image

    -- mark, kind and directory are the same,
    head_left : SameHead m directory.pages n old image
    head_left = record {
      mark = others.outside 0 (inl (omega arith));
      kind = others.outside 1 (inl (omega arith));
      directory = λ h below i small. others.stands h i (no_new_in_front h below) small;
    }

    same_entry : (f : ℕ) → entry_by directory.pages still f ≡ entry_by directory.pages stood f
    same_entry = entry_same directory.pages stood still head_left.directory

    -- and each page that was one
    page_left : (f k : ℕ) → k < file_page_count (infos f) → page_of still k (entry_by directory.pages still f) ≡ page_of stood k (entry_by directory.pages stood f)
    page_left f k there =
        let has = had_home f k there in
        ap (page_of still k) (same_entry f ∙ in_memory f) ∙ page_with_home still k has.0 (entry_in entries f) (home_has entries f k has.0 has.1)
        ∙ ap (padded_page (inside_of (infos f) k)) (joined-same 8 (still has.0) (stood has.0) (λ i small. others.stands has.0 i (no_new f k has.0 there has.1) small))
        ∙ sym (page_stood f k has.0 has.1)

  -- where nothing but the homes of new pages stands otherwise, the files are those of before
  pub stands_before : (image : Image) → LeavesOtherHomes m n (IsNewHome directory changes) old image → StandsAs (files_in_pool m directory.pages n) sectors old image
  stands_before image others files pages was = record {
    good = λ bad. was.good (bad_moves m directory.pages n sectors old image (head_left image others) bad);
    journal = λ bad. bad;
    facts = λ f. ap (option_map info_of) (same_entry image others f) ∙ was.facts f;
    same = λ f k inside. page_left image others f k (is_counted (infos f) inside.0 k (files_are files pages was f ∙ inside.1) inside.2) ∙ was.same f k inside;
  }

  -- Where some new pages stand, and the other pages of a commit over that:
  module _ (fresh : List FilePage) (new : AreNewPages (info_by directory) changes fresh) (list : List FilePage)
      (ends : (f : ℕ) (was now : FileInfo) → info_by directory f ≡ Some was → files_after (info_by directory) changes f ≡ Some now → was.length < now.length → (was.length % 4096 ≡ 0 → ⊥) → StandsInList list f (was.length / 4096))
      (put : ℕ) (low : put ≤ length fresh) (places : List Place) (homes : List ℕ) (placed : ArePlacedThen directory changes fresh list put places homes)
      (front : List (List ℕ)) (fronts : AreChangedPages directory changes front)
      (given : ℕ → List ℕ) (mid : Image) (beside : LeavesOtherHomes m n (IsNewHome directory changes) old mid) where
    abbrev late : List ℕ
    late = changed_pages changes directory.pages ++ homes

    abbrev count : ℕ
    count = length (changed_pages changes directory.pages)

    abbrev added : ℕ
    added = length fresh

    abbrev into_slots : ℕ → List ℕ
    into_slots = late_page directory changes fresh list front places put given

    abbrev pub After : ℕ → ℕ → List ℕ
    After = changed (pool_standing m n mid) (changed_pages changes directory.pages ++ homes) (late_page directory changes fresh list front places put given)

    long : length late ≡ count + length homes
    long = length-append (changed_pages changes directory.pages) homes

    at_behind : (j : ℕ) → get_or late (count + j) 0 ≡ get_or homes j 0
    at_behind j = get_or-append_right (changed_pages changes directory.pages) homes count (count + j) 0 refl (omega arith) ∙ (let back : count + j - count ≡ j = omega arith in ap (λ (i : ℕ). get_or homes i 0) back)

    -- Page h of the homes goes into no slot, or into that of a changed page of the directory, or of a page of a file.
    abbrev IsBeside : ℕ → Type 0
    IsBeside h = (home_rank late h ≡ None) × (StandsIn late h → ⊥)

    abbrev IsFront : ℕ → Type 0
    IsFront h = (j : ℕ) × (home_rank late h ≡ Some j) × (j < count) × (get_or (changed_pages changes directory.pages) j 0 ≡ h)

    abbrev IsFilePage : ℕ → Type 0
    IsFilePage h = (j : ℕ) × (home_rank late h ≡ Some (count + j)) × (j < length homes) × (get_or homes j 0 ≡ h)

    where_is : (h : ℕ) → IsBeside h ⊎ (IsFront h ⊎ IsFilePage h)
    where_is h = from (home_rank late h) refl (place_means (λ j. get_or late j 0) h (length late))
      where
        from : (o : Option ℕ) → home_rank late h ≡ o → Means (λ j. get_or late j 0) h (length late) o → IsBeside h ⊎ (IsFront h ⊎ IsFilePage h)
        from None is none = inl (is, λ at. none at.0 at.1 at.2)
        from (Some j) is has = inr (⊎_elim
            (λ less. inl (j, is, less, sym (get_or_append_left (changed_pages changes directory.pages) homes 0 j less) ∙ has.1))
            (λ past.
            let at : j ≡ count + (j - count) = omega (arith, past) in
            inr (j - count, is ∙ ap Some at, omega (arith, has.0, long, past), sym (at_behind (j - count)) ∙ ap (λ (i : ℕ). get_or late i 0) (sym at) ∙ has.1))
            (cases_lt j count))

    -- a home of a changed page is one of the directory, and that of a page of a file is not
    front_below : (h : ℕ) → IsFront h → h < directory.pages
    front_below h at = (let each = are_changed changes directory.pages at.0 at.2 in omega (arith, each.0, at.3))

    file_at : (h : ℕ) (at : IsFilePage h) → (p : FilePage) × (given_page fresh list (put + index_at places at.0) ≡ Some p) × HasHome now_entries p.file p.page h
    file_at h at = (let each = placed.each at.0 at.2 in (each.0, each.1, subst (HasHome now_entries each.0.file each.0.page) at.3 each.2))

    file_behind : (h : ℕ) → IsFilePage h → directory.pages ≤ h
    file_behind h at = (let page = file_at h at in ((gives_homes directory.pages n now_entries are.may.good).within page.0.file page.0.page h page.2).0)

    -- the pages that go into slots
    front_page : (j : ℕ) → j < count → into_slots j ≡ get_or front j []
    front_page j below = late_front directory changes fresh list front places put given j (omega (arith, below, fronts.long))

    file_page : (j : ℕ) → into_slots (count + j) ≡ cut_given directory changes fresh list given (put + index_at places j)
    file_page j =
        let past : nat_lt (count + j) (length front) ≡ false = grind (arith, fronts.long, nat_tests) in
        let back : count + j - length front ≡ j = omega (arith, fronts.long) in
        cond-false (nat_lt (count + j) (length front)) (get_or front (count + j) []) (cut_given directory changes fresh list given (put + index_at places (count + j - length front))) past
        ∙ ap (λ (i : ℕ). cut_given directory changes fresh list given (put + index_at places i)) back

    -- a page whose home is none of these is none of those that a source gives for slots,
    not_given : (f k h i : ℕ) → HasHome now_entries f k h → (StandsIn late h → ⊥) → put ≤ i → i < added + length list → given_page fresh list i ≡ Some (record { file = f; page = k }) → ⊥
    not_given f k h i has none from below is =
        let found = placed.found (i - put) (omega (arith, from, below)) in
        let each = placed.each found.0 found.1 in
        let index : put + index_at places found.0 ≡ i = (let at = found.2 in omega (arith, at, from)) in
        let page : each.0 ≡ record { file = f; page = k } = same_Some each.0 (record { file = f; page = k }) (sym each.1 ∙ ap (given_page fresh list) index ∙ is) in
        let its : HasHome now_entries f k (get_or homes found.0 0) = subst (λ (p : FilePage). HasHome now_entries p.file p.page (get_or homes found.0 0)) page each.2 in
        let home : get_or homes found.0 0 ≡ h = same_Some (get_or homes found.0 0) h (sym (home_has now_entries f k (get_or homes found.0 0) its) ∙ home_has now_entries f k h has) in
        none (count + found.0, (let less = found.1 in omega (arith, long, less)), at_behind found.0 ∙ home)

    -- and so it is not of the list,
    not_listed : (f k h : ℕ) → HasHome now_entries f k h → (StandsIn late h → ⊥) → StandsInList list f k → ⊥
    not_listed f k h has none listed =
        let inside = slice_get_within list listed.0 listed.1 listed.2 in
        let back : added + listed.0 - added ≡ listed.0 = omega arith in
        not_given f k h (added + listed.0) has none (omega (arith, low)) (omega (arith, inside))
        (given_listed fresh list (added + listed.0) (omega arith) ∙ ap (slice_get list) back ∙ listed.2 ∙ ap Some (page_is listed.1 f k listed.3 listed.4))

    -- nor is a page that was one a new one
    not_new : (f k : ℕ) → k < file_page_count (infos f) → IsNewPage infos changes f k → ⊥
    not_new f k there is = omega (arith, there, is.0)

    -- An image where the changed pages of the directory stand for their homes, and each other page of it as it did:
    module _ (image : Image)
        (placed_in_front : (h j i : ℕ) → home_rank (changed_pages changes directory.pages ++ homes) h ≡ Some j → j < length (changed_pages changes directory.pages)
        → get_or (changed_pages changes directory.pages) j 0 ≡ h → i < 8 → pool_standing m n image h i ≡ part_of (get_or front j []) i)
        (left_in_front : (h i : ℕ) → home_rank (changed_pages changes directory.pages ++ homes) h ≡ None → h < directory.pages → i < 8 → pool_standing m n image h i ≡ pool_standing m n old h i) where
      abbrev standing : ℕ → ℕ → List ℕ
      standing = pool_standing m n image

      -- The directory says the entries after the changes: in a page of it that is changed,
      changed_said : (f : ℕ) → f < 16 * directory.pages → is_changed changes (f / 16) ≡ true → SaysEntry (entry_standing standing f) (entry_in now_entries f)
      changed_said f below is =
          let inside : f / 16 < directory.pages = omega (arith, below) in
          let found = changed_found changes directory.pages (f / 16) inside is in
          ⊎_elim
          (λ (none : IsBeside (f / 16)). absurd (none.1 (in_front (changed_pages changes directory.pages) homes (f / 16) found)))
          (⊎_elim
          (λ (at : IsFront (f / 16)).
          let small : at.0 < length front = (let less = at.2 in omega (arith, less, fronts.long)) in
          let page = fronts.each at.0 small in
          let stands : joined (standing (f / 16)) 8 ≡ get_or front at.0 [] = in_parts standing (f / 16) (get_or front at.0 []) (λ i within. placed_in_front (f / 16) at.0 i at.1 at.2 at.3 within) page.size in
          let number : 16 * get_or (changed_pages changes directory.pages) at.0 0 + f % 16 ≡ f = (let home = at.3 in omega (arith, home)) in
          let place : f % 16 < 16 = omega arith in
          subst (λ (bytes : List ℕ). SaysEntry (entry_bytes bytes (f % 16)) (entry_in now_entries f)) (sym stands)
          (subst (λ (g : ℕ). SaysEntry (entry_bytes (get_or front at.0 []) (f % 16)) (entry_in now_entries g)) number (page.says (f % 16) place)))
          (λ (at : IsFilePage (f / 16)). (let from = file_behind (f / 16) at in absurd (omega (arith, inside, from)))))
          (where_is (f / 16))

      -- and in one that is as before, where no change touches them
      same_said : (f : ℕ) → f < 16 * directory.pages → is_changed changes (f / 16) ≡ false → SaysEntry (entry_standing standing f) (entry_in now_entries f)
      same_said f below same =
          let inside : f / 16 < directory.pages = omega (arith, below) in
          ⊎_elim
          (λ (none : IsBeside (f / 16)).
          let bytes : entry_standing standing f ≡ entry_standing stood f =
          ap (λ (page : List ℕ). entry_bytes page (f % 16)) (joined-same 8 (standing (f / 16)) (stood (f / 16)) (λ i small. left_in_front (f / 16) i none.0 inside small)) in
          let entry : entry_in now_entries f ≡ entry_in entries f = entry_later n directory on changes are f ∙ ap (λ (c : Option Change). entry_then c (entry_in entries f)) (unchanged changes f same) in
          subst (λ (b : List ℕ). SaysEntry b (entry_in now_entries f)) (sym bytes) (subst (SaysEntry (entry_standing stood f)) (sym entry) (said f below)))
          (⊎_elim
          (λ (at : IsFront (f / 16)). absurd (true≢false (sym (are_changed changes directory.pages at.0 at.2).1 ∙ ap (is_changed changes) at.3 ∙ same)))
          (λ (at : IsFilePage (f / 16)). (let from = file_behind (f / 16) at in absurd (omega (arith, inside, from)))))
          (where_is (f / 16))

      pub says_then : AreSaid directory.pages (pool_standing m n image) (entries_then directory changes)
      says_then f below = ⊎_elim (changed_said f below) (same_said f below) (cases_Bool (is_changed changes (f / 16)))

    -- An image that stands for these:
    module _ (stand : NewPagesStand m n directory changes fresh given put mid) (blank : OthersAreBlank m n directory changes fresh (length fresh) mid)
        (image : Image) (kept : IsKept (pool m n) sectors mid (StandsForPages (pool m n) After) image) where
      abbrev left : ℕ → ℕ → List ℕ
      left = pool_standing m n image

      left_by : (h i : ℕ) (o : Option ℕ) → i < 8 → home_rank late h ≡ o → left h i ≡ sector_or into_slots (pool_standing m n mid h i) i o
      unfolding changed
      left_by h i o small is = kept.stands.each h i small ∙ ap (sector_or into_slots (pool_standing m n mid h i) i) is

      -- a home of no page that goes into a slot, nor of a new one, stands as before
      as_before : (h : ℕ) → IsBeside h → (IsNewHome directory changes h → ⊥) → AreAlike stood left h
      as_before h at other i small = left_by h i None small at.0 ∙ beside.stands h i other small

      -- otherwise it is the page that stands there
      in_slot : (h j : ℕ) (page : List ℕ) → home_rank late h ≡ Some j → into_slots j ≡ page → length page ≡ 4096 → joined (left h) 8 ≡ page
      in_slot h j page at is whole = in_parts left h page (λ i small. left_by h i (Some j) small at ∙ ap (λ (bytes : List ℕ). part_of bytes i) is) whole

      -- the directory says the entries after the changes
      said_then : AreSaid directory.pages left now_entries
      said_then = says_then image (λ h j i at below is small. left_by h i (Some j) small at ∙ ap (λ (bytes : List ℕ). part_of bytes i) (front_page j below))
          (λ h i none inside small. left_by h i None small none ∙ beside.stands h i (no_new_in_front h inside) small)

      entry_now : (f : ℕ) → entry_by directory.pages left f ≡ entry_in now_entries f
      entry_now f = entry_stood directory.pages left now_entries are.may.size said_then f

      info_now : (f : ℕ) → option_map info_of (entry_in now_entries f) ≡ later f
      info_now f = sym (info_later n directory changes are f)

      -- with mark and kind it is a store's
      not_bad : (IsBadPool m directory.pages n sectors old → ⊥) → IsBadPool m directory.pages n sectors image → ⊥
      not_bad good (Unmarked other) = good (Unmarked (λ is. other (kept.outside 0 (inl (omega arith)) ∙ beside.outside 0 (inl (omega arith)) ∙ is)))
      not_bad good (OtherKind other) = good (OtherKind (λ is. other (subst (λ (sector : List ℕ). IsKind m directory.pages sector)
          (sym (kept.outside 1 (inl (omega arith)) ∙ beside.outside 1 (inl (omega arith)))) is)))
      not_bad good (TooSmall few) = good (TooSmall few)
      not_bad good (NoDirectory none) = none now_entries (record { may = are.may; said = said_then })

      -- A page with a home, as it stands,
      page_now : (f k h : ℕ) → HasHome now_entries f k h → page_of left k (entry_by directory.pages left f) ≡ padded_page (inside_of (later f) k) (joined (left h) 8)
      page_now f k h has = ap (page_of left k) (entry_now f) ∙ page_with_home left k h (entry_in now_entries f) (home_has now_entries f k h has)
          ∙ ap (λ (o : Option FileInfo). padded_page (inside_of o k) (joined (left h) 8)) (info_now f)

      -- and where bytes were given for it
      page_given : (f k h : ℕ) (bytes : List ℕ) → HasHome now_entries f k h → joined (left h) 8 ≡ padded_page (inside_of (later f) k) bytes
          → (info : FileInfo) → later f ≡ Some info → page_of left k (entry_by directory.pages left f) ≡ cut_page (later f) k bytes
      page_given f k h bytes has is info there =
          let small : inside_of (later f) k ≤ 4096 = inside_small (later f) k in
          page_now f k h has ∙ ap (padded_page (inside_of (later f) k)) is ∙ trimmed-trimmed (inside_of (later f) k) bytes small ∙ sym (cut_inside (later f) info k bytes there)

      module _ (before after : ℕ → ℕ → List ℕ) (was : StandsFor (files_in_pool m directory.pages n) sectors infos before old) (becomes : ChangesFiles infos changes fresh list given before after) where
        -- no more of a page that was one lies inside its file than before, unless it is of the list: the last one of a file that gets longer is
        inside_before : (f k : ℕ) → k < file_page_count (infos f) → k < file_page_count (later f) → (StandsInList list f k → ⊥) → inside_of (later f) k ≤ inside_of (infos f) k
        inside_before f k there here none =
            let a = begins_inside (infos f) k there in
            let b = begins_inside (later f) k here in
            let fits : (b.0.length ≤ a.0.length) ⊎ (4096 * k + 4096 ≤ a.0.length) =
            ⊎_elim (λ longer. ⊎_elim
            (λ full. (let begins = a.2 in inr (omega (arith, full, begins))))
            (λ part. ⊎_elim
            (λ last. absurd (none (subst (StandsInList list f) (sym last) (ends f a.0 b.0 a.1 b.1 longer part))))
            (λ other. (let begins = a.2 in inr (omega (arith, other, begins))))
            (cases_eq k (a.0.length / 4096)))
            (cases_eq (a.0.length % 4096) 0))
            (λ shorter. inl shorter)
            (cases_lt a.0.length b.0.length) in
            let less = no_more_inside a.0.length b.0.length k fits in
            subst (λ (o : Option FileInfo). inside_of o k ≤ inside_of (infos f) k) (sym b.1) (subst (λ (o : Option FileInfo). bytes_inside b.0.length k ≤ inside_of o k) (sym a.1) less)

        -- not of the list: what it was, up to its file's end
        unlisted : (f k h : ℕ) → k < file_page_count (infos f) → k < file_page_count (later f) → HasHome entries f k h → IsBeside h → page_of left k (entry_by directory.pages left f) ≡ after f k
        unlisted f k h there here has at =
            let a = begins_inside (infos f) k there in
            let b = begins_inside (later f) k here in
            let none : StandsInList list f k → ⊥ = λ listed. not_listed f k h (are.keeps f k h there here has) at.1 listed in
            let less = inside_before f k there here none in
            page_now f k h (are.keeps f k h there here has)
            ∙ ap (padded_page (inside_of (later f) k)) (joined-same 8 (left h) (stood h) (as_before h at (no_new f k h there has)))
            ∙ sym (cut_further (inside_of (later f) k) (inside_of (infos f) k) (joined (stood h) 8) less (inside_small (infos f) k))
            ∙ ap (padded_page (inside_of (later f) k)) (sym (page_stood f k h has) ∙ was.same f k (a.0, a.1, a.2))
            ∙ sym (becomes.others f k (λ new. not_new f k there new) none ∙ cut_inside (later f) b.0 k (before f k) b.1)

        -- what a source gives is what becomes of its page
        put_given : (i : ℕ) (p : FilePage) → given_page fresh list i ≡ Some p → after p.file p.page ≡ cut_page (later p.file) p.page (given i)
        put_given i p is = ⊎_elim
            (λ new. becomes.added i p (sym (given_new fresh list i new) ∙ is))
            (λ past.
            let back : added + (i - added) ≡ i = omega (arith, past) in
            becomes.listed (i - added) p (sym (given_listed fresh list i past) ∙ is) ∙ ap (λ (j : ℕ). cut_page (later p.file) p.page (given j)) back)
            (cases_lt i added)

        -- in a slot: as given
        slotted : (f k h : ℕ) → k < file_page_count (later f) → HasHome now_entries f k h → IsFilePage h → page_of left k (entry_by directory.pages left f) ≡ after f k
        slotted f k h here has at =
            let b = begins_inside (later f) k here in
            let page : FilePage = record { file = f; page = k } in
            let i : ℕ = put + index_at places at.0 in
            let one = file_at h at in
            let same = (gives_homes directory.pages n now_entries are.may.good).apart one.0.file one.0.page f k h one.2 has in
            let got : given_page fresh list i ≡ Some page = one.1 ∙ ap Some (page_is one.0 f k same.0 same.1) in
            let bytes : into_slots (count + at.0) ≡ padded_page (inside_of (later f) k) (given i) =
            file_page at.0 ∙ ap (λ (o : Option FilePage). padded_page (inside_then directory changes o) (given i)) got in
            let whole : length (padded_page (inside_of (later f) k) (given i)) ≡ 4096 = length-trimmed (inside_of (later f) k) (given i) (inside_small (later f) k) in
            page_given f k h (given i) has (in_slot h (count + at.0) (padded_page (inside_of (later f) k) (given i)) at.1 bytes whole) b.0 b.1
            ∙ sym (put_given i page got)

        -- of no slot, and new: as it was put
        unslotted : (f k i : ℕ) → i < put → slice_get fresh i ≡ Some (record { file = f; page = k }) → k < file_page_count (later f) → HasHome now_entries f k (new_home directory changes fresh i)
            → IsBeside (new_home directory changes fresh i) → page_of left k (entry_by directory.pages left f) ≡ after f k
        unslotted f k i below is here has at =
            let b = begins_inside (later f) k here in
            let h : ℕ = new_home directory changes fresh i in
            let bytes : cut_new directory changes fresh given i ≡ padded_page (inside_of (later f) k) (given i) = ap (λ (o : Option FilePage). padded_page (inside_then directory changes o) (given i)) is in
            let whole : length (cut_new directory changes fresh given i) ≡ 4096 = ap length bytes ∙ length-trimmed (inside_of (later f) k) (given i) (inside_small (later f) k) in
            page_given f k h (given i) has (in_parts left h (cut_new directory changes fresh given i) (λ j small. left_by h j None small at.0 ∙ stand i j below small) whole ∙ bytes) b.0 b.1
            ∙ sym (becomes.added i (record { file = f; page = k }) is)

        -- a page with a home that is there then, and in no slot, or in one
        by_home : (f k h : ℕ) → k < file_page_count (later f) → HasHome now_entries f k h → (IsBeside h → page_of left k (entry_by directory.pages left f) ≡ after f k)
            → page_of left k (entry_by directory.pages left f) ≡ after f k
        by_home f k h here has none =
            let behind = (gives_homes directory.pages n now_entries are.may.good).within f k h has in
            ⊎_elim none
            (⊎_elim
            (λ (at : IsFront h). (let below = front_below h at in absurd (omega (arith, below, behind.0))))
            (λ (at : IsFilePage h). slotted f k h here has at))
            (where_is h)

        old_page : (f k : ℕ) → k < file_page_count (infos f) → k < file_page_count (later f) → page_of left k (entry_by directory.pages left f) ≡ after f k
        old_page f k there here =
            let had = had_home f k there in
            by_home f k had.0 here (are.keeps f k had.0 there here had.1) (λ at. unlisted f k had.0 there here had.1 at)

        -- a new page that is given
        put_new : (f k i : ℕ) → i < added → slice_get fresh i ≡ Some (record { file = f; page = k }) → k < file_page_count (later f) → page_of left k (entry_by directory.pages left f) ≡ after f k
        put_new f k i below is here =
            let h : ℕ = new_home directory changes fresh i in
            let page : FilePage = record { file = f; page = k } in
            let homed = new_homed n directory changes are fresh new i below in
            let has : HasHome now_entries f k h = subst (λ (p : FilePage). HasHome now_entries p.file p.page h) (same_Some homed.0 page (sym homed.1 ∙ is)) homed.2 in
            by_home f k h here has (λ at. ⊎_elim
            (λ (first : i < put). unslotted f k i first is here has at)
            (λ (from : put ≤ i). absurd (not_given f k h i has at.1 from (omega (arith, below)) (given_new fresh list i below ∙ is)))
            (cases_lt i put))

        -- and one that is not
        blank_new : (f k : ℕ) → IsNewPage infos changes f k → (StandsInList fresh f k → ⊥) → page_of left k (entry_by directory.pages left f) ≡ after f k
        blank_new f k is none =
            let homed = later_homed n directory changes are f k is.1 in
            let h = homed.0 in
            let page : FilePage = record { file = f; page = k } in
            let its : IsNewHome directory changes h = (page, is, home_is n directory changes are page h homed.1) in
            let other : (i : ℕ) → i < added → new_home directory changes fresh i ≡ h → ⊥ = λ i below same.
            none (i, page, new_own n directory changes are fresh new i f k below (subst (HasHome now_entries f k) (sym same) homed.1), refl, refl) in
            by_home f k h is.1 homed.1 (λ at.
            page_now f k h homed.1
            ∙ ap (padded_page (inside_of (later f) k)) (joined_zeros (left h) (λ j small. left_by h j None small at.0 ∙ blank h j its other small))
            ∙ padded_zeros (inside_of (later f) k) (inside_small (later f) k)
            ∙ sym (becomes.blank f k is none))

        page_then : (f k : ℕ) → IsPageOf later f k → page_of left k (entry_by directory.pages left f) ≡ after f k
        page_then f k within =
            let here = is_counted (later f) within.0 k within.1 within.2 in
            ⊎_elim
            (λ there. old_page f k there here)
            (λ behind. ⊎_elim
            (λ at. put_new f k at.0 (slice_get_within fresh at.0 at.1 at.2) (at.2 ∙ ap Some (page_is at.1 f k at.3 at.4)) here)
            (λ none. blank_new f k (behind, here) none)
            (stands_or fresh f k))
            (cases_lt k (file_page_count (infos f)))

        stands_then : StandsFor (files_in_pool m directory.pages n) sectors later after image
        stands_then = record {
          good = not_bad was.good;
          journal = λ bad. bad;
          facts = λ f. ap (option_map info_of) (entry_now f) ∙ info_now f;
          same = page_then;
        }

    -- the files are those of after
    pub stands_after : NewPagesStand m n directory changes fresh given put mid → OthersAreBlank m n directory changes fresh (length fresh) mid
        → (image : Image) → IsKept (pool m n) sectors mid (StandsForPages (pool m n) After) image
        → (files : ℕ → Option FileInfo) (before after : ℕ → ℕ → List ℕ) → StandsFor (files_in_pool m directory.pages n) sectors files before old
        → ChangesFiles files changes fresh list given before after → StandsFor (files_in_pool m directory.pages n) sectors (files_after files changes) after image
    stands_after stand blank image kept files before after was becomes =
        let same : infos ≡ files = λ t f. files_are files before was f t in
        let here : ChangesFiles infos changes fresh list given before after = subst (λ (g : ℕ → Option FileInfo). ChangesFiles g changes fresh list given before after) (sym same) becomes in
        let was_here : StandsFor (files_in_pool m directory.pages n) sectors infos before old = subst (λ (g : ℕ → Option FileInfo). StandsFor (files_in_pool m directory.pages n) sectors g before old) (sym same) was in
        subst (λ (g : ℕ → Option FileInfo). StandsFor (files_in_pool m directory.pages n) sectors (files_after g changes) after image) same (stands_then stand blank image kept before after was_here here)
