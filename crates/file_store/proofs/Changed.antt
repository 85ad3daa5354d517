-- What a commit makes of the files.
use Rattle.file_store.proofs.{Homes.{entry_behind, home_of-entry, is_home, one_file, one_page, home_inside, inside_of-entry}, Images.{SameHead, same_head, entry_same, info_same, bad_layout_moves, stands_kept}, Names.{◌≡◌, ◌≢◌, ℕ, zero}}
use Rattle.file_store.proofs.Names.{suc, ◌+◌, ◌*◌, ◌<◌, ◌≤◌, ◌⊎◌, ⊎_elim, inl, inr, List, map, length, get_or, take, slice_get, slice_index, Option, Some, None, cond, false, eqb, refl, sym, ap, subst, ◌∙◌, arith, cases_eq, cases_lt, eq-eqb}
use Rattle.file_store.proofs.Names.{nat_tests, length-take-le, get_or-take, length-map, get_or-map, same_number_lists, same_Some, slice_get-get_or, slice_get_within, Image, part_of, home_count, place_among, AreHomes, changed, one_journal, IsKept, StandsForEitherPages, StandsForPages}
use Rattle.file_store.{proofs.{Names.{sector_or, FileInfo, FilePage, joined-same, joined_parts}, Pieces.{trimmed-trimmed, length-trimmed}}, specs.Commit.{cut_page, ArePages, Changes, StandsForEither}}
use Rattle.file_store.specs.{Directory.{IsSoundDirectory, IsHomeOf}, Layout.{padded_page, bytes_inside}, Standing.{IsPageOf, StandsFor, standing, directory_entry, page_standing, standing_page}, Store.{entry_of, home_of, homes_of_pages}}
use Rattle.{file_store.specs.{Store.{inside_named, inside_at, IsEntryPage, PutsHomes, PutsHomesOrNone}, declared.directory.{Directory.{Directory}, Entry.{Entry}}}}

eqb-ne : (m n : ℕ) → m ≢ n → eqb m n ≡ false
eqb-ne m n other = grind (arith, nat_tests)

-- where a list of homes names a home, if it does
pub place_cases : (homes : ℕ → ℕ) (h n : ℕ) →
    ((place_among homes h n ≡ None) × ((j : ℕ) → j < n → homes j ≢ h)) ⊎ ((j : ℕ) × (place_among homes h n ≡ Some j) × (j < n) × (homes j ≡ h))
unfolding place_among
place_cases homes h zero = inl (refl, λ j lt. absurd (omega (arith, lt)))
place_cases homes h (suc n) = ⊎_elim
    (λ same. inr (n, ap (λ b. cond b (Some n) (place_among homes h n)) (eq-eqb (homes n) h same), omega arith, same))
    (λ other. ⊎_elim
    (λ none. inl (ap (λ b. cond b (Some n) (place_among homes h n)) (eqb-ne (homes n) h other) ∙ none.0, λ j lt. ⊎_elim (λ e. subst (λ k. homes k ≢ h) (sym e) other) (λ ne. none.1 j (omega (arith, lt, ne))) (cases_eq j n)))
    (λ some. inr (some.0, ap (λ b. cond b (Some n) (place_among homes h n)) (eqb-ne (homes n) h other) ∙ some.1, omega (arith, some.2), some.3))
    (place_cases homes h n))
    (cases_eq (homes n) h)

-- the homes of a list of pages
pub record AreHomesOf (directory : Directory) (list : List FilePage) (homes : List ℕ) : Type 0 where
  pub size : length homes ≡ length list
  pub each : (i : ℕ) (p : FilePage) → slice_get list i ≡ Some p → slice_index homes i ≡ home_of directory p
  pub entries : (i : ℕ) (p : FilePage) → slice_get list i ≡ Some p → IsEntryPage directory p

pub homes_front : (directory : Directory) (list : List FilePage) (homes : List ℕ) → length list ≤ length homes
    → ((i : ℕ) (p : FilePage) → slice_get list i ≡ Some p → slice_index homes i ≡ home_of directory p)
    → ((i : ℕ) (p : FilePage) → slice_get list i ≡ Some p → IsEntryPage directory p) → AreHomesOf directory list (take (length list) homes)
homes_front directory list homes few each entries = record {
  size = length-take-le (length list) homes few;
  each = λ i p at. get_or-take (length list) homes i 0 (slice_get_within list i p at) ∙ each i p at;
  entries = entries;
}

no_page : FilePage
no_page = record { file = 0; page = 0 }

-- they are these homes, one after the other
pub homes_mapped : (directory : Directory) (list : List FilePage) (homes : List ℕ) → AreHomesOf directory list homes → homes ≡ homes_of_pages directory list
homes_mapped directory list homes of_list = same_number_lists homes (map (home_of directory) list) (of_list.size ∙ sym (length-map list (home_of directory)))
    (λ k below.
    let inside : k < length list = omega (arith, below, of_list.size) in
    of_list.each k (get_or list k no_page) (slice_get-get_or list k no_page inside) ∙ sym (get_or-map (home_of directory) list k no_page 0 inside))

at_place : (list : List FilePage) (i : ℕ) → i < length list → (p : FilePage) × (slice_get list i ≡ Some p)
at_place list i lt = (get_or list i no_page, slice_get-get_or list i no_page lt)

pub are_homes : (sectors : ℕ) (directory : Directory) (files : ℕ → Option FileInfo) (list : List FilePage) (homes : List ℕ)
    → IsSoundDirectory (home_count sectors) (entry_of directory) → ArePages files list → AreHomesOf directory list homes → AreHomes (home_count sectors) homes
are_homes sectors directory files list homes sound pages of_list = record {
  few = omega (arith, pages.few, of_list.size);
  inside = λ j lt.
      let at = at_place list j (omega (arith, lt, of_list.size)) in
      let entry = of_list.entries j at.0 at.1 in
      let below = home_inside sectors directory sound at.0 entry in
      subst (λ h. h < home_count sectors) (sym (of_list.each j at.0 at.1 ∙ home_of-entry directory at.0 entry.entry entry.is)) below;
  distinct = λ i j less lt same.
      let at = at_place list i (omega (arith, less, lt, of_list.size)) in
      let at' = at_place list j (omega (arith, lt, of_list.size)) in
      let entry = of_list.entries i at.0 at.1 in
      let entry' = of_list.entries j at'.0 at'.1 in
      let home = of_list.each i at.0 at.1 ∙ home_of-entry directory at.0 entry.entry entry.is in
      let home' = of_list.each j at'.0 at'.1 ∙ home_of-entry directory at'.0 entry'.entry entry'.is in
      let page = one_page (home_count sectors) directory sound at.0 at'.0 entry entry' (sym home ∙ same ∙ home') in
      pages.distinct i j at.0 less at.1 (at'.1 ∙ ap Some (sym page));
}

-- A page of which the list names the home is that page of the list.
module _ (sectors : ℕ) (directory : Directory) (list : List FilePage) (homes : List ℕ) (given : ℕ → List ℕ) (old new : Image)
    (sound : IsSoundDirectory (home_count sectors) (entry_of directory)) (same_directory : (f : ℕ) → entry_of directory f ≡ directory_entry old f)
    (of_list : AreHomesOf directory list homes)
    (kept : IsKept one_journal sectors old (StandsForPages one_journal (changed (standing old) homes (λ i. padded_page (inside_at directory list i) (given i)))) new) where
  abbrev cut : ℕ → List ℕ
  cut i = padded_page (inside_at directory list i) (given i)

  head : SameHead old new
  head = same_head sectors old new kept.outside

  -- not named: as before
  unlisted : (f k : ℕ) (e : Entry) → directory_entry old f ≡ Some e → place_among (λ j. slice_index homes j) (e.first + k) (length homes) ≡ None → standing_page new f k ≡ standing_page old f k
  unfolding changed
  unlisted f k e is none =
      let sectors_same : (i : ℕ) → i < 8 → standing new (e.first + k) i ≡ standing old (e.first + k) i
      = λ i lt. kept.stands.each (e.first + k) i lt ∙ ap (sector_or cut (standing old (e.first + k) i) i) none in
      ap (page_standing new k) (entry_same old new head f ∙ is)
      ∙ ap (padded_page (bytes_inside e.info.length k)) (joined-same 8 (standing new (e.first + k)) (standing old (e.first + k)) sectors_same)
      ∙ sym (ap (page_standing old k) is)

  -- named: as given
  listed : (f k j : ℕ) (e : Entry) (p : FilePage) → directory_entry old f ≡ Some e → slice_get list j ≡ Some p → p.file ≡ f → p.page ≡ k
      → place_among (λ j. slice_index homes j) (e.first + k) (length homes) ≡ Some j → standing_page new f k ≡ padded_page (bytes_inside e.info.length k) (given j)
  unfolding changed
  listed f k j e p is at file page some =
      let sectors_are : (i : ℕ) → i < 8 → standing new (e.first + k) i ≡ part_of (cut j) i
      = λ i lt. kept.stands.each (e.first + k) i lt ∙ ap (sector_or cut (standing old (e.first + k) i) i) some in
      let entry_is : entry_of directory p.file ≡ Some e = ap (entry_of directory) file ∙ same_directory f ∙ is in
      let inside : inside_at directory list j ≡ bytes_inside e.info.length k
      = ap (inside_named directory) at ∙ inside_of-entry directory p e entry_is ∙ ap (bytes_inside e.info.length) page in
      let cut_is : cut j ≡ padded_page (bytes_inside e.info.length k) (given j) = ap (λ n. padded_page n (given j)) inside in
      let small : bytes_inside e.info.length k ≤ 4096 = omega arith in
      ap (page_standing new k) (entry_same old new head f ∙ is)
      ∙ ap (padded_page (bytes_inside e.info.length k)) (joined-same 8 (standing new (e.first + k)) (part_of (cut j)) sectors_are
      ∙ joined_parts (cut j) (ap length cut_is ∙ length-trimmed (bytes_inside e.info.length k) (given j) small) ∙ cut_is)
      ∙ trimmed-trimmed (bytes_inside e.info.length k) (given j) small

  -- what stands for the homes
  pub homes_put : AreHomes (home_count sectors) homes → PutsHomes sectors directory list given old new
  unfolding changed
  homes_put are = record {
    listed = λ i j p at lt.
        let inside : i < length homes = (let w = slice_get_within list i p at in omega (arith, w, of_list.size)) in
        let home : slice_index homes i ≡ home_of directory p = of_list.each i p at in
        ⊎_elim
        (λ none. absurd (none.1 i inside home))
        (λ some.
        let same : some.0 ≡ i = ⊎_elim (λ e. e) (λ ne. absurd (⊎_elim
        (λ less. are.distinct some.0 i less inside (some.3 ∙ sym home))
        (λ more. are.distinct i some.0 more some.2 (home ∙ sym some.3))
        (apart some.0 i ne))) (cases_eq some.0 i) in
        kept.stands.each (home_of directory p) j lt
        ∙ ap (sector_or cut (standing old (home_of directory p) j) j) some.1
        ∙ ap (λ n. part_of (cut n) j) same)
        (place_cases (λ n. slice_index homes n) (home_of directory p) (length homes));
    others = λ h j other lt. ⊎_elim
        (λ none. kept.stands.each h j lt ∙ ap (sector_or cut (standing old h j) j) none.0)
        (λ some.
        let at = at_place list some.0 (omega (arith, some.2, of_list.size)) in
        absurd (other some.0 at.0 at.1 (sym (of_list.each some.0 at.0 at.1) ∙ some.3)))
        (place_cases (λ n. slice_index homes n) h (length homes));
    outside = kept.outside;
  }
    where
      apart : (m n : ℕ) → m ≢ n → (m < n) ⊎ (n < m)
      apart m n ne = ⊎_elim (λ less. inl less) (λ more. inr (omega (arith, more, ne))) (cases_lt m n)

  -- so the image stands for the files after
  pub stands_changed : (files : ℕ → Option FileInfo) (before after : ℕ → ℕ → List ℕ) → StandsFor sectors files before old → Changes files list given before after → StandsFor sectors files after new
  stands_changed files before after was changes = record {
    layout = λ bad. was.layout (bad_layout_moves old new head sectors bad);
    journal = λ bad. was.journal (kept.journal bad);
    facts = λ f. info_same old new head f ∙ was.facts f;
    same = same_pages;
  }
    where
      same_pages : (f k : ℕ) → IsPageOf files f k → standing_page new f k ≡ after f k
      same_pages f k inside =
          let b = entry_behind (directory_entry old f) inside.0 (was.facts f ∙ inside.1) in
          let e : Entry = b.0 in
          let entry_is : directory_entry old f ≡ Some e = b.1 in
          let lt : 4096 * k < e.info.length = subst (λ (i : FileInfo). 4096 * k < i.length) (sym b.2) inside.2 in
          let in_memory : entry_of directory f ≡ Some e = same_directory f ∙ entry_is in
          ⊎_elim
          (λ none. unlisted f k e entry_is none.0 ∙ was.same f k inside
          ∙ sym (changes.others f k (λ i p at file page.
          let home = of_list.each i p at ∙ home_of-entry directory p e (ap (entry_of directory) file ∙ in_memory) ∙ ap (λ n. e.first + n) page in
          none.1 i (omega (arith, slice_get_within list i p at, of_list.size)) home)))
          (λ some.
          let at = at_place list some.0 (omega (arith, some.2, of_list.size)) in
          let p = at.0 in
          let entry = of_list.entries some.0 p at.1 in
          let home : entry.entry.first + p.page ≡ e.first + k = sym (of_list.each some.0 p at.1 ∙ home_of-entry directory p entry.entry entry.is) ∙ some.3 in
          let file : p.file ≡ f = one_file (home_count sectors) (entry_of directory) sound p.file f (entry.entry.first + p.page) entry.entry e entry.is in_memory
          (is_home entry.entry p.page entry.inside) (subst (λ h. IsHomeOf e h) (sym home) (is_home e k lt)) in
          let same_entry : entry.entry ≡ e = same_Some entry.entry e (sym entry.is ∙ ap (entry_of directory) file ∙ in_memory) in
          let first : entry.entry.first ≡ e.first = ap (λ x. x.first) same_entry in
          let page : p.page ≡ k = omega (arith, home, first) in
          listed f k some.0 e p entry_is at.1 file page some.1
          ∙ ap (λ (i : FileInfo). padded_page (bytes_inside i.length k) (given some.0)) b.2
          ∙ sym (ap (λ o. cut_page o k (given some.0)) inside.1)
          ∙ sym (ap (λ n. cut_page (files f) n (given some.0)) page)
          ∙ sym (ap (λ n. cut_page (files n) p.page (given some.0)) file)
          ∙ sym (changes.listed some.0 p at.1)
          ∙ ap (λ n. after n p.page) file ∙ ap (after f) page)
          (place_cases (λ j. slice_index homes j) (e.first + k) (length homes))

-- at any moment the image stands for the files before or after
pub stands_either : (sectors : ℕ) (directory : Directory) (list : List FilePage) (homes : List ℕ) (given : ℕ → List ℕ) (old new : Image)
    → IsSoundDirectory (home_count sectors) (entry_of directory) → ((f : ℕ) → entry_of directory f ≡ directory_entry old f) → AreHomesOf directory list homes
    → (files : ℕ → Option FileInfo) (before after : ℕ → ℕ → List ℕ) → StandsFor sectors files before old → Changes files list given before after
    → IsKept one_journal sectors old (StandsForEitherPages one_journal (standing old) (changed (standing old) homes (λ i. padded_page (inside_at directory list i) (given i)))) new
    → StandsForEither sectors files before after new
stands_either sectors directory list homes given old new sound same_directory of_list files before after was changes kept = ⊎_elim
    (λ stands. inl (stands_kept sectors old new (record { stands = stands; journal = kept.journal; outside = kept.outside }) files before was))
    (λ stands. inr (stands_changed sectors directory list homes given old new sound same_directory of_list
    (record { stands = stands; journal = kept.journal; outside = kept.outside }) files before after was changes))
    kept.stands

-- and so do the homes
pub homes_either : (sectors : ℕ) (directory : Directory) (list : List FilePage) (homes : List ℕ) (given : ℕ → List ℕ) (old new : Image)
    → IsSoundDirectory (home_count sectors) (entry_of directory) → ((f : ℕ) → entry_of directory f ≡ directory_entry old f) → AreHomesOf directory list homes
    → AreHomes (home_count sectors) homes
    → IsKept one_journal sectors old (StandsForEitherPages one_journal (standing old) (changed (standing old) homes (λ i. padded_page (inside_at directory list i) (given i)))) new
    → PutsHomesOrNone sectors directory list given old new
homes_either sectors directory list homes given old new sound same_directory of_list are kept = ⊎_elim
    (λ stands. inl (record { stands = stands; journal = kept.journal; outside = kept.outside }))
    (λ stands. inr (homes_put sectors directory list homes given old new sound same_directory of_list
    (record { stands = stands; journal = kept.journal; outside = kept.outside }) are))
    kept.stands
