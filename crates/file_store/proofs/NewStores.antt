-- The directory and the homes of a new store.
use Rattle.file_store.proofs.Names.{◌≡◌, ℕ, zero, suc, ◌+◌, ◌*◌, ◌%◌, ◌<◌, ◌≤◌, ⊎_elim, List, [], ◌∷◌, length, drop, slice_get, Option, Some, None, Result, Ok, Err, OnOk, refl, sym, ap, subst, ◌∙◌, arith, cases_lt}
use Rattle.file_store.proofs.Names.{none-some, same_Some, slice_get_within, slice_get_cases, option_map, FileInfo, Image, part_of, closed_sector, closed, closed_not_bad, standing_closed, first_home_sector, home_sector, home_count, joined-same, joined_parts, Two}
use Rattle.file_store.{proofs.{Pieces.{trimmed-trimmed, length-trimmed}, Images.{layout_is_good_in}}, specs.{declared.{directory.Entry.{Entry}, sources.FileSource.{FileSource}}, Layout.{mark, pages_of_length, bytes_inside, padded_page}}}
use Rattle.file_store.specs.{Directory.{AreGood}, Standing.{standing, directory_entry, page_standing, standing_page}}
use Rattle.file_store.specs.Format.{page_told, page_given, info_of, files_given, total_pages, told_by, first_home, entry_given, HoldsPage, HoldsCut, HasHead, IsTooLarge, IsTooLarge.{TooFewSectors, TooManyPages}, IsDirectoryOf, IsUnmarkedStoreOf, IsStoreOf}

-- where a list goes on
pub slice_get-drop : {A : Type 0} → (list : List A) (n : ℕ) → slice_get (drop n list) 0 ≡ slice_get list n
slice_get-drop [] zero = refl
slice_get-drop [] (suc n) = refl
slice_get-drop (x ∷ list) zero = refl
slice_get-drop (x ∷ list) (suc n) = slice_get-drop list n

module _ {R : Type 0} where
  -- the files before file f, and those from it on
  pub first_home-rest : (sources : List (FileSource R)) (f : ℕ) → first_home sources f + total_pages (drop f sources) ≡ total_pages sources
  unfolding total_pages
  first_home-rest [] zero = refl
  first_home-rest [] (suc f) = refl
  first_home-rest (s ∷ sources) zero = omega arith
  first_home-rest (s ∷ sources) (suc f) = let rest = first_home-rest sources f in omega (arith, rest)

  -- a file's homes end where those of a later one begin
  pub first_home-order : (sources : List (FileSource R)) (f g : ℕ) (source : FileSource R) → f < g → slice_get sources f ≡ Some source
      → first_home sources f + pages_of_length source.length ≤ first_home sources g
  unfolding total_pages
  first_home-order [] f g source less at = absurd (none-some source at)
  first_home-order (s ∷ sources) f zero source less at = absurd (omega (arith, less))
  first_home-order (s ∷ sources) zero (suc g) source less at = omega (arith, ap (λ x. pages_of_length x.length) (same_Some s source at))
  first_home-order (s ∷ sources) (suc f) (suc g) source less at = omega (arith, first_home-order sources f g source (omega (arith, less)) at)

  -- and end within the store
  pub first_home-fits : (sources : List (FileSource R)) (f : ℕ) (source : FileSource R) → slice_get sources f ≡ Some source
      → first_home sources f + pages_of_length source.length ≤ total_pages sources
  unfolding total_pages
  first_home-fits [] f source at = absurd (none-some source at)
  first_home-fits (s ∷ sources) zero source at = omega (arith, ap (λ x. pages_of_length x.length) (same_Some s source at))
  first_home-fits (s ∷ sources) (suc f) source at = omega (arith, first_home-fits sources f source at)

  -- what an entry comes from
  pub record ComesFrom (sources : List (FileSource R)) (f : ℕ) (e : Entry) : Type 0 where
    pub source : FileSource R
    pub at : slice_get sources f ≡ Some source
    pub first : e.first ≡ first_home sources f % 1073741824
    pub pages : pages_of_length e.info.length ≡ pages_of_length source.length

  comes_from_some : (sources : List (FileSource R)) (f : ℕ) (e : Entry) (source : Option (FileSource R)) → slice_get sources f ≡ source
      → option_map (λ s. record { first = first_home sources f % 1073741824; info = info_of s }) source ≡ Some e → ComesFrom sources f e
  comes_from_some sources f e None at is = absurd (none-some e is)
  comes_from_some sources f e (Some s) at is =
      let entry : Entry = record { first = first_home sources f % 1073741824; info = info_of s } in
      let same : entry ≡ e = same_Some entry e is in
      record { source = s; at = at; first = sym (ap (λ x. x.first) same); pages = sym (ap (λ x. pages_of_length x.info.length) same) }

  pub comes_from : (sources : List (FileSource R)) (f : ℕ) (e : Entry) → entry_given sources f ≡ Some e → ComesFrom sources f e
  comes_from sources f e is = comes_from_some sources f e (slice_get sources f) refl is

  -- the entry of a file that has a page
  entry_of_pages : (sources : List (FileSource R)) (f : ℕ) (source : FileSource R) → slice_get sources f ≡ Some source → first_home sources f < 1073741824
      → entry_given sources f ≡ Some (record { first = first_home sources f; info = info_of source })
  entry_of_pages sources f source at small =
      let first : first_home sources f % 1073741824 ≡ first_home sources f = omega (arith, small) in
      ap (option_map (λ s. record { first = first_home sources f % 1073741824; info = info_of s })) at
      ∙ ap (λ n. Some (record { first = n; info = info_of source })) first

  -- what is written of file f
  pub entry_written : (sources : List (FileSource R)) (f first : ℕ) (info : FileInfo) (source : FileSource R) → slice_get sources f ≡ Some source → first ≡ first_home sources f
      → info ≡ info_of source → ◌≡◌ {A = Option Entry} (Some (record { first = first % 1073741824; info = info })) (entry_given sources f)
  entry_written sources f first info source at home facts =
      ap (λ n. Some (record { first = n % 1073741824; info = info })) home
      ∙ ap (λ i. Some (record { first = first_home sources f % 1073741824; info = i })) facts
      ∙ sym (ap (option_map (λ s. record { first = first_home sources f % 1073741824; info = info_of s })) at)

  no_entry : (first : ℕ) (source : Option (FileSource R)) → ◌≡◌ {A = Option Entry} (option_map (λ s. record { first = first; info = info_of s }) source) None → source ≡ None
  no_entry first None is = refl
  no_entry first (Some s) is = cc

  -- a file that has no entry is behind the last source
  pub past_the_last : (sources : List (FileSource R)) (f : ℕ) → entry_given sources f ≡ None → length sources ≤ f
  past_the_last sources f is = ⊎_elim
      (λ inside. absurd (none-some inside.0 (sym (no_entry (first_home sources f % 1073741824) (slice_get sources f) is) ∙ inside.2)))
      (λ past. past.0)
      (slice_get_cases sources f).1

  entry_info : (first : ℕ) (source : Option (FileSource R))
      → option_map (λ (e : Entry). e.info) (option_map (λ s. record { first = first; info = info_of s }) source) ≡ option_map info_of source
  entry_info first None = refl
  entry_info first (Some s) = refl

  -- what an entry says of its file
  pub info_given : (sources : List (FileSource R)) (f : ℕ) → option_map (λ (e : Entry). e.info) (entry_given sources f) ≡ files_given sources f
  info_given sources f = entry_info (first_home sources f % 1073741824) (slice_get sources f)

  -- a directory of files that fit is good
  pub good_given : (homes : ℕ) (sources : List (FileSource R)) (sector : List ℕ) → total_pages sources ≤ homes → homes ≤ 1073741824
      → IsDirectoryOf sources sector → AreGood homes sector 64
  good_given homes sources sector fit few directory = record {
    zero = λ f lt none. directory.rest f lt (past_the_last sources f (sym (directory.entries f) ∙ none));
    within = λ f e lt is.
        let from = comes_from sources f e (sym (directory.entries f) ∙ is) in
        omega (arith, from.first, from.pages, first_home-fits sources f from.source from.at, fit);
    apart = λ f g h a b less lt is is' in_a in_b.
        let first = comes_from sources f a (sym (directory.entries f) ∙ is) in
        let second = comes_from sources g b (sym (directory.entries g) ∙ is') in
        let order = first_home-order sources f g first.source less first.at in
        let end = first_home-fits sources g second.source second.at in
        omega (arith, first.first, first.pages, second.first, second.pages, order, end, fit, few, in_a.0, in_a.1, in_b.0, in_b.1);
  }

  -- what is not too large fits
  pub store_fits : (sectors : ℕ) (sources : List (FileSource R)) → (IsTooLarge sectors sources → ⊥) → (first_home_sector ≤ sectors) × (total_pages sources ≤ home_count sectors)
  store_fits sectors sources fit = (
    ⊎_elim (λ few. absurd (fit (TooFewSectors few))) (λ room. room) (cases_lt sectors (first_home_sector)),
    ⊎_elim (λ many. absurd (fit (TooManyPages many))) (λ homes. homes) (cases_lt (home_count sectors) (total_pages sources)),
  )

-- a page of bytes that are told
pub record IsTold (length k : ℕ) (told : Option (List ℕ)) (page : List ℕ) : Type 0 where
  pub bytes : List ℕ
  pub are : told ≡ Some bytes
  pub page_is : page ≡ padded_page (bytes_inside length k) (drop (4096 * k) bytes)

pub is_told : (length k : ℕ) (told : Option (List ℕ)) (page : List ℕ) → page_told length k told ≡ Some page → IsTold length k told page
is_told length k None page is = absurd (none-some page is)
is_told length k (Some bytes) page is = record { bytes = bytes; are = refl; page_is = sym (same_Some (padded_page (bytes_inside length k) (drop (4096 * k) bytes)) page is) }

-- such a page is of 4,096 bytes, and has no byte past its end
told_trimmed : (length k : ℕ) (told : Option (List ℕ)) (page : List ℕ) → IsTold length k told page → padded_page (bytes_inside length k) page ≡ page
told_trimmed length k told page is =
    let small : bytes_inside length k ≤ 4096 = omega arith in
    ap (padded_page (bytes_inside length k)) is.page_is ∙ trimmed-trimmed (bytes_inside length k) (drop (4096 * k) is.bytes) small ∙ sym is.page_is

told_size : (n k : ℕ) (told : Option (List ℕ)) (page : List ℕ) → IsTold n k told page → length page ≡ 4096
told_size n k told page is = let small : bytes_inside n k ≤ 4096 = omega arith in ap length is.page_is ∙ length-trimmed (bytes_inside n k) (drop (4096 * k) is.bytes) small

-- a home that is not written
pub cut_moves : (h inside : ℕ) (given : Option (List ℕ)) (old new : Image) → ((i : ℕ) → i < 8 → new (home_sector h + i) ≡ old (home_sector h + i))
    → HoldsCut h inside given old → HoldsCut h inside given new
cut_moves h inside given old new same cut = record { page = cut.page; zeros = cut.zeros; holds = λ i lt. same i lt ∙ cut.holds i lt; is = cut.is }

-- a home that holds a given page
cut_given : (h inside : ℕ) (given : Option (List ℕ)) (page : List ℕ) (image : Image) → HoldsCut h inside given image → given ≡ Some page → HoldsPage h page image
cut_given h inside given page image cut is i lt = cut.holds i lt ∙ ap (λ (p : List ℕ). part_of p i) (cut.is page is)

module _ {R : Type 0} (remaining : R → Option (List ℕ)) (sources : List (FileSource R)) where
  -- the mark is no part of it
  pub unmarked_moves : (old new : Image) → ((k : ℕ) → 1 ≤ k → new k ≡ old k) → IsUnmarkedStoreOf remaining sources old → IsUnmarkedStoreOf remaining sources new
  unmarked_moves old new same all = record {
    directory = subst (λ (s : List ℕ). IsDirectoryOf sources s) (sym (same 1 (omega arith))) all.directory;
    gate = same 2 (omega arith) ∙ all.gate;
    files = λ f source lt at k below. cut_moves (first_home sources f + k) (bytes_inside source.length k) (page_given remaining source k) old new
        (λ i inside. same (home_sector (first_home sources f + k) + i) (omega arith)) (all.files f source lt at k below);
  }

  -- a page of it
  page_stands : (image : Image) (f k : ℕ) (source : FileSource R) (page : List ℕ) → image 2 ≡ closed_sector
      → directory_entry image f ≡ Some (record { first = first_home sources f; info = info_of source })
      → HoldsPage (first_home sources f + k) page image → IsTold source.length k (told_by remaining source.bytes) page → standing_page image f k ≡ page
  page_stands image f k source page gate entry holds told =
      let first = first_home sources f in
      ap (page_standing image k) entry
      ∙ ap (padded_page (bytes_inside source.length k)) (joined-same 8 (standing image (first + k)) (part_of page) (λ i inside. standing_closed image (first + k) i (closed (image 2) gate) ∙ holds i inside)
      ∙ joined_parts page (told_size source.length k (told_by remaining source.bytes) page told))
      ∙ told_trimmed source.length k (told_by remaining source.bytes) page told

  -- with the mark it is the store
  pub store_if_marked : (sectors : ℕ) (image : Image) → first_home_sector ≤ sectors → total_pages sources ≤ home_count sectors
      → IsUnmarkedStoreOf remaining sources image → image 0 ≡ mark → IsStoreOf remaining sectors sources image
  store_if_marked sectors image room fit all marked = record {
    layout = layout_is_good_in Two sectors image room marked (good_given (home_count sectors) sources (image 1) fit (omega arith) all.directory);
    journal = closed_not_bad sectors image (closed (image 2) all.gate);
    facts = λ f. ap (option_map (λ (e : Entry). e.info)) (all.directory.entries f) ∙ info_given sources f;
    pages = λ f k source page at inside given.
        let first : first_home sources f < 1073741824 = omega (arith, first_home-fits sources f source at, fit, inside) in
        page_stands image f k source page all.gate (all.directory.entries f ∙ entry_of_pages sources f source at first)
        (cut_given (first_home sources f + k) (bytes_inside source.length k) (page_given remaining source k) page image
        (all.files f source (slice_get_within sources f source at) at k (omega (arith, inside))) given)
        (is_told source.length k (told_by remaining source.bytes) page given);
    made = all;
  }

-- what is written at the head of a new store
pub new_head : {T E : Type 0} (r : Result T E) (sector : List ℕ) (image : Image) → image 1 ≡ sector → image 2 ≡ closed_sector → OnOk r (HasHead sector image)
new_head (Err e) sector image directory gate = tt
new_head (Ok x) sector image directory gate = record { directory = directory; gate = gate }
