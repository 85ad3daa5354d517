-- What images stand for.
use Rattle.file_store.proofs.{Entries.{good_directory}, Names.{◌≡◌, ℕ, ◌+◌, ◌<◌, ◌≤◌, ⊎_elim, inl, inr, List, Option, Some, None, refl, ap, subst, ◌∙◌, arith, sym, option_map, Image, joined, joined-same, one_journal, HomesStandAs, home_count, Version, One, Two, Three}}
use Rattle.file_store.specs.{Directory.{entry_in, IsBadDirectory, AreGood}, Format.{IsFrom, IsLayoutSector, IsUnmarkedSector}, Layout.{IsMark, bytes_inside, padded_page}}
use Rattle.file_store.specs.{Standing.{standing, IsBadLayoutIn, IsBadLayoutIn.{TooSmall, Unmarked, BadDirectory}, IsBadLayout, directory_entry, file_info, page_standing, standing_page, StandsAs}}
use Rattle.file_store.specs.{Versions.{homes_of, home_pages_of, directory_of, mark_of}, declared.directory.Entry.{Entry}}

-- mark and directory are the same
pub record SameHead (old new : Image) : Type 0 where
  pub mark : new 0 ≡ old 0
  pub directory : new 1 ≡ old 1

pub same_head : (sectors : ℕ) (old new : Image) → ((k : ℕ) → one_journal.IsOutside old sectors k → new k ≡ old k) → SameHead old new
same_head sectors old new outside = record { mark = outside 0 (inl (omega arith)); directory = outside 1 (inl (omega arith)) }

module _ (old new : Image) (same : SameHead old new) where
  pub entry_same : (f : ℕ) → directory_entry new f ≡ directory_entry old f
  entry_same f = ap (λ (s : List ℕ). entry_in s f) same.directory

  pub info_same : (f : ℕ) → file_info new f ≡ file_info old f
  info_same f = ap (option_map (λ (e : Entry). e.info)) (entry_same f)

  pub bad_layout_moves : (sectors : ℕ) → IsBadLayout sectors new → IsBadLayout sectors old
  bad_layout_moves sectors (TooSmall few) = TooSmall few
  bad_layout_moves sectors (Unmarked other) = Unmarked (λ e. other (same.mark ∙ e))
  bad_layout_moves sectors (BadDirectory bad) = BadDirectory (subst (λ (s : List ℕ). IsBadDirectory (home_count sectors) s) same.directory bad)

page_standing-same : (old new : Image) (k : ℕ) (entry : Option Entry) → ((h i : ℕ) → i < 8 → standing new h i ≡ standing old h i) → page_standing new k entry ≡ page_standing old k entry
page_standing-same old new k None same = refl
page_standing-same old new k (Some e) same = ap (padded_page (bytes_inside e.info.length k)) (joined-same 8 (standing new (e.first + k)) (standing old (e.first + k)) (same (e.first + k)))

pub standing_page-same : (old new : Image) (f k : ℕ) → directory_entry new f ≡ directory_entry old f → ((h i : ℕ) → i < 8 → standing new h i ≡ standing old h i) → standing_page new f k ≡ standing_page old f k
standing_page-same old new f k entry same = ap (page_standing new k) entry ∙ page_standing-same old new k (directory_entry old f) same

-- what the kept image of a journal that stands for the same homes stands for
pub stands_kept : (sectors : ℕ) (old new : Image) → HomesStandAs one_journal sectors old new → StandsAs sectors old new
stands_kept sectors old new kept files pages was =
    let head = same_head sectors old new kept.outside in
    record {
      layout = λ bad. was.layout (bad_layout_moves old new head sectors bad);
      journal = λ bad. was.journal (kept.journal bad);
      facts = λ f. info_same old new head f ∙ was.facts f;
      same = λ f k inside. standing_page-same old new f k (entry_same old new head f) kept.stands.each ∙ was.same f k inside;
    }

pub layout_is_good_in : (version : Version) (sectors : ℕ) (image : Image) → homes_of version ≤ sectors → image 0 ≡ mark_of version
    → AreGood (home_pages_of version sectors) (image (directory_of version)) 64 → IsBadLayoutIn version sectors image → ⊥
layout_is_good_in version sectors image room is_mark good (TooSmall few) = omega (arith, room, few)
layout_is_good_in version sectors image room is_mark good (Unmarked other) = other is_mark
layout_is_good_in version sectors image room is_mark good (BadDirectory bad) = good_directory (home_pages_of version sectors) (image (directory_of version)) good bad

-- a page as it stands for its home, trimmed
pub page_read : (image : Image) (f k : ℕ) (e : Entry) (inside : ℕ) (bytes page : List ℕ) → directory_entry image f ≡ Some e
    → inside ≡ bytes_inside e.info.length k → bytes ≡ joined (standing image (e.first + k)) 8 → page ≡ padded_page inside bytes → page ≡ standing_page image f k
page_read image f k e inside bytes page entry_is inside_is bytes_is page_is =
    page_is ∙ ap (λ (n : ℕ). padded_page n bytes) inside_is ∙ ap (padded_page (bytes_inside e.info.length k)) bytes_is ∙ sym (ap (page_standing image k) entry_is)

-- what is written before the mark lies behind it, and what is not of the homes before them
pub layout_low : (k : ℕ) → IsLayoutSector k → (1 ≤ k) × (k < 3)
layout_low k at = ⊎_elim (λ e. (omega (arith, e), omega (arith, e))) (λ e. (omega (arith, e), omega (arith, e))) at

pub unmarked_from : (pages k : ℕ) → IsUnmarkedSector pages k → IsFrom 1 k
unmarked_from pages k at = ⊎_elim (λ low. (layout_low k low).0) (λ home. omega (arith, home.0)) at

-- the mark of a layout is one of the marks
pub is_some_mark : (version : Version) → IsMark (mark_of version)
is_some_mark One = inr (inl refl)
is_some_mark Two = inl refl
is_some_mark Three = inr (inr (inl refl))
