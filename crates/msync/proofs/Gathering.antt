-- What is gathered from the cache, as it is appended.
use Rattle.msync.proofs.Names.{ℕ, ◌≡◌, ◌<◌, ◌≤◌, ◌&&◌, ⊎_elim, Bool, true, false, ltb, if◌then◌else◌, List, length, refl, sym, ap, ◌∙◌, arith, cases_lt, and_parts, and_from, nat_tests, FilePage, File, Shared, CacheTable}
use Rattle.msync.{proofs.Names.{is_touched, IsTouchedIn, Gathers, HasAll}, specs.{Choice.{of_files, chosen_page, in_file_row, shows_behind, is_taken_behind, AreInFiles, Appends, OverflowsRow}, Judging.{CoversPages}}}
use Rattle.std.proofs.Common.{◌||◌}
use Rattle.page_cache.specs.Gathering as Cache
use Rattle.page_cache.specs.declared.gathering.FileRow.{FileRow}

-- a touched page of a row that covers them, by tests
behind : (t : CacheTable) (resized : ℕ → Bool) (first : FilePage) (count : ℕ) (row : FileRow) (p : FilePage) → CoversPages resized first count row
    → IsTouchedIn t row.first.file row.first.page row.count p → is_taken_behind (of_files (is_touched t)) resized (Shared first) count p ≡ true
behind t resized first count row p covers here =
    and_from (is_touched t (File p)) (in_file_row first count p || (resized p.file && shows_behind (Shared first) count p.file)) here.touched (covers.within p here.row)

in_row_of : (t : CacheTable) (resized : ℕ → Bool) (first : FilePage) (count : ℕ) (row : FileRow) (p : FilePage) → CoversPages resized first count row → AreInFiles (of_files (is_touched t))
    → is_taken_behind (of_files (is_touched t)) resized (Shared first) count p ≡ true → IsTouchedIn t row.first.file row.first.page row.count p
in_row_of t resized first count row p covers inside e =
    let a = and_parts (is_touched t (File p)) (in_file_row first count p || (resized p.file && shows_behind (Shared first) count p.file)) e in
    record { row = covers.reaches p (inside p a.0) a.1; touched = a.0 }

-- what such a row has is all that they have
module _ (t : CacheTable) (resized : ℕ → Bool) (first : FilePage) (count : ℕ) (row : FileRow) (covers : CoversPages resized first count row) where
  pub gathered : (used : ℕ) (x y : List FilePage) (ranks : List ℕ) → AreInFiles (of_files (is_touched t)) → (n : ℕ) → Gathers t row.first.file row.first.page row.count used x y ranks n
      → HasAll t row.first.file row.first.page row.count y n → Appends (is_taken_behind (of_files (is_touched t)) resized (Shared first) count) x y used n
  gathered used x y ranks inside n gathers all = record {
    size = gathers.size;
    order = gathers.longer;
    few = gathers.most;
    kept = gathers.kept;
    each = λ i low high. behind t resized first count row (chosen_page y i) covers (gathers.touched i low high);
    once = gathers.once;
    all = λ p e. all p (in_row_of t resized first count row p covers inside e);
  }

  pub overflown : (used : ℕ) (x y : List FilePage) (ranks : List ℕ) → Cache.Overflows t row.first.file row.first.page row.count used x y ranks
      → OverflowsRow (is_taken_behind (of_files (is_touched t)) resized (Shared first) count) x used
  overflown used x y ranks over =
      let most : ℕ = length x in
      let at : ℕ → FilePage = λ i. if ltb i most then chosen_page y i else over.missing in
      let old : (i : ℕ) → i < most → at i ≡ chosen_page y i = λ i less. let t : ltb i most ≡ true = grind (arith, nat_tests) in rw t refl in
      let new : (i : ℕ) → most ≤ i → at i ≡ over.missing = λ i more. let t : ltb i most ≡ false = grind (arith, nat_tests) in rw t refl in
      let passes = is_taken_behind (of_files (is_touched t)) resized (Shared first) count in
      record {
        at = at;
        kept = λ i less. old i (omega (arith, less, over.full.longer)) ∙ over.full.kept i less;
        each = λ i low high.
            ⊎_elim
            (λ (less : i < most). ap passes (old i less) ∙ behind t resized first count row (chosen_page y i) covers (over.full.touched i low less))
            (λ (more : most ≤ i). ap passes (new i more) ∙ behind t resized first count row over.missing covers over.touched)
            (cases_lt i most);
        once = λ i j less low high e.
            ⊎_elim
            (λ (below : j < most). over.full.once i j less low below (sym (old i (omega arith)) ∙ e ∙ old j below))
            (λ (more : most ≤ j). over.absent (i, omega arith, sym (old i (omega arith)) ∙ e ∙ new j more))
            (cases_lt j most);
      }
