-- A gathered list has as many entries as its row has fresh pages.
use Rattle.std.proofs.{Common.{◌≡◌, ◌≢◌, ℕ, ◌+◌, ◌-◌, ◌<◌, ◌≤◌, ◌↔◌, Bool, true, false, not, cond, ltb, List, length, refl, sym, ap, ◌∙◌, inl, inr, arith, Result, Ok, Err, IsErr, IfOk, OnErr}, lemmas.Bool.{cases_lt, cases_Bool, both_ways}}
use Rattle.{std.proofs.lemmas.Bool.{and_parts, and_from, not-true, not_from_false, false≢true, lt-ltb, le-ltb}, vm_types.{proofs.Naming.{any-at}, specs.{Attributes.{file_page_eq}, declared.file.FilePage.{FilePage}}}}
use Rattle.{vm_types.specs.declared.object.PageKey.TheVariants.{File}, page_cache.{proofs.{CountLemmas.{count-at_least, count-at_most, any_below-none}, NodeLemmas.{same_file_page, same_file_page_true}}, specs.CacheTable.{CacheTable}}}
use Rattle.page_cache.specs.{CacheTable.{is_touched}, Gathering.{IsTouchedIn, index_entry, IsListed, is_listed, is_fresh, fresh_count, Gathers, HasAll, Overflows}, declared.place.TooMany.{TooMany}}

pub is_listed-false : (list : List FilePage) (n : ℕ) (page : FilePage) → (IsListed list n page → ⊥) → is_listed list n page ≡ false
is_listed-false list n page absent =
    any_below-none (λ i. file_page_eq (index_entry list i) page) n (λ i below. elim (cases_Bool (file_page_eq (index_entry list i) page)) [
      | inl e ↦ absurd (absent (i, below, same_file_page (index_entry list i) page e))
      | inr ne ↦ ne
    ])

pub listed-is : (list : List FilePage) (n : ℕ) (page : FilePage) → IsListed list n page → is_listed list n page ≡ true
listed-is list n page listed =
    any-at (λ i. file_page_eq (index_entry list i) page) n listed.0 listed.1 (ap (λ (p : FilePage). file_page_eq p page) listed.2 ∙ same_file_page_true page)

module _ (t : CacheTable) (file first count used : ℕ) (old : List FilePage) where
  abbrev room : ℕ
  room = length old

  -- the page of the row at that offset
  abbrev in_row : ℕ → FilePage
  in_row k = record { file = file; page = first + k }

  abbrev passes : ℕ → Bool
  passes k = is_fresh t old used (in_row k)

  row_page : (p : FilePage) → IsTouchedIn t file first count p → p ≡ in_row (p.page - first)
  row_page p there =
      ap (λ (f : ℕ). let r : FilePage = record { file = f; page = p.page } in r) there.row.0
      ∙ ap (λ (j : ℕ). let r : FilePage = record { file = file; page = j } in r) (omega (arith, there.row.1))

  fresh_at : (p : FilePage) → IsTouchedIn t file first count p → (IsListed old used p → ⊥) → (p.page - first < count) × (passes (p.page - first) ≡ true)
  fresh_at p there absent = (
    omega (arith, there.row.1, there.row.2),
    ap (is_fresh t old used) (sym (row_page p there))
        ∙ and_from (is_touched t (File p)) (not (is_listed old used p)) there.touched (not_from_false (is_listed old used p) (is_listed-false old used p absent)),
  )

  -- so many different fresh pages
  at_least : (m : ℕ) (g : ℕ → FilePage) → ((i : ℕ) → i < m → IsTouchedIn t file first count (g i)) → ((i : ℕ) → i < m → IsListed old used (g i) → ⊥)
      → ((i j : ℕ) → i < j → j < m → g i ≢ g j) → m ≤ fresh_count t file first count old used
  unfolding fresh_count
  at_least m g there absent apart =
      count-at_least m (λ i. (g i).page - first) passes count (λ i below. fresh_at (g i) (there i below) (absent i below))
      (λ i j less below e. apart i j less below (row_page (g i) (there i (omega arith)) ∙ ap in_row e ∙ sym (row_page (g j) (there j below))))

  -- an entry from `used` on isn't among the first `used`
  not_before : (new : List FilePage) (ranks : List ℕ) (n i : ℕ) → Gathers t file first count used old new ranks n → used + i < n → IsListed old used (index_entry new (used + i)) → ⊥
  not_before new ranks n i g below listed = g.once listed.0 (used + i) (omega (arith, listed.1)) (omega arith) below (g.kept listed.0 listed.1 ∙ listed.2)

  at_most : (new : List FilePage) (ranks : List ℕ) (n : ℕ) → Gathers t file first count used old new ranks n → HasAll t file first count new n → fresh_count t file first count old used ≤ n - used
  unfolding fresh_count
  at_most new ranks n g all =
      count-at_most (n - used) (λ i. (index_entry new (used + i)).page - first) passes count (λ k below here. (
      let parts = and_parts (is_touched t (File (in_row k))) (not (is_listed old used (in_row k))) here in
      let unlisted = not-true (is_listed old used (in_row k)) parts.1 in
      let listed = all (in_row k) (record { row = (refl, omega arith, omega arith); touched = parts.0 }) in
      elim (cases_lt listed.0 used) [
        | inl early ↦ absurd (both_ways (is_listed old used (in_row k)) unlisted (listed-is old used (in_row k) (listed.0, early, sym (g.kept listed.0 early) ∙ listed.2)))
        | inr late ↦ (listed.0 - used, omega (arith, listed.1), ap (λ (j : ℕ). (index_entry new j).page - first) (omega arith) ∙ ap (λ (p : FilePage). p.page - first) listed.2 ∙ omega arith)
      ]
      ))

  pub length_exact : (new : List FilePage) (ranks : List ℕ) (n : ℕ) → Gathers t file first count used old new ranks n → HasAll t file first count new n
      → n ≡ used + fresh_count t file first count old used
  length_exact new ranks n g all =
      let least = at_least (n - used) (λ i. index_entry new (used + i)) (λ i below. g.touched (used + i) (omega arith) (omega arith))
      (λ i below. not_before new ranks n i g (omega arith)) (λ i j less below. g.once (used + i) (used + j) (omega arith) (omega arith) (omega arith)) in
      omega (arith, g.longer, least, at_most new ranks n g all)

  -- the new entries of a full list, and then the page that is missing
  picked : List FilePage → FilePage → ℕ → FilePage
  picked new missing i = cond (ltb i (room - used)) (index_entry new (used + i)) missing

  picked-entry : (new : List FilePage) (missing : FilePage) (i : ℕ) → i < room - used → picked new missing i ≡ index_entry new (used + i)
  unfolding picked
  picked-entry new missing i below = rw (lt-ltb i (room - used) below) refl

  picked-missing : (new : List FilePage) (missing : FilePage) (i : ℕ) → room - used ≤ i → picked new missing i ≡ missing
  unfolding picked
  picked-missing new missing i above = rw (le-ltb i (room - used) above) refl

  pub overflow_exact : (new : List FilePage) (ranks : List ℕ) → Overflows t file first count used old new ranks → room < used + fresh_count t file first count old used
  overflow_exact new ranks o =
      let g = o.full in
      let unlisted : IsListed old used o.missing → ⊥ = λ listed. o.absent (listed.0, omega (arith, listed.1, g.longer), g.kept listed.0 listed.1 ∙ listed.2) in
      let least = at_least (room - used + 1) (picked new o.missing)
      (λ i below. elim (cases_lt i (room - used)) [
        | inl early ↦ rw (picked-entry new o.missing i early) (g.touched (used + i) (omega arith) (omega arith))
        | inr late ↦ rw (picked-missing new o.missing i late) o.touched
      ])
      (λ i below. elim (cases_lt i (room - used)) [
        | inl early ↦ rw (picked-entry new o.missing i early) (not_before new ranks room i g (omega arith))
        | inr late ↦ rw (picked-missing new o.missing i late) unlisted
      ])
      (λ i j less below. rw (picked-entry new o.missing i (omega arith)) (elim (cases_lt j (room - used)) [
        | inl early ↦ rw (picked-entry new o.missing j early) (g.once (used + i) (used + j) (omega arith) (omega arith) (omega arith))
        | inr late ↦ rw (picked-missing new o.missing j late) (λ e. o.absent (used + i, omega arith, e))
      ])) in
      omega (arith, g.longer, least)

  pub exact : (new : List FilePage) (ranks : List ℕ) (r : Result ℕ TooMany) → IfOk r (λ n. Gathers t file first count used old new ranks n) → IfOk r (λ n. HasAll t file first count new n)
      → OnErr r (Overflows t file first count used old new ranks) → IsErr r ↔ (room < used + fresh_count t file first count old used)
  exact new ranks (Ok n) g all over = (λ e. absurd (false≢true e), λ many. absurd (omega (arith, many, g.most, length_exact new ranks n g all)))
  exact new ranks (Err e) g all over = (λ _. overflow_exact new ranks over, λ _. refl)

  pub length_of : (new : List FilePage) (ranks : List ℕ) (r : Result ℕ TooMany) → IfOk r (λ n. Gathers t file first count used old new ranks n) → IfOk r (λ n. HasAll t file first count new n)
      → IfOk r (λ n. n ≡ used + fresh_count t file first count old used)
  length_of new ranks (Ok n) g all = length_exact new ranks n g all
  length_of new ranks (Err e) g all = tt
