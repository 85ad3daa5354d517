-- How many file pages pass, over all files, and lists of them without doubles.
use Rattle.msync.proofs.Names.{ℕ, zero, suc, ◌+◌, ◌≡◌, ◌≢◌, ◌<◌, ◌≤◌, ◌&&◌, ⊎_elim, not, Bool, true, false, sym, ap, ◌∙◌, arith, cases_eq, both_ways, and_parts, not-true, false_from_ne_true, and-true, and-false, FilePage, file_page_eq}
use Rattle.msync.proofs.Names.{count_below, sum_below, same_file_page, same_file_page_true, count-same, count-none, one_less, sum-none, sum-one, record_of}

-- how many pages of a file pass
abbrev in_file : (FilePage → Bool) → ℕ → ℕ → ℕ
in_file passes n file = count_below (λ page. passes (record_of file page)) n

-- how many pages of so many files pass
unfoldable pub total : (FilePage → Bool) → ℕ → ℕ → ℕ
total passes files pages = sum_below (in_file passes pages) files

-- all pages that pass, but for this one
abbrev without : (FilePage → Bool) → FilePage → FilePage → Bool
without passes gone page = passes page && not (file_page_eq gone page)

-- without a page that passes there is one fewer
elsewhere : (passes : FilePage → Bool) (gone page : FilePage) → gone ≢ page → passes page ≡ without passes gone page
elsewhere passes gone page other =
    let differs : file_page_eq gone page ≡ false = false_from_ne_true (file_page_eq gone page) (λ e. other (same_file_page gone page e)) in
    sym (ap (λ b. passes page && not b) differs ∙ and-true (passes page))

gone_itself : (passes : FilePage → Bool) (gone : FilePage) → without passes gone gone ≡ false
gone_itself passes gone = ap (λ b. passes gone && not b) (same_file_page_true gone) ∙ and-false (passes gone)

fewer : (passes : FilePage → Bool) (gone : FilePage) (files pages : ℕ) → passes gone ≡ true → gone.file < files → gone.page < pages
    → total passes files pages ≡ total (without passes gone) files pages + 1
unfolding total
fewer passes gone files pages yes_gone file page =
    sum-one (in_file passes pages) (in_file (without passes gone) pages) gone.file files file
    (one_less (λ k. passes (record_of gone.file k)) (λ k. without passes gone (record_of gone.file k)) gone.page pages page yes_gone (gone_itself passes gone)
    (λ k other. elsewhere passes gone (record_of gone.file k) (λ e. other (sym (ap (λ (p : FilePage). p.page) e)))))
    (λ f other. count-same (λ k. passes (record_of f k)) (λ k. without passes gone (record_of f k)) pages
    (λ k. elsewhere passes gone (record_of f k) (λ e. other (sym (ap (λ (p : FilePage). p.file) e)))))

-- only so many files and pages pass
pub record IsWithin (passes : FilePage → Bool) (files pages : ℕ) : Type 0 where
  pub file : (page : FilePage) → passes page ≡ true → page.file < files
  pub page : (page : FilePage) → passes page ≡ true → page.page < pages

fewer_within : (passes : FilePage → Bool) (gone : FilePage) (files pages : ℕ) → IsWithin passes files pages → IsWithin (without passes gone) files pages
fewer_within passes gone files pages within = record {
  file = λ p e. within.file p (and_parts (passes p) (not (file_page_eq gone p)) e).0;
  page = λ p e. within.page p (and_parts (passes p) (not (file_page_eq gone p)) e).0;
}

-- the earlier pages of a list without doubles pass without the last
still : (passes : FilePage → Bool) (gone page : FilePage) → passes page ≡ true → page ≢ gone → without passes gone page ≡ true
still passes gone page e other = sym (elsewhere passes gone page (λ s. other (sym s))) ∙ e

-- a list without doubles is no longer than there are
pub at_least : (passes : FilePage → Bool) (files pages : ℕ) (at : ℕ → FilePage) (n : ℕ) → IsWithin passes files pages
    → ((i : ℕ) → i < n → passes (at i) ≡ true) → ((i j : ℕ) → i < j → j < n → at i ≢ at j) → n ≤ total passes files pages
at_least passes files pages at zero within each once = omega arith
at_least passes files pages at (suc n) within each once =
    let gone = at n in
    let here = each n (omega arith) in
    let rest = at_least (without passes gone) files pages at n (fewer_within passes gone files pages within)
    (λ i less. still passes gone (at i) (each i (omega arith)) (once i n less (omega arith)))
    (λ i j less high. once i j less (omega arith)) in
    omega (arith, fewer passes gone files pages here (within.file gone here) (within.page gone here), rest)

-- and one that has all of them is as long
pub exactly : (passes : FilePage → Bool) (files pages : ℕ) (at : ℕ → FilePage) (n : ℕ) → IsWithin passes files pages
    → ((i : ℕ) → i < n → passes (at i) ≡ true) → ((i j : ℕ) → i < j → j < n → at i ≢ at j)
    → ((page : FilePage) → passes page ≡ true → (i : ℕ) × (i < n) × (at i ≡ page)) → total passes files pages ≡ n
unfolding total
exactly passes files pages at zero within each once all =
    sum-none (in_file passes pages) files (λ f. count-none (λ k. passes (record_of f k)) pages (λ k. false_from_ne_true (passes (record_of f k)) (λ e.
    let less = (all (record_of f k) e).1 in
    absurd (omega arith))))
exactly passes files pages at (suc n) within each once all =
    let gone = at n in
    let here = each n (omega arith) in
    let rest = exactly (without passes gone) files pages at n (fewer_within passes gone files pages within)
    (λ i less. still passes gone (at i) (each i (omega arith)) (once i n less (omega arith)))
    (λ i j less high. once i j less (omega arith))
    (λ p e.
    let parts = and_parts (passes p) (not (file_page_eq gone p)) e in
    let r = all p parts.0 in
    ⊎_elim
    (λ (last : r.0 ≡ n). absurd (both_ways (file_page_eq gone p) (not-true (file_page_eq gone p) parts.1)
    (ap (λ q. file_page_eq gone q) (sym (sym (ap at last) ∙ r.2)) ∙ same_file_page_true gone)))
    (λ (other : r.0 ≢ n). (r.0, omega (arith, r.1), r.2))
    (cases_eq r.0 n)) in
    omega (arith, fewer passes gone files pages here (within.file gone here) (within.page gone here), rest)
