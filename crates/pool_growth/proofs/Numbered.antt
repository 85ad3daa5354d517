-- All new pages of changes, numbered one after the other: a list of so many has each of them.
use Rattle.std.proofs.Common.{ℕ, zero, suc, ◌≡◌, ◌≢◌, ◌<◌, ◌≤◌, ◌+◌, ◌-◌, ◌⊎◌, ⊎_elim, inl, inr, ◌∷◌, [], List, length, map, get_or, slice_get, true, eqb, ltb, refl, sym, ap, subst, ◌∙◌, arith, Option, Some, None, if◌then◌else◌}
use Rattle.std.proofs.lemmas.Bool.{cases_eq, cond-true, cond-false, eq-eqb, eqb-true, ne_eqb, lt-ltb, le-ltb, Decides.{Decides-eqb}}
use Rattle.std.proofs.lemmas.List.{Folds.{Any-from_list_any}, FromFn.{get_or-map-range_with_len, length-map-range_with_len}}
use Rattle.std.proofs.lemmas.Map.{Made.{IsDistinct-from_AllPairs}, Steps.{length-le_from_distinct_below}}
use Rattle.std.proofs.lemmas.Option.{none-some, same_Some, slice_get-get_or}
use Rattle.std.specs.{List.{AllPairs, list_any, range_with_len}, Option.{option_map}}
use Rattle.vm_types.specs.declared.{file.FileInfo.{FileInfo}, file.FilePage.{FilePage}}
use Rattle.growth.specs.{Changes.{change_of}, declared.changes.Change.{Change}}
use Rattle.pool_growth.specs.{Asked.{AreNewPages}, Files.{added, added_count, files_after, info_then, file_page_count, IsNewPage, StandsInList}}
use Rattle.pool_store.{proofs.Ordered.{no_page, page_is}, specs.Files.{info_of}}

-- numbers below n, each another one, are n at most
pub few_apart : (n count : ℕ) (at : ℕ → ℕ) → ((i : ℕ) → i < count → at i < n) → ((i j : ℕ) → i < j → j < count → at i ≡ at j → ⊥) → count ≤ n
few_apart n count at low apart =
    let all : List ℕ = map at (range_with_len 0 count) in
    let long : length all ≡ count = length-map-range_with_len at 0 count in
    let one : (i d : ℕ) → i < count → get_or all i d ≡ at i = λ i d below. get_or-map-range_with_len at 0 count i i d below (omega arith) in
    let distinct : AllPairs (λ x y. x ≢ y) all = λ i j d less inside same.
    let last : j < count = omega (arith, inside, long) in
    apart i j less last (sym (one i d (omega (arith, less, last))) ∙ same ∙ one j d last) in
    let below : (h : ℕ) → list_any (eqb h) all ≡ true → h < n = λ h is.
    let found = Any-from_list_any (eqb h) all is in
    let first : found.0 < count = (let inside = found.2 in omega (arith, inside, long)) in
    let number = one found.0 found.1 first in
    let same = found.3 in
    let equal = eqb-true h found.1 found.4 in
    let within = low found.0 first in omega (arith, number, same, equal, within) in
    subst (λ k. k ≤ n) long (length-le_from_distinct_below all n (IsDistinct-from_AllPairs Decides-eqb all distinct) below)

-- a page is one of a list, or is not
not_in : (p : FilePage) (ps : List FilePage) (f k : ℕ) → (p.file ≡ f → p.page ≡ k → ⊥) → (StandsInList ps f k → ⊥) → (i : ℕ) (q : FilePage) → slice_get (p ∷ ps) i ≡ Some q → q.file ≡ f → q.page ≡ k → ⊥
not_in p ps f k other none zero q is file page =
    let same = same_Some p q is in
    other (ap (λ (x : FilePage). x.file) same ∙ file) (ap (λ (x : FilePage). x.page) same ∙ page)
not_in p ps f k other none (suc i) q is file page = none (i, q, is, file, page)

pub stands_or : (list : List FilePage) (f k : ℕ) → StandsInList list f k ⊎ (StandsInList list f k → ⊥)
stands_or [] f k = inr (λ at. none-some at.1 at.2)
stands_or (p ∷ ps) f k =
    let further : (p.file ≡ f → p.page ≡ k → ⊥) → StandsInList (p ∷ ps) f k ⊎ (StandsInList (p ∷ ps) f k → ⊥) = λ other. ⊎_elim
    (λ at. inl (suc at.0, at.1, at.2, at.3, at.4))
    (λ none. inr (λ at. not_in p ps f k other none at.0 at.1 at.2 at.3 at.4))
    (stands_or ps f k) in
    ⊎_elim
    (λ file. ⊎_elim (λ page. inl (0, p, refl, file, page)) (λ other. further (λ file' page. other page)) (cases_eq p.page k))
    (λ other. further (λ file page. other file))
    (cases_eq p.file f)

-- new page i: the new pages of each change in their order, one change after the other
abbrev page_by : (ℕ → Option FileInfo) → List Change → ℕ → Option FilePage
page_by files [] i = None
page_by files (c ∷ cs) i = if ltb i (added files c) then Some (record { file = c.file; page = file_page_count (files c.file) + i }) else page_by files cs (i - added files c)

-- the number of a page among them
abbrev number_in : (ℕ → Option FileInfo) → List Change → FilePage → ℕ
number_in files [] p = 0
number_in files (c ∷ cs) p = if eqb c.file p.file then p.page - file_page_count (files p.file) else added files c + number_in files cs p

-- is below their count, and the page's alone
numbered : (files : ℕ → Option FileInfo) (changes : List Change) (p : FilePage) → IsNewPage files changes p.file p.page
    → (number_in files changes p < added_count files changes) × (page_by files changes (number_in files changes p) ≡ Some p)
numbered files [] p new = absurd (omega (arith, new.0, new.1))
numbered files (c ∷ cs) p new =
    let first : ℕ = p.page - file_page_count (files p.file) in
    let later : ℕ = number_in files cs p in
    let page : ℕ → FilePage = λ i. record { file = c.file; page = file_page_count (files c.file) + i } in
    ⊎_elim
    (λ (same : c.file ≡ p.file).
    let own : file_page_count (files_after files (c ∷ cs) p.file) ≡ file_page_count (option_map info_of c.entry) =
    ap (λ r. file_page_count (info_then r (files p.file))) (cond-true (eqb c.file p.file) (Some c) (change_of cs p.file) (eq-eqb c.file p.file same)) in
    let had : file_page_count (files c.file) ≡ file_page_count (files p.file) = ap (λ g. file_page_count (files g)) same in
    let number : number_in files (c ∷ cs) p ≡ first = cond-true (eqb c.file p.file) first (added files c + later) (eq-eqb c.file p.file same) in
    let less : first < added files c = omega (arith, own, had, new.0, new.1) in
    let at : p.page ≡ file_page_count (files c.file) + first = omega (arith, had, new.0) in (
      omega (arith, number, less),
      ap (page_by files (c ∷ cs)) number ∙ cond-true (ltb first (added files c)) (Some (page first)) (page_by files cs (first - added files c)) (lt-ltb first (added files c) less)
          ∙ ap Some (sym (page_is p c.file (file_page_count (files c.file) + first) (sym same) at)),
    ))
    (λ other.
    let same : file_page_count (files_after files (c ∷ cs) p.file) ≡ file_page_count (files_after files cs p.file) =
    ap (λ r. file_page_count (info_then r (files p.file))) (cond-false (eqb c.file p.file) (Some c) (change_of cs p.file) (ne_eqb c.file p.file other)) in
    let rest = numbered files cs p (new.0, omega (arith, same, new.1)) in
    let inside = rest.0 in
    let number : number_in files (c ∷ cs) p ≡ added files c + later = cond-false (eqb c.file p.file) first (added files c + later) (ne_eqb c.file p.file other) in
    let past : added files c ≤ added files c + later = omega arith in
    let back : added files c + later - added files c ≡ later = omega arith in (
      omega (arith, number, inside),
      ap (page_by files (c ∷ cs)) number
          ∙ cond-false (ltb (added files c + later) (added files c)) (Some (page (added files c + later))) (page_by files cs (added files c + later - added files c)) (le-ltb (added files c + later) (added files c) past)
          ∙ ap (page_by files cs) back ∙ rest.1,
    ))
    (cases_eq c.file p.file)

-- New pages of changes:
module _ (files : ℕ → Option FileInfo) (changes : List Change) (fresh : List FilePage) (given : AreNewPages files changes fresh) where
  -- one more that is none of them,
  with_page : (p : FilePage) → IsNewPage files changes p.file p.page → (StandsInList fresh p.file p.page → ⊥) → AreNewPages files changes (p ∷ fresh)
  with_page p is none = record { new = each; distinct = apart }
    where
      each : (i : ℕ) (q : FilePage) → slice_get (p ∷ fresh) i ≡ Some q → IsNewPage files changes q.file q.page
      each zero q at = subst (λ (x : FilePage). IsNewPage files changes x.file x.page) (same_Some p q at) is
      each (suc i) q at = given.new i q at

      apart : (i j : ℕ) (q : FilePage) → i < j → slice_get (p ∷ fresh) i ≡ Some q → slice_get (p ∷ fresh) j ≡ Some q → ⊥
      apart i zero q less one two = omega (arith, less)
      apart zero (suc j) q less one two = (let same = same_Some p q one in none (j, q, two, ap (λ (x : FilePage). x.file) (sym same), ap (λ (x : FilePage). x.page) (sym same)))
      apart (suc i) (suc j) q less one two = given.distinct i j q (omega (arith, less)) one two

  -- no more than all,
  pub fresh_counted : length fresh ≤ added_count files changes
  fresh_counted =
      let at : ℕ → FilePage = λ i. get_or fresh i no_page in
      let one : (i : ℕ) → i < length fresh → (number_in files changes (at i) < added_count files changes) × (page_by files changes (number_in files changes (at i)) ≡ Some (at i)) =
      λ i below. numbered files changes (at i) (given.new i (at i) (slice_get-get_or fresh i no_page below)) in
      few_apart (added_count files changes) (length fresh) (λ i. number_in files changes (at i)) (λ i below. (one i below).0)
      (λ i j less below same.
      let first : i < length fresh = omega (arith, less, below) in
      let page : at i ≡ at j = same_Some (at i) (at j) (sym (one i first).1 ∙ ap (page_by files changes) same ∙ (one j below).1) in
      given.distinct i j (at j) less (slice_get-get_or fresh i no_page first ∙ ap Some page) (slice_get-get_or fresh j no_page below))

-- and where they are as many, each is one of them.
pub all_fresh : (files : ℕ → Option FileInfo) (changes : List Change) (fresh : List FilePage) → AreNewPages files changes fresh → added_count files changes ≤ length fresh
    → (f k : ℕ) → IsNewPage files changes f k → StandsInList fresh f k
all_fresh files changes fresh given all f k is =
    let p : FilePage = record { file = f; page = k } in
    ⊎_elim
    (λ at. at)
    (λ none. (let more : suc (length fresh) ≤ added_count files changes = fresh_counted files changes (p ∷ fresh) (with_page files changes fresh given p is none) in absurd (omega (arith, more, all))))
    (stands_or fresh f k)
