-- What a commit makes of the pages before it, as a function.
use Rattle.sync_plans.proofs.Names.{ℕ, zero, suc, ◌+◌, ◌<◌, ◌≡◌, ◌≢◌, Bool, true, false, false≢true, ◌&&◌, ◌==◌, if◌then◌else◌, List, [], ◌∷◌, Option, Some, is_some, slice_get, inl, inr, ◌⊎◌, ⊎_elim, refl, sym, ap, ◌∙◌, arith, eq-eqb, ne_eqb, cases_eq, same_Some, FileInfo, FilePage, Changes, cut_page}

-- page k of file f, where page i and those behind it are as given
abbrev put_from : (ℕ → Option FileInfo) → (ℕ → List ℕ) → (ℕ → ℕ → List ℕ) → ℕ → List FilePage → ℕ → ℕ → List ℕ
put_from files given before i [] f k = before f k
put_from files given before i (p ∷ ps) f k = if (p.file == f) && (p.page == k) then cut_page (files f) k (given i) else put_from files given before (suc i) ps f k

abbrev pub put_pages : (ℕ → Option FileInfo) → List FilePage → (ℕ → List ℕ) → (ℕ → ℕ → List ℕ) → ℕ → ℕ → List ℕ
put_pages files list given before = put_from files given before 0 list

pub same_page : (p q : FilePage) → q.file ≡ p.file → q.page ≡ p.page → q ≡ p
same_page p q file page = ap (λ (f : ℕ). record { file = f; page = q.page }) file ∙ ap (λ (k : ℕ). record { file = p.file; page = k }) page

no_and : (a b : Bool) → (a ≡ false) ⊎ (b ≡ false) → (a && b) ≡ false
no_and false b one = refl
no_and true b one = ⊎_elim (λ first. absurd (false≢true (sym first))) (λ second. second) one

module _ (files : ℕ → Option FileInfo) (given : ℕ → List ℕ) (before : ℕ → ℕ → List ℕ) where
  -- the first page of a list is the one that is looked for,
  here : (i : ℕ) (q : FilePage) (ps : List FilePage) (f k : ℕ) → q.file ≡ f → q.page ≡ k → put_from files given before i (q ∷ ps) f k ≡ cut_page (files f) k (given i)
  here i q ps f k file page = rw (eq-eqb q.file f file, eq-eqb q.page k page) refl

  -- or another
  away : (i : ℕ) (q : FilePage) (ps : List FilePage) (f k : ℕ) → (q.file ≢ f) ⊎ (q.page ≢ k) → put_from files given before i (q ∷ ps) f k ≡ put_from files given before (suc i) ps f k
  away i q ps f k other = rw (no_and (q.file == f) (q.page == k) (⊎_elim (λ file. inl (ne_eqb q.file f file)) (λ page. inr (ne_eqb q.page k page)) other)) refl

  is_listed : (i j : ℕ) (list : List FilePage) (p : FilePage) → ((a b : ℕ) (q : FilePage) → a < b → slice_get list a ≡ Some q → slice_get list b ≡ Some q → ⊥)
      → slice_get list j ≡ Some p → put_from files given before i list p.file p.page ≡ cut_page (files p.file) p.page (given (i + j))
  is_listed i j [] p distinct at = absurd (false≢true (ap is_some at))
  is_listed i zero (q ∷ ps) p distinct at =
      let same = same_Some q p at in
      let z : i ≡ i + zero = omega arith in
      here i q ps p.file p.page (ap (λ (x : FilePage). x.file) same) (ap (λ (x : FilePage). x.page) same) ∙ ap (λ (n : ℕ). cut_page (files p.file) p.page (given n)) z
  is_listed i (suc j) (q ∷ ps) p distinct at =
      let next : suc i + j ≡ i + suc j = omega arith in
      let later = is_listed (suc i) j ps p (λ a b r less first second. distinct (suc a) (suc b) r (omega (arith, less)) first second) at
      ∙ ap (λ (n : ℕ). cut_page (files p.file) p.page (given n)) next in
      ⊎_elim
      (λ file. ⊎_elim
      (λ page. absurd (distinct 0 (suc j) p (omega arith) (ap Some (same_page p q file page)) at))
      (λ other. away i q ps p.file p.page (inr other) ∙ later)
      (cases_eq q.page p.page))
      (λ other. away i q ps p.file p.page (inl other) ∙ later)
      (cases_eq q.file p.file)

  is_other : (i : ℕ) (list : List FilePage) (f k : ℕ) → ((j : ℕ) (p : FilePage) → slice_get list j ≡ Some p → p.file ≡ f → p.page ≡ k → ⊥)
      → put_from files given before i list f k ≡ before f k
  is_other i [] f k none = refl
  is_other i (q ∷ ps) f k none =
      let later = is_other (suc i) ps f k (λ j p at. none (suc j) p at) in
      ⊎_elim
      (λ file. away i q ps f k (inr (λ page. none 0 q refl file page)) ∙ later)
      (λ other. away i q ps f k (inl other) ∙ later)
      (cases_eq q.file f)

  pub changes_so : (list : List FilePage) → ((a b : ℕ) (q : FilePage) → a < b → slice_get list a ≡ Some q → slice_get list b ≡ Some q → ⊥)
      → Changes files list given before (put_pages files list given before)
  changes_so list distinct = record { listed = λ j p at. let z : 0 + j ≡ j = omega arith in is_listed 0 j list p distinct at ∙ ap (λ (n : ℕ). cut_page (files p.file) p.page (given n)) z; others = λ f k none. is_other 0 list f k none }
