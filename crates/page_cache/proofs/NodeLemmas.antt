-- The first node that holds a page, before and after one node was changed.
use Rattle.std.proofs.Common.{◌≡◌, ◌≢◌, ℕ, zero, suc, ◌+◌, ◌<◌, true, false, eqb, List, [], ◌∷◌, length, Option, Some, None, refl, sym, ap, ap₂, ◌∙◌, subst, inl, inr, arith, replicate, set, get_or-set_same, get_or-set_other}
use Rattle.{std.proofs.lemmas.{Bool.{cases_eq, cases_Bool, cases_lt, both_ways, true≢false, and_parts, and_from, eqb-true, eq-eqb, false_from_ne_true}, List.{get_or_past}, Option.{none-some}}, vm_types.specs.Attributes.{file_page_eq}}
use Rattle.{vm_types.specs.{Attributes.{object_page_eq, page_key_eq}, declared.{file.FilePage.{FilePage}, object.{ObjectPage.{ObjectPage}, PageKey.{PageKey, TheVariants.{File, Object}}}}}, page_cache.specs.Nodes.{page_at, holds}}
use Rattle.page_cache.specs.Nodes.{next_number, first_node, IsOneToOne}

pub same_file_page : (a b : FilePage) → file_page_eq a b ≡ true → a ≡ b
same_file_page a b e =
    let parts = and_parts (eqb a.file b.file) (eqb a.page b.page) e in
    ap₂ (λ (f k : ℕ). let r : FilePage = record { file = f; page = k } in r) (eqb-true a.file b.file parts.0) (eqb-true a.page b.page parts.1)

same_object_page : (a b : ObjectPage) → object_page_eq a b ≡ true → a ≡ b
same_object_page a b e =
    let parts = and_parts (eqb a.object b.object) (eqb a.page b.page) e in
    ap₂ (λ (o k : ℕ). let r : ObjectPage = record { object = o; page = k } in r) (eqb-true a.object b.object parts.0) (eqb-true a.page b.page parts.1)

pub same_page : (a b : PageKey) → page_key_eq a b ≡ true → a ≡ b
same_page (File a) (File b) e = ap (λ (p : FilePage). File p) (same_file_page a b e)
same_page (Object a) (Object b) e = ap (λ (p : ObjectPage). Object p) (same_object_page a b e)
same_page a b e = absurd (true≢false (sym e))

pub same_file_page_true : (a : FilePage) → file_page_eq a a ≡ true
same_file_page_true a = and_from (eqb a.file a.file) (eqb a.page a.page) (eq-eqb a.file a.file refl) (eq-eqb a.page a.page refl)

pub same_page_true : (a : PageKey) → page_key_eq a a ≡ true
same_page_true (File a) = same_file_page_true a
same_page_true (Object a) = and_from (eqb a.object a.object) (eqb a.page a.page) (eq-eqb a.object a.object refl) (eq-eqb a.page a.page refl)

pub holds-true : (page : PageKey) (held : Option PageKey) → holds page held ≡ true → held ≡ Some page
holds-true page None e = absurd (true≢false (sym e))
holds-true page (Some held) e = ap Some (same_page held page e)

pub true-holds : (page : PageKey) (held : Option PageKey) → held ≡ Some page → holds page held ≡ true
true-holds page held e = ap (holds page) e ∙ same_page_true page

pub holds-false : (page : PageKey) (held : Option PageKey) → held ≢ Some page → holds page held ≡ false
holds-false page held ne = false_from_ne_true (holds page held) (λ e. ne (holds-true page held e))

pub false-holds : (page : PageKey) (held : Option PageKey) → holds page held ≡ false → held ≢ Some page
false-holds page held no_page e = both_ways (holds page held) no_page (true-holds page held e)

-- nodes that hold nothing
pub unheld_at : (n k : ℕ) → page_at (replicate n None) k ≡ None
unheld_at (suc n) (suc k) = unheld_at n k
unheld_at n k = refl

-- a node that holds a page is one of them
pub page_at-within : (pages : List (Option PageKey)) (n : ℕ) (page : PageKey) → page_at pages n ≡ Some page → n < length pages
page_at-within pages n page e = elim (cases_lt n (length pages)) [
  | inl below ↦ below
  | inr past ↦ absurd (none-some page (sym (get_or_past pages n None past) ∙ e))
]

-- the number of a node, where there is one
abbrev pub node_number : Option ℕ → ℕ
node_number None = 0
node_number (Some n) = n

pub next_number-some : (o : Option ℕ) (n : ℕ) → next_number o ≡ Some n → (k : ℕ) × (o ≡ Some k) × (n ≡ k + 1)
next_number-some None n e = absurd (none-some n e)
next_number-some (Some k) n e = (k, refl, (cc))

pub next_number-none : (o : Option ℕ) → next_number o ≡ None → o ≡ None
next_number-none None e = refl
next_number-none (Some k) e = absurd (none-some (k + 1) (sym e))

-- the first node is found where the ones before it hold other pages
pub first_node-found : (pages : List (Option PageKey)) (page : PageKey) (n : ℕ) → holds page (page_at pages n) ≡ true
    → ((m : ℕ) → m < n → holds page (page_at pages m) ≡ false) → first_node pages page ≡ Some n
unfolding first_node
first_node-found [] page n here before = absurd (true≢false (sym here))
first_node-found (held ∷ rest) page zero here before = rw here refl
first_node-found (held ∷ rest) page (suc n) here before =
    rw (before 0 (omega arith), first_node-found rest page n here (λ m below. before (suc m) (omega arith))) (ap Some (omega arith))

pub first_node-none : (pages : List (Option PageKey)) (page : PageKey) → ((m : ℕ) → m < length pages → holds page (page_at pages m) ≡ false)
    → first_node pages page ≡ None
unfolding first_node
first_node-none [] page all = refl
first_node-none (held ∷ rest) page all = rw (all 0 (omega arith), first_node-none rest page (λ m below. all (suc m) (omega arith))) refl

pub first_node-holds : (pages : List (Option PageKey)) (page : PageKey) (n : ℕ) → first_node pages page ≡ Some n → holds page (page_at pages n) ≡ true
unfolding first_node
first_node-holds [] page n e = absurd (none-some n e)
first_node-holds (held ∷ rest) page n e = elim (cases_Bool (holds page held)) [
  | inl here ↦ (let first : Some 0 ≡ Some n = rw here at e in
      let zero_is : 0 ≡ n = cc in
      subst (λ (k : ℕ). holds page (page_at (held ∷ rest) k) ≡ true) zero_is here)
  | inr other ↦ (let later : next_number (first_node rest page) ≡ Some n = rw other at e in
      let found = next_number-some (first_node rest page) n later in
      let sum_is : suc found.0 ≡ n = omega (arith, found.2) in
      subst (λ (k : ℕ). holds page (page_at (held ∷ rest) k) ≡ true) sum_is (first_node-holds rest page found.0 found.1))
]

at_each : (rest : List (Option PageKey)) (page : PageKey) (held : Option PageKey) → holds page held ≡ false
    → ((m : ℕ) → holds page (page_at rest m) ≡ false) → (m : ℕ) → holds page (page_at (held ∷ rest) m) ≡ false
at_each rest page held other later zero = other
at_each rest page held other later (suc m) = later m

pub first_node-no_node : (pages : List (Option PageKey)) (page : PageKey) → first_node pages page ≡ None → (m : ℕ) → holds page (page_at pages m) ≡ false
unfolding first_node
first_node-no_node [] page e m = refl
first_node-no_node (held ∷ rest) page e m = elim (cases_Bool (holds page held)) [
  | inl here ↦ (let first : Some 0 ≡ None = rw here at e in absurd (none-some 0 (sym first)))
  | inr other ↦ (let later : next_number (first_node rest page) ≡ None = rw other at e in at_each rest page held other (first_node-no_node rest page (next_number-none (first_node rest page) later)) m)
]

-- the one node that holds a page is the first
pub first_node-of : (pages : List (Option PageKey)) (page : PageKey) (n : ℕ) → IsOneToOne pages → page_at pages n ≡ Some page → first_node pages page ≡ Some n
first_node-of pages page n one e =
    first_node-found pages page n (true-holds page (page_at pages n) e)
    (λ m below. holds-false page (page_at pages m) (λ also. let same = one.apart m n page also e in omega arith))

-- another page than what a node held and holds now
pub first_node-kept : (pages : List (Option PageKey)) (n : ℕ) (now : Option PageKey) (page : PageKey)
    → page_at pages n ≢ Some page → now ≢ Some page → first_node (set pages n now) page ≡ first_node pages page
unfolding first_node
first_node-kept [] n now page before after = refl
first_node-kept (held ∷ rest) zero now page before after = rw (holds-false page held before, holds-false page now after) refl
first_node-kept (held ∷ rest) (suc n) now page before after = rw (first_node-kept rest n now page before after) refl

-- a node that holds nothing now
pub page_at-emptied : (pages : List (Option PageKey)) (n : ℕ) → page_at (set pages n None) n ≡ None
page_at-emptied (held ∷ rest) (suc n) = page_at-emptied rest n
page_at-emptied pages n = refl

pub IsOneToOne-removed : (pages : List (Option PageKey)) (n : ℕ) → IsOneToOne pages → IsOneToOne (set pages n None)
IsOneToOne-removed pages n one =
    let before : (m : ℕ) (page : PageKey) → page_at (set pages n None) m ≡ Some page → page_at pages m ≡ Some page =
    λ m page e. elim (cases_eq m n) [
      | inl same ↦ absurd (none-some page (sym (page_at-emptied pages n) ∙ ap (page_at (set pages n None)) (sym same) ∙ e))
      | inr other ↦ sym (get_or-set_other pages n m None None other) ∙ e
    ]
    in
    record { apart = λ m k page here there. one.apart m k page (before m page here) (before k page there) }

pub IsOneToOne-inserted : (pages : List (Option PageKey)) (n : ℕ) (page : PageKey) → IsOneToOne pages
    → ((m : ℕ) → page_at pages m ≢ Some page) → n < length pages → IsOneToOne (set pages n (Some page))
IsOneToOne-inserted pages n page one nowhere inside =
    let at_n : page_at (set pages n (Some page)) n ≡ Some page = get_or-set_same pages n (Some page) None inside in
    let at_other : (m : ℕ) → m ≢ n → page_at (set pages n (Some page)) m ≡ page_at pages m = λ m other. get_or-set_other pages n m (Some page) None other in
    let only : (m : ℕ) (held : PageKey) → page_at (set pages n (Some page)) m ≡ Some held → page_at (set pages n (Some page)) n ≡ Some held → m ≡ n =
    λ m held here there. elim (cases_eq m n) [
      | inl same ↦ same
      | inr other ↦ absurd (nowhere m (sym (at_other m other) ∙ here ∙ sym there ∙ at_n))
    ]
    in
    record {
      apart = λ m k held here there. elim (cases_eq m n) [
        | inl same ↦ (let at_m : page_at (set pages n (Some page)) n ≡ Some held = ap (page_at (set pages n (Some page))) (sym same) ∙ here in same ∙ sym (only k held there at_m))
        | inr other ↦ elim (cases_eq k n) [
          | inl same ↦ (let at_k : page_at (set pages n (Some page)) n ≡ Some held = ap (page_at (set pages n (Some page))) (sym same) ∙ there in only m held here at_k ∙ sym same)
          | inr apart ↦ one.apart m k held (sym (at_other m other) ∙ here) (sym (at_other k apart) ∙ there)
        ]
      ];
    }

-- a page that its node gave up is nowhere
pub first_node-removed : (pages : List (Option PageKey)) (n : ℕ) (page : PageKey) → IsOneToOne pages → page_at pages n ≡ Some page → first_node (set pages n None) page ≡ None
first_node-removed pages n page one held =
    first_node-none (set pages n None) page (λ m below. holds-false page (page_at (set pages n None) m) (λ e. elim (cases_eq m n) [
      | inl same ↦ none-some page (sym (page_at-emptied pages n) ∙ ap (page_at (set pages n None)) (sym same) ∙ e)
      | inr other ↦ other (one.apart m n page (sym (get_or-set_other pages n m None None other) ∙ e) held)
    ]))
