-- Files that are taken whole, as a list of them tells.
use Rattle.msync.proofs.Names.{ℕ, zero, suc, ◌+◌, ◌≡◌, ◌<◌, ◌≤◌, ◌==◌, ◌&&◌, ⊎_elim, Bool, true, false, List, [], ◌∷◌, length, take, get_or, get_or-take, length-take-le, Option, Some, None, refl, sym, ap, ◌∙◌, arith, cases_eq, and_parts, and_from, both_ways, false≢true, false_from_ne_true}
use Rattle.msync.proofs.Names.{FilePage, Attr, Backing, Shared, is_shared_page, any_below, any-at, any-where, any-same}
use Rattle.std.proofs.{Common.{◌||◌}, lemmas.Bool.{cases_Bool, cond-true, cond-false, cond_both, eq-eqb, ne_eqb, or_cases, or_right}}
use Rattle.vm_types.specs.Msync.{is_shared_of}
use Rattle.sized_stores.specs.Commit.{is_one_of}
use Rattle.msync.specs.Choice.{shares_page, shares_file, is_shared_in, is_whole, is_chosen, ListsFiles}

-- a number that is one of a list has a place in it
one_at : (xs : List ℕ) (f : ℕ) → is_one_of xs f ≡ true → (i : ℕ) × (i < length xs) × (get_or xs i 0 ≡ f)
one_at [] f is = absurd (false≢true is)
one_at (x ∷ xs) f is =
    ⊎_elim (λ same. (0, omega arith, same))
    (λ other.
    let rest = one_at xs f (sym (cond-false (x == f) true (is_one_of xs f) (ne_eqb x f other)) ∙ is) in
    (suc rest.0, (let less = rest.1 in omega arith), rest.2))
    (cases_eq x f)

at_one : (xs : List ℕ) (i f : ℕ) → i < length xs → get_or xs i 0 ≡ f → is_one_of xs f ≡ true
at_one [] i f less is = absurd (omega arith)
at_one (x ∷ xs) zero f less is = cond-true (x == f) true (is_one_of xs f) (eq-eqb x f is)
at_one (x ∷ xs) (suc i) f less is = cond_both (x == f) true (is_one_of xs f) (λ b. b ≡ true) (λ _. refl) (λ _. at_one xs i f (omega (arith, less)) is)

-- two tests that hold alike
alike : (a b : Bool) → (a ≡ true → b ≡ true) → (b ≡ true → a ≡ true) → a ≡ b
alike a b to from =
    ⊎_elim (λ (yes_a : a ≡ true). yes_a ∙ sym (to yes_a))
    (λ (not_a : a ≡ false). not_a ∙ sym (false_from_ne_true b (λ yes_b. both_ways a not_a (from yes_b))))
    (cases_Bool a)

-- the files at the front of a list are those that pass
module _ (whole : ℕ → Bool) (files : List ℕ) (n : ℕ) (few : n ≤ length files) (lists : ListsFiles whole files n) where
  pub front_count : length (take n files) ≡ n
  front_count = length-take-le n files few

  pub front_at : (i : ℕ) → i < n → get_or (take n files) i 0 ≡ get_or files i 0
  front_at i less = get_or-take n files i 0 less

  pub front_is : (f : ℕ) → is_one_of (take n files) f ≡ whole f
  front_is f =
      alike (is_one_of (take n files) f) (whole f)
      (λ is.
      let r = one_at (take n files) f is in
      let less : r.0 < n = omega (arith, r.1, front_count) in
      ap whole (sym (sym (front_at r.0 less) ∙ r.2)) ∙ lists.each r.0 less)
      (λ is.
      let r = lists.all f is in
      at_one (take n files) r.0 f (omega (arith, r.1, front_count)) (front_at r.0 r.1 ∙ r.2))

  pub front_rising : (i j : ℕ) → i < j → j < length (take n files) → get_or (take n files) i 0 < get_or (take n files) j 0
  front_rising i j less high =
      let below : j < n = omega (arith, high, front_count) in
      omega (arith, front_at i (omega arith), front_at j below, lists.rising i j less below)

-- a page that shares a file page is a shared page of its file
file_behind : (b : Backing) (p : FilePage) → is_shared_page b p.file p.page ≡ true → is_shared_of b p.file ≡ true
file_behind (Shared q) p is = (and_parts (q.file == p.file) (q.page == p.page) is).0
file_behind b p is = cc

file_of_page : (o : Option Attr) (p : FilePage) → shares_page o p ≡ true → shares_file o p.file ≡ true
file_of_page None p is = is
file_of_page (Some attr) p is = file_behind attr.backing p is

-- so a file of another length, of which a page is taken, is taken whole
module _ (touched : FilePage → Bool) (resized : ℕ → Bool) (map : ℕ → Option Attr) (first count : ℕ) where
  pub touched_one : (p : FilePage) → is_chosen touched resized map first count p ≡ true → touched p ≡ true
  touched_one p is = (and_parts (touched p) (is_shared_in map first count p || is_whole resized map first count p.file) is).0

  pub resized_one : (f : ℕ) → is_whole resized map first count f ≡ true → resized f ≡ true
  resized_one f is = (and_parts (resized f) (any_below (λ i. shares_file (map (first + i)) f) count) is).0

  pub whole_one : (p : FilePage) → touched p ≡ true → is_whole resized map first count p.file ≡ true → is_chosen touched resized map first count p ≡ true
  whole_one p is whole = and_from (touched p) (is_shared_in map first count p || is_whole resized map first count p.file) is (or_right (is_shared_in map first count p) (is_whole resized map first count p.file) whole)

  pub not_resized : (p : FilePage) → is_chosen touched resized map first count p ≡ true → is_whole resized map first count p.file ≡ false → resized p.file ≡ false
  not_resized p is other =
      false_from_ne_true (resized p.file) (λ is_resized.
      both_ways (is_whole resized map first count p.file) other
      (⊎_elim
      (λ (shares : is_shared_in map first count p ≡ true).
      let r = any-where (λ i. shares_page (map (first + i)) p) count shares in
      and_from (resized p.file) (any_below (λ i. shares_file (map (first + i)) p.file) count) is_resized
      (any-at (λ i. shares_file (map (first + i)) p.file) count r.0 r.1 (file_of_page (map (first + r.0)) p r.2)))
      (λ (whole : is_whole resized map first count p.file ≡ true). whole)
      (or_cases (is_shared_in map first count p) (is_whole resized map first count p.file)
      (and_parts (touched p) (is_shared_in map first count p || is_whole resized map first count p.file) is).1)))

-- what is taken is told by what the pages are
module _ (touched : FilePage → Bool) (resized : ℕ → Bool) (a b : ℕ → Option Attr) (first count : ℕ) (same : (k : ℕ) → a k ≡ b k) where
  pub whole_same : (f : ℕ) → is_whole resized a first count f ≡ is_whole resized b first count f
  whole_same f =
      ap (λ (t : Bool). resized f && t)
      (any-same (λ i. shares_file (a (first + i)) f) (λ i. shares_file (b (first + i)) f) count (λ k. ap (λ (o : Option Attr). shares_file o f) (same (first + k))))

  pub chosen_same : (p : FilePage) → is_chosen touched resized a first count p ≡ is_chosen touched resized b first count p
  chosen_same p =
      ap (λ (t : Bool). touched p && (t || is_whole resized a first count p.file))
      (any-same (λ i. shares_page (a (first + i)) p) (λ i. shares_page (b (first + i)) p) count (λ k. ap (λ (o : Option Attr). shares_page o p) (same (first + k))))
      ∙ ap (λ (t : Bool). touched p && (is_shared_in b first count p || t)) (whole_same p.file)

-- where none is listed, none passes
pub none_whole : (whole : ℕ → Bool) (files : List ℕ) (n : ℕ) → n ≡ 0 → ListsFiles whole files n → (f : ℕ) → whole f ≡ false
none_whole whole files n none lists f = false_from_ne_true (whole f) (λ is. let less = (lists.all f is).1 in absurd (omega arith))
