-- The pages of a directory that changes change, listed one after the other.
use Rattle.std.proofs.Common.{ℕ, zero, suc, ◌≡◌, ◌<◌, ◌≤◌, ◌+◌, ◌*◌, ◌/◌, ⊎_elim, List, [], ◌∷◌, ◌++◌, length, get_or, eqb, Bool, true, false, if◌then◌else◌, refl, sym, ap, subst, ◌∙◌, arith, Option, Some, None, length-append, vec_capacity}
use Rattle.std.specs.Prelude.{IfSome}
use Rattle.std.proofs.lemmas.Bool.{cases_eq, cases_lt, cond-true, cond-false, eq-eqb, ne_eqb}
use Rattle.std.proofs.lemmas.List.{append-nil, get_or_append_left, get_or_push, length_push}
use Rattle.directories.specs.{Layouts.{entry_in}, declared.entry.Entry.{Entry}}
use Rattle.growth.proofs.Changed.{entry_there, length_after}
use Rattle.growth.specs.{Changes.{entry_after}, declared.changes.Change.{Change}}
use Rattle.pool_growth.specs.{Asked.{AreFileChanges, changed_pages, entries_then, is_changed}, Front.{AreChangedPages, IsPageThen}}
use Rattle.pool_growth.specs.declared.front.ChangeRoom.{ChangeRoom}
use Rattle.pool_store.specs.declared.directory.Directory.{Directory}

-- a page that has the entry of a changed file
pub changed_here : (changes : List Change) (q i : ℕ) (d : Change) → i < length changes → (get_or changes i d).file / 16 ≡ q → is_changed changes q ≡ true
changed_here [] q i d inside is = absurd (omega (arith, inside))
changed_here (c ∷ cs) q zero d inside is = cond-true (eqb (c.file / 16) q) true (is_changed cs q) (eq-eqb (c.file / 16) q is)
changed_here (c ∷ cs) q (suc i) d inside is = ⊎_elim
    (λ same. cond-true (eqb (c.file / 16) q) true (is_changed cs q) (eq-eqb (c.file / 16) q same))
    (λ other. cond-false (eqb (c.file / 16) q) true (is_changed cs q) (ne_eqb (c.file / 16) q other) ∙ changed_here cs q i d (omega (arith, inside)) is)
    (cases_eq (c.file / 16) q)

-- and one that has none
pub none_changed : (changes : List Change) (q : ℕ) → ((i : ℕ) (d : Change) → i < length changes → (get_or changes i d).file / 16 ≡ q → ⊥) → is_changed changes q ≡ false
none_changed [] q none = refl
none_changed (c ∷ cs) q none = cond-false (eqb (c.file / 16) q) true (is_changed cs q) (ne_eqb (c.file / 16) q (none 0 c (omega arith)))
    ∙ none_changed cs q (λ i d inside. none (suc i) d (omega (arith, inside)))

-- the changed ones among one page more
abbrev last : Bool → ℕ → List ℕ
last b n = if b then n ∷ [] else []

changed_next : (changes : List Change) (n : ℕ) → changed_pages changes (n + 1) ≡ changed_pages changes n ++ last (is_changed changes n) n
unfolding changed_pages
changed_next changes n = let on : n + 1 ≡ suc n = omega arith in ap (changed_pages changes) on

pub changed_more : (changes : List Change) (n : ℕ) → is_changed changes n ≡ true → changed_pages changes (n + 1) ≡ changed_pages changes n ++ n ∷ []
changed_more changes n told = changed_next changes n ∙ ap (λ b. changed_pages changes n ++ last b n) told

pub changed_same : (changes : List Change) (n : ℕ) → is_changed changes n ≡ false → changed_pages changes (n + 1) ≡ changed_pages changes n
changed_same changes n none = changed_next changes n ∙ ap (λ b. changed_pages changes n ++ last b n) none ∙ append-nil (changed_pages changes n)

pub changed_none : (changes : List Change) → changed_pages changes 0 ≡ []
unfolding changed_pages
changed_none changes = refl

one_at_most : (b : Bool) (n : ℕ) → length (last b n) ≤ 1
one_at_most true n = omega arith
one_at_most false n = omega arith

-- no more than all of them
pub changed_few : (changes : List Change) (n : ℕ) → length (changed_pages changes n) ≤ n
unfolding changed_pages
changed_few changes zero = omega arith
changed_few changes (suc n) =
    let rest = changed_few changes n in
    let both = length-append (changed_pages changes n) (last (is_changed changes n) n) in
    let one = one_at_most (is_changed changes n) n in
    omega (arith, rest, both, one)

-- The changed ones of the first n pages are listed, and their homes:
pub record AreListed (directory : Directory) (changes : List Change) (n : ℕ) (homes : List ℕ) (pages : List (List ℕ)) : Type 0 where
  pub are : homes ≡ changed_pages changes n
  -- as many pages as homes,
  pub long : length pages ≡ length homes
  -- each as it is then.
  pub each : (j : ℕ) → j < length pages → IsPageThen directory changes (get_or homes j 0) (get_or pages j [])

module _ (directory : Directory) (changes : List Change) where
  pub none_listed : AreListed directory changes 0 [] []
  none_listed = record { are = sym (changed_none changes); long = refl; each = λ j below. absurd (omega (arith, below)) }

  pub listed_same : (n : ℕ) (homes : List ℕ) (pages : List (List ℕ)) → AreListed directory changes n homes pages → is_changed changes n ≡ false → AreListed directory changes (n + 1) homes pages
  listed_same n homes pages are none = record { are = are.are ∙ sym (changed_same changes n none); long = are.long; each = are.each }

  pub listed_more : (n : ℕ) (homes : List ℕ) (pages : List (List ℕ)) (page : List ℕ) → AreListed directory changes n homes pages → is_changed changes n ≡ true
      → IsPageThen directory changes n page → AreListed directory changes (n + 1) (homes ++ n ∷ []) (pages ++ page ∷ [])
  listed_more n homes pages page are told is = record {
    are = ap (λ (xs : List ℕ). xs ++ n ∷ []) are.are ∙ sym (changed_more changes n told);
    long = length_push pages page ∙ ap (λ k. k + 1) are.long ∙ sym (length_push homes n);
    each = λ j below. ⊎_elim
        (λ (front : j < length pages).
        let home : get_or (homes ++ n ∷ []) j 0 ≡ get_or homes j 0 = get_or_append_left homes (n ∷ []) 0 j (let long = are.long in omega (arith, front, long)) in
        let here : get_or (pages ++ page ∷ []) j [] ≡ get_or pages j [] = get_or_append_left pages (page ∷ []) [] j front in
        subst (λ q. IsPageThen directory changes q (get_or (pages ++ page ∷ []) j [])) (sym home) (subst (IsPageThen directory changes (get_or homes j 0)) (sym here) (are.each j front)))
        (λ (from : length pages ≤ j).
        let end : length pages ≡ j = (let more = length_push pages page in omega (arith, from, below, more)) in
        let home : get_or (homes ++ n ∷ []) j 0 ≡ n = get_or_push homes n 0 j (sym are.long ∙ end) in
        let here : get_or (pages ++ page ∷ []) j [] ≡ page = get_or_push pages page [] j end in
        subst (λ q. IsPageThen directory changes q (get_or (pages ++ page ∷ []) j [])) (sym home) (subst (IsPageThen directory changes n) (sym here) is))
        (cases_lt j (length pages));
  }

  pub all_listed : (homes : List ℕ) (pages : List (List ℕ)) → AreListed directory changes directory.pages homes pages → AreChangedPages directory changes pages
  all_listed homes pages are = record {
    long = are.long ∙ ap (λ (xs : List ℕ). length xs) are.are;
    each = λ j below. subst (λ (xs : List ℕ). IsPageThen directory changes (get_or xs j 0) (get_or pages j [])) are.are (are.each j below);
  }

-- They are listed in a room, which stays as large.
pub record HasListed (directory : Directory) (changes : List Change) (n : ℕ) (old room : ChangeRoom) : Type 0 where
  pub listed : AreListed directory changes n room.homes.items room.pages.items
  pub pages : vec_capacity room.pages ≡ vec_capacity old.pages
  pub homes : vec_capacity room.homes ≡ vec_capacity old.homes

-- the entry of a place of a page
pub entry_at : (homes : ℕ) (directory : Directory) (changes : List Change) → AreFileChanges homes directory changes → (q i : ℕ) → q < directory.pages → i < 16
    → entry_in (entries_then directory changes) (16 * q + i) ≡ entry_after directory.entries.items changes (16 * q + i)
entry_at homes directory changes are q i below small = entry_there directory.entries.items changes (16 * q + i)
    (let size = are.may.size in let same = length_after directory.entries.items changes in omega (arith, size, same, below, small))

-- what holds of each file there is
pub holds_of : (P : Entry → Type 0) (entry : Option Entry) → ((e : Entry) → entry ≡ Some e → P e) → IfSome entry P
holds_of P None holds = tt
holds_of P (Some e) holds = holds e refl
