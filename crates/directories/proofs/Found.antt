-- What is found of the extents of all files, by their first homes.
use Rattle.std.proofs.Common.{ℕ, ◌≡◌, ◌<◌, ◌≤◌, ◌+◌, ⊎_elim, List, length, get_or, cond, eqb, Bool, false, sym, ap, subst, ◌∙◌, arith, Option}
use Rattle.std.proofs.lemmas.Bool.{cases_eq, cases_lt, cond-true, cond-false, eq-eqb, ne_eqb, false≢true}
use Rattle.std.proofs.lemmas.List.{get_or_default}
use Rattle.std.proofs.lemmas.List.Elements.{All-get_or}
use Rattle.std.proofs.lemmas.List.Sorted.{All-permutation, Contains-permutation}
use Rattle.std.proofs.lemmas.Map.Keys.{IsDistinct-IsPermutation, IsDistinct-from_apart, apart_from_distinct}
use Rattle.std.specs.List.{All, AllPairs, Contains}
use Rattle.directories.specs.{Layouts.{entry_in, ShareHome, SharesHome}, Pieces.{pieces_of, AreSorted, AreApart, Meet}, Checks.{HaveApart}}
use Rattle.directories.specs.declared.entry.Extent.{Extent}
use Rattle.directories.specs.declared.entry.Entry.{Entry}
use Rattle.directories.specs.declared.pieces.Piece.{Piece}
use Rattle.directories.proofs.Collected.{Differ, IsTrulyAt, piece, differ_of, contained, are_extents}

-- whether two are of one file and one place
abbrev same_place : Piece → Piece → Bool
same_place p q = cond (eqb p.file q.file) (eqb p.place q.place) false

flips_eqb : (a b : ℕ) → eqb a b ≡ eqb b a
flips_eqb a b = ⊎_elim (λ e. eq-eqb a b e ∙ sym (eq-eqb b a (sym e))) (λ ne. ne_eqb a b ne ∙ sym (ne_eqb b a (λ e. ne (sym e)))) (cases_eq a b)

flips : (p q : Piece) → same_place p q ≡ same_place q p
flips p q = ap (λ (b : Bool). cond b (eqb p.place q.place) false) (flips_eqb p.file q.file) ∙ ap (λ (b : Bool). cond (eqb q.file p.file) b false) (flips_eqb p.place q.place)

differ_test : (p q : Piece) → Differ p q → same_place p q ≡ false
differ_test p q differ = ⊎_elim
    (λ one. cond-true (eqb p.file q.file) (eqb p.place q.place) false (eq-eqb p.file q.file one) ∙ ne_eqb p.place q.place (λ two. differ (one, two)))
    (λ other. cond-false (eqb p.file q.file) (eqb p.place q.place) false (ne_eqb p.file q.file other))
    (cases_eq p.file q.file)

test_differ : (p q : Piece) → same_place p q ≡ false → Differ p q
test_differ p q apart same = false≢true (sym apart ∙ cond-true (eqb p.file q.file) (eqb p.place q.place) false (eq-eqb p.file q.file same.0) ∙ eq-eqb p.place q.place same.1)

-- so it is in any order
differ_still : (entries : List (Option Entry)) (pieces : List Piece) → AreSorted entries pieces → AllPairs Differ pieces
differ_still entries pieces sorted i j d less inside = test_differ (get_or pieces i d) (get_or pieces j d)
    (apart_from_distinct same_place pieces i j d
    (IsDistinct-IsPermutation same_place flips (pieces_of 0 entries) pieces sorted.same
    (IsDistinct-from_apart same_place (pieces_of 0 entries) (λ k m e lt within. differ_test (get_or (pieces_of 0 entries) k e) (get_or (pieces_of 0 entries) m e) (differ_of 0 entries k m e lt within))))
    less inside)

are_still : (entries : List (Option Entry)) (pieces : List Piece) → AreSorted entries pieces → All (IsTrulyAt entries) pieces
are_still entries pieces sorted = All-permutation (IsTrulyAt entries) (pieces_of 0 entries) pieces sorted.same
    (are_extents entries entries 0 (λ k. let at : k ≡ 0 + k = omega arith in ap (entry_in entries) at))

-- two that meet are two extents with a home in common
pub shares : (entries : List (Option Entry)) (pieces : List Piece) (p q : Piece) → AreSorted entries pieces → Meet pieces p q → SharesHome entries p.file q.file
shares entries pieces p q sorted meet = record {
  place = p.place;
  other_place = q.place;
  extent = p.extent;
  other = q.extent;
  is = subst (IsTrulyAt entries) meet.first (All-get_or (IsTrulyAt entries) pieces meet.low p low_in (are_still entries pieces sorted));
  other_is = subst (IsTrulyAt entries) meet.second (All-get_or (IsTrulyAt entries) pieces meet.high q meet.inside (are_still entries pieces sorted));
  two = subst (λ a. Differ a q) first (subst (λ b. Differ (get_or pieces meet.low q) b) meet.second (differ_still entries pieces sorted meet.low meet.high q meet.order meet.inside));
  shared = meet.shared;
}
  where
    low_in : meet.low < length pieces
    low_in = let less = meet.order in let inside = meet.inside in omega arith

    first : get_or pieces meet.low q ≡ p
    first = get_or_default pieces meet.low q p low_in ∙ meet.first

swapped : (x y : Extent) → ShareHome x y → ShareHome y x
swapped x y shared = record { home = shared.home; one = shared.other; other = shared.one }

-- where no two do, none have
pub apart : (entries : List (Option Entry)) (pieces : List Piece) → AreSorted entries pieces → AreApart pieces → HaveApart entries
apart entries pieces sorted none f i g j x y is is' shared =
    let at : 0 + f ≡ f = omega arith in
    let at' : 0 + g ≡ g = omega arith in
    let p : Piece = piece x f i in
    let q : Piece = piece y g j in
    let has : Contains pieces p = Contains-permutation (pieces_of 0 entries) pieces p sorted.same (subst (λ n. Contains (pieces_of 0 entries) (piece x n i)) at (contained 0 f i entries is.entry x is.file is.extent)) in
    let has' : Contains pieces q = Contains-permutation (pieces_of 0 entries) pieces q sorted.same (subst (λ n. Contains (pieces_of 0 entries) (piece y n j)) at' (contained 0 g j entries is'.entry y is'.file is'.extent)) in
    one_place pieces p q has has' none shared
  where
    one_place : (pieces : List Piece) (p q : Piece) → Contains pieces p → Contains pieces q → AreApart pieces → ShareHome p.extent q.extent → (p.file ≡ q.file) × (p.place ≡ q.place)
    one_place pieces p q (k, inside, here) (m, inside', there) none shared =
        let here' : get_or pieces k q ≡ p = get_or_default pieces k q p inside ∙ here in
        ⊎_elim
        (λ (same : k ≡ m). let e : p ≡ q = sym here' ∙ ap (λ n. get_or pieces n q) same ∙ there in (ap (λ (a : Piece). a.file) e, ap (λ (a : Piece). a.place) e))
        (λ other. ⊎_elim
        (λ (less : k < m). absurd (none k m q less inside'
        (subst (λ (a : Piece). ShareHome a.extent (get_or pieces m q).extent) (sym here') (subst (λ (b : Piece). ShareHome p.extent b.extent) (sym there) shared))))
        (λ (le : m ≤ k). absurd (none m k q (omega (arith, le, other)) inside
        (subst (λ (b : Piece). ShareHome (get_or pieces m q).extent b.extent) (sym here') (subst (λ (a : Piece). ShareHome a.extent p.extent) (sym there) (swapped p.extent q.extent shared)))))
        (cases_lt k m))
        (cases_eq k m)
