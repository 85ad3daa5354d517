-- Pages that are cut: at their end, twice, and at the shorter one of two lengths.
use Rattle.std.proofs.{Common.{◌≡◌, ◌≢◌, ℕ, zero, suc, inl, inr, ◌+◌, ◌-◌, ◌*◌, ◌/◌, ◌%◌, ◌<◌, ◌≤◌, true, false, List, [], ◌∷◌, ◌++◌, length, take, replicate, get_or, refl, sym, ap, ◌∙◌, arith}}
use Rattle.std.proofs.lemmas.{Bool.{cases_lt, cases_eq, false≢true}, Bool.Decides.{nat_tests}, Grind.{same_number_lists}, List.{length-append, length-replicate, length-take-le}}
use Rattle.std.specs.Prelude.{min}
use Rattle.vm_types.proofs.Cutting.{cut-before, cut-past}
use Rattle.vm_types.specs.{Files.{bytes_inside, cut}, Truncation.{is_end_page}}

pub length_cut : (n : ℕ) (page : List ℕ) → n ≤ 4096 → n ≤ length page → length (cut n page) ≡ 4096
length_cut n page most there =
    length-append (take n page) (replicate (4096 - n) 0)
    ∙ (let kept = length-take-le n page there in let zeros = length-replicate {A = ℕ} (4096 - n) 0 in omega (arith, kept, zeros, most))

-- a page that was cut is cut again: it is cut where the first of the cuts is
pub cut_again : (m n : ℕ) (page : List ℕ) → m ≤ 4096 → n ≤ 4096 → n ≤ length page → cut m (cut n page) ≡ cut (min m n) page
cut_again m n page few some there =
    let inner = length_cut n page some there in
    same_number_lists (cut m (cut n page)) (cut (min m n) page)
    (length_cut m (cut n page) few (omega (arith, inner, few)) ∙ sym (length_cut (min m n) page (omega (arith, few)) (omega (arith, there)))) (λ k less. at k)
  where
    at : (k : ℕ) → get_or (cut m (cut n page)) k 0 ≡ get_or (cut (min m n) page) k 0
    at k = elim (cases_lt k (min m n)) [
      | inl low ↦ cut-before m k (cut n page) (omega (arith, low)) ∙ cut-before n k page (omega (arith, low)) ∙ sym (cut-before (min m n) k page low)
      | inr high ↦ elim (cases_lt k m) [
        | inl below ↦ cut-before m k (cut n page) below ∙ cut-past n k page (omega (arith, below, high)) ∙ sym (cut-past (min m n) k page high)
        | inr from ↦ cut-past m k (cut n page) from ∙ sym (cut-past (min m n) k page high)
      ]
    ]

take_short : (n : ℕ) (page : List ℕ) → length page ≤ n → take n page ++ [] ≡ page
take_short zero [] few = refl
take_short zero (x ∷ page) few = absurd (omega (arith, few))
take_short (suc n) [] few = refl
take_short (suc n) (x ∷ page) few = ap (λ xs. x ∷ xs) (take_short n page (omega (arith, few)))

-- one that is cut at its end is as it was
pub cut_end : (page : List ℕ) → length page ≤ 4096 → cut 4096 page ≡ page
cut_end page few = take_short 4096 page few

-- of a page before the one within which a file ends all bytes are inside
pub whole_before : (end k : ℕ) → is_end_page end k ≡ false → 4096 * k < end → bytes_inside end k ≡ 4096
whole_before end k other low = elim (cases_lt (end / 4096) (k + 1)) [
  | inr high ↦ omega (arith, high)
  | inl same ↦ elim (cases_eq (end % 4096) 0) [
    | inl none ↦ omega (arith, same, none, low)
    | inr some ↦ absurd (let k_is : k ≡ end / 4096 = omega (arith, same, low) in let e : is_end_page end k ≡ true = grind (arith, nat_tests, k_is, some) in false≢true (sym other ∙ e))
  ]
]

-- and what is is that page
pub end_parts : (end k : ℕ) → is_end_page end k ≡ true → (end % 4096 ≢ 0) × (k ≡ end / 4096)
end_parts end k is = (grind (arith, nat_tests, is), grind (arith, nat_tests, is))

pub end_from : (end k : ℕ) → end % 4096 ≢ 0 → k ≡ end / 4096 → is_end_page end k ≡ true
end_from end k some is = grind (arith, nat_tests, is, some)

-- the rest is that of a division
pub end_inside : (end k : ℕ) → k ≡ end / 4096 → bytes_inside end k ≡ end % 4096
end_inside end k is = omega (arith, is)
