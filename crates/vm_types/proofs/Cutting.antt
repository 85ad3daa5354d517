-- Pages that are cut: what stays of them, and what is left when they are cut again.
use Rattle.std.proofs.{Common.{◌≡◌, ℕ, zero, suc, inl, inr, ◌-◌, ◌<◌, ◌≤◌, List, [], ◌∷◌, ◌++◌, length, take, replicate, get_or, refl, sym, ◌∙◌, arith}, lemmas.{Bool.{cases_lt}, Grind.{same_number_lists}}}
use Rattle.std.{proofs.lemmas.List.{length-append, length-replicate, length-take-le}, specs.Prelude.{min}}
use Rattle.vm_types.specs.Files.{cut}

zeros-at : (m i : ℕ) → ◌≡◌ {A = ℕ} (get_or (replicate m 0) i 0) 0
zeros-at zero i = refl
zeros-at (suc m) zero = refl
zeros-at (suc m) (suc i) = zeros-at m i

before : (n m i : ℕ) (xs : List ℕ) → i < n → get_or (take n xs ++ replicate m 0) i 0 ≡ get_or xs i 0
before zero m i xs below = absurd (omega (arith, below))
before (suc n) m i [] below = zeros-at m i
before (suc n) m zero (x ∷ xs) below = refl
before (suc n) m (suc i) (x ∷ xs) below = before n m i xs (omega (arith, below))

past : (n m i : ℕ) (xs : List ℕ) → n ≤ i → get_or (take n xs ++ replicate m 0) i 0 ≡ 0
past zero m i xs from = zeros-at m i
past (suc n) m i [] from = zeros-at m i
past (suc n) m zero (x ∷ xs) from = absurd (omega (arith, from))
past (suc n) m (suc i) (x ∷ xs) from = past n m i xs (omega (arith, from))

-- the bytes before the cut stay, and from there on it is zeros
pub cut-before : (n i : ℕ) (page : List ℕ) → i < n → get_or (cut n page) i 0 ≡ get_or page i 0
cut-before n i page below = before n (4096 - n) i page below

pub cut-past : (n i : ℕ) (page : List ℕ) → n ≤ i → get_or (cut n page) i 0 ≡ 0
cut-past n i page from = past n (4096 - n) i page from

pub length-cut : (n : ℕ) (page : List ℕ) → n ≤ 4096 → length page ≡ 4096 → length (cut n page) ≡ 4096
length-cut n page most whole =
    length-append (take n page) (replicate (4096 - n) 0)
    ∙ (let kept = length-take-le n page (omega (arith, most, whole)) in let zeros = length-replicate {A = ℕ} (4096 - n) 0 in omega (arith, kept, zeros, most))

-- a page that is cut at its end is as it was
pub cut-whole : (page : List ℕ) → length page ≡ 4096 → cut 4096 page ≡ page
cut-whole page whole =
    let long = length-cut 4096 page (omega arith) whole in
    same_number_lists (cut 4096 page) page (long ∙ sym whole) (λ k less. cut-before 4096 k page (omega (arith, less, long)))

-- a page that is cut twice is cut where the first of the cuts is
pub cut-twice : (m n : ℕ) (page : List ℕ) → m ≤ 4096 → n ≤ 4096 → length page ≡ 4096 → cut m (cut n page) ≡ cut (min m n) page
cut-twice m n page few some whole =
    let inner = length-cut n page some whole in
    same_number_lists (cut m (cut n page)) (cut (min m n) page)
    (length-cut m (cut n page) few inner ∙ sym (length-cut (min m n) page (omega (arith, few)) whole)) (λ k less. at k)
  where
    at : (k : ℕ) → get_or (cut m (cut n page)) k 0 ≡ get_or (cut (min m n) page) k 0
    at k = elim (cases_lt k (min m n)) [
      | inl low ↦ cut-before m k (cut n page) (omega (arith, low)) ∙ cut-before n k page (omega (arith, low)) ∙ sym (cut-before (min m n) k page low)
      | inr high ↦ elim (cases_lt k m) [
        | inl below ↦ cut-before m k (cut n page) below ∙ cut-past n k page (omega (arith, below, high)) ∙ sym (cut-past (min m n) k page high)
        | inr from ↦ cut-past m k (cut n page) from ∙ sym (cut-past (min m n) k page high)
      ]
    ]
