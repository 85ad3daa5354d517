-- Pages as their sectors, one after another.
use Rattle.disk_model.{proofs.Names.{◌≡◌, ℕ, zero, suc, ◌+◌, ◌*◌, ◌<◌, List, [], ◌++◌, length, take, refl, sym, ap, ◌∙◌, arith, add-one, take_all, take-add}, specs.Sectors.{joined, part_of}}

pub joined-none : (pieces : ℕ → List ℕ) → joined pieces 0 ≡ []
unfolding joined
joined-none pieces = refl

pub joined-more : (pieces : ℕ → List ℕ) (n : ℕ) → joined pieces (n + 1) ≡ joined pieces n ++ pieces n
unfolding joined
joined-more pieces n = rw add-one refl

-- equal pieces
pub joined-same : (n : ℕ) (xs ys : ℕ → List ℕ) → ((i : ℕ) → i < n → xs i ≡ ys i) → joined xs n ≡ joined ys n
unfolding joined
joined-same zero xs ys same = refl
joined-same (suc n) xs ys same =
    ap (λ (s : List ℕ). s ++ xs n) (joined-same n xs ys (λ i lt. same i (omega (arith, lt)))) ∙ ap (λ (s : List ℕ). joined ys n ++ s) (same n (omega arith))

parts_joined : (page : List ℕ) (n : ℕ) → joined (part_of page) n ≡ take (512 * n) page
unfolding joined
parts_joined page zero = refl
parts_joined page (suc n) =
    ap (λ (s : List ℕ). s ++ part_of page n) (parts_joined page n)
    ∙ sym (take-add (512 * n) 512 page)
    ∙ (let e : 512 * n + 512 ≡ 512 * suc n = omega arith in ap (λ (m : ℕ). take m page) e)

-- a page is its eight sectors
pub joined_parts : (page : List ℕ) → length page ≡ 4096 → joined (part_of page) 8 ≡ page
joined_parts page size = parts_joined page 8 ∙ take_all 4096 page (omega (arith, size))
