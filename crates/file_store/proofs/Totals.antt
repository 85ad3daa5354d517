-- The pages of several files.
use Rattle.file_store.proofs.Names.{◌≡◌, ℕ, zero, suc, ◌+◌, ◌<◌, ◌≤◌, List, [], ◌∷◌, length, get_or, drop, set, refl, sym, ap, arith, drop-set-lt}
use Rattle.file_store.specs.{declared.sources.FileSource.{FileSource}, Layout.{pages_of_length}, Format.{total_pages}}

-- the rest of the files from file f on: it and those behind it
pub total_pages-rest : {R : Type 0} (sources : List (FileSource R)) (f : ℕ) (source : FileSource R) → f < length sources → source ≡ get_or sources f source
    → total_pages (drop f sources) ≡ pages_of_length source.length + total_pages (drop (f + 1) sources)
unfolding total_pages
total_pages-rest [] f source lt is = absurd (omega (arith, lt))
total_pages-rest (s ∷ sources) zero source lt is = ap (λ x. pages_of_length x.length + total_pages sources) (sym is)
total_pages-rest (s ∷ sources) (suc f) source lt is = let more : suc f + 1 ≡ suc (f + 1) = omega arith in rw more (total_pages-rest sources f source (omega (arith, lt)) is)

-- no file is behind the last
pub total_pages-end : {R : Type 0} (sources : List (FileSource R)) (f : ℕ) → length sources ≤ f → total_pages (drop f sources) ≡ 0
unfolding total_pages
total_pages-end [] zero past = refl
total_pages-end [] (suc f) past = refl
total_pages-end (s ∷ sources) zero past = absurd (omega (arith, past))
total_pages-end (s ∷ sources) (suc f) past = total_pages-end sources f (omega (arith, past))

-- a file that changes leaves those behind it
pub total_pages-set : {R : Type 0} (sources : List (FileSource R)) (f : ℕ) (source : FileSource R)
    → total_pages (drop (f + 1) (set sources f source)) ≡ total_pages (drop (f + 1) sources)
total_pages-set sources f source = ap total_pages (drop-set-lt (f + 1) sources f source (omega arith))
