-- The first page below an entry of a root.
use Rattle.page_tables.proofs.{Names.{◌≡◌, ℕ, zero, suc, ◌*◌, ◌/◌, ◌^◌, ◌<◌, ◌∙◌, ap, arith, pow-succ', index_of}, Pages.{index_of-suc, index_of-zero}}

once : (a : ℕ) → a * 1 ≡ a
once a = omega arith

across : (a x y : ℕ) → y ≡ 512 * x → a * y / 512 ≡ a * x
across a x y e = rw e (let f : a * (512 * x) ≡ 512 * (a * x) = omega arith in let d : 512 * (a * x) / 512 ≡ a * x = omega arith in ap (λ z. z / 512) f ∙ d)

-- the page has that number for its highest field
pub root_field : (top a : ℕ) → a < 512 → index_of (a * 512 ^ top) top ≡ a
root_field zero a h = ap (λ p. index_of p 0) (once a) ∙ index_of-zero a ∙ omega arith
root_field (suc top) a h =
    index_of-suc (a * 512 ^ suc top) top ∙ ap (λ p. index_of p top) (across a (512 ^ top) (512 ^ suc top) (pow-succ' 512 top)) ∙ root_field top a h
