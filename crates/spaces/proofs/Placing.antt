-- Where a mapping goes, and whether its place is free.
use Rattle.spaces.proofs.Names.{user_end, Attr, attr_after, is_free, is_place, lowest_from, lowest_place, placed, ℕ, zero, suc, ◌+◌, ◌-◌, ◌/◌, ◌≡◌, ◌<◌, ◌≤◌, ◌==◌, ◌&&◌, not, leb, Bool, true, false, if◌then◌else◌, Option, Some, None, refl}
use Rattle.spaces.proofs.Names.{sym, ◌∙◌, subst, arith, nat_tests, false_from_ne_true, Run, IsNextRun, is_free-all, is_free-at, is_place-is}

-- a place lies in the user pages
module _ (mode : ℕ) where
  pub record InUserPages (first pages : ℕ) : Type 0 where
    pub low : 16 ≤ first
    pub high : first + pages ≤ user_end mode

  place_inside : (map : ℕ → Option Attr) (pages first : ℕ) → is_place mode map pages first ≡ true → InUserPages first pages
  place_inside map pages first e = let place = is_place-is mode map pages first e in record { low = place.low; high = place.high }

  lowest_inside : (map : ℕ → Option Attr) (pages from count first : ℕ) → lowest_from mode map pages from count ≡ Some first → InUserPages first pages
  unfolding lowest_from
  lowest_inside map pages from zero first e = cc
  lowest_inside map pages from (suc count) first e =
      elim (is_place mode map pages from) as (λ (b : Bool). is_place mode map pages from ≡ b
      → (elim b [ true ↦ Some from | false ↦ lowest_from mode map pages (suc from) count ]) ≡ Some first → InUserPages first pages) [
        | true ↦ λ here same. let k : from ≡ first = cc in subst (λ (n : ℕ). InUserPages n pages) k (place_inside map pages from here)
        | false ↦ λ other further. lowest_inside map pages (suc from) count first further
      ] refl e

  hinted_inside : (map : ℕ → Option Attr) (addr pages first : ℕ) → placed mode map addr pages ≡ Some first → InUserPages first pages
  unfolding placed lowest_place
  hinted_inside map addr pages first e =
      elim (is_place mode map pages (addr / 4096)) as (λ (b : Bool). is_place mode map pages (addr / 4096) ≡ b
      → (if not (addr == 0) && b then Some (addr / 4096) else lowest_place mode map pages) ≡ Some first → InUserPages first pages) [
        | true ↦ λ here. elim (addr == 0) as (λ (b : Bool). (if not b && true then Some (addr / 4096) else lowest_place mode map pages) ≡ Some first → InUserPages first pages) [
          | true ↦ λ lowest. lowest_inside map pages 16 (user_end mode) first lowest
          | false ↦ λ same. let k : addr / 4096 ≡ first = cc in subst (λ (n : ℕ). InUserPages n pages) k (place_inside map pages (addr / 4096) here)
        ]
        | false ↦ λ other. elim (addr == 0) as (λ (b : Bool). (if not b && false then Some (addr / 4096) else lowest_place mode map pages) ≡ Some first → InUserPages first pages) [
          | true ↦ λ lowest. lowest_inside map pages 16 (user_end mode) first lowest
          | false ↦ λ lowest. lowest_inside map pages 16 (user_end mode) first lowest
        ]
      ] refl e

  pub placed_inside : (map : ℕ → Option Attr) (addr pages first : ℕ) → placed mode map addr pages ≡ Some first → (16 ≤ first) × (first + pages ≤ user_end mode)
  placed_inside map addr pages first e = let inside = hinted_inside map addr pages first e in (inside.low, inside.high)

-- the place is free where the first run from it on begins after it
pub free_to_the_end : (map : ℕ → Option Attr) (first pages : ℕ) → ((k : ℕ) → first ≤ k → map k ≡ None) → true ≡ is_free map first pages
free_to_the_end map first pages none = sym (is_free-all map first pages (λ k low high. none k low))

module _ (mode : ℕ) where
  pub free_before : (map : ℕ → Option Attr) (first pages : ℕ) (run : Run) → IsNextRun mode map first run → leb (first + pages) run.first ≡ is_free map first pages
  free_before map first pages run next =
      elim (leb (first + pages) run.first) as (λ (b : Bool). leb (first + pages) run.first ≡ b → b ≡ is_free map first pages) [
        | true ↦ λ e. let behind : first + pages ≤ run.first = grind (arith, nat_tests) in sym (is_free-all map first pages (λ k low high. next.none_before k low (omega arith)))
        | false ↦ λ e.
            let inside : run.first < first + pages = grind (arith, nat_tests) in
            let some : map run.first ≡ Some (attr_after run.attr (run.first - run.first)) = next.mapped run.first (omega arith) next.nonempty in
            sym (false_from_ne_true (is_free map first pages) (λ free.
            let none : map run.first ≡ None = is_free-at map first pages run.first free next.from inside in
            (let clash : None ≡ Some (attr_after run.attr (run.first - run.first)) = sym none ∙ some in cc)))
      ] refl
