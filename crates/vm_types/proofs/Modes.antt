-- What is true of the sizes of both modes.
use Rattle.{std.{proofs.Common.{◌≡◌, ℕ, ◌+◌, ◌≤◌, ◌^◌, ◌⊎◌, inl, inr, refl, arith}, proofs.lemmas.Bool.{cases_Bool}, specs.Prelude.{◌==◌}}, vm_types.specs.Limits.{top_level, table_entries, user_end}}

-- a mode has three levels or four
pub two_modes : (mode : ℕ) → ((top_level mode ≡ 2) × (user_end mode ≡ 2 ^ 26)) ⊎ ((top_level mode ≡ 3) × (user_end mode ≡ 2 ^ 35))
unfolding top_level user_end
two_modes mode = elim (cases_Bool (mode == 39)) [ inl is ↦ inl (rw is (refl, refl)) | inr is ↦ inr (rw is (refl, refl)) ]

pub record Sizes (mode : ℕ) : Type 0 where
  pub levels : (2 ≤ top_level mode) × (top_level mode ≤ 3)
  pub least : 2 ^ 26 ≤ user_end mode
  pub most : user_end mode ≤ 2 ^ 35

pub sizes : (mode : ℕ) → Sizes mode
sizes mode = elim (two_modes mode) [
  | inl three ↦ record { levels = (omega (arith, three.0), omega (arith, three.0)); least = omega (arith, three.1); most = omega (arith, three.1) }
  | inr four ↦ record { levels = (omega (arith, four.0), omega (arith, four.0)); least = omega (arith, four.1); most = omega (arith, four.1) }
]

-- the tables of a mode have a place for each of its user pages, in their lower half
pub user_pages_fit : (mode : ℕ) → user_end mode + user_end mode ≡ table_entries ^ (top_level mode + 1)
user_pages_fit mode = elim (two_modes mode) [ inl three ↦ rw (three.0, three.1) refl | inr four ↦ rw (four.0, four.1) refl ]
