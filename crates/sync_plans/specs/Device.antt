-- A plan as a device that was never stopped.
use Rattle.std.specs.Prelude.{ℕ, zero, suc, ◌+◌, ◌<◌, ◌≤◌, ◌≡◌, ◌⊎◌, List, [], ◌∷◌, Some, slice_get}
use Rattle.std.proofs.Common.{inl, inr, ⊎_elim, subst, arith}
use Rattle.disk_model.specs.Sectors.{part_of}
use Rattle.disk_model.specs.Stop.{Image, MayLeave}
use Rattle.sync_plans.specs.declared.call.Call.{Call}
use Rattle.sync_plans.specs.Plans.{row, page_bytes, image_after, IsLeftUnsynced}

-- No image of a store, but a name for a number with an image or with pages.
abbrev pub label : ℕ → Image → Image
label number first zero = []
label number first (suc n) = number ∷ first n

-- The clock of a plan is at k + 2 after k calls. Before that there are the names of its room with its first image, and of the pages that are lent, alone.
abbrev pub PlanLeftSince : List Call → List (List ℕ) → (ℕ → List ℕ) → Image → ℕ → ℕ → ℕ → Image → Type 0
PlanLeftSince calls rows pages first room used t c = ((t ≡ 0) × (c ≡ label room first)) ⊎ (((t ≡ 1) × (c ≡ label 0 pages))
    ⊎ ((k : ℕ) × (t ≤ k + 2) × (k ≤ used) × MayLeave (image_after calls rows pages first k) (IsLeftUnsynced calls k) c))

pub only_present : (calls : List Call) (rows : List (List ℕ)) (pages : ℕ → List ℕ) (first : Image) (room used : ℕ) (c : Image)
    → PlanLeftSince calls rows pages first room used (used + 2) c → MayLeave (image_after calls rows pages first used) (IsLeftUnsynced calls used) c
only_present calls rows pages first room used c left = ⊎_elim (λ named. absurd (omega (arith, named.0))) (⊎_elim (λ named. absurd (omega (arith, named.0)))
    (λ had. subst (λ (k : ℕ). MayLeave (image_after calls rows pages first k) (IsLeftUnsynced calls k) c) (omega (arith, had.1, had.2)) had.3)) left

-- since this moment nothing else is left, some of it for want of room
pub only_lost : (calls : List Call) (rows : List (List ℕ)) (pages : ℕ → List ℕ) (first : Image) (room used : ℕ) (lost : ℕ → Type 0) (c : Image)
    → PlanLeftSince calls rows pages first room used (used + 2) c
    ⊎ MayLeave (image_after calls rows pages first used) (λ k. IsLeftUnsynced calls used k ⊎ lost k) c
    → MayLeave (image_after calls rows pages first used) (λ k. IsLeftUnsynced calls used k ⊎ lost k) c
only_lost calls rows pages first room used lost c left = ⊎_elim
    (λ listed. record { kept = λ k. ⊎_elim (λ u. inl (inl u)) (λ e. inr e) ((only_present calls rows pages first room used c listed).kept k) })
    (λ may. may) left

-- one call more is listed, with its row where it has one
pub record Lists (calls calls' : List Call) (rows rows' : List (List ℕ)) (used used' : ℕ) (call : Call) (bytes : List ℕ) : Type 0 where
  pub more : used' ≡ suc used
  pub call_here : slice_get calls' used ≡ Some call
  pub row_here : call.kind ≡ 1 → row rows' used ≡ bytes
  pub calls_before : (k : ℕ) → k < used → slice_get calls' k ≡ slice_get calls k
  pub rows_before : (k : ℕ) → k < used → row rows' k ≡ row rows k

-- the call writes this page to the eight sectors from n on, and names where its bytes lie
pub record NamesPage (pages : ℕ → List ℕ) (first : Image) (n : ℕ) (page : List ℕ) (call : Call) : Type 0 where
  pub kind : (3 ≤ call.kind) × (call.kind ≤ 4)
  pub sector : call.sector ≡ n
  pub bytes : (i : ℕ) → i < 8 → page_bytes pages first call (n + i) ≡ part_of page i
