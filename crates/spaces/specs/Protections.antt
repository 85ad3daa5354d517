-- The checks of an mprotect of a row of pages, over the pages of a process.
use Rattle.std.specs.Prelude.{ℕ, ◌≤◌, ◌≡◌, not, nat_lt, List, [], ◌∷◌, ◌+◌, Option, None}
use Rattle.vm_types.specs.Limits.{user_end}
use Rattle.regions.specs.declared.run.Run.{Run}
use Rattle.regions.specs.RunList.{attr_at}
use Rattle.vm_types.specs.declared.permission.Prot.{Prot}
use Rattle.vm_types.specs.declared.refusal.Errno.TheVariants.{ENOMEM, EACCES}
use Rattle.vm_types.specs.Checks.{Check, first_of}
use Rattle.vm_types.specs.Files.{Files}
use Rattle.vm_types.specs.Permission.{kept}
use Rattle.vm_types.specs.Ranges.{denies_stores}
use Rattle.vm_types.specs.Rows.{is_covered, protected}
use Rattle.vm_types.specs.Runs.{run_count}
use Rattle.vm_types.specs.View.{View, attrs_of}
use Rattle.spaces.specs.Space.{space_of}

module _ (mode : ℕ) where
  abbrev pub permit_checks : Files → (ℕ → Option View) → ℕ → ℕ → Prot → List Check
  permit_checks files space first pages prot =
      (not (is_covered (attrs_of space) first pages), ENOMEM)
      ∷ (denies_stores files space first pages prot, EACCES)
      ∷ (nat_lt 256 (run_count mode (protected (attrs_of space) first pages (kept prot))), ENOMEM)
      ∷ []

-- A permission that is not refused: the row lies in the user pages, and these are the runs of the process with it.
module _ (mode : ℕ) where
  pub record IsPermitted (files : Files) (runs : List Run) (first pages : ℕ) (prot : Prot) (next : List Run) : Type 0 where
    pub fine : first_of (permit_checks mode files (space_of runs) first pages prot) ≡ None
    pub high : first + pages ≤ user_end mode
    pub map : (page : ℕ) → attr_at next page ≡ protected (attr_at runs) first pages (kept prot) page
