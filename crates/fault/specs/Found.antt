-- What an access finds before anything changes.
use Rattle.std.specs.Prelude.{◌≡◌, ◌≢◌, ℕ, ◌/◌, true, false, Some, Ok, IfSome}
use Rattle.vm_types.specs.Limits.{top_level, table_entries}
use Rattle.vm_types.specs.declared.access.Access.{Access}
use Rattle.vm_types.specs.declared.region.Attr.{Attr}
use Rattle.vm_types.specs.declared.width.Width.{Width}
use Rattle.vm_types.specs.Verdict.{Fine, Faults, lets, is_past_end}
use Rattle.vm_types.specs.declared.number.Phys.{Phys}
use Rattle.sv39_walk.specs.Walk.{translated}
use Rattle.page_tables.specs.Places.{IsTableOf}
use Rattle.residency.specs.Picture.{Picture}
use Rattle.fault.specs.declared.finding.Finding.{Finding}
use Rattle.fault.specs.declared.finding.Way.{Way}
use Rattle.fault.specs.Outcome.{verdict_of, seen_at, IsPlaced, Grants}

-- a mapped page that lets the access
module _ {mode : ℕ} where
  pub record IsOpenTo (c : Picture mode) (pid page : ℕ) (access : Access) (attr : Attr) : Type 0 where
    pub mapped : c.at pid page ≡ Some attr
    pub lets : lets access attr.prot ≡ true
    pub inside : is_past_end c.files attr.backing ≡ false

-- the root of a process, and the lowest table on the way to the page, if one is named
module _ {mode : ℕ} where
  pub record IsWayTo (c : Picture mode) (pid : ℕ) (way : Way) : Type 0 where
    pub root : c.root pid ≡ Some way.root.0
    pub table : IfSome way.table (λ n. IsTableOf c.frames (top_level mode) way.root.0 (way.page / table_entries) n.0)

-- the walk from the process's root returns no place
module _ {mode : ℕ} where
  abbrev pub IsUnwalked : Picture mode → ℕ → ℕ → Access → Type 0
  IsUnwalked c pid addr access = (root : ℕ) (phys : Phys) → c.root pid ≡ Some root → translated (top_level mode) c.frames root addr access ≢ Ok phys

-- the page of an access that is fine, and that the tables don't grant, and the way to it
module _ {mode : ℕ} where
  pub record IsFineAt (c : Picture mode) (pid addr : ℕ) (width : Width) (access : Access) (attr : Attr) (way : Way) : Type 0 where
    pub page_is : way.page ≡ addr / 4096
    pub allowed : IsOpenTo c pid way.page access attr
    pub fine : verdict_of c pid addr width access ≡ Fine (seen_at c pid way.page attr)
    pub unwalked : IsUnwalked c pid addr access
    pub walked : IsWayTo c pid way

module _ {mode : ℕ} where
  abbrev pub FindsPlace : Picture mode → ℕ → ℕ → Width → Access → Finding → Type 0
  FindsPlace c pid addr width access (Finding.Place phys) = IsPlaced c c pid addr width access phys × Grants c c pid addr width access phys
  FindsPlace c pid addr width access (Finding.Page attr way) = IsFineAt c pid addr width access attr way
  FindsPlace c pid addr width access (Finding.Fault code) = verdict_of c pid addr width access ≡ Faults code
