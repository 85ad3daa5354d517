-- What frames hold, and which pages have them.
use Rattle.std.specs.Prelude.{◌≡◌, ◌⊎◌, ℕ, ◌<◌, ◌≤◌, true}
use Rattle.vm_types.specs.Limits.{top_level}
use Rattle.frames.specs.declared.role.Role.TheVariants as Role
use Rattle.frames.specs.FrameTable.{IsFrame, count_of, role_of}
use Rattle.page_tables.specs.Tree.{IsPage}
use Rattle.page_cache.specs.declared.place.Place.TheVariants.{Frame}
use Rattle.residency.specs.declared.leaves.Change.TheVariants as Kinds
use Rattle.residency.specs.Leaves.{IsOver}
use Rattle.residency.specs.Parts.{IsFit}
use Rattle.residency.specs.Picture.{Picture, entry, is_data}
use Rattle.inspection.specs.declared.frame_views.FrameView.{FrameView}
use Rattle.inspection.specs.declared.frame_views.Holding.{Holding}
use Rattle.inspection.specs.declared.frame_views.Holding.TheVariants.{Nothing, Zeros, Table, Own, Page}
use Rattle.inspection.specs.declared.frame_views.Mapper.{Mapper}

-- what a frame holds: nothing, zeros, a table, the own copy of a page, or a page of a file or an object
module _ {mode : ℕ} where
  abbrev pub IsHolding : Picture mode → ℕ → Holding → Type 0
  IsHolding c n Nothing = role_of c.frames n ≡ Role.Free
  IsHolding c n Zeros = role_of c.frames n ≡ Role.Zero
  IsHolding c n Table = role_of c.frames n ≡ Role.Table
  IsHolding c n (Own page) = (role_of c.frames n ≡ Role.Private) × (c.page_of n ≡ page)
  IsHolding c n (Page p) = c.place p ≡ Frame (record { 0 = n })

-- Frame n as it is:
module _ {mode : ℕ} where
  pub record IsFrameView (c : Picture mode) (n : ℕ) (view : FrameView) : Type 0 where
    -- there is one, which holds this
    pub inside : IsFrame c.frames n
    pub holds : IsHolding c n view.holding
    -- for so many that share it.
    pub shares : view.shares ≡ count_of c.frames n

-- there is frame n, and it holds an own copy, or a page of a file or an object
module _ {mode : ℕ} where
  pub record HoldsData (c : Picture mode) (n : ℕ) : Type 0 where
    pub inside : IsFrame c.frames n
    pub kind : is_data (role_of c.frames n) ≡ true

-- memory is fit, and that frame of it holds an own copy, or a page of a file or an object
module _ {mode : ℕ} where
  pub record IsDataFrame (c : Picture mode) (n : ℕ) : Type 0 where
    pub fit : IsFit c
    pub holds : HoldsData c n
    pub open holds use *

-- page k of process p comes at or after page `page` of process `pid`
abbrev pub IsAtOrAfter : ℕ → ℕ → ℕ → ℕ → Type 0
IsAtOrAfter pid page p k = ((p ≡ pid) × (page ≤ k)) ⊎ (pid < p)

-- no page is over frame n from a page of a process on
module _ {mode : ℕ} where
  abbrev pub HasNoMapper : Picture mode → ℕ → ℕ → ℕ → Type 0
  HasNoMapper c n pid page = (p k : ℕ) → IsAtOrAfter pid page p k → IsPage (top_level mode) k → IsOver c Kinds.Forget n p k → ⊥

-- page k of process p comes before page `page` of process `pid`
abbrev pub IsBefore : ℕ → ℕ → ℕ → ℕ → Type 0
IsBefore pid page p k = (p < pid) ⊎ ((p ≡ pid) × (k < page))

-- Frame n holds an own copy, or a page of a file or an object, and this is the first page over it from a page of a process on, with its entry.
module _ {mode : ℕ} where
  pub record IsMapper (c : Picture mode) (n pid page : ℕ) (m : Mapper) : Type 0 where
    pub holds : HoldsData c n
    pub from : IsAtOrAfter pid page m.pid m.page
    pub over : IsOver c Kinds.Forget n m.pid m.page
    pub entry : m.entry.0 ≡ entry c m.pid m.page
    pub none_before : (p k : ℕ) → IsAtOrAfter pid page p k → IsBefore m.pid m.page p k → IsPage (top_level mode) k → IsOver c Kinds.Forget n p k → ⊥
