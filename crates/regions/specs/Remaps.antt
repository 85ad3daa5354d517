-- A map made out of another.
use Rattle.std.specs.Prelude.{ℕ, ◌≡◌, ◌<◌, ◌≤◌, List, Option, Result, OnOk, OnErr}
use Rattle.vm_types.specs.declared.region.Attr.{Attr}
use Rattle.vm_types.specs.Rows.{IsUserMap}
use Rattle.vm_types.specs.Runs.{run_count}
use Rattle.regions.specs.declared.run.Run.{Run}
use Rattle.regions.specs.RunList.{attr_at}

module _ {T E : Type 0} where
  -- A list of runs was to be made that stands for a map, out of the old list.
  pub record MakesMap (mode : ℕ) (old : List Run) (map : ℕ → Option Attr) (new : List Run) (result : Result T E) : Type 0 where
    -- It does, the map has at most 256 runs, and only user pages are mapped by it,
    pub ok : OnOk result ((page : ℕ) → attr_at new page ≡ map page)
    pub few : OnOk result (run_count mode map ≤ 256)
    pub user_after : OnOk result (IsUserMap mode (attr_at new))
    -- as they alone were before,
    pub user_before : IsUserMap mode (attr_at old)
    -- or else the map has more.
    pub too_many : OnErr result (256 < run_count mode map)
