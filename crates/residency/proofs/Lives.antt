-- What is read of a process by its number.
use Rattle.vm_types.specs.declared.mode.Levels as Levels
use Rattle.residency.proofs.Names.{◌≡◌, ℕ, ◌<◌, List, [], Option, Some, None, get_or, sym, ap, ◌∙◌, arith, get_or_read, option_map, FrameNo, Run, attr_at}
use Rattle.residency.{specs.{declared.kernel.Core.{Core}, Picture.{picture_of, number_of_frame}}, proofs.LeafSteps.{map_of}}

module _ {M : Type 0} {m : Levels.Ghosts M} {D E : Type 0} (c : Core D E M m) (pid : ℕ) (number : pid < 65) where
  -- its root table
  module _ (r : Option FrameNo) (read : r ≡ get_or c.roots.items pid r) where
    at : get_or c.roots.items pid None ≡ r
    at = sym (get_or_read c.roots.items pid r (let count = c.root_count in omega (arith, number, count)) read None)

    pub dead_process : r ≡ None → (picture_of c).root pid ≡ None
    dead_process none = ap (λ x. option_map number_of_frame x) (at ∙ none)

    pub live_process : (root : FrameNo) → r ≡ Some root → (picture_of c).root pid ≡ Some root.0
    live_process root some = ap (λ x. option_map number_of_frame x) (at ∙ some)

  -- its regions
  pub map_read : (root : ℕ) (runs : List Run) → (picture_of c).root pid ≡ Some root → runs ≡ get_or c.regions.items pid runs → (page : ℕ) → (picture_of c).at pid page ≡ attr_at runs page
  map_read root runs live read = map_of c pid root runs live (sym (get_or_read c.regions.items pid runs (let count = c.region_count in omega (arith, number, count)) read []))
