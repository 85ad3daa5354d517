use Rattle.{std.proofs.Common.{◌≡◌, ◌/◌, ◌≤◌, true, refl, eq-eqb, ne_eqb, sym, ◌∙◌, arith}, vm_types.specs.Placement.{is_place, lowest_place, placed}, regions.proofs.SearchLemmas.{IsPlace, is_place-is, lowest_place-gap, placed-is}}
use Rattle.regions.{proofs.{SearchLemmas.{some_from}, table.Regions.place.Goals.{else-address-ne0-via-then-address-ne0+else-is_place, else-address-ne0-via-else-address-ne0}}, specs.RunList.{attr_at}}
use Rattle.regions.proofs.table.Regions.place.Goals as goal

pub returns-then-is_place : goal.returns-then-is_place
returns-then-is_place g c =
    let e : is_place g.M.Levels.mode (attr_at c.args.self.now) c.args.pages (c.args.address / 4096) ≡ true = sym c.is_place.ensures ∙ c.if-is_place.true in
    let place : IsPlace g.M.Levels.mode (attr_at c.args.self.now) c.args.pages (c.args.address / 4096) = is_place-is g.M.Levels.mode (attr_at c.args.self.now) c.args.pages (c.args.address / 4096) e in
    let low : 16 ≤ c.args.address / 4096 = place.low in
    some_from c.new.result (c.args.address / 4096) c.new.ensures.found (c.new.ensures.known.1 (low, omega arith))
    ∙ sym (placed-is g.M.Levels.mode (attr_at c.args.self.now) c.args.address c.args.pages _ _ (ne_eqb c.args.address 0 c.if-address-ne0.true) e)

pub returns : goal.returns
returns g c =
    let gap : placed g.M.Levels.mode (attr_at c.args.self.now) c.args.address c.args.pages ≡ lowest_place g.M.Levels.mode (attr_at c.args.self.now) c.args.pages =
    elim c.else-address-ne0.branch [
      | else-address-ne0-via-then-address-ne0+else-is_place w ↦
          placed-is g.M.Levels.mode (attr_at c.args.self.now) c.args.address c.args.pages _ _ (ne_eqb c.args.address 0 w.if-address-ne0.true) (sym w.is_place.ensures ∙ w.if-is_place.false)
      | else-address-ne0-via-else-address-ne0 w ↦
          placed-is g.M.Levels.mode (attr_at c.args.self.now) c.args.address c.args.pages _ _ (eq-eqb c.args.address 0 w.if-address-ne0.false) refl
    ] in
    c.lowest_gap.ensures.found
    ∙ sym (lowest_place-gap g.M.Levels.mode c.args.self.now c.args.pages c.lowest_gap.ensures.maximal c.requires)
    ∙ sym gap
