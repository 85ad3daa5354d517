use Rattle.std.proofs.Common.{◌≡◌, ◌<◌, ◌+◌, ◌∙◌, length, take, ap, sym, refl, List, arith, length-set}
use Rattle.directories.specs.Homes.{extents_of}
use Rattle.directories.specs.declared.entry.Extent.{Extent}
use Rattle.growth.proofs.Widened.{extents_more}
use Rattle.growth.proofs.widening.with_extent.Goals as goal

pub returns : goal.returns
returns c =
    let e = c.args.entry.now in
    let long : length c.extents-place.result.now ≡ length (extents_of e) = ap (λ (xs : List Extent). length xs) c.extents-place.ensures.extents in
    let few : length (extents_of e) < 30 = c.requires in
    let whole : length e.extents ≡ 30 = sym (length-set e.extents (length c.extents-place.result.now) c.args.extent) ∙ ap (λ (xs : List Extent). length xs) (sym c.put_extent.ensures.extent) ∙ c.put_extent.ensures.all in
    record {
      read_only = refl;
      bytes = refl;
      count = omega (arith, long);
      extents = ap (λ (xs : List Extent). take (length c.extents-place.result.now + 1) xs) c.put_extent.ensures.extent ∙ extents_more e.extents e.extent_count (length c.extents-place.result.now) c.args.extent long (omega (arith, long, few, whole));
    }
