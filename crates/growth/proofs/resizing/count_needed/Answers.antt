use Rattle.std.proofs.Common.{◌≡◌, ◌<◌, get_or, length, arith, rules}
use Rattle.directories.proofs.Said.{no_extent}
use Rattle.growth.specs.Resizing.{homes_in_front}
use Rattle.growth.proofs.Resized.{one_more_in_front, needed_more}
use Rattle.growth.proofs.resizing.count_needed.Goals as goal

pub loop-i-preserved : goal.loop-i-preserved
loop-i-preserved c =
    let xs = c.args.extents.now in
    let i = c.loop-i.i in
    let inside : i < length xs = omega arith in
    let count : c.from.result ≡ (get_or xs i no_extent).count = search rules in
    let more = one_more_in_front xs i inside in
    let here : homes_in_front xs i < c.args.pages = omega (arith, c.loop-i.invariant.left, c.if-left-eq0.false) in
    record {
      left = omega (arith, c.loop-i.invariant.left, c.saturating_sub-left.ensures, count, more);
      needed = needed_more xs c.args.pages i c.loop-i.invariant.needed here;
    }
