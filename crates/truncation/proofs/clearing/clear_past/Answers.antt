use Rattle.std.proofs.Common.{arith}
use Rattle.residency.specs.Picture.{picture_of}
use Rattle.residency.proofs.Start.{entry-dead}
use Rattle.truncation.proofs.Cleared.{more-refl, more_then, bare_next, first_dead, all_cleared}
use Rattle.truncation.proofs.clearing.clear_past.Goals as goal

pub loop-number-init : goal.loop-number-init
loop-number-init g c = record {
  more = more-refl c.args.file c.args.length c.args.core.now c.requires;
  bare = λ q k h below is. entry-dead (picture_of c.args.core.now) q k (first_dead (picture_of c.args.core.now) c.requires q below);
}

pub loop-number-preserved : goal.loop-number-preserved
loop-number-preserved g c =
    let k = c.loop-number.invariant in
    let next = c.clear_number.ensures in
    record {
      more = more_then c.args.file c.args.length c.args.core.now c.loop-number.core c.clear_number.new.core k.more next.more;
      bare = bare_next c.args.file c.args.length (picture_of c.loop-number.core) (picture_of c.clear_number.new.core) c.loop-number.number next.more.some next.more.fit.granting k.bare next.bare;
    }

pub returns : goal.returns
returns g c = all_cleared c.args.file c.args.length c.args.core.now c.loop-number.core c.loop-number.invariant.more (λ q k h low is. c.loop-number.invariant.bare q k h (omega (arith, low, c.loop-number-test.false)) is)
