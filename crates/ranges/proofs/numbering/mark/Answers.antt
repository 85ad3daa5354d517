use Rattle.ranges.proofs.{Marking.{all_more, only_more, next_over}, Names.{◌<◌, ◌∙◌, arith, attr_at, picture_of}}
use Rattle.ranges.proofs.numbering.mark.Goals as goal

pub loop-run-preserved : goal.loop-run-preserved
loop-run-preserved g c =
    let map = (picture_of c.args.core.now).at c.args.pid in
    let inv = c.loop-run.invariant in
    let marks = c.mark_backing.ensures.marks in
    let next = next_over g.M.Levels.mode (attr_at c.regions.result.now) map c.in-Some.run' c.loop-run.at c.regions.ensures c.in-Some.ensures.some in
    let before : c.in-Some.run'.first < c.args.end = omega (arith, c.if-run-end.false) in
    record {
      low = (let a = inv.low in let b = next.from in let d = next.nonempty in omega (arith, a, b, d));
      room = marks.room ∙ inv.room;
      kept = λ o e. marks.kept o (inv.kept o e);
      all = all_more g.M.Levels.mode map c.in-Some.run' c.args.from c.loop-run.at c.args.end c.args.used.now c.loop-run.used c.mark_backing.new.used inv.low next before inv.kept inv.all inv.only marks;
      only = only_more g.M.Levels.mode map c.in-Some.run' c.args.from c.loop-run.at c.args.end c.args.used.now c.loop-run.used c.mark_backing.new.used inv.low next before inv.kept inv.all inv.only marks;
    }
