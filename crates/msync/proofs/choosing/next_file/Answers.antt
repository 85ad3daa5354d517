use Rattle.msync.{proofs.{Names.{◌≡◌, ◌-◌, arith, attr_at}, Listing.{next_none, next_on, next_end}}, specs.Judging.{is_resized_by}}
use Rattle.msync.proofs.choosing.next_file.Goals as goal

pub loop-page-init : goal.loop-page-init
loop-page-init g c = record {
  from = omega arith;
  to = c.requires;
  next = next_none (is_resized_by c.args.core.now) (attr_at c.args.regions.now) c.args.row.first c.args.from;
}

pub returns-in_default : goal.returns-in_default
returns-in_default g c =
    next_end (is_resized_by c.args.core.now) (attr_at c.args.regions.now) c.args.row.first c.loop-page.page c.args.row.end c.args.from c.loop-page.least
    c.in_default.ensures.none c.loop-page.invariant.to c.loop-page.invariant.next

pub loop-page-preserved : goal.loop-page-preserved
loop-page-preserved g c =
    let resized = is_resized_by c.args.core.now in
    let map = attr_at c.args.regions.now in
    let run = c.in-Some.run' in
    let next = c.in-Some.ensures.some in
    let stop = c.min-stop.result in
    let count : c.saturating_sub-pages.result ≡ stop - run.first = omega (arith, c.saturating_sub-pages.ensures) in
    let step = rw count at c.lesser-least.ensures in
    record {
      from = omega (arith, next.from, next.nonempty);
      to = omega arith;
      next = next_on g.M.Levels.mode resized map c.args.row.first c.loop-page.page stop run next c.loop-page.invariant.from (omega arith) c.args.from c.lesser-least.result
          (omega (arith, next.from, next.nonempty)) (step _ c.loop-page.invariant.next);
    }
