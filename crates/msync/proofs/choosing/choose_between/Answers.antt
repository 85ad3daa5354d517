use Rattle.msync.{proofs.{Names.{◌≡◌, ◌-◌, ◌∙◌, refl, arith, attr_at, is_touched, on_err}, Walking.{fits_in_run, walk_start, walk_on, walk_over, walk_end}}, specs.{Choice.{of_files}, Judging.{is_resized_by}}}
use Rattle.msync.proofs.choosing.choose_between.Goals as goal

pub loop-page-init : goal.loop-page-init
loop-page-init g c = record {
  from = omega arith;
  to = c.requires.order;
  chosen = walk_start (of_files (is_touched c.args.core.now.cache)) (is_resized_by c.args.core.now) (attr_at c.args.regions.now) c.args.row.first c.args.lists.now.pages.items;
  next = record { room = omega arith; nodes = c.requires.ranks; ranked = λ i less. absurd (omega (arith, less)) };
  size = refl;
}

pub choose_behind-requires-clause-row : goal.choose_behind-requires-clause-row
choose_behind-requires-clause-row g c =
    let run = c.in-Some.run' in
    let stop = c.min-stop.result in
    let count : c.saturating_sub-pages.result ≡ stop - run.first = omega (arith, c.saturating_sub-pages.ensures) in
    rw count (fits_in_run g.M.Levels.mode (attr_at c.args.regions.now) c.loop-page.page stop run c.requires.pages.user c.in-Some.ensures.some (omega arith))

pub loop-page-preserved : goal.loop-page-preserved
loop-page-preserved g c =
    let touched = of_files (is_touched c.args.core.now.cache) in
    let resized = is_resized_by c.args.core.now in
    let map = attr_at c.args.regions.now in
    let run = c.in-Some.run' in
    let next = c.in-Some.ensures.some in
    let stop = c.min-stop.result in
    let count : c.saturating_sub-pages.result ≡ stop - run.first = omega (arith, c.saturating_sub-pages.ensures) in
    let step = rw count at c.in_ok-count.ensures.ok in
    record {
      from = omega (arith, next.from, next.nonempty);
      to = omega arith;
      chosen = walk_on g.M.Levels.mode touched resized map c.args.row.first c.loop-page.page stop run next c.loop-page.invariant.from (omega arith) c.args.lists.now.pages.items
          c.loop-page.lists.pages.items c.choose_behind.new.lists.pages.items c.loop-page.count c.in_ok-count.count (omega (arith, next.from, next.nonempty)) c.loop-page.invariant.chosen step;
      next = c.in_ok-count.ensures.next;
      size = c.in_ok-count.ensures.size ∙ c.loop-page.invariant.size;
    }

pub returns-in_default-clause-ok : goal.returns-in_default-clause-ok
returns-in_default-clause-ok g c =
    let map = attr_at c.args.regions.now in
    walk_end (of_files (is_touched c.args.core.now.cache)) (is_resized_by c.args.core.now) map c.args.row.first c.loop-page.page c.args.row.end c.args.lists.now.pages.items c.loop-page.lists.pages.items c.loop-page.count
    c.in_default.ensures.none c.loop-page.invariant.to c.loop-page.invariant.chosen

pub returns-in_err-count-clause-too_many : goal.returns-in_err-count-clause-too_many
returns-in_err-count-clause-too_many g c =
    let touched = of_files (is_touched c.args.core.now.cache) in
    let resized = is_resized_by c.args.core.now in
    let map = attr_at c.args.regions.now in
    let run = c.in-Some.run' in
    let next = c.in-Some.ensures.some in
    let stop = c.min-stop.result in
    let count : c.saturating_sub-pages.result ≡ stop - run.first = omega (arith, c.saturating_sub-pages.ensures) in
    let step = rw count at c.in_err-count.ensures.too_many in
    on_err c.from_residual.result
    (walk_over g.M.Levels.mode touched resized map c.args.row.first c.loop-page.page stop run next c.loop-page.invariant.from (omega arith) c.args.row.end c.args.lists.now.pages.items c.loop-page.lists.pages.items
    c.loop-page.count c.loop-page.invariant.to (omega arith) c.loop-page.invariant.chosen step)

pub returns-clause-ok : goal.returns-clause-ok
returns-clause-ok g c =
    let e : c.loop-page.page ≡ c.args.row.end = omega (arith, c.loop-page.invariant.to) in
    rw (← e) c.loop-page.invariant.chosen
