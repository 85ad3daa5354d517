use Rattle.{std.proofs.Common.{◌+◌, ◌<◌, inl, inr, arith}, vm_types.specs.declared.file.FilePage.{FilePage}, page_cache.proofs.GatherLemmas.{node_inside, ranked_few, Overflows-full, GathersRow-full, IsPart-none, IsPart-skip, IsPart-pushed, row_more, row_touched, row_untouched}}
use Rattle.page_cache.proofs.cache.PageCache.gather_row.Goals.{in-Some+in_ok-n, in_default}
use Rattle.page_cache.proofs.cache.PageCache.gather_row.Goals as goal

pub loop-offset-preserved : goal.loop-offset-preserved
loop-offset-preserved c =
    let t = c.args.self.now in
    let k = c.loop-offset.offset in
    let file = c.args.row.first.file in
    let first = c.args.row.first.page in
    let count = c.args.row.count in
    let page : FilePage = record { file = file; page = first + k } in
    elim c.match-touched_node.branch [
      | in-Some+in_ok-n w ↦ rw (w.list-is, w.ranks-is, w.n-is) (IsPart-pushed t file first count c.args.used (λ p. p.page < first + k) (λ p. p.page < first + (k + 1))
          c.args.list.now c.loop-offset.list w.push_fresh.new.list c.loop-offset.ranks w.push_fresh.new.ranks c.loop-offset.n w.in_ok-n.n w.in-Some.node page
          c.loop-offset.invariant (row_more t file first count k) (row_touched t file first count k w.in-Some.ensures.touched.touched (omega arith))
          w.in-Some.ensures.touched.first w.in_ok-n.ensures.pushed)
      | in_default w ↦ rw (w.list-is, w.ranks-is, w.n-is) (IsPart-skip t file first count c.args.used (λ p. p.page < first + k) (λ p. p.page < first + (k + 1))
          c.args.list.now c.loop-offset.list c.loop-offset.ranks c.loop-offset.n c.loop-offset.invariant (λ p in_row below. elim (row_more t file first count k p in_row below) [
            | inl seen ↦ inl seen
            | inr e ↦ absurd (row_untouched t file first count k w.in_default.ensures.untouched p in_row e)
          ]))
    ]

pub loop-offset-init : goal.loop-offset-init
loop-offset-init c = IsPart-none c.args.self.now c.args.row.first.file c.args.row.first.page c.args.row.count c.args.used _ c.args.list.now c.args.ranks.now c.requires.gathering (λ p in_row below. omega (arith, in_row.row.1))

pub push_fresh-requires-clause-node : goal.push_fresh-requires-clause-node
push_fresh-requires-clause-node c =
    let t = c.args.self.now in
    let page : FilePage = record { file = c.args.row.first.file; page = c.args.row.first.page + c.loop-offset.offset } in
    node_inside t c.loop-offset.ranks page c.in-Some.node c.in-Some.ensures.touched.first c.loop-offset.invariant.gathers.next.nodes

pub push_fresh-requires-clause-few : goal.push_fresh-requires-clause-few
push_fresh-requires-clause-few c =
    let few = ranked_few c.args.self.now c.loop-offset.list c.loop-offset.ranks c.loop-offset.n c.loop-offset.invariant.gathers.next.ranked in
    omega (arith, few, c.touched_node.ensures.sound.most_frames, c.touched_node.ensures.sound.most_slots)

pub returns-in_err-n : goal.returns-in_err-n
returns-in_err-n c =
    let t = c.args.self.now in
    let file = c.args.row.first.file in
    let first = c.args.row.first.page in
    let count = c.args.row.count in
    let k = c.loop-offset.offset in
    let page : FilePage = record { file = file; page = first + k } in
    rw (c.in_err-n.ensures.err.0, c.in_err-n.ensures.err.1)
    (GathersRow-full t file first count c.args.used c.args.list.now c.loop-offset.list c.loop-offset.ranks c.from_residual.result c.from_residual.ensures.0
    (Overflows-full t file first count c.args.used (λ p. p.page < first + k) c.args.list.now c.loop-offset.list c.loop-offset.ranks c.loop-offset.n c.in-Some.node page
    c.loop-offset.invariant (row_touched t file first count k c.in-Some.ensures.touched.touched (omega arith)) c.in-Some.ensures.touched.first c.in_err-n.ensures.fresh c.in_err-n.ensures.full))
