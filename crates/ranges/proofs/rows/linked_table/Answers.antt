use Rattle.ranges.proofs.Names.{top_level, sizes, ◌≡◌, ℕ, ◌+◌, ◌-◌, ◌*◌, ◌/◌, ◌^◌, ◌<◌, arith, rules, min, span_positive}
use Rattle.ranges.proofs.Gaps.{table_at}
use Rattle.ranges.proofs.Linked.{past_place, own_past, next_fits, last_below, search_one_table, passed_missing, stops_past}
use Rattle.ranges.proofs.rows.linked_table.Goals as goal

pub overflow_add-level : goal.overflow_add-level
overflow_add-level g c = let levels = (sizes g.M.Levels.mode).levels.1 in omega (arith, c.last_table-level.ensures.range, levels)

pub span_end-requires : goal.span_end-requires
span_end-requires g c = let levels = (sizes g.M.Levels.mode).levels.1 in omega (arith, c.last_table-level.ensures.range, levels)

pub overflow_sub-last : goal.overflow_sub-last
overflow_sub-last g c = omega (arith, own_past c.args.page c.span_end.result (c.last_table-level.result.0 + 1) c.span_end.ensures, c.requires.row.some, c.min-last.ensures)

pub entry_pages-span-requires : goal.entry_pages-span-requires
entry_pages-span-requires g c = let levels = (sizes g.M.Levels.mode).levels.1 in omega (arith, c.last_table-level.ensures.range, levels)

pub nonzero_div-get : goal.nonzero_div-get
nonzero_div-get g c = let some = span_positive c.last_table-level.result.0 in omega (arith, some, c.entry_pages-span.ensures)

pub nonzero_div-last : goal.nonzero_div-last
nonzero_div-last g c = let some = span_positive c.last_table-level.result.0 in omega (arith, some, c.entry_pages-span.ensures)

-- the last page that is looked at is the one before the nearer end
last_is : (page end own least last k : ℕ) → page < end → own ≡ (page / 512 ^ k + 1) * 512 ^ k → least ≡ min end own → last ≡ least - 1 → last + 1 ≡ min end own
last_is page end own least last k some is_own is at = let past = own_past page own k is_own in omega (arith, past, some, is, at)

pub next_set-requires-clause-one_table : goal.next_set-requires-clause-one_table
next_set-requires-clause-one_table g c =
    let k = c.last_table-level.result.0 in
    let last = c.min-last.result - 1 in
    let is = last_is c.args.page c.args.end c.span_end.result c.min-last.result last (k + 1) c.requires.row.some c.span_end.ensures c.min-last.ensures (omega arith) in
    rw (c.entry_pages-span.ensures, c.get.ensures.number) (search_one_table c.args.page c.args.end c.span_end.result last k c.requires.row.some c.span_end.ensures is)

pub overflow_mul-result : goal.overflow_mul-result
overflow_mul-result g c =
    let k = c.last_table-level.result.0 in
    let last = c.min-last.result - 1 in
    let levels = (sizes g.M.Levels.mode).levels.1 in
    let most = (sizes g.M.Levels.mode).most in
    let is = last_is c.args.page c.args.end c.span_end.result c.min-last.result last (k + 1) c.requires.row.some c.span_end.ensures c.min-last.ensures (omega arith) in
    let below = last_below c.args.page c.args.end c.span_end.result last k c.requires.row.some c.span_end.ensures is in
    let small = next_fits last c.next_set.result k (omega (arith, c.last_table-level.ensures.range, levels)) (omega (arith, below, c.requires.row.high, most))
    (rw c.entry_pages-span.ensures at c.next_set.ensures.within) in
    rw c.entry_pages-span.ensures (omega (arith, small))

pub returns-then-level-eq0 : goal.returns-then-level-eq0
returns-then-level-eq0 g c =
    record {
      linked = table_at c.args.memory.now (top_level g.M.Levels.mode) c.args.root.0 c.args.page c.last_table-level.result.1.0 c.last_table-level.result.0 c.last_table-level.ensures.last
          c.if-level-eq0.true c.last_table-level.ensures.table;
      further = search rules;
      passed = search rules;
      stops = search rules;
    }

pub returns : goal.returns
returns g c =
    let k = c.last_table-level.result.0 in
    let last = c.min-last.result - 1 in
    let is = last_is c.args.page c.args.end c.span_end.result c.min-last.result last (k + 1) c.requires.row.some c.span_end.ensures c.min-last.ensures (omega arith) in
    record {
      linked = search rules;
      further = rw c.entry_pages-span.ensures (past_place c.args.page c.next_set.result c.last_table-level.result.0 (rw (c.entry_pages-span.ensures, c.get.ensures.number) at c.next_set.ensures.from));
      passed = rw c.entry_pages-span.ensures (passed_missing c.args.page c.args.end c.span_end.result last k c.requires.row.some c.span_end.ensures is
          g.M.Levels.mode c.args.memory.now c.args.root.0 c.last_table-level.result.1.0 c.next_set.result c.last_table-level.ensures.last (omega (arith, c.if-level-eq0.false))
          (rw (c.entry_pages-span.ensures, c.get.ensures.number) at c.next_set.ensures.from) (rw c.entry_pages-span.ensures at c.next_set.ensures.within)
          (rw (c.entry_pages-span.ensures, c.get.ensures.number) at c.next_set.ensures.passed));
      stops = rw c.entry_pages-span.ensures (stops_past c.args.page c.args.end c.span_end.result last k c.requires.row.some c.span_end.ensures is
          g.M.Levels.mode c.args.memory.now c.args.root.0 c.last_table-level.result.1.0 c.next_set.result c.last_table-level.ensures.last (omega (arith, c.if-level-eq0.false))
          (rw (c.entry_pages-span.ensures, c.get.ensures.number) at c.next_set.ensures.from) (rw c.entry_pages-span.ensures at c.next_set.ensures.within)
          c.requires.root (rw c.entry_pages-span.ensures at c.next_set.ensures.found));
    }
