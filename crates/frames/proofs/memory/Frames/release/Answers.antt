use Rattle.{std.proofs.{Common.{rules, ◌-◌, ◌<◌, arith, length, get_or-set_same, sym, ◌∙◌}, lemmas.List.{get_or_read}}, frames.{proofs.Calls.{freed, alone_count}, specs.{FrameTable.{role_of}, Inside.{table_of}}}}
use Rattle.frames.proofs.memory.Frames.release.Goals as goal

pub invariant_of-self : goal.invariant_of-self
invariant_of-self c =
    let held = rw (← c.self.view_is) at c.requires in
    let inside : c.args.n.0 < length c.self.inside.counts.items = rw c.self.invariant.0.all_counts held.inside in
    let read = c.index.ensures ∙ get_or-set_same c.self.inside.counts.items c.args.n.0 (c.index_mut.result.now - 1) c.index.result.now inside in
    freed (table_of c.self.inside) c.args.n.0 c.self.inside.first_free _ c.write_u32.new.buf (c.index_mut.result.now - 1) held (sym read ∙ c.if-index-eq0.true) (search rules) c.write_u32.ensures c.self.invariant

pub returns-else-index-eq0-clause-alone : goal.returns-else-index-eq0-clause-alone
returns-else-index-eq0-clause-alone c =
    let held = rw (← c.self.view_is) at c.requires in
    let inside : c.args.n.0 < length c.self.inside.counts.items = rw c.self.invariant.0.all_counts held.inside in
    let read = c.index.ensures ∙ get_or-set_same c.self.inside.counts.items c.args.n.0 (c.index_mut.result.now - 1) c.index.result.now inside in
    let before = get_or_read c.self.inside.counts.items c.args.n.0 c.index_mut.result.now inside c.index_mut.ensures.value 0 in
    let was = c.self.invariant.0.counted c.args.n.0 held.inside in
    rw (← c.self.view_is) (λ other.
    let one = alone_count (role_of (table_of c.self.inside) c.args.n.0) _ held.handed_out other was in
    absurd (c.if-index-eq0.false (omega (arith, read, before, one))))
