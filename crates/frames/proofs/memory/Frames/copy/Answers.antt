use Rattle.{std.{proofs.Common.{◌≡◌, ◌+◌, ◌-◌, get_or, [], arith, sym, ◌∙◌}, specs.Prelude.{slice_set}}, frames.{proofs.{Calls.{written}, FrameLemmas.{copied_item}}, specs.Inside.{table_of}}}
use Rattle.frames.proofs.memory.Frames.copy.Goals as goal

copied : (c : goal.After-copy_within) → c.copy_within.new.self.items ≡ slice_set c.self.inside.bytes.items c.args.to.0 (get_or c.self.inside.bytes.items c.args.from.0 [])
copied c =
    let source = rw (← c.self.view_is) at c.requires.source in
    let target = rw (← c.self.view_is) at c.requires.target in
    copied_item c.self.inside.bytes.items c.copy_within.new.self.items c.args.from.0 c.args.to.0 (c.args.from.0 + 1 - c.args.from.0) (omega arith)
    source target.inside (sym c.copy_within.new.self.ok.0 ∙ c.copy_within.ensures.len ∙ c.self.inside.bytes.ok.0) c.copy_within.ensures.by_index.0 c.copy_within.ensures.by_index.1 c.copy_within.ensures.by_index.2

pub invariant_of-self : goal.invariant_of-self
invariant_of-self c =
    let target = rw (← c.self.view_is) at c.requires.target in
    rw (copied c) (written (table_of c.self.inside) c.args.to.0 c.self.inside.first_free (get_or c.self.inside.bytes.items c.args.from.0 []) target c.self.invariant)

pub returns-clause-copied : goal.returns-clause-copied
returns-clause-copied c = rw (← c.self.view_is, copied c)
