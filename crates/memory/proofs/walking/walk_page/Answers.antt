use Rattle.memory.proofs.{Names.{top_level, sym, ap, ◌∙◌, FrameTable, translated}, Leaves.{coherent}, Keeping.{still_counted}}
use Rattle.memory.proofs.walking.walk_page.Goals as goal

pub returns-in-Some-clause-walked : goal.returns-in-Some-clause-walked
returns-in-Some-clause-walked g c addr at =
    let mode = g.M.Levels.mode in
    let t = c.memory.inside.frames in
    let is = c.in-Some.ensures.agrees mode t addr (coherent mode t c.memory.inside.buffer c.memory.invariant.0) at c.requires.user in
    ap (λ (x : FrameTable). translated (top_level mode) x c.args.root.0 addr c.args.access) (sym c.memory.view_is) ∙ is

pub invariant_of-memory-in-None : goal.invariant_of-memory-in-None
invariant_of-memory-in-None g c = (
  c.walk_way.ensures.kept,
  c.memory.invariant.1,
  still_counted c.memory.inside.buffer c.walk_way.new.buffer c.memory.invariant.2 (c.walk_way.ensures.unfound ∙ c.in-None.ensures.counts),
)
