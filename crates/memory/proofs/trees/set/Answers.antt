use Rattle.memory.proofs.{Names.{sym, subst, top_level, FrameTable, IsForest, IsRoot}, Keeping.{still_counted}}
use Rattle.memory.proofs.trees.set.Goals as goal

pub invariant_of-memory : goal.invariant_of-memory
invariant_of-memory g c =
    let mode = g.M.Levels.mode in
    let t = c.memory.inside.frames in
    let forest = subst (λ (x : FrameTable). IsForest x) (sym c.memory.view_is) c.requires.forest in
    let is_root = subst (λ (x : FrameTable). IsRoot (top_level mode) x c.args.root.0) (sym c.memory.view_is) c.requires.root in
    let sets = c.set.ensures.sets in (
      c.after_set.ensures.lines mode t c.set.new.frames forest is_root sets c.memory.invariant.0,
      c.after_set.ensures.notes mode t c.set.new.frames forest is_root sets c.memory.invariant.1,
      still_counted c.memory.inside.buffer c.after_set.new.buffer c.memory.invariant.2 c.after_set.ensures.unfound,
    )
