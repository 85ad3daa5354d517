use Rattle.memory.proofs.{Names.{top_level, sym, subst, FrameTable, IsForest, IsRoot}, Keeping.{kept_by, no_more, pruned_leaf}, Noting.{noted_by, pruned_back}}
use Rattle.memory.proofs.trees.prune.Goals as goal

pub invariant_of-memory : goal.invariant_of-memory
invariant_of-memory g c =
    let t = c.memory.inside.frames in
    let root = c.args.root.0 in
    let b = c.memory.inside.buffer in
    let forest = subst (λ (x : FrameTable). IsForest x) (sym c.memory.view_is) c.requires.forest in
    let is_root = subst (λ (x : FrameTable). IsRoot (top_level g.M.Levels.mode) x root) (sym c.memory.view_is) c.requires.root in
    let t' = c.prune.new.frames in
    let prunes = c.prune.ensures.prunes in (
      kept_by g.M.Levels.mode t t' b b (no_more b) (pruned_leaf g.M.Levels.mode t t' root forest is_root c.args.page prunes) c.memory.invariant.0,
      noted_by g.M.Levels.mode t t' c.memory.inside.notes prunes.kept.frames (pruned_back g.M.Levels.mode t t' root forest is_root c.args.page prunes) c.memory.invariant.1,
      c.memory.invariant.2,
    )
