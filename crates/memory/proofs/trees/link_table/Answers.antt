use Rattle.memory.proofs.{Names.{top_level, sym, subst, FrameTable, IsForest, IsRoot, IsSpare}, Keeping.{kept_by, linked_leaf, no_more}, Noting.{linked_back, noted_by}}
use Rattle.memory.proofs.trees.link_table.Goals as goal

pub invariant_of-memory : goal.invariant_of-memory
invariant_of-memory g c =
    let t = c.memory.inside.frames in
    let root = c.args.root.0 in
    let table = c.args.table.0 in
    let b = c.memory.inside.buffer in
    let forest = subst (λ (x : FrameTable). IsForest x) (sym c.memory.view_is) c.requires.forest in
    let is_root = subst (λ (x : FrameTable). IsRoot (top_level g.M.Levels.mode) x root) (sym c.memory.view_is) c.requires.root in
    let spare = subst (λ (x : FrameTable). IsSpare x table) (sym c.memory.view_is) c.requires.spare in
    let links = c.link_table.ensures.links in (
      kept_by g.M.Levels.mode t c.link_table.new.frames b b (no_more b)
          (linked_leaf g.M.Levels.mode t c.link_table.new.frames root forest is_root c.args.page table links spare c.requires.other) c.memory.invariant.0,
      noted_by g.M.Levels.mode t c.link_table.new.frames c.memory.inside.notes links.kept.frames
          (linked_back g.M.Levels.mode t c.link_table.new.frames root forest is_root c.args.page table links c.requires.other) c.memory.invariant.1,
      c.memory.invariant.2,
    )
