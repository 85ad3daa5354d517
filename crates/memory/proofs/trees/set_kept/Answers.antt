use Rattle.memory.proofs.{Names.{◌≡◌, ◌/◌, ◌%◌, sym, ap, subst, top_level, FrameTable, IsForest, IsRoot, IsTableOf, number_of, SetsEntry}, Leaves.{is_page}, Keeping.{still_counted}, Noting.{noted_set}}
use Rattle.memory.proofs.trees.set_kept.Goals as goal

pub invariant_of-memory : goal.invariant_of-memory
invariant_of-memory g c =
    let mode = g.M.Levels.mode in
    let t = c.memory.inside.frames in
    let t' = c.set_in.new.frames in
    let root = c.args.root.0 in
    let page = c.args.page in
    let forest = subst (λ (x : FrameTable). IsForest x) (sym c.memory.view_is) c.requires.forest in
    let is_root = subst (λ (x : FrameTable). IsRoot (top_level mode) x root) (sym c.memory.view_is) c.requires.root in
    let row = subst (λ (x : FrameTable). IsTableOf x (top_level mode) root (page / 512) c.args.table.0) (sym c.memory.view_is) c.requires.table in
    let at : page % 512 ≡ c.get-place.result % 512 = ap (λ n. n % 512) (sym c.get-place.ensures.number) in
    let sets = c.set_in.ensures.sets (top_level mode) root page is_root (is_page mode page c.requires.user) row at in (
      c.keep_entry.ensures.lines t forest is_root sets c.memory.invariant.0,
      noted_set mode t t' root page _ c.memory.inside.notes c.add.new.self forest is_root sets c.add.ensures.count c.add.ensures.whole c.add.ensures.added c.add.ensures.kept c.memory.invariant.1,
      still_counted c.memory.inside.buffer c.keep_entry.new.buffer c.memory.invariant.2 c.keep_entry.ensures.unfound,
    )

pub returns-clause-sets : goal.returns-clause-sets
returns-clause-sets g c =
    let new = c.set_in.new.frames in
    let top = top_level g.M.Levels.mode in
    let root = c.args.root.0 in
    let page = c.args.page in
    let is_root = subst (λ (x : FrameTable). IsRoot top x root) (sym c.memory.view_is) c.requires.root in
    let row = subst (λ (x : FrameTable). IsTableOf x top root (page / 512) c.args.table.0) (sym c.memory.view_is) c.requires.table in
    let at : page % 512 ≡ c.get-place.result % 512 = ap (λ n. n % 512) (sym c.get-place.ensures.number) in
    subst (λ (x : FrameTable). SetsEntry x new top root page (number_of c.args.entry)) c.memory.view_is
    (c.set_in.ensures.sets top root page is_root (is_page g.M.Levels.mode page c.requires.user) row at)
