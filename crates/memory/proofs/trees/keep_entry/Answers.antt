use Rattle.memory.proofs.{Names.{ap, ◌∙◌, ℕ, subst, arith, top_level, IsEntry, number_of, SetsEntry}, Leaves.{of_entry}, Keeping.{fewer_page, kept_new, kept_set}}
use Rattle.memory.proofs.trees.keep_entry.Goals as goal

pub returns-in-Leaf-clause-lines : goal.returns-in-Leaf-clause-lines
returns-in-Leaf-clause-lines g c = λ before forest is_root sets kept.
    let mode = g.M.Levels.mode in
    let t = c.args.frames.now in
    let leaf = c.in-Leaf.leaf.0 in
    let is = ap number_of c.in-Leaf.is in
    let S : ℕ → Type 0 = λ n. SetsEntry before t (top_level mode) c.args.root.0 c.args.page n in
    let is_leaf = of_entry mode t c.args.root.0 c.args.page leaf sets.forest sets.stays c.requires.user (sets.changed ∙ is) (subst IsEntry c.in-Leaf.is c.requires.form).0
    (omega (arith, c.frame.ensures.frame, c.from.ensures, c.len.ensures.count, c.if-frame-from.true)) in
    kept_new mode before t c.args.buffer.now c.keep.new.self c.args.root.0 c.args.page leaf forest is_root (subst S is sets) is_leaf
    c.keep.ensures.kept c.keep.ensures.replaced c.keep.ensures.others kept

pub returns-in_default-clause-lines : goal.returns-in_default-clause-lines
returns-in_default-clause-lines g c = λ before forest is_root sets kept.
    let b = c.args.buffer.now in
    let b' = c.drop_page.new.self in
    let gone = c.drop_page.ensures.dropped in
    kept_set g.M.Levels.mode before c.args.frames.now c.args.root.0 c.args.page _ b b' forest is_root sets gone (fewer_page b b' c.args.root.0 c.args.page gone c.drop_page.ensures.others) kept
