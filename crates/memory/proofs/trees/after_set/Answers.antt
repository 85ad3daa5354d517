use Rattle.memory.proofs.{Keeping.{fewer_page, kept_set}, Noting.{noted_set}}
use Rattle.memory.proofs.trees.after_set.Goals as goal

pub returns-clause-lines : goal.returns-clause-lines
returns-clause-lines c = λ mode t t' forest is_root sets kept.
    let b = c.args.buffer.now in
    let b' = c.drop_page.new.self in
    let gone = c.drop_page.ensures.dropped in
    kept_set mode t t' c.args.root.0 c.args.page _ b b' forest is_root sets gone (fewer_page b b' c.args.root.0 c.args.page gone c.drop_page.ensures.others) kept

pub returns-clause-notes : goal.returns-clause-notes
returns-clause-notes c = λ mode t t' forest is_root sets is.
    noted_set mode t t' c.args.root.0 c.args.page _ c.args.notes.now c.add.new.self forest is_root sets
    c.add.ensures.count c.add.ensures.whole c.add.ensures.added c.add.ensures.kept is
