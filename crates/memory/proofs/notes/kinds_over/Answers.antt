use Rattle.memory.{specs.{declared.notes.Note.{Note}, Notes.{HasKind, NamesFrame, no_note}}, proofs.Names.{◌<◌, ◌%◌, sym, subst, arith, length, get_or_read, bit_at_ones, FrameTable, frame_count}}
use Rattle.memory.proofs.notes.kinds_over.Goals as goal

pub returns-then-memory : goal.returns-then-memory
returns-then-memory g c = λ root page names.
    let t = c.memory.inside.frames in
    let n = c.args.frame.0 in
    let items = c.memory.inside.notes.each.items in
    let inside : n < frame_count t = subst (λ (x : FrameTable). n < frame_count x) (sym c.memory.view_is) c.requires in
    let below : n < length items = (let a = c.memory.invariant.1.count in omega (arith, a, inside)) in
    let covers = c.memory.invariant.1.covers c.if-memory.true root page n (subst (λ (x : FrameTable). NamesFrame g.M.Levels.mode x root page n) (sym c.memory.view_is) names) inside in
    subst (λ (x : Note). HasKind x.kinds root) (sym (get_or_read items n _ below c.index.ensures no_note)) covers.kind

pub returns-else-memory : goal.returns-else-memory
returns-else-memory g c = λ root page names. bit_at_ones 64 (root % 64) (omega arith)
