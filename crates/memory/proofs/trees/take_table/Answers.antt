use Rattle.memory.proofs.{Names.{top_level, FrameNo, NoFree, subst, Ok, Err, Result, IfOk, FrameTable, Table, AddsTable, Takes}, Keeping.{kept_taken}, Noting.{noted_taken}}
use Rattle.memory.proofs.trees.take_table.Goals as goal

each_ok : {P Q : FrameNo → Type 0} (r : Result FrameNo NoFree) → ((n : FrameNo) → P n → Q n) → IfOk r P → IfOk r Q
each_ok (Ok n) f is = f n is
each_ok (Err e) f is = tt

pub invariant_of-memory : goal.invariant_of-memory
invariant_of-memory g c =
    let mode = g.M.Levels.mode in
    let t = c.memory.inside.frames in
    let t' = c.take_table.new.frames in
    let taken : IfOk c.take_table.result (λ n. Takes t t' Table n.0) = each_ok c.take_table.result (λ n adds. (adds 0).takes) c.take_table.ensures.taken in (
      kept_taken mode t t' c.memory.inside.buffer Table c.take_table.result c.memory.invariant.0 taken c.take_table.ensures.err,
      noted_taken mode t t' c.memory.inside.notes Table c.take_table.result c.memory.invariant.1 taken c.take_table.ensures.err,
      c.memory.invariant.2,
    )

pub returns-clause-taken : goal.returns-clause-taken
returns-clause-taken g c =
    let T : FrameTable → Type 0 = λ x. IfOk c.take_table.result (λ n. AddsTable x c.take_table.new.frames (top_level g.M.Levels.mode) n.0) in
    subst T c.memory.view_is (each_ok c.take_table.result (λ n adds. adds (top_level g.M.Levels.mode)) c.take_table.ensures.taken)
