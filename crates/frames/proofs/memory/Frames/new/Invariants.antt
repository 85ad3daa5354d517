use Rattle.frames.specs.{Chain.{IsAllTables}, FrameTable.{IsSound}}
use Rattle.frames.proofs.memory.Frames.new.Given as goal

-- the frames from n on are free
abbrev pub invariant-loop-n : goal.invariant-loop-n
invariant-loop-n l = record {
  made : IsAllTables l.frames l.count 1 l.n;
  sound : IsSound l.frames;
}
