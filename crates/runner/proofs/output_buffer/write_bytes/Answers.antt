use Rattle.{std.proofs.{Common.{arith}, KnownBytes.{Appends-kept}, lemmas.List.{take_rest}}, runner.proofs.Bytes.{taken_more, taken_beginning}}
use Rattle.runner.proofs.output_buffer.write_bytes.Goals as goal

pub returns : goal.returns
returns g c = taken_beginning _ _ c.args.bytes.now c.loop-i.at c.loop-i.invariant.taken

pub returns-in-Err : goal.returns-in-Err
returns-in-Err g c = taken_beginning _ _ c.args.bytes.now c.loop-i.at (Appends-kept _ _ _ _ c.loop-i.invariant.taken c.in-Err.ensures.taken)

pub loop-i-preserved : goal.loop-i-preserved
loop-i-preserved g c = record {
  in_range = omega (arith, c.in-Ok.ensures.bound);
  taken = taken_more _ _ _ c.args.bytes.now c.loop-i.at c.in-Ok.n c.loop-i.invariant.taken (rw (take_rest c.args.bytes.now c.loop-i.at) at c.in-Ok.ensures.taken);
}
