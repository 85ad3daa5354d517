use Rattle.std.{proofs.Common.{◌≤◌, length, take}, specs.Io.KnownBytes.{Appends}}
use Rattle.runner.proofs.output_buffer.write_bytes.Given as goal

abbrev pub invariant-loop-i : goal.invariant-loop-i
invariant-loop-i g l = record { in_range : l.at ≤ length l.bytes; taken : Appends (g.W.Write.contents l.initial.writer) (g.W.Write.contents l.writer) (take l.at l.bytes) }
