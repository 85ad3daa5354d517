use Rattle.std.{proofs.Common.{◌≡◌, ◌<◌, length, take}, specs.Io.KnownBytes.{Consumes}}
use Rattle.serving.proofs.reading.read_request.Given as goal

abbrev pub invariant-loop-i : goal.invariant-loop-i
invariant-loop-i g l = record {
  short : l.at < 72;
  size : length l.bytes ≡ 72;
  taken : Consumes (g.R.Read.remaining l.initial.reader) (g.R.Read.remaining l.reader) (take l.at l.bytes);
}
