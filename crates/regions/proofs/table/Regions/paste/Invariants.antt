use Rattle.{std.proofs.Common.{◌≡◌, ◌≤◌, drop, length}, regions.{proofs.PasteLemmas.{Pending}, specs.RunList.{pasted}}}
use Rattle.regions.proofs.table.Regions.paste.Given as goal

-- the rest pasted behind what is there is what is to come
abbrev pub invariant-loop-run : goal.invariant-loop-run
invariant-loop-run g l = record {
  pending : Pending g.M.Levels.mode l.low l.self (drop l.run-index l.runs);
  few : length l.self ≤ 256;
  same : pasted l.low l.high l.prot l.self (drop l.run-index l.runs) ≡ pasted l.low l.high l.prot l.fn.self l.runs;
}
