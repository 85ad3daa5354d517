use Rattle.{file_store.{proofs.Names.{◌≡◌, ◌+◌, ◌-◌, ◌^◌, ◌≤◌, drop}, specs.Format.{total_pages}}, std.specs.Prelude.{min}}
use Rattle.file_store.proofs.sources.pages_of.Given as goal

abbrev pub invariant-loop-source : goal.invariant-loop-source
invariant-loop-source g l = record {
  rest : min (l.total + total_pages (drop l.source-index l.sources)) (2 ^ 64 - 1) ≡ min (total_pages l.sources) (2 ^ 64 - 1);
  fits : l.total ≤ 2 ^ 64 - 1;
}
