use Rattle.fault.{specs.{Changes.{KeepsSlotted, LinksTables}, WaysLinked.{TakesForTables}}, proofs.Names.{top_level, ◌≡◌, ◌≤◌, Some, Ok, missing_of, picture_of, IsMapped}}
use Rattle.fault.proofs.linking.link_tables.Given as goal

abbrev pub invariant-loop-table : goal.invariant-loop-table
invariant-loop-table g l = record {
  takes : TakesForTables g.E.SectorDisk {T = Unit {0}} l.initial.core l.core (Ok tt);
  tables : LinksTables (picture_of l.initial.core) (picture_of l.core) l.pid l.page;
  slotted : KeepsSlotted (λ p. ⊥) (λ q p. ⊥) (picture_of l.initial.core) (picture_of l.core);
  root : (picture_of l.core).root l.pid ≡ Some l.root.0;
  mapped : IsMapped (picture_of l.core) l.pid l.page;
  fewer : missing_of l.core.frames (top_level g.M.Levels.mode) l.root.0 l.page ≤ missing_of l.initial.core.frames (top_level g.M.Levels.mode) l.root.0 l.page;
  idle : missing_of l.initial.core.frames (top_level g.M.Levels.mode) l.root.0 l.page ≡ 0 → l.core ≡ l.initial.core;
}

abbrev pub decreases-loop-table : goal.decreases-loop-table
decreases-loop-table g l = missing_of l.core.frames (top_level g.M.Levels.mode) l.root.0 l.page
