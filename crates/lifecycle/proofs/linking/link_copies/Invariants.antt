use Rattle.lifecycle.{proofs.Names.{user_end, ◌-◌, Ok, picture_of}, specs.{Steps.{HasTablesFrom}, TablesForCopies.{LinksForCopies}}}
use Rattle.lifecycle.proofs.linking.link_copies.Given as goal

abbrev pub invariant-loop-part : goal.invariant-loop-part
invariant-loop-part g l = record {
  links : LinksForCopies g.E.SectorDisk {T = Unit {0}} l.fn.core l.core l.parent l.child (Ok tt);
  linked : HasTablesFrom (picture_of l.core) l.parent l.child 0 l.page;
}

abbrev pub decreases-loop-part : goal.decreases-loop-part
decreases-loop-part g l = user_end g.M.Levels.mode - l.page
