use Rattle.std.proofs.Common.{Ok}
use Rattle.pool_growth.proofs.Homed.{IsHomeOfFirst}
use Rattle.pool_growth.specs.Putting.{BlanksHomes}
use Rattle.pool_growth.proofs.blanking.blank_new_pages.Given as goal

-- the new pages of the first changes are zeros
abbrev pub invariant-loop-change : goal.invariant-loop-change
invariant-loop-change g l = record {
  blanked : BlanksHomes g.D.SectorDisk l.journal (IsHomeOfFirst l.directory l.changes l.change-index) l.fn.disk l.disk (Ok (tt {0}));
}
