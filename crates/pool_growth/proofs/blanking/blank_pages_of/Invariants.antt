use Rattle.std.proofs.Common.{◌≡◌, ◌≤◌, ◌*◌, ◌^◌, length, take, Ok}
use Rattle.std.specs.Prelude.{min}
use Rattle.directories.specs.Homes.{homes_of}
use Rattle.pool_growth.specs.Putting.{BlanksHomes, IsHomeOfPages}
use Rattle.pool_growth.proofs.blanking.blank_pages_of.Given as goal

-- the new pages with homes in the first extents are zeros
abbrev pub invariant-loop-extent : goal.invariant-loop-extent
invariant-loop-extent g l = record {
  passed : l.passed ≡ length (homes_of (take l.extent-index l.extent-items));
  small : l.passed ≤ 2 ^ 32 * l.extent-index;
  blanked : BlanksHomes g.D.SectorDisk l.journal (IsHomeOfPages l.change.entry l.before (min l.pages l.passed)) l.fn.disk l.disk (Ok (tt {0}));
}
