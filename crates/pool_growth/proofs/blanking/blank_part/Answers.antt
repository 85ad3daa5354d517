use Rattle.std.proofs.Common.{◌+◌, ◌-◌, arith}
use Rattle.pool_growth.proofs.Blanked.{blanked_row}
use Rattle.pool_growth.proofs.blanking.blank_part.Goals as goal

pub returns : goal.returns
returns g c =
    blanked_row g.D.SectorDisk c.args.journal.now c.args.extent.now c.args.low c.args.high (c.args.extent.now.first + c.args.low) (c.args.high - c.args.low) c.args.disk.now c.blank.new.disk c.blank.result
    (omega arith) (omega (arith, c.if-high-low.false)) c.blank.ensures
