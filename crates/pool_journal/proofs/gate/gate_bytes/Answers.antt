use Rattle.std.proofs.Common.{sym, ◌∙◌}
use Rattle.sync_journal.proofs.Gates.{opened, zeros_are_closed}
use Rattle.pool_journal.proofs.gate.gate_bytes.Goals as goal

pub returns-then-second : goal.returns-then-second
returns-then-second c = opened c.open_bytes.result.now c.open_bytes.ensures ∙ sym c.if-second.true

pub returns-else-second : goal.returns-else-second
returns-else-second c = zeros_are_closed ∙ sym c.if-second.false
