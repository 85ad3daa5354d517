use Rattle.sync_journal.proofs.{Gates.{opened}, Names.{◌∙◌, on_ok_weaker}}
use Rattle.sync_journal.proofs.gate.open_gate.Goals as goal

pub returns : goal.returns
returns g c =
    let w = c.write_gate.ensures in
    record { writes = record { done = λ keeps. on_ok_weaker c.write_gate.result (λ e. opened _ (e ∙ c.open_bytes.ensures)) (w.done keeps); run = w.run; once = w.once; failed = w.failed; calm = w.calm }; synced = w.synced }
