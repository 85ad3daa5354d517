use Rattle.machine.proofs.Names.{◌≡◌, ◌≤◌, ◌++◌, length}
use Rattle.machine.proofs.fault_log.FaultLog.history.Given as goal

abbrev pub invariant-loop-pid : goal.invariant-loop-pid
invariant-loop-pid l =
    (goal.iterator-loop-pid).can_next l.pid-iterator ×
    (goal.iterator-loop-pid).is_finite l.pid-iterator ×
    (l.history ++ l.pid-iterator ≡ l.self) × (length l.self ≤ 16)
