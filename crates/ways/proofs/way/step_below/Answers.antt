use Rattle.ways.proofs.OnWays.{goes_on}
use Rattle.ways.proofs.way.step_below.Goals as goal

pub returns-in-Some-clause-goes_on : goal.returns-in-Some-clause-goes_on
returns-in-Some-clause-goes_on g c pid =
    rw c.in-Some.is (goes_on c.args.machine.now pid c.args.page c.in-Some.step _ c.next_step.result c.next_step.ensures.tells c.next_step.ensures.next)
