use Rattle.telling.proofs.holdings.mapper_behind.Goals as goal

pub returns : goal.returns
returns g c = rw (← c.behind-pid.ensures.pid) (rw (← c.behind-pid.ensures.page) c.next_mapper.ensures)
