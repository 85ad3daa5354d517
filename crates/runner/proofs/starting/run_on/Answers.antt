use Rattle.runner.proofs.starting.run_on.Goals as goal

pub returns-clause-booted : goal.returns-clause-booted
returns-clause-booted g c = record {
  old = c.in-Ok.machine;
  boots = c.in-Ok.ensures.boots;
  room = c.in-Ok.ensures.starts.room;
  frames = c.in-Ok.ensures.accepts.frames;
  slots = c.in-Ok.ensures.accepts.slots;
  swap_device = c.in-Ok.ensures.starts.swap;
  size = c.in-Ok.ensures.accepts.size;
  later = c.in-Ok.ensures.accepts.later;
  calm = c.in-Ok.ensures.accepts.calm;
  kept = c.run-end.ensures.kept;
  swap_kept = c.run-end.ensures.swap_kept;
  honest = c.in-Ok.ensures.accepts.kept;
  layout = c.in-Ok.ensures.accepts.layout;
  journal = c.in-Ok.ensures.accepts.journal;
  opening = c.in-Ok.ensures.moments.any_moment;
  opening_most = c.in-Ok.ensures.moments.most_moment;
  in_a_row = c.in-Ok.ensures.moments.in_a_row;
  asks = c.in-Ok.ensures.accepts.asks;
  outside = c.in-Ok.ensures.accepts.outside;
  caused = c.run-end.ensures.caused;
  runs = c.run-end.ensures.runs;
}
