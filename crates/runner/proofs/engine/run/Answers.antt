use Rattle.runner.proofs.Trace.{caused_trace, kept_trace, runs_trace}
use Rattle.runner.proofs.engine.run.Goals as goal

pub returns-clause-caused : goal.returns-clause-caused
returns-clause-caused g c = let r = c.run_turns.ensures.reads in caused_trace g.D.SectorDisk g.E.SectorDisk c.run_turns.result _ _ _ _ _ _ r.0 r.1 r.2

pub returns-clause-runs : goal.returns-clause-runs
returns-clause-runs g c s shows keeps swap_keeps =
    let r = c.run_turns.ensures.reads in
    runs_trace g.D.SectorDisk g.E.SectorDisk (λ d image kept left. g.met.D.SectorDisk.only_now d image kept left) c.run_turns.result _ _ s _ _ _ _ r.0 r.1 r.2 shows keeps swap_keeps

pub returns-clause-kept : goal.returns-clause-kept
returns-clause-kept g c =
    let r = c.run_turns.ensures.reads in
    (kept_trace g.D.SectorDisk g.E.SectorDisk c.run_turns.result _ _ (g.R.Read.remaining c.args.reader.now) _ _ _ r.0 r.2).0

pub returns-clause-swap_kept : goal.returns-clause-swap_kept
returns-clause-swap_kept g c =
    let r = c.run_turns.ensures.reads in
    (kept_trace g.D.SectorDisk g.E.SectorDisk c.run_turns.result _ _ (g.R.Read.remaining c.args.reader.now) _ _ _ r.0 r.2).1
