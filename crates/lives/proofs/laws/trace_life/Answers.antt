use Rattle.lives.proofs.Lives.{ran}
use Rattle.lives.proofs.laws.trace_life.Goals as goal

pub returns : goal.returns
returns g c = λ config store swap end new before after on keeps swap_keeps.
    let kept = on.kept keeps in
    let trace = on.runs on.boots.state on.boots.shows keeps swap_keeps in (
      trace,
      ran g.D.SectorDisk g.E.SectorDisk (λ d t image kept le may. g.met.D.SectorDisk.counts_now d t image kept le may) store on.old new trace.commands trace.replies kept keeps on.size (on.opening kept) (on.opening_most kept) on.boots trace.runs,
    )
