use Rattle.lives.proofs.Lives.{ran}
use Rattle.machine.proofs.Hardware.{does_each, runs}
use Rattle.lives.proofs.laws.hardware_life.Goals as goal

pub returns : goal.returns
returns g c = λ store old new commands replies sound size leaves boots steps keeps swap_keeps.
    let kept = (does_each g.D.SectorDisk g.E.SectorDisk (λ d i k left. g.met.D.SectorDisk.only_now d i k left) old new commands replies sound steps).keeps.kept keeps in
    let through = runs g.D.SectorDisk g.E.SectorDisk (λ d i k left. g.met.D.SectorDisk.only_now d i k left) old new commands replies sound steps boots.state boots.shows keeps swap_keeps in
    record {
      life = ran g.D.SectorDisk g.E.SectorDisk (λ d t image keep le may. g.met.D.SectorDisk.counts_now d t image keep le may) store old new commands replies kept keeps size (leaves.any_moment kept) (leaves.most_moment kept) boots through.runs;
      through = through.through;
    }
