use Rattle.residency.{proofs.Names.{◌≢◌, ℕ, ◌<◌, Some}, specs.{Evictions.{IsHanding}, Handovers.{HandsShares}, Picture.{picture_of, entry}, Seats.{InFrame, seat}}}
use Rattle.residency.proofs.shares.hand_over.Given as goal

abbrev pub invariant-loop-pid : goal.invariant-loop-pid
invariant-loop-pid g l = record {
  hands : HandsShares g.E.SectorDisk l.frame.0 l.slot.0 l.fn.core l.core;
  handing : IsHanding (picture_of l.core) l.frame.0 l.slot.0 l.at;
  passed : (q : ℕ) → q < l.pid → seat (entry (picture_of l.core) q l.at) ≢ Some (InFrame l.frame.0);
}
