use Rattle.msync.{proofs.Names.{◌≡◌, ◌⊎◌, picture_of, IsFit}, specs.{Settling.{KeepsBesidePages, Settles}, Spots.{HasSlot}}}
use Rattle.msync.proofs.settling.settle.Given as goal

abbrev pub invariant-loop-i : goal.invariant-loop-i
invariant-loop-i g l = record {
  fit : IsFit (picture_of l.core);
  beside : KeepsBesidePages l.fn.core l.core;
  swap : (l.core.swap ≡ l.fn.core.swap) ⊎ HasSlot l.spots;
  settles : Settles (picture_of l.fn.core) (picture_of l.core) l.spots l.i;
}
