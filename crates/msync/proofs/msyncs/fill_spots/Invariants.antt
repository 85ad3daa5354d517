use Rattle.msync.{proofs.Names.{ℕ, ◌≡◌, ◌<◌, length, slots_of, picture_of}, specs.{Choice.{chosen_page}, Spots.{spot_at, bytes_there, IsSpot}}}
use Rattle.msync.proofs.msyncs.fill_spots.Given as goal

abbrev pub invariant-loop-i : goal.invariant-loop-i
invariant-loop-i g l = record {
  same : (j : ℕ) → j < l.i → (spot_at l.spots j).page ≡ chosen_page l.pages j;
  spots : (j : ℕ) → j < l.i → IsSpot (picture_of l.core) (spot_at l.spots j);
  whole : (j : ℕ) → j < l.i → length (bytes_there l.core.frames (slots_of l.core.swap) (spot_at l.spots j).at) ≡ 4096;
}
