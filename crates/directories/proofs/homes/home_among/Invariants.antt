use Rattle.std.proofs.Common.{◌≡◌, drop, slice_get}
use Rattle.directories.specs.Homes.{homes_of}
use Rattle.directories.proofs.homes.home_among.Given as goal

abbrev pub invariant-loop-extent : goal.invariant-loop-extent
invariant-loop-extent l = slice_get (homes_of l.extents) l.place ≡ slice_get (homes_of (drop l.extent-index l.extents)) l.left
