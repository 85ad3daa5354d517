use Rattle.msync.{proofs.{Names.{◌-◌, ◌≤◌, length, attr_at}, Listing.{ListsBelow}}, specs.Judging.{is_whole_by}}
use Rattle.msync.proofs.choosing.list_files.Given as goal

abbrev pub invariant-loop-file : goal.invariant-loop-file
invariant-loop-file g l = record { lists : ListsBelow (is_whole_by l.core (attr_at l.regions) l.row) l.files l.count l.from; few : l.count ≤ length l.files }

-- no file has a larger number
abbrev pub decreases-loop-file : goal.decreases-loop-file
decreases-loop-file g l = 4096 - l.from
