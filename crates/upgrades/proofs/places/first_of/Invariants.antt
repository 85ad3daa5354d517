use Rattle.upgrades.proofs.Names.{◌≡◌, ◌≤◌, ◌+◌, ◌*◌}
use Rattle.upgrades.specs.NewPool.{files_in, first_of}
use Rattle.upgrades.proofs.places.first_of.Given as goal

-- the homes of the first h files are counted
abbrev pub invariant-loop-h : goal.invariant-loop-h
invariant-loop-h l = record {
  is : l.first ≡ first_of (files_in l.files) l.h;
  few : l.first ≤ 4 + 1048576 * l.h;
}
