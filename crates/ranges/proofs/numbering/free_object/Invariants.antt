use Rattle.ranges.{proofs.Names.{◌≡◌, ◌≤◌, ◌<◌, ℕ, true, false, length, get_or, named_limit, picture_of}, specs.{Numbers.{IsUsedBy}, Rows.{without_maps}}}
use Rattle.ranges.proofs.numbering.free_object.Given as goal

abbrev pub invariant-loop-number : goal.invariant-loop-number
invariant-loop-number g l = record {
  room : length l.used ≡ named_limit;
  all : (o q : ℕ) → o < named_limit → 1 ≤ q → q < l.number → IsUsedBy (without_maps (picture_of l.core).at l.fn.pid l.first l.pages) q o → get_or l.used o false ≡ true;
  only : (o : ℕ) → get_or l.used o false ≡ true → (q : ℕ) × (q < 65) × IsUsedBy (without_maps (picture_of l.core).at l.fn.pid l.first l.pages) q o;
}
