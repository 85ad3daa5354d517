use Rattle.std.proofs.Common.{List, subst, rules}
use Rattle.std.specs.List.Sorted.{IsPermutation}
use Rattle.std.proofs.lemmas.List.Sorted.{IsNonDecreasingBy-from_sort_by_key}
use Rattle.directories.specs.declared.pieces.Piece.{Piece}
use Rattle.directories.proofs.pieces.sorted_pieces.Goals as goal

pub returns : goal.returns
returns c = record {
  same = subst (λ (xs : List Piece). IsPermutation xs c.sort_by_key.new.self.items) c.in_ok-pieces.ensures c.sort_by_key.ensures.permutation;
  rising = IsNonDecreasingBy-from_sort_by_key (λ (p : Piece). p.extent.first) _ c.in_ok-sort_by_key.ensures.sorted (λ a r q k. search rules);
}
