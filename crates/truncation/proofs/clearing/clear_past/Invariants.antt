use Rattle.std.proofs.Common.{◌≡◌, ◌<◌, ℕ, true}
use Rattle.vm_types.specs.Limits.{top_level}
use Rattle.page_tables.specs.Tree.{IsPage}
use Rattle.residency.specs.Picture.{picture_of, entry}
use Rattle.truncation.specs.{Cuts.{is_mapped_past}, Steps.{ClearsMore}}
use Rattle.truncation.proofs.clearing.clear_past.Given as goal

abbrev pub invariant-loop-number : goal.invariant-loop-number
invariant-loop-number g l = record {
  more : ClearsMore l.initial.core l.core l.file l.length;
  bare : (q k : ℕ) → IsPage (top_level g.M.Levels.mode) k → q < l.number → is_mapped_past l.file l.length ((picture_of l.core).at q k) ≡ true → entry (picture_of l.core) q k ≡ 0;
}
