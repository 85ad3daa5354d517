use Rattle.std.proofs.Common.{◌∙◌, refl, sym, arith}
use Rattle.std.proofs.lemmas.Bool.{false≢true}
use Rattle.pool_journal.proofs.Marks.{no_mark}
use Rattle.pool_journal.proofs.sieve.Sieve.of.Goals as goal

pub loop-place-init : goal.loop-place-init
loop-place-init c = record {
  size = refl;
  marked = λ j below. absurd (omega (arith, below));
  only = λ b is. absurd (false≢true (sym (no_mark 4096 b) ∙ is));
}
