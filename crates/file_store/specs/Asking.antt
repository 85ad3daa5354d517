-- Pages asked of a source, one call after another.
use Rattle.std.specs.Prelude.{refl}
use Rattle.std.proofs.Common.{◌∙◌, arith}
use Rattle.sync_journal.specs.Source.{Asks}
use Rattle.sync_journal.specs.declared.source.PageSource.{Ghosts}

pub asks_nothing : {S : Type 0} {g : Ghosts S} → (s : S) → g.follows s s → Asks g s s
asks_nothing s stays = record { kept = λ k. k; later = omega arith; same = λ k i. refl; sure = λ i is. (is, refl); still = λ i at. at; follows = stays }

pub asks_more : {S : Type 0} {g : Ghosts S} → (a b c : S) → (g.follows a b → g.follows b c → g.follows a c) → Asks g a b → Asks g b c → Asks g a c
asks_more a b c goes_on first second = record {
  kept = λ k. first.kept (second.kept k);
  later = omega (arith, first.later, second.later);
  same = λ k i. second.same k i ∙ first.same (second.kept k) i;
  sure = λ i is. (let first' = first.sure i is in let second' = second.sure i first'.0 in (second'.0, second'.1 ∙ first'.1));
  still = λ i at. second.still i (first.still i at);
  follows = goes_on first.follows second.follows;
}
