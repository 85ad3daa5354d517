-- What proofs of several layouts share.
use Rattle.sync_journal.proofs.Names.{◌≡◌, ◌⊎◌, ℕ, Bool, true, false, not, List, [], get_or, refl, ap, inl, inr, arith, Image, Ghosts}
use Rattle.sync_journal.{proofs.Images.{no_place}, specs.{Blocks.{LeavesInBlocks}, Commit.{changed, sector_or}, Map.{AreHomes}}}

-- one of two gates
pub which : (b c : Bool) → (c ≡ b) ⊎ (c ≡ not b)
which true false = inr refl
which false true = inr refl
which b c = inl refl

-- a commit of no pages changes nothing
pub changed_none : (before : ℕ → ℕ → List ℕ) (pages : ℕ → List ℕ) (h i : ℕ) → changed before [] pages h i ≡ before h i
unfolding changed
changed_none before pages h i = ap (λ o. sector_or pages (before h i) i o) (no_place (λ j. get_or [] j 0) h)

-- what follows, block by block
pub blocks_weaker : {D : Type 0} (g : Ghosts D) (W : ℕ → Type 0) (P Q : Image → Type 0) (old new : D) → ((image : Image) → P image → Q image)
    → LeavesInBlocks g W P old new → LeavesInBlocks g W Q old new
blocks_weaker g W P Q old new more run = record { writes = run.writes; each = λ d wrote image may. more image (run.each d wrote image may) }

-- no homes are good homes
pub none_are : (count : ℕ) → AreHomes count []
none_are count = record { few = omega arith; inside = λ j below. absurd (omega (arith, below)); distinct = λ i j less below same. absurd (omega (arith, below)) }
