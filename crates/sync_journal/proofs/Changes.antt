-- What a commit changes, and what a closed gate means: for those who call a commit.
use Rattle.sync_journal.{proofs.Names.{◌≡◌, ℕ, true, false, sym, ◌∙◌, Image}, specs.{Gate.{is_open}, Standing.{IsBadSingle}}}

-- the journal after a closed gate isn't bad
pub closed_not_bad : (sectors : ℕ) (image : Image) → is_open image ≡ false → IsBadSingle sectors image → ⊥
closed_not_bad sectors image closed bad = let e : true ≡ false = sym bad.gate ∙ closed in cc
