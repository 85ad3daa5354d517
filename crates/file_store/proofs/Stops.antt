-- Stops in a row.
use Rattle.file_store.{proofs.Names.{ℕ, zero, suc, sym, subst, Image, Ghosts}, specs.{Standing.{StandsAs}, Stops.{Opens, LeftInARow}}}

-- what stands for what stood before
pub stands_as_again : (sectors : ℕ) (first content image : Image) → StandsAs sectors first content → StandsAs sectors content image → StandsAs sectors first image
stands_as_again sectors first content image was now = λ files pages stood. now files pages (was files pages stood)

module _ {D : Type 0} (g : Ghosts D) where
  -- one stop more
  one_stop : (sectors : ℕ) (image last : Image) (old new : D) → Opens g sectors image old new → g.left_since new (g.moment old) last → StandsAs sectors image last
  one_stop sectors image last old new run left =
      subst (λ n. StandsAs n image last) run.size
      (subst (λ held. StandsAs (g.sector_count old) held last) run.held (run.stands.each last left))

  -- any number of them
  pub still_stands : (sectors n : ℕ) (first last : Image) → LeftInARow g sectors n first last → StandsAs sectors first last
  still_stands sectors zero first last same = subst (StandsAs sectors first) (sym same) (λ files pages stood. stood)
  still_stands sectors (suc n) first last row =
      stands_as_again sectors first row.0 last (still_stands sectors n first row.0 row.3) (one_stop sectors row.0 last row.1 row.2 row.4 row.5)
