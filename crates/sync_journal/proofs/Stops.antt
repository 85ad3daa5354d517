-- Stops in a row.
use Rattle.sync_journal.{specs.{Layouts.{HomesStandAs}, Commit.{one_journal}, Stops.{Recovers, LeftByRecoveries}}, proofs.{Names.{ℕ, zero, suc, subst, Image, Ghosts}, OneRecoveries.{ones_fix}, Layouts.{same_stands, stands_again}}}

module _ {D : Type 0} (g : Ghosts D) where
  -- one stop more
  one_stop : (sectors : ℕ) (image last : Image) (old new : D) → Recovers g sectors image old new → g.left_since new (g.moment old) last → HomesStandAs one_journal sectors image last
  one_stop sectors image last old new run left =
      subst (λ n. HomesStandAs one_journal n image last) run.size
      (subst (λ held. HomesStandAs one_journal (g.sector_count old) held last) run.held (run.homes.each last left))

  -- any number of them
  pub still_stands : (sectors n : ℕ) (first last : Image) → LeftByRecoveries g sectors n first last → HomesStandAs one_journal sectors first last
  still_stands sectors zero first last same = same_stands one_journal sectors first last same
  still_stands sectors (suc n) first last row =
      stands_again one_journal ones_fix sectors first row.0 last (still_stands sectors n first row.0 row.3) (one_stop sectors row.0 last row.1 row.2 row.4 row.5)
