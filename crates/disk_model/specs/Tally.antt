-- How often something has happened.
use Rattle.std.specs.Prelude.{ℕ}

pub record Tally : Type 0 where
  pub number : ℕ
