-- What a command came to, by its reply.
use Rattle.std.specs.Prelude.{ℕ, List, [], ◌∷◌, ◌==◌, if◌then◌else◌}
use Rattle.watching.specs.declared.pending.Outcome.{Outcome}
use Rattle.watching.specs.declared.pending.Outcome.TheVariants.{Done, Refused, Faulted, Stalled, Halted}

-- the first letter is the `e` of `error`, the `f` of `fault`, the `s` of `stall`, the `h` of `halted`, or none of them
abbrev pub outcome_by : ℕ → Outcome
outcome_by letter = if letter == 101 then Refused else (if letter == 102 then Faulted else (if letter == 115 then Stalled else (if letter == 104 then Halted else Done)))

-- what a reply says; one without a letter is of a command that was done
abbrev pub outcome_of : List ℕ → Outcome
outcome_of [] = Done
outcome_of (letter ∷ rest) = outcome_by letter
