use Rattle.std.proofs.Common.{◌<◌, ℕ, List, length, get_or, subst, arith, refl}
use Rattle.directories.specs.{Homes.{extents_of}, Checks.{LiesWithin, HasOutside}}
use Rattle.directories.specs.declared.entry.Extent.{Extent}
use Rattle.directories.proofs.Checked.{extents_outside, extents_within}
use Rattle.growth.proofs.checking.check_file.Goals as goal

pub returns-then-not-lie_within-clause-bad : goal.returns-then-not-lie_within-clause-bad
returns-then-not-lie_within-clause-bad c =
    let one : (i : ℕ) × (i < length (extents_of c.args.entry.now)) × ((d : Extent) → HasOutside c.args.pages c.args.homes (get_or (extents_of c.args.entry.now) i d)) =
    subst (λ (xs : List Extent). (i : ℕ) × (i < length xs) × ((d : Extent) → HasOutside c.args.pages c.args.homes (get_or xs i d))) c.extents.ensures.extents (c.if-not-lie_within.ensures.one refl) in
    (refl, extents_outside c.args.pages c.args.homes one.0 c.args.entry.now one.1 one.2)

pub returns-clause-good : goal.returns-clause-good
returns-clause-good c =
    let all : (i : ℕ) (d : Extent) → i < length (extents_of c.args.entry.now) → LiesWithin c.args.pages c.args.homes (get_or (extents_of c.args.entry.now) i d) =
    subst (λ (xs : List Extent). (i : ℕ) (d : Extent) → i < length xs → LiesWithin c.args.pages c.args.homes (get_or xs i d)) c.extents.ensures.extents (c.if-not-lie_within.ensures.all refl) in
    record { within = extents_within c.args.pages c.args.homes c.args.entry.now all; enough = omega arith }
