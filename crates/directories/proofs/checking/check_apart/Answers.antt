use Rattle.std.proofs.Common.{List, subst}
use Rattle.directories.specs.Pieces.{AreApart, Meet}
use Rattle.directories.specs.declared.pieces.Piece.{Piece}
use Rattle.directories.proofs.Found.{shares, apart}
use Rattle.directories.proofs.checking.check_apart.Goals as goal

pub returns-in-Some-clause-bad : goal.returns-in-Some-clause-bad
returns-in-Some-clause-bad c = shares c.args.entries.now c.in_ok-pieces.pieces.items c.in-Some.one c.in-Some.other c.in_ok-pieces.ensures
    (subst (λ (xs : List Piece). Meet xs c.in-Some.one c.in-Some.other) c.deref.ensures.value c.in-Some.ensures)

pub returns-clause-good : goal.returns-clause-good
returns-clause-good c = apart c.args.entries.now c.in_ok-pieces.pieces.items c.in_ok-pieces.ensures
    (subst (λ (xs : List Piece). AreApart xs) c.deref.ensures.value c.in-None.ensures)
