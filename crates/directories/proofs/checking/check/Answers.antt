use Rattle.std.proofs.Common.{rules}
use Rattle.std.specs.Prelude.{IfErr}
use Rattle.directories.specs.Layouts.{IsBadLayout}
use Rattle.directories.proofs.Checked.{good_if_apart, bad_if_shared, refused}
use Rattle.directories.proofs.checking.check.Goals as goal

pub returns-in_err-check_files-clause-only : goal.returns-in_err-check_files-clause-only
returns-in_err-check_files-clause-only c =
    let bad : IfErr c.from_residual.result (IsBadLayout c.args.pages c.args.homes c.args.entries.now) = search rules in
    refused c.args.pages c.args.homes c.args.entries.now c.from_residual.result bad

pub returns-clause-good : goal.returns-clause-good
returns-clause-good c = good_if_apart c.args.pages c.args.homes c.args.entries.now c.check_apart.result c.in_ok-check_files.ensures.good c.check_apart.ensures.good

pub returns-clause-bad : goal.returns-clause-bad
returns-clause-bad c = bad_if_shared c.args.pages c.args.homes c.args.entries.now c.check_apart.result c.in_ok-check_files.ensures.good c.check_apart.ensures.bad

pub returns-clause-only : goal.returns-clause-only
returns-clause-only c = refused c.args.pages c.args.homes c.args.entries.now c.check_apart.result
    (bad_if_shared c.args.pages c.args.homes c.args.entries.now c.check_apart.result c.in_ok-check_files.ensures.good c.check_apart.ensures.bad)
