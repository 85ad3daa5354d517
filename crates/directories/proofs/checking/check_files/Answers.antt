use Rattle.std.proofs.Common.{arith, rules}
use Rattle.directories.proofs.Checked.{file_more, none_more}
use Rattle.directories.proofs.checking.check_files.Goals as goal
use Rattle.directories.proofs.checking.check_files.Goals.{in-Some+in_ok-check_file, in_default}

pub loop-file-preserved : goal.loop-file-preserved
loop-file-preserved c = elim c.match-entry.branch [
  | in-Some+in_ok-check_file w ↦ file_more c.args.pages c.args.homes c.args.entries.now c.loop-file.file w.in-Some.entry c.loop-file.invariant (search rules) w.in_ok-check_file.ensures.good
  | in_default w ↦ none_more c.args.pages c.args.homes c.args.entries.now c.loop-file.file c.loop-file.invariant (search rules)
]

pub returns-clause-good : goal.returns-clause-good
returns-clause-good c = λ f e less is. c.loop-file.invariant f e (omega (arith, less, c.loop-file-test.false)) is
