use Rattle.directories.specs.Checks.{AreFilesGood}
use Rattle.directories.proofs.checking.check_files.Given as goal

abbrev pub invariant-loop-file : goal.invariant-loop-file
invariant-loop-file l = AreFilesGood l.pages l.homes l.entries l.file
