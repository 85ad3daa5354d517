use Rattle.std.proofs.Common.{◌≡◌, ◌∙◌, get_or, Some, sym, subst, rules}
use Rattle.std.specs.Prelude.{IfErr}
use Rattle.std.proofs.lemmas.Option.{none-some, same_Some, slice_get-get_or}
use Rattle.directories.specs.Checks.{IsFileGood}
use Rattle.directories.specs.declared.entry.Entry.{Entry}
use Rattle.growth.specs.Parts.{IsFileRefused}
use Rattle.growth.proofs.{Listed.{no_change}, Checked.{err_refused, change_good}}
use Rattle.growth.proofs.checking.check_change.Goals as goal
use Rattle.growth.proofs.checking.check_change.Goals.{in-Some+in_ok-check_file, in_default}

pub returns-in_err-check_file-clause-refused : goal.returns-in_err-check_file-clause-refused
returns-in_err-check_file-clause-refused c =
    let changes = c.args.changes.now in
    let d = get_or changes c.args.i no_change in
    let bad : IfErr c.from_residual.result (IsFileRefused c.args.pages c.args.homes d.file c.in-Some.entry) = search rules in
    err_refused c.args.pages c.args.homes c.args.before.now changes c.requires.changes c.args.i d c.in-Some.entry (slice_get-get_or changes c.args.i no_change c.requires.place) (search rules) c.from_residual.result bad

pub returns-clause-good : goal.returns-clause-good
returns-clause-good c =
    let changes = c.args.changes.now in
    let d = get_or changes c.args.i no_change in
    let file : (e : Entry) → d.entry ≡ Some e → IsFileGood c.args.pages c.args.homes e = elim c.match-change.branch [
      | in-Some+in_ok-check_file w ↦ λ e is.
          let was : d.entry ≡ Some w.in-Some.entry = search rules in
          subst (IsFileGood c.args.pages c.args.homes) (same_Some w.in-Some.entry e (sym was ∙ is)) w.in_ok-check_file.ensures.good
      | in_default w ↦ λ e is. absurd (none-some e (sym w.in_default.is ∙ is))
    ] in
    change_good c.args.pages c.args.homes c.args.before.now changes c.args.i d c.check_extents.result (slice_get-get_or changes c.args.i no_change c.requires.place) file c.check_extents.ensures.good

pub returns-clause-refused : goal.returns-clause-refused
returns-clause-refused c = c.check_extents.ensures.refused c.args.pages c.args.homes
