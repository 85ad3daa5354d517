use Rattle.std.proofs.Common.{rules, ◌≡◌, ℕ, sym, ◌∙◌}
use Rattle.std.proofs.lemmas.Bool.{cond-true, cond-false}
use Rattle.directories.specs.Entries.{flags_of}
use Rattle.directories.proofs.Said.{file_written}
use Rattle.directories.proofs.entries.encode_file.Goals as goal
use Rattle.directories.proofs.entries.encode_file.Goals.{then-entry, else-entry}

pub returns : goal.returns
returns c =
    let e = c.args.entry.now in
    let flags : c.if-entry.put_number ≡ flags_of e = elim c.if-entry.branch [
      | then-entry w ↦ w.put_number-is ∙ sym (cond-true {A = ℕ} e.read_only 3 1 w.if-entry.true)
      | else-entry w ↦ w.put_number-is ∙ sym (cond-false {A = ℕ} e.read_only 3 1 w.if-entry.false)
    ] in
    file_written e c.if-entry.put_number c.put_number.new.bytes c.put_number-2.new.bytes c.put_long.new.bytes c.encode_extents.new.bytes
    flags c.put_number.ensures.number c.put_number-2.ensures.number c.put_number-2.ensures.others c.put_long.ensures.number c.put_long.ensures.others
    c.encode_extents.ensures.extents c.encode_extents.ensures.front c.requires.few (search rules)
