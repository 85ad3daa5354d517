use Rattle.std.proofs.Common.{rules, ◌≡◌, ◌*◌, ◌≤◌, ℕ, List, length, sym, subst}
use Rattle.directories.specs.Entries.{SaysEntry}
use Rattle.directories.proofs.Said.{written_here, written_elsewhere}
use Rattle.directories.proofs.entries.write_entry.Goals as goal

pub returns-clause-entry : goal.returns-clause-entry
returns-clause-entry c =
    let page = c.args.page.now in
    let bytes = c.encode.new.bytes in
    let inside : 256 * c.args.place ≤ length page = search rules in
    let size : length bytes ≡ 256 = search rules in
    subst (λ (xs : List ℕ). SaysEntry xs c.args.entry.now) (sym (written_here c.args.place page bytes inside size)) c.encode.ensures

pub returns-clause-others : goal.returns-clause-others
returns-clause-others c = λ i _ other.
    let page = c.args.page.now in
    let bytes = c.encode.new.bytes in
    let inside : 256 * c.args.place ≤ length page = search rules in
    let size : length bytes ≡ 256 = search rules in
    written_elsewhere c.args.place i page bytes inside size other
