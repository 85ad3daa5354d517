use Rattle.std.proofs.Common.{◌≡◌, ◌≢◌, List, Option, subst, rules}
use Rattle.directories.specs.{Homes.{pages_of_length}, Layouts.{entry_in}, declared.entry.Entry.{Entry}}
use Rattle.growth.specs.Room.{HasNoRoom}
use Rattle.pool_growth.specs.Sizes.{entry_or_empty}
use Rattle.pool_growth.proofs.proposing.change_for.Goals as goal

pub returns-in-None : goal.returns-in-None
returns-in-None c =
    let entries = c.args.directory.now.entries.items in
    let done = c.args.done.now in
    let list : c.deref.result.now ≡ entries = search rules in
    let entry : c.entry_or_empty-entry.result ≡ entry_or_empty (entry_in entries c.args.size.now.file) = search rules in
    let there : c.args.size.now.is_there ≢ 0 = search rules in
    let none = subst (λ (e : Entry). HasNoRoom entries done e (pages_of_length c.args.size.now.length) c.args.room) entry
    (subst (λ (es : List (Option Entry)). HasNoRoom es done c.entry_or_empty-entry.result (pages_of_length c.args.size.now.length) c.args.room) list c.in-None.ensures.entry) in
    (there, none)
