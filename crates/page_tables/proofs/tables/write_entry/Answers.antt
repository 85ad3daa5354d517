use Rattle.page_tables.{proofs.{EntryBytes.{changes_entry}, Names.{bytes_of}}, specs.Change.{PutsNumber}}
use Rattle.page_tables.proofs.tables.write_entry.Goals as goal

pub returns-clause-change : goal.returns-clause-change
returns-clause-change c =
    let puts : PutsNumber (bytes_of c.args.frames.now c.args.table.0) c.put_number.new.bytes c.args.index c.args.number.0 =
    rw (← c.bytes_mut.ensures.value, ← c.to_u64.ensures) c.put_number.ensures in
    changes_entry c.args.frames.now c.args.table.0 c.args.index c.args.number.0 c.put_number.new.bytes c.requires.table c.requires.below puts
