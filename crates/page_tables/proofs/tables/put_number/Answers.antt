use Rattle.page_tables.proofs.{EntryBytes.{puts_number}, Names.{arith}}
use Rattle.page_tables.proofs.tables.put_number.Goals as goal

pub returns : goal.returns
returns c = puts_number c.args.bytes.now c.write_u64.new.buf c.args.index c.args.number c.requires c.told-bytes (omega (arith, c.ranges.number)) c.write_u64.ensures
