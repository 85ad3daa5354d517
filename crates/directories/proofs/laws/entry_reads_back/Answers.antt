use Rattle.directories.specs.Entries.{entry_bytes}
use Rattle.directories.proofs.Said.{reads_back}
use Rattle.directories.proofs.laws.entry_reads_back.Goals as goal

pub returns : goal.returns
returns c = reads_back (entry_bytes c.write_entry.new.page c.args.place) c.args.entry.now c.read_entry.result c.write_entry.ensures.entry c.read_entry.ensures.entry c.read_entry.ensures.none
