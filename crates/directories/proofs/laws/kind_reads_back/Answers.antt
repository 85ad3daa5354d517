use Rattle.directories.proofs.Sectors.{kind_reads_back}
use Rattle.directories.proofs.laws.kind_reads_back.Goals as goal

pub returns : goal.returns
returns c = kind_reads_back c.to_sector.result c.args.kind c.parse.result c.to_sector.ensures c.parse.ensures.kind c.parse.ensures.none
