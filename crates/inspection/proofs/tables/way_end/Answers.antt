use Rattle.inspection.proofs.{Names.{picture_of}, Trees.{gap_way, row_way}}
use Rattle.inspection.proofs.tables.way_end.Goals as goal

pub returns-in-Some-clause-one_way : goal.returns-in-Some-clause-one_way
returns-in-Some-clause-one_way g c = gap_way (picture_of c.args.core.now) c.args.pid c.args.page c.in-Some.end c.requires.rooted c.in-Some.ensures.end

pub returns-in-None-clause-one_way : goal.returns-in-None-clause-one_way
returns-in-None-clause-one_way g c = row_way (picture_of c.args.core.now) c.args.pid c.args.page c.table_end.result c.table_end.ensures
