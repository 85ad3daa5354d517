use Rattle.residency.proofs.{Asking.{needed_of}, Giving.{entries_same, roles_but, gives_table, table_given, tables_tried}, Moves.{same_beside}, Names.{ℕ, Option, refl, Some, None, rules}, Obtained.{given, seeks_on, seeks_stall}}
use Rattle.residency.{proofs.Returning.{zero_no_table}, specs.{Ages.{GivesForTables}, Picture.{Picture, picture_of}}}
use Rattle.regions.proofs.ResultLemmas.{on_err}
use Rattle.residency.proofs.kernel.Core.take_table.Goals as goal

pub returns : goal.returns
returns g c =
    let old = picture_of c.args.self.now in
    let found = picture_of c.obtain.new.core in
    let new : Picture g.M.Levels.mode = record found { frames = c.take_table.new.memory } in
    let got = c.in_ok-obtain.ensures in
    let needed = needed_of c.args.self.now c.obtain.new.core got.needed in
    let table = c.in-Ok.table in
    let adds = c.in-Ok.ensures.taken in
    let beside = same_beside found c.take_table.new.memory in
    let gives = given got table adds.takes.inside adds.takes.was_free in
    record {
      taken = record { found = found; fit = got.fit; frees = got.frees; adds = adds; beside = beside; zero_page = zero_no_table old found c.args.self.now.sound got.frees };
      gives = table_given old found new table.0 got.fit got.frees adds beside gives needed;
      only = roles_but old found new table.0 got.fit got.frees adds beside gives;
      seeks = seeks_on got table adds.takes.inside adds.takes.was_free _ refl refl (record { store = refl; roots = refl; regions = refl }) refl refl (entries_same old found new table.0 got.fit got.frees adds beside gives) (gives_table old found new table.0 got.fit got.frees adds beside);
      fit = tt;
      frees = tt;
      full = tt;
      still = tt;
      tried = tt;
    }

pub returns-in_err-obtain : goal.returns-in_err-obtain
returns-in_err-obtain g c =
    let old = picture_of c.args.self.now in
    let new = picture_of c.obtain.new.core in
    let got = c.in_err-obtain.ensures in
    let tried = got.tried.0 in
    record {
      taken = search rules;
      gives = search rules;
      only = search rules;
      seeks = seeks_stall c.from_residual.result c.from_residual.ensures.1 got;
      fit = on_err c.from_residual.result _ got.fit;
      frees = on_err c.from_residual.result _ got.frees;
      full = on_err c.from_residual.result _ got.full;
      still = on_err c.from_residual.result _ got.still;
      tried = on_err c.from_residual.result ((tried : Option ℕ) × GivesForTables old new tried) (Some tried, tables_tried old new None tried got.frees got.tried.1 got.still got.full);
    }
