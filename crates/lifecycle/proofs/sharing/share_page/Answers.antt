use Rattle.lifecycle.proofs.{Copies.{seat_names}, Names.{rules, number_of, picture_of, same_beside}, SharedPage.{may_give, placed_raised, page_shared}}
use Rattle.lifecycle.proofs.sharing.share_page.Goals as goal

pub add_share-requires-clause-may : goal.add_share-requires-clause-may
add_share-requires-clause-may g c =
    let t = c.args.tables.now in
    let q = c.requires in
    let low = c.withdraw_write-shared in
    may_give c.args.core.now low.new.core t.parent t.child t.first c.args.index t.to.0 low.result q.in_table q.awaits q.to low.ensures

pub set_in-requires : goal.set_in-requires
set_in-requires g c =
    let t = c.args.tables.now in
    let q = c.requires in
    let low = c.withdraw_write-shared in
    let at = placed_raised c.args.core.now low.new.core t.parent t.child t.first c.args.index t.to.0 low.result q.in_table q.awaits q.to low.ensures c.add_share.new.core c.add_share.ensures in
    let names = seat_names g.M.Levels.mode c.add_share.new.core.frames t.to.0 c.args.index (number_of low.result) low.ensures.own in
    search rules

pub returns : goal.returns
returns g c =
    let t = c.args.tables.now in
    let q = c.requires in
    let low = c.withdraw_write-shared in
    page_shared c.args.core.now low.new.core t.parent t.child t.first c.args.index t.to.0 low.result q.in_table q.awaits q.to low.ensures c.add_share.new.core c.add_share.ensures
    _ (same_beside (picture_of c.add_share.new.core) c.set_in.new.memory) c.set_in.ensures.sets (search rules) (search rules)
