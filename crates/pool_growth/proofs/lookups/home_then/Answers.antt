use Rattle.std.proofs.Common.{◌∙◌, sym, ap, arith}
use Rattle.std.proofs.lemmas.Option.{none-some}
use Rattle.std.specs.Option.{option_copied}
use Rattle.pool_growth.proofs.New.{home_found, home_by_entry, home_below}
use Rattle.pool_store.specs.Store.{home_by}
use Rattle.pool_growth.proofs.lookups.home_then.Goals as goal

pub unreachable-requires : goal.unreachable-requires
unreachable-requires c =
    let has = home_found c.requires.on.0 c.args.directory.now c.args.changes.now c.requires.on.2 c.args.page (option_copied c.entry_then.result) c.from.result c.requires.there c.from.ensures c.entry_then.ensures in
    none-some has.0 (sym (ap (λ o. home_by (option_copied o) c.args.page.page) c.in_default.is) ∙ has.1)

pub unreachable-requires-in_default-home_of_page : goal.unreachable-requires-in_default-home_of_page
unreachable-requires-in_default-home_of_page c =
    let has = home_by_entry c.requires.on.0 c.args.directory.now c.args.changes.now c.requires.on.2 c.args.page c.entry_then.result c.in-Some.entry c.from.result c.from-2.result c.home_of_page.result
    c.requires.there c.from.ensures c.entry_then.ensures c.in-Some.is c.from-2.ensures c.home_of_page.ensures in
    c.in_default-home_of_page.not-Some has.0 has.1

pub overflow_cast-result : goal.overflow_cast-result
overflow_cast-result c =
    let below = home_below c.requires.on.0 c.args.directory.now c.args.changes.now c.requires.on.2 c.args.page c.entry_then.result c.in-Some.entry c.from.result c.from-2.result c.home_of_page.result
    c.in-Some-home_of_page.home c.requires.there c.from.ensures c.entry_then.ensures c.in-Some.is c.from-2.ensures c.home_of_page.ensures c.in-Some-home_of_page.is in
    omega (arith, below, c.requires.on.1)

pub returns-clause-inside : goal.returns-clause-inside
returns-clause-inside c = λ n are.
    home_below n c.args.directory.now c.args.changes.now are c.args.page c.entry_then.result c.in-Some.entry c.from.result c.from-2.result c.home_of_page.result
    c.in-Some-home_of_page.home c.requires.there c.from.ensures c.entry_then.ensures c.in-Some.is c.from-2.ensures c.home_of_page.ensures c.in-Some-home_of_page.is
