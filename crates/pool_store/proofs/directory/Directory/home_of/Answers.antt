use Rattle.std.proofs.Common.{◌∙◌, sym, ap, arith}
use Rattle.std.specs.Option.{option_copied}
use Rattle.pool_store.{proofs.Homes.{page_found, page_below}, specs.Store.{entry_of}}
use Rattle.pool_store.proofs.directory.Directory.home_of.Goals as goal

pub unreachable-requires-in_default-home_of_page : goal.unreachable-requires-in_default-home_of_page
unreachable-requires-in_default-home_of_page c =
    let at = ap (entry_of c.args.self.now) (sym c.from.ensures) ∙ sym c.entry.ensures ∙ ap option_copied c.in-Some.is in
    let has = page_found c.requires.on.0 c.args.self.now c.args.page c.in-Some.entry.now c.from-2.result c.home_of_page.result c.requires.on.2 c.requires.inside at c.from-2.ensures c.home_of_page.ensures in
    c.in_default-home_of_page.not-Some has.0 has.1

pub overflow_cast-result : goal.overflow_cast-result
overflow_cast-result c =
    let at = ap (entry_of c.args.self.now) (sym c.from.ensures) ∙ sym c.entry.ensures ∙ ap option_copied c.in-Some.is in
    let below = page_below c.requires.on.0 c.args.self.now c.args.page c.in-Some.entry.now c.from-2.result c.in-Some-home_of_page.home c.home_of_page.result
    c.requires.on.2 c.requires.inside at c.from-2.ensures c.home_of_page.ensures c.in-Some-home_of_page.is in
    omega (arith, below, c.requires.on.1)

pub returns-clause-inside : goal.returns-clause-inside
returns-clause-inside c = λ n on.
    let at = ap (entry_of c.args.self.now) (sym c.from.ensures) ∙ sym c.entry.ensures ∙ ap option_copied c.in-Some.is in
    page_below n c.args.self.now c.args.page c.in-Some.entry.now c.from-2.result c.in-Some-home_of_page.home c.home_of_page.result
    on c.requires.inside at c.from-2.ensures c.home_of_page.ensures c.in-Some-home_of_page.is
