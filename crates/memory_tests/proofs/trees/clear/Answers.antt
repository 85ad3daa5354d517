use Rattle.vm_types.specs.Limits.{top_level}
use Rattle.vm_types.proofs.Modes.{user_pages_fit}
use Rattle.std.proofs.Common.{rules, arith, ◌/◌, ◌%◌, sym, ap}
use Rattle.page_tables.specs.{Places.{IsTableOf}, Tree.{IsPage}}
use Rattle.memory_tests.proofs.trees.clear.Goals as goal

pub set_in-requires-clause-placed : goal.set_in-requires-clause-placed
set_in-requires-clause-placed g c =
    let is_page : IsPage (top_level g.M.Levels.mode) c.args.page = omega (arith, c.requires.user, user_pages_fit g.M.Levels.mode) in
    let row : IsTableOf c.args.memory.now (top_level g.M.Levels.mode) c.args.root.0 (c.args.page / 512) c.expect-table.result.0 = search rules in
    (c.args.root.0, c.args.page, c.requires.root, is_page, row, ap (λ x. x % 512) (sym c.get.ensures.number))

pub entry-requires-clause-forest : goal.entry-requires-clause-forest
entry-requires-clause-forest g c =
    let is_page : IsPage (top_level g.M.Levels.mode) c.args.page = omega (arith, c.requires.user, user_pages_fit g.M.Levels.mode) in
    let row : IsTableOf c.args.memory.now (top_level g.M.Levels.mode) c.args.root.0 (c.args.page / 512) c.expect-table.result.0 = search rules in
    (c.set_in.ensures.sets c.args.root.0 c.args.page c.requires.root is_page row (ap (λ x. x % 512) (sym c.get.ensures.number))).forest

pub entry-requires-clause-root : goal.entry-requires-clause-root
entry-requires-clause-root g c =
    let is_page : IsPage (top_level g.M.Levels.mode) c.args.page = omega (arith, c.requires.user, user_pages_fit g.M.Levels.mode) in
    let row : IsTableOf c.args.memory.now (top_level g.M.Levels.mode) c.args.root.0 (c.args.page / 512) c.expect-table.result.0 = search rules in
    (c.set_in.ensures.sets c.args.root.0 c.args.page c.requires.root is_page row (ap (λ x. x % 512) (sym c.get.ensures.number))).stays

pub returns-clause-forest : goal.returns-clause-forest
returns-clause-forest g c =
    let is_page : IsPage (top_level g.M.Levels.mode) c.args.page = omega (arith, c.requires.user, user_pages_fit g.M.Levels.mode) in
    let row : IsTableOf c.args.memory.now (top_level g.M.Levels.mode) c.args.root.0 (c.args.page / 512) c.expect-table.result.0 = search rules in
    (c.set_in.ensures.sets c.args.root.0 c.args.page c.requires.root is_page row (ap (λ x. x % 512) (sym c.get.ensures.number))).forest

pub returns-clause-root : goal.returns-clause-root
returns-clause-root g c =
    let is_page : IsPage (top_level g.M.Levels.mode) c.args.page = omega (arith, c.requires.user, user_pages_fit g.M.Levels.mode) in
    let row : IsTableOf c.args.memory.now (top_level g.M.Levels.mode) c.args.root.0 (c.args.page / 512) c.expect-table.result.0 = search rules in
    (c.set_in.ensures.sets c.args.root.0 c.args.page c.requires.root is_page row (ap (λ x. x % 512) (sym c.get.ensures.number))).stays
