use Rattle.ranges.proofs.Names.{◌%◌, inl, inr, sym, ap, ◌∙◌, arith, rules, number_of, picture_of, is_swapped}
use Rattle.ranges.proofs.{ClearedPages.{same_beside}, PermittedRows.{read_at, left_page, frame_read, permits_set}, StillNamed.{names_still}}
use Rattle.ranges.proofs.permitting.permit_page.Goals as goal

pub takes_stores-writable-requires-clause-named : goal.takes_stores-writable-requires-clause-named
takes_stores-writable-requires-clause-named g c =
    frame_read c.args.core.now c.args.row.now c.args.page c.args.prot c.requires.may c.requires.row c.requires.inside c.number_in-number.result.0
    (read_at c.args.core.now c.args.row.now c.args.page c.args.prot c.requires.may c.requires.row c.requires.inside c.get.result c.number_in-number.result.0 c.get.ensures.number c.number_in-number.ensures) (λ z. c.if-to_u64-eq0.false (c.to_u64.ensures ∙ z)) (sym c.is_swapped.ensures ∙ c.if-is_swapped.false)

pub permitted-requires-clause-frame : goal.permitted-requires-clause-frame
permitted-requires-clause-frame g c =
    let inside = frame_read c.args.core.now c.args.row.now c.args.page c.args.prot c.requires.may c.requires.row c.requires.inside c.number_in-number.result.0
    (read_at c.args.core.now c.args.row.now c.args.page c.args.prot c.requires.may c.requires.row c.requires.inside c.get.result c.number_in-number.result.0 c.get.ensures.number c.number_in-number.ensures) (λ z. c.if-to_u64-eq0.false (c.to_u64.ensures ∙ z)) (sym c.is_swapped.ensures ∙ c.if-is_swapped.false) in
    omega (arith, inside, c.args.core.now.sound.most)

pub set_in-requires-clause-placed : goal.set_in-requires-clause-placed
set_in-requires-clause-placed g c =
    (c.args.row.now.root.0, c.args.page, c.requires.may.rooted.roots c.args.row.now.pid c.args.row.now.root.0 c.requires.row.root, c.requires.inside, c.requires.row.place, ap (λ x. x % 512) (sym c.get.ensures.number))

pub set_in-requires-clause-names : goal.set_in-requires-clause-names
set_in-requires-clause-names g c =
    names_still g.M.Levels.mode c.args.core.now.frames c.args.row.now.table.0 (c.get.result % 512) c.args.prot c.takes_stores-writable.result
    c.number_in-number.result.0 (number_of c.permitted.result) c.requires.may.rooted.forest
    c.number_in-number.ensures
    (λ z. c.if-to_u64-eq0.false (c.to_u64.ensures ∙ z)) (sym c.is_swapped.ensures ∙ c.if-is_swapped.false) c.permitted.ensures.permitted

pub returns-then-to_u64-eq0 : goal.returns-then-to_u64-eq0
returns-then-to_u64-eq0 g c =
    left_page c.args.core.now c.args.row.now c.args.page c.args.prot c.requires.may c.requires.row c.requires.inside
    (inl (sym (read_at c.args.core.now c.args.row.now c.args.page c.args.prot c.requires.may c.requires.row c.requires.inside c.get.result c.number_in-number.result.0 c.get.ensures.number c.number_in-number.ensures) ∙ sym c.to_u64.ensures ∙ c.if-to_u64-eq0.true))

pub returns-then-is_swapped : goal.returns-then-is_swapped
returns-then-is_swapped g c =
    left_page c.args.core.now c.args.row.now c.args.page c.args.prot c.requires.may c.requires.row c.requires.inside
    (inr (ap is_swapped (sym (read_at c.args.core.now c.args.row.now c.args.page c.args.prot c.requires.may c.requires.row c.requires.inside c.get.result c.number_in-number.result.0 c.get.ensures.number c.number_in-number.ensures)) ∙ sym c.is_swapped.ensures ∙ c.if-is_swapped.true))

pub returns : goal.returns
returns g c =
    let row = c.args.row.now in
    let q = c.requires in
    let sets = c.set_in.ensures.sets row.root.0 c.args.page (q.may.rooted.roots row.pid row.root.0 q.row.root) q.inside q.row.place (ap (λ x. x % 512) (sym c.get.ensures.number)) in
    permits_set c.args.core.now c.args.row.now c.args.page c.args.prot c.requires.may c.requires.row c.requires.inside c.number_in-number.result.0
    (read_at c.args.core.now c.args.row.now c.args.page c.args.prot c.requires.may c.requires.row c.requires.inside c.get.result c.number_in-number.result.0 c.get.ensures.number c.number_in-number.ensures) (λ z. c.if-to_u64-eq0.false (c.to_u64.ensures ∙ z)) (sym c.is_swapped.ensures ∙ c.if-is_swapped.false)
    _ (number_of c.permitted.result) c.takes_stores-writable.result c.takes_stores-writable.ensures c.permitted.ensures.permitted sets (same_beside (picture_of c.args.core.now) c.set_in.new.memory) (search rules) (search rules)
