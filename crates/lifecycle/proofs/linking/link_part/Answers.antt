use Rattle.lifecycle.proofs.{Copies.{copied_mapped}, CopySteps.{copies_none, copies_way, copies_done, copies_stall}, Linked.{row_whole}, Names.{Option, sym, ◌∙◌, subst, IsSome, Attr, picture_of, same_table}}
use Rattle.lifecycle.proofs.linking.link_part.Goals as goal

pub link_tables-requires-clause-mapped : goal.link_tables-requires-clause-mapped
link_tables-requires-clause-mapped g c =
    let copy = c.in-Some.ensures.some.copy in
    subst (λ (x : Option Attr). IsSome x) (sym (c.requires.ready.forking.same c.in-Some.copied))
    (copied_mapped (picture_of c.args.core.now) c.args.part.now.pid c.in-Some.copied c.requires.ready.forking.fit.granting copy.0 copy.1)

pub returns-in_err-link_tables-clause-links : goal.returns-in_err-link_tables-clause-links
returns-in_err-link_tables-clause-links g c =
    let old = c.args.core.now in
    let new = c.link_tables.new.core in
    copies_stall g.E.SectorDisk old new c.args.part.now.pid c.args.child c.in_err-link_tables.field-0.0 c.from_residual.result c.from_residual.ensures.1
    (copies_way g.E.SectorDisk old new c.args.part.now.pid c.args.child c.in-Some.copied _ c.requires.ready.forking.fit c.in-Some.ensures.some.copy c.in_err-link_tables.ensures)

pub returns-in_ok-link_tables-clause-links : goal.returns-in_ok-link_tables-clause-links
returns-in_ok-link_tables-clause-links g c =
    let old = c.args.core.now in
    let new = c.link_tables.new.core in
    copies_done g.E.SectorDisk old new c.args.part.now.pid c.args.child _ _
    (copies_way g.E.SectorDisk old new c.args.part.now.pid c.args.child c.in-Some.copied _ c.requires.ready.forking.fit c.in-Some.ensures.some.copy c.in_ok-link_tables.ensures)

pub returns-in_ok-link_tables-clause-linked : goal.returns-in_ok-link_tables-clause-linked
returns-in_ok-link_tables-clause-linked g c page from below copy =
    row_whole (picture_of c.link_tables.new.core) c.args.child c.in-Some.copied page
    (c.in-Some.ensures.some.row ∙ same_table c.args.part.now.first page c.args.part.now.end from below c.requires.part.one_table) c.in_ok-link_tables.ensures.whole

pub returns-in_default-clause-links : goal.returns-in_default-clause-links
returns-in_default-clause-links g c = copies_none g.E.SectorDisk c.args.core.now c.args.part.now.pid c.args.child _ c.requires.ready.forking.fit c.requires.ready.swap
