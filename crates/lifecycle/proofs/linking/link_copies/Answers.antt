use Rattle.lifecycle.proofs.{CopySteps.{copies_none, copies_then, copies_done, copies_stall, forking_still}, Linked.{still_there, both_rows, all_rows, none_wanted}, Names.{ℕ, Ok, Err, sym, subst, picture_of, nothing_on, low_zero}}
use Rattle.lifecycle.specs.{Steps.{HasTablesFrom}, TablesForCopies.{LinksForCopies, MayLink}}
use Rattle.lifecycle.proofs.linking.link_copies.Goals as goal

pub loop-part-init : goal.loop-part-init
loop-part-init g c =
    record {
      links = copies_none g.E.SectorDisk c.args.core.now c.args.parent c.args.child tt c.requires.forking.fit c.requires.swap;
      linked = none_wanted (picture_of c.args.core.now) c.args.parent c.args.child 0 16 (λ page from below. low_zero (picture_of c.args.core.now) c.args.parent page c.requires.forking.fit.granting below);
    }

pub link_part-requires-clause-ready : goal.link_part-requires-clause-ready
link_part-requires-clause-ready g c =
    let k = c.loop-part.invariant.links in
    subst (λ (q : ℕ). MayLink g.E.SectorDisk c.loop-part.core q c.args.child) (sym c.in-Some.ensures.some.of) (record {
      forking = forking_still (picture_of c.args.core.now) (picture_of c.loop-part.core) c.args.parent c.args.child c.requires.forking k.moves.fit k.moves.spaces;
      swap = k.moves.swap;
    })

pub loop-part-preserved : goal.loop-part-preserved
loop-part-preserved g c =
    let mid = c.loop-part.core in
    let last = c.link_part.new.core in
    let k = c.loop-part.invariant in
    let part = c.in-Some.part in
    let of = c.in-Some.ensures.some.of in
    let step = c.in_ok-link_part.ensures in
    record {
      links = copies_then g.E.SectorDisk c.args.core.now mid last c.args.parent c.args.child tt _ k.links
          (subst (λ (q : ℕ). LinksForCopies g.E.SectorDisk mid last q c.args.child (Ok c.in_ok-link_part.field-0)) of step.links);
      linked = both_rows (picture_of last) c.args.parent c.args.child 0 part.first part.end
          (still_there (picture_of mid) (picture_of last) c.args.parent c.args.child 0 part.first step.links.moves.fit.granting step.links.pages step.links.moves.tables
          (both_rows (picture_of mid) c.args.parent c.args.child 0 c.loop-part.page part.first k.linked
          (none_wanted (picture_of mid) c.args.parent c.args.child c.loop-part.page part.first c.in-Some.ensures.some.gap)))
          (subst (λ (q : ℕ). HasTablesFrom (picture_of last) q c.args.child part.first part.end) of step.linked);
    }

pub returns-in_err-link_part : goal.returns-in_err-link_part
returns-in_err-link_part g c =
    let first = c.args.core.now in
    let last = c.link_part.new.core in
    let stall = c.in_err-link_part.field-0.0 in
    record {
      links = copies_stall g.E.SectorDisk first last c.args.parent c.args.child stall c.from_residual.result c.from_residual.ensures.1
          (copies_then g.E.SectorDisk first c.loop-part.core last c.args.parent c.args.child tt _ c.loop-part.invariant.links
          (subst (λ (q : ℕ). LinksForCopies g.E.SectorDisk c.loop-part.core last q c.args.child (Err c.in_err-link_part.field-0.0)) c.in-Some.ensures.some.of c.in_err-link_part.ensures.links));
      linked = nothing_on c.from_residual.result stall _ c.from_residual.ensures.1;
    }

pub returns : goal.returns
returns g c =
    let k = c.loop-part.invariant in
    record {
      links = copies_done g.E.SectorDisk c.args.core.now c.loop-part.core c.args.parent c.args.child tt _ k.links;
      linked = all_rows (picture_of c.loop-part.core) c.args.parent c.args.child c.loop-part.page c.in_default.ensures.none k.linked;
    }
