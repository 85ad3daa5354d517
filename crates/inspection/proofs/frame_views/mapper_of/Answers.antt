use Rattle.inspection.proofs.{Mappers.{only_first}, Names.{◌∙◌, inl, sym, picture_of, entry-of, IsOver}}
use Rattle.residency.specs.declared.leaves.Change.TheVariants as Kinds
use Rattle.inspection.proofs.frame_views.mapper_of.Goals as goal

pub entry_number-requires-clause-root : goal.entry_number-requires-clause-root
entry_number-requires-clause-root g c = c.requires.fit.rooted.roots c.in_ok-pid.pid c.in_ok-root.root.0 (sym c.in_ok-root.ensures)

pub returns-clause-some : goal.returns-clause-some
returns-clause-some g c =
    let is = c.in_ok-pid.ensures.found.0 in (
      record {
        holds = c.requires.holds;
        from = inl (is, c.in_ok-page.ensures.some.from);
        over = c.in_ok-page.ensures.some.over;
        entry = c.entry_number.ensures ∙ sym (entry-of (picture_of c.args.core.now) c.in_ok-pid.pid c.in_ok-root.root.0 c.in_ok-page.page (sym c.in_ok-root.ensures));
        none_before = λ p k from before inside over.
            only_first (IsOver (picture_of c.args.core.now) Kinds.Forget c.args.n.0) c.args.number c.args.low c.in_ok-pid.pid c.in_ok-page.page is c.in_ok-page.ensures.some.before p k from before over;
      },
      is,
    )
