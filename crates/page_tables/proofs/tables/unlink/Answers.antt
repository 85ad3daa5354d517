use Rattle.page_tables.{proofs.{Names.{◌≡◌, sym, ap, ◌∙◌, subst, Table, Private, is_handed_out}, Setting.{table_forth}}, specs.Change.{ChangesEntry}}
use Rattle.page_tables.proofs.tables.unlink.Goals as goal

pub release-requires : goal.release-requires
release-requires c = let there = table_forth _ _ _ _ _ c.write_entry.ensures.change c.args.table.0 c.requires.table in record { inside = there.inside; handed_out = ap is_handed_out there.role }

pub returns : goal.returns
returns c =
    let there = table_forth _ _ _ _ _ c.write_entry.ensures.change c.args.table.0 c.requires.table in
    record {
      between = c.write_entry.new.frames;
      cleared = (let P : _ → Type 0 = λ x. ChangesEntry c.args.frames.now c.write_entry.new.frames c.args.parent.0 c.args.index x in
          subst P c.from_u64.ensures c.write_entry.ensures.change);
      released = c.release.ensures.change.others;
      free = c.release.ensures.alone (λ e. (let bad : Table ≡ Private = sym there.role ∙ e in (cc)));
    }
