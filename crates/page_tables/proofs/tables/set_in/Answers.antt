use Rattle.page_tables.{proofs.{Names.{inr, refl, ◌∙◌}, Numbers.{number_of-not_pointer}, Pages.{index_of-zero}, Setting.{sets, kept_frames}}, specs.Entry.{number_of}}
use Rattle.page_tables.proofs.tables.set_in.Goals as goal

pub returns-clause-sets : goal.returns-clause-sets
returns-clause-sets c top root page is_root small row is =
    sets c.args.frames.now c.write_entry.new.frames top root page c.args.table.0 (number_of c.args.entry) (record {
      forest = c.requires.forest;
      is_root = is_root;
      whole = row.whole page refl;
      last = row.last page refl;
      software = inr (record { entry = c.args.entry; form = c.requires.form; is = refl });
      leaf = number_of-not_pointer c.args.entry c.requires.form;
      change = rw (index_of-zero page ∙ is, ← c.encode.ensures) c.write_entry.ensures.change;
    }) small

pub returns-clause-kept : goal.returns-clause-kept
returns-clause-kept c = kept_frames c.args.frames.now c.write_entry.new.frames c.args.table.0 c.args.index _ c.requires.table c.write_entry.ensures.change
