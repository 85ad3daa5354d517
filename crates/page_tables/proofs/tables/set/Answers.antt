use Rattle.page_tables.{proofs.{Names.{top_level, user_pages_fit, inr, refl, sym, ap, ◌∙◌, arith, index_of}, Numbers.{number_of-not_pointer}, Setting.{sets}}, specs.Entry.{number_of}}
use Rattle.page_tables.proofs.tables.set.Goals as goal

pub returns-clause-sets : goal.returns-clause-sets
returns-clause-sets g c =
    let index = c.table_index.ensures.index ∙ ap (λ p. index_of p 0) c.get.ensures.number in
    sets c.args.frames.now c.write_entry.new.frames (top_level g.M.Levels.mode) c.args.root.0 c.args.page c.end_of_way.result.1.0 (number_of c.args.entry) (record {
      forest = c.requires.forest;
      is_root = c.requires.root;
      whole = c.requires.whole;
      last = sym c.end_of_way.ensures.table;
      software = inr (record { entry = c.args.entry; form = c.requires.form; is = refl });
      leaf = number_of-not_pointer c.args.entry c.requires.form;
      change = rw (← index, ← c.encode.ensures) c.write_entry.ensures.change;
    }) (omega (arith, c.requires.user, user_pages_fit g.M.Levels.mode))
