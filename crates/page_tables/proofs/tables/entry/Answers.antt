use Rattle.page_tables.{proofs.{Ends.{page_is_entry}, Names.{top_level, sym, subst}}, specs.Entry.{IsPageEntry}}
use Rattle.page_tables.proofs.tables.entry.Goals as goal

pub decode-requires : goal.decode-requires
decode-requires g c = let P : _ → Type 0 = λ x. IsPageEntry x in subst P (sym c.entry_number.ensures) (page_is_entry c.args.frames.now (top_level g.M.Levels.mode) c.args.root.0 c.args.page c.requires.forest c.requires.root)
