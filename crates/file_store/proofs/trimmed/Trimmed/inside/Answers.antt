use Rattle.file_store.proofs.Names.{◌≡◌, None, Some, length, slice_get, refl, sym, ap, ◌∙◌, MatchOption-at_none, slice_get_past, slice_get_read}
use Rattle.file_store.{specs.Store.{entry_of, inside_named}, proofs.Homes.{inside_of-entry, inside_of-none, inside_of-past}}
use Rattle.file_store.proofs.trimmed.Trimmed.inside.Goals as goal

pub returns-in_default : goal.returns-in_default
returns-in_default g c =
    let past = MatchOption-at_none _ _ c.in_default.is c.get.ensures.lookup.3 in
    sym (ap (inside_named c.args.self.now.directory.now) (slice_get_past c.args.self.now.pages.now c.args.i past) ∙ inside_of-past c.args.self.now.directory.now)

pub returns-in-Some-entry : goal.returns-in-Some-entry
returns-in-Some-entry g c =
    let at : slice_get c.args.self.now.pages.now c.args.i ≡ Some c.in-Some.page.now =
    slice_get_read c.args.self.now.pages.now (length c.args.self.now.pages.now) c.args.i c.in-Some.page.now refl c.in-Some.ensures.lookup.3.0 c.in-Some.ensures.lookup.1 in
    let entry : entry_of c.args.self.now.directory.now c.in-Some.page.now.file ≡ Some c.in-Some-entry.entry = ap (entry_of c.args.self.now.directory.now) (sym c.from.ensures) ∙ sym c.entry.ensures.entry ∙ c.in-Some-entry.is in
    c.bytes_inside.ensures.inside ∙ sym (ap (inside_named c.args.self.now.directory.now) at ∙ inside_of-entry c.args.self.now.directory.now c.in-Some.page.now c.in-Some-entry.entry entry)

pub returns-in-None : goal.returns-in-None
returns-in-None g c =
    let at : slice_get c.args.self.now.pages.now c.args.i ≡ Some c.in-Some.page.now =
    slice_get_read c.args.self.now.pages.now (length c.args.self.now.pages.now) c.args.i c.in-Some.page.now refl c.in-Some.ensures.lookup.3.0 c.in-Some.ensures.lookup.1 in
    let entry : entry_of c.args.self.now.directory.now c.in-Some.page.now.file ≡ None = ap (entry_of c.args.self.now.directory.now) (sym c.from.ensures) ∙ sym c.entry.ensures.entry ∙ c.in-None.is in
    sym (ap (inside_named c.args.self.now.directory.now) at ∙ inside_of-none c.args.self.now.directory.now c.in-Some.page.now entry)
