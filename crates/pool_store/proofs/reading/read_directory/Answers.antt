use Rattle.std.proofs.Common.{◌≡◌, ◌∙◌, List, Option, Err, refl, sym, ap, subst}
use Rattle.directories.specs.{Layouts.{IsGoodLayout}, declared.entry.Entry.{Entry}}
use Rattle.pool_journal.specs.declared.sizes.PoolSizes.{PoolSizes}
use Rattle.pool_store.proofs.{Entries.{not_bounded, not_good}, Looking.{looks_bad, looks_refused}, PageReads.{no_directory}}
use Rattle.pool_store.specs.{Pools.{HaveBounds}, Reading.{standing_under}}
use Rattle.pool_store.specs.declared.faults.OpenFault.TheVariants.{BadLayout}
use Rattle.pool_store.proofs.reading.read_directory.Goals as goal

pub returns-then-not-are_bounded : goal.returns-then-not-are_bounded
returns-then-not-are_bounded g c =
    let d = g.D.SectorDisk in
    let journal = c.args.journal.now in
    let old = c.args.disk.now in
    let new = c.read_pages.new.disk in
    let e = c.in_ok-entries.ensures in
    no_directory d journal c.args.pages old new e.once BadLayout (Err BadLayout) refl
    (looks_bad d _ old new e.run (Err BadLayout) refl e.calm (λ keeps. not_bounded c.args.pages journal.sizes.homes (standing_under journal (d.content old)) c.in_ok-entries.entries.items e.size (e.said keeps)
    (λ fine. c.if-not-are_bounded.ensures.one refl (subst HaveBounds (sym c.deref.ensures.value) fine))))

pub returns-in_err-check : goal.returns-in_err-check
returns-in_err-check g c =
    let d = g.D.SectorDisk in
    let journal = c.args.journal.now in
    let old = c.args.disk.now in
    let new = c.read_pages.new.disk in
    let e = c.in_ok-entries.ensures in
    let given = c.from_residual-in_err-check.ensures.1 in
    let homes : c.from.result ≡ journal.sizes.homes = c.from.ensures ∙ ap (λ (sizes : PoolSizes). sizes.homes) c.sizes.ensures in
    no_directory d journal c.args.pages old new e.once _ _ given
    (looks_refused d _ old new e.run (IsGoodLayout c.args.pages c.from.result c.deref-2.result.now → ⊥) _ _ given e.calm c.in_err-check.ensures.only
    (λ keeps bad. not_good c.args.pages journal.sizes.homes (standing_under journal (d.content old)) c.in_ok-entries.entries.items e.size (e.said keeps)
    (λ fine. bad (subst (λ (entries : List (Option Entry)). IsGoodLayout c.args.pages c.from.result entries) (sym c.deref-2.ensures.value)
    (subst (λ n. IsGoodLayout c.args.pages n c.in_ok-entries.entries.items) (sym homes) fine)))))
