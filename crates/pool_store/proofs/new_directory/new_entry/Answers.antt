use Rattle.pool_store.proofs.Names.{length, refl, sym, arith, slice_get_read}
use Rattle.pool_store.proofs.Made.{entry_written, given_past}
use Rattle.pool_store.proofs.new_directory.new_entry.Goals as goal

pub returns-then-f-sources-clause-is : goal.returns-then-f-sources-clause-is
returns-then-f-sources-clause-is g c = sym (given_past c.args.sources.now c.args.f c.if-f-sources.true)

pub returns-clause-is : goal.returns-clause-is
returns-clause-is g c =
    let sources = c.args.sources.now in
    entry_written sources c.args.f c.first_of-first.result c.index-sources-f.result c.entry_of.result (slice_get_read sources (length sources) c.args.f c.index-sources-f.result refl (omega (arith, c.if-f-sources.false)) c.index-sources-f.is)
    c.first_of-first.ensures c.entry_of.ensures.is
