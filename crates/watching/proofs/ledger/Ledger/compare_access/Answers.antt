use Rattle.watching.proofs.Books.{books_on, books_same}
use Rattle.watching.proofs.ledger.Ledger.compare_access.Goals as goal

pub loop-frame-init : goal.loop-frame-init
loop-frame-init g c = books_same _

pub loop-frame-preserved : goal.loop-frame-preserved
loop-frame-preserved g c = books_on _ _ _ c.loop-frame.invariant c.compare.ensures.books

pub returns-in_err-compare : goal.returns-in_err-compare
returns-in_err-compare g c = record { books = books_on _ _ _ c.loop-frame.invariant c.compare.ensures.books }
