use Rattle.{std.proofs.Common.{refl, ◌∙◌, arith}, watching.proofs.{Books.{books_on, books_same}, Notes.{compared_more}}}
use Rattle.watching.proofs.ledger.Ledger.compare_all.Goals as goal

pub loop-n-init : goal.loop-n-init
loop-n-init g c = record { books = books_same _; long = refl; noted = λ running k before inside is. absurd (omega (arith, before)) }

pub loop-n-preserved : goal.loop-n-preserved
loop-n-preserved g c =
    let i = c.loop-n.invariant in
    let e = c.compare.ensures in
    record {
      books = books_on _ _ _ i.books e.books;
      long = e.others.count ∙ i.long;
      noted = λ running k. compared_more c.args.inquiry.now.machine.now c.loop-n.self.frames.items c.compare.new.self.frames.items c.loop-n.n k _ e.others i.long (c.in_ok-compare.ensures.noted running) (i.noted running);
    }

pub returns-in_err-compare-clause-books : goal.returns-in_err-compare-clause-books
returns-in_err-compare-clause-books g c = books_on _ _ _ c.loop-n.invariant.books c.compare.ensures.books

pub returns-after-loop-n-clause-frames : goal.returns-after-loop-n-clause-frames
returns-after-loop-n-clause-frames g c = λ running k few is. let i = c.loop-n.invariant in i.noted running k (omega (arith, few, c.loop-n-test.false)) (omega (arith, few)) is

pub returns-then-n-count-clause-frames : goal.returns-then-n-count-clause-frames
returns-then-n-count-clause-frames g c = λ running k few is. let i = c.loop-n.invariant in i.noted running k (omega (arith, few, c.if-n-count.true)) (omega (arith, few)) is
