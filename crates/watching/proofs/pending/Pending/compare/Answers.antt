use Rattle.{std.proofs.Common.{rules, subst, sym}, watching.{proofs.Books.{books_same}, specs.Books.{KeepsBooks}}}
use Rattle.watching.proofs.pending.Pending.compare.Goals as goal

pub returns-in-Nothing : goal.returns-in-Nothing
returns-in-Nothing g c = record {
  books = subst (KeepsBooks c.args.ledger.now.counts.frames) (sym c.count.ensures.frames) (books_same _);
  frames = search rules;
}

pub returns-in-Page : goal.returns-in-Page
returns-in-Page g c = record {
  books = subst (λ old. KeepsBooks old c.compare_access.new.self.counts.frames) c.count.ensures.frames c.compare_access.ensures.books;
  frames = search rules;
}

pub returns-in-All : goal.returns-in-All
returns-in-All g c = record {
  books = subst (λ old. KeepsBooks old c.compare_all.new.self.counts.frames) c.count.ensures.frames c.compare_all.ensures.books;
  frames = search rules;
}
