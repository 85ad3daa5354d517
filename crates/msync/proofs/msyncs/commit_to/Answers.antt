use Rattle.std.proofs.Common.{Ok, Err, refl, sym, ◌∙◌}
use Rattle.std.proofs.lemmas.Bool.{eqb-true, eqb-false}
use Rattle.sized_stores.proofs.TakenListed.{told_so}
use Rattle.msync.proofs.Storing.{are_pages_alone, commits_lengths, commits_pages}
use Rattle.msync.proofs.msyncs.commit_to.Goals as goal

pub commit-requires-clause-pages : goal.commit-requires-clause-pages
commit-requires-clause-pages g c =
    are_pages_alone g.D.SectorDisk g.S.PageSource c.args.store.now c.requires.ready c.args.files.now c.args.pages.now c.requires.taken (eqb-true _ _ (sym c.is_empty.ensures ∙ c.if-is_empty.true))

pub returns-in_err-commit : goal.returns-in_err-commit
returns-in_err-commit g c =
    commits_pages g.D.SectorDisk g.S.PageSource c.args.store.now c.requires.ready c.args.files.now c.args.pages.now c.requires.taken (eqb-true _ _ (sym c.is_empty.ensures ∙ c.if-is_empty.true))
    c.commit.new.self c.args.source.now c.commit.new.source (Err c.in_err-commit.field-0.0) c.in_err-commit.ensures c.from_residual.result
    (told_so c.in_err-commit.field-0.0 c.from_residual.result c.from_residual.ensures.1)

pub returns-then-is_empty : goal.returns-then-is_empty
returns-then-is_empty g c =
    commits_pages g.D.SectorDisk g.S.PageSource c.args.store.now c.requires.ready c.args.files.now c.args.pages.now c.requires.taken (eqb-true _ _ (sym c.is_empty.ensures ∙ c.if-is_empty.true))
    c.commit.new.self c.args.source.now c.commit.new.source (Ok (tt {0})) c.in_ok-commit.ensures (Ok (tt {0})) refl

pub returns : goal.returns
returns g c =
    commits_lengths g.D.SectorDisk g.S.PageSource c.args.store.now c.requires.ready c.args.pages.now c.args.files.now c.requires.taken
    (eqb-false _ _ (sym c.is_empty.ensures ∙ c.if-is_empty.false)) c.commit_sizes.new.self c.args.source.now c.commit_sizes.new.source c.commit_sizes.result c.commit_sizes.ensures
