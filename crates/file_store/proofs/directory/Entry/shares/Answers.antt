use Rattle.file_store.{proofs.Names.{sym, ◌∙◌, subst, same_Some}, specs.Directory.{IsHomeOf}}
use Rattle.file_store.proofs.directory.Entry.shares.Goals as goal

pub returns-in-Some-clause-none : goal.returns-in-Some-clause-none
returns-in-Some-clause-none c = λ apart h a is in_a in_self.
    c.overlaps.ensures.none apart h (subst (λ e. IsHomeOf e h) (same_Some a c.in-Some.other (sym is ∙ c.in-Some.is)) in_a) in_self
