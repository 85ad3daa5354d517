use Rattle.std.proofs.Common.{Ok, refl, rules}
use Rattle.sized_stores.proofs.TakenListed.{is_listed, told_so}
use Rattle.sized_stores.proofs.committing.commit_listed.Goals as goal

pub returns-in_err-commit_in_slots-clause-commits : goal.returns-in_err-commit_in_slots-clause-commits
returns-in_err-commit_in_slots-clause-commits g c =
    is_listed g.S.PageSource c.args.room.now c.args.source.now c.commit_in_slots.new.source.source.now g.D.SectorDisk _ c.args.store.now c.commit_in_slots.new.store _ c.commit_in_slots.new.source
    _ _ _ _ _ c.deref.ensures.value c.deref-2.ensures.value c.deref-3.ensures.value c.deref-4.ensures.value c.deref-5.ensures.value
    refl (λ keeps. keeps) refl refl c.commit_in_slots.ensures.commits.asks.follows.1 _ c.in_err-commit_in_slots.ensures.commits c.from_residual.result
    (told_so c.in_err-commit_in_slots.field-0.0 c.from_residual.result c.from_residual.ensures.1) _ (search rules)

pub returns-clause-commits : goal.returns-clause-commits
returns-clause-commits g c =
    is_listed g.S.PageSource c.args.room.now c.args.source.now c.commit_in_slots.new.source.source.now g.D.SectorDisk _ c.args.store.now c.commit_in_slots.new.store _ c.commit_in_slots.new.source
    _ _ _ _ _ c.deref.ensures.value c.deref-2.ensures.value c.deref-3.ensures.value c.deref-4.ensures.value c.deref-5.ensures.value
    refl (λ keeps. keeps) refl refl c.commit_in_slots.ensures.commits.asks.follows.1 (Ok (tt {0})) c.in_ok-commit_in_slots.ensures.commits (Ok (tt {0})) refl _ (search rules)
