use Rattle.{std.proofs.Common.{◌≡◌, ◌≤◌, ◌+◌, sym, ◌∙◌, ap, subst, List, length, refl, drop}, regions.proofs.{PasteLemmas.{Pending, long_part, pasted_none, pasted_some, pending_none, pending_some}, PushLemmas.{unused}}}
use Rattle.regions.{proofs.{ResultLemmas.{on_err}, table.Regions.paste.Goals.{in-Some+in_ok-push, in_default}}, specs.{RunList.{pasted, pushed}, declared.run.Run.{Run}}}
use Rattle.regions.proofs.table.Regions.paste.Goals as goal

pub loop-run-init : goal.loop-run-init
loop-run-init g c = record { pending = record { from = 16; order = c.requires.maximal; behind = c.requires.behind }; few = c.requires.few; same = refl }

pub returns-in_err-push-clause-err : goal.returns-in_err-push-clause-err
returns-in_err-push-clause-err g c =
    on_err c.from_residual.result _
    (long_part g.M.Levels.mode c.args.low c.args.high c.args.prot c.loop-run.self c.args.runs.now c.loop-run.run-index unused c.loop-run-test.true c.part.result c.part.ensures
    c.in-Some.part (pasted c.args.low c.args.high c.args.prot c.args.self.now c.args.runs.now) c.in-Some.is c.loop-run.invariant.same c.in_err-push.ensures.err)

pub loop-run-preserved : goal.loop-run-preserved
loop-run-preserved g c =
    let low = c.args.low in
    let i = c.loop-run.run-index in
    elim c.match-part.branch [
      | in-Some+in_ok-push w ↦
          let new : c.match-part.self ≡ pushed c.loop-run.self w.in-Some.part = w.self-is ∙ w.in_ok-push.ensures.ok in
          record {
            pending = subst (λ (l : List Run). Pending g.M.Levels.mode low l (drop (i + 1) c.args.runs.now)) (sym new)
                (pending_some g.M.Levels.mode low c.args.high c.args.prot c.loop-run.self c.args.runs.now i unused c.loop-run-test.true c.part.result c.part.ensures w.in-Some.part w.in-Some.is c.loop-run.invariant.pending);
            few = subst (λ (l : List Run). length l ≤ 256) (sym w.self-is) w.in_ok-push.ensures.few;
            same = ap (λ (l : List Run). pasted low c.args.high c.args.prot l (drop (i + 1) c.args.runs.now)) new
                ∙ pasted_some g.M.Levels.mode low c.args.high c.args.prot c.loop-run.self c.args.runs.now i unused c.loop-run-test.true c.part.result c.part.ensures w.in-Some.part w.in-Some.is
                ∙ c.loop-run.invariant.same;
          }
      | in_default w ↦
          record {
            pending = subst (λ (l : List Run). Pending g.M.Levels.mode low l (drop (i + 1) c.args.runs.now)) (sym w.self-is)
                (pending_none g.M.Levels.mode low c.args.high c.args.prot c.loop-run.self c.args.runs.now i unused c.loop-run-test.true c.part.result c.part.ensures c.loop-run.invariant.pending);
            few = subst (λ (l : List Run). length l ≤ 256) (sym w.self-is) c.loop-run.invariant.few;
            same = ap (λ (l : List Run). pasted low c.args.high c.args.prot l (drop (i + 1) c.args.runs.now)) w.self-is
                ∙ pasted_none g.M.Levels.mode low c.args.high c.args.prot c.loop-run.self c.args.runs.now i unused c.loop-run-test.true c.part.result c.part.ensures w.in_default.is
                ∙ c.loop-run.invariant.same;
          }
    ]
