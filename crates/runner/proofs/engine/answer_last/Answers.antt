use Rattle.{std.proofs.{Common.{length, subst, sym, ◌∙◌}, lemmas.Bool.{eqb-false}}, runner.{proofs.Ends.{runs_last}, specs.Session.{Answers}}}
use Rattle.runner.proofs.engine.answer_last.Goals as goal

pub returns : goal.returns
returns g c =
    let answers = subst (λ l. Answers g.D.SectorDisk g.E.SectorDisk c.args.machine.now l c.answer.ensures.answers.0 c.answer.new.machine) c.as_slice.ensures c.answer.ensures.answers.1 in
    record {
      sound = c.answer.ensures.sound;
      runs = λ open_line begun. runs_last g.D.SectorDisk g.E.SectorDisk _ _ c.args.line.now open_line _ _ c.answer.ensures.answers.0 begun
          (eqb-false (length c.args.line.now) 0 (sym c.is_empty.ensures ∙ c.if-is_empty.false)) answers c.answer.ensures.answers.2;
    }
