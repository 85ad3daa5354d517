use Rattle.{machine.{proofs.{Names.{sym, ap, subst, ◌∙◌, Reply, picture_of}, Tidied.{tidied}}, specs.EngineCommands.{EngineCarriesOut}}, std.specs.Prelude.{is_some}, vm_types.specs.declared.reply.Reply.TheVariants.{Past}}
use Rattle.machine.proofs.engine.Engine.step.Goals as goal

pub returns-in-Some-clause-carries : goal.returns-in-Some-clause-carries
returns-in-Some-clause-carries g c =
    subst (λ (r : Reply). EngineCarriesOut g.D.SectorDisk g.E.SectorDisk c.args.self.now c.carry_out.new.self c.args.command r) (sym c.reply.ensures) c.in-Some.ensures

pub returns-in-None-clause-carries : goal.returns-in-None-clause-carries
returns-in-None-clause-carries g c =
    subst (λ (r : Reply). EngineCarriesOut g.D.SectorDisk g.E.SectorDisk c.args.self.now c.carry_out.new.self c.args.command r) (sym (ap Past c.history.ensures)) c.in-None.ensures

pub returns-in-Some-clause-tidy : goal.returns-in-Some-clause-tidy
returns-in-Some-clause-tidy g c = λ s shows running.
    tidied (picture_of c.carry_out.new.self.core) s (c.carry_out.ensures.does.sound.going (sym shows.running ∙ ap is_some running)).fit shows.pages

pub returns-in-None-clause-tidy : goal.returns-in-None-clause-tidy
returns-in-None-clause-tidy g c = λ s shows running.
    tidied (picture_of c.carry_out.new.self.core) s (c.carry_out.ensures.does.sound.going (sym shows.running ∙ ap is_some running)).fit shows.pages
