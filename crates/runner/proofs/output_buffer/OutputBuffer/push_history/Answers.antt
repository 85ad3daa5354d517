use Rattle.{std.proofs.Common.{ap, ◌∙◌, ◌++◌, take}, trace_lang.specs.Texts.{text_of}, vm_types.specs.declared.reply.Reply.TheVariants.{Past}}
use Rattle.runner.proofs.output_buffer.OutputBuffer.push_history.Goals as goal

pub returns-clause-text : goal.returns-clause-text
returns-clause-text c =
    c.append-end.ensures.bytes ∙ ap (λ t. take c.self.inside.len c.self.inside.bytes ++ t) c.history_text-count.ensures.text
    ∙ ap (λ v. v ++ text_of (Past c.args.history.now)) c.self.view_is
