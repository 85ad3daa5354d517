use Rattle.{std.proofs.Common.{ap, ◌∙◌, ◌++◌}, trace_lang.specs.Texts.{text_of}, vm_types.specs.Replies.{reply_of}}
use Rattle.runner.proofs.output_buffer.OutputBuffer.push_answer.Goals as goal

pub returns-clause-text : goal.returns-clause-text
returns-clause-text c = c.append_answer-end.ensures.bytes ∙ ap (λ v. v ++ text_of (reply_of c.args.answer.now)) c.self.view_is
