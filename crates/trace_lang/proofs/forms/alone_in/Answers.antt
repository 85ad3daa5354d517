use Rattle.{std.proofs.Common.{sym, ◌∙◌, ap}, trace_lang.proofs.{FirstWord.{one_word_of}, Nothing.{none≢some}, OneCommand.{first, no_command}}}
use Rattle.trace_lang.proofs.forms.alone_in.Goals as goal

pub returns-in_err-name_of : goal.returns-in_err-name_of
returns-in_err-name_of c = λ plain. no_command _ _ c.from_residual.ensures (λ n h.
    none≢some (c.in_err-name_of.ensures.only n (sym (ap first (one_word_of c.args.line.now plain)) ∙ h)))
