use Rattle.{std.proofs.Common.{inl, inr, drop, refl, sym, ◌∙◌, ap}, trace_lang.{proofs.{FirstWord.{cut_words, some_word}, Nothing.{none≢some}, OneCommand.{first, no_command, none_named}}, specs.Names.{name_text}}}
use Rattle.trace_lang.specs.declared.names.Name.TheVariants as name
use Rattle.trace_lang.proofs.forms.named_in.Goals as goal

pub returns-in_err-name_of : goal.returns-in_err-name_of
returns-in_err-name_of c = let line = c.in-Some.ensures in no_command _ _ c.from_residual.ensures (λ n h. none≢some (c.in_err-name_of.ensures.only n (sym (ap first (cut_words c.args.line.now _ _ line.parts line.word)) ∙ h)))

pub returns-in-Spawn : goal.returns-in-Spawn
returns-in-Spawn c =
    let line = c.in-Some.ensures in
    let words = cut_words c.args.line.now _ _ line.parts line.word in
    let said = ap first words ∙ c.in_ok-name_of.ensures.found in
    elim c.in-Spawn.is [
      | inl e ↦ none_named name.Spawn _ _ refl (said ∙ ap name_text e) (λ h. some_word c.in-Some.text.now (ap (λ ws. drop 1 ws) (sym words ∙ h)))
      | inr e ↦ none_named name.Faults _ _ refl (said ∙ ap name_text e) (λ h. some_word c.in-Some.text.now (ap (λ ws. drop 1 ws) (sym words ∙ h)))
    ]
