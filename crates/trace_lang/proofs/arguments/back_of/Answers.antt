use Rattle.std.proofs.Common.{◌≡◌, [], ◌-◌, length, take, drop, subst, arith}
use Rattle.trace_lang.{specs.{Names.{ReadsAfter}, declared.names.SourceName.{SourceName}}, proofs.{Nothing.{none≢some}, Places.{texts, one_or_more}, Sources.{name_in, begins, read_after}}}
use Rattle.trace_lang.proofs.arguments.back_of.Goals as goal

pub returns-in_err-source_name_of-clause-only : goal.returns-in_err-source_name_of-clause-only
returns-in_err-source_name_of-clause-only c = λ source placing h.
    let whole = one_or_more c.args.words.now record { ref_ptr = (0, 0); now = [] } (omega arith) in
    absurd (none≢some (c.in_err-source_name_of.ensures.only (name_in source) (begins _ _ _ source placing whole h)))

pub returns-clause-only : goal.returns-clause-only
returns-clause-only c = λ source placing h.
    let whole = one_or_more c.args.words.now record { ref_ptr = (0, 0); now = [] } (omega arith) in
    let told = c.in_ok-source_name_of.ensures.only (name_in source) (begins _ _ _ source placing whole h) in
    let same : c.in_ok-source_name_of.field-0 ≡ name_in source = cc in
    let P : SourceName → Type 0 = λ n. ReadsAfter n (texts (take (length c.args.words.now - 1) (drop 1 c.args.words.now))) c.after_name.result in
    read_after _ _ _ source placing _ whole (subst P same c.after_name.ensures.only) h
