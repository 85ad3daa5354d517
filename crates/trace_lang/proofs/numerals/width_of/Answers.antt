use Rattle.trace_lang.proofs.numerals.width_of.Goals as goal

pub returns-in_err-bytes-clause-only : goal.returns-in_err-bytes-clause-only
returns-in_err-bytes-clause-only c = λ width h. absurd (c.in_err-bytes.ensures.none _ h)
