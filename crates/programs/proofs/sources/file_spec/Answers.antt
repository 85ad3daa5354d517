use Rattle.{std.proofs.Common.{◌++◌, codes, ap, sym, ◌∙◌}, programs.proofs.Specs.{no_spec}}
use Rattle.programs.proofs.sources.file_spec.Goals as goal

pub returns-in_default-number-clause-none : goal.returns-in_default-number-clause-none
returns-in_default-number-clause-none c =
    let cut = c.in-Some-strip_prefix-2.ensures.cases in
    no_spec c.args.spec.now c.in-Some-strip_prefix-2.digits.now c.number.result c.in_default.ensures.cases c.in_default-strip_prefix.ensures.cases
    (cut.1.1 ∙ ap (λ ds. codes "zero:" ++ ds) (sym cut.2)) c.in_default-number.is c.number.ensures.only
