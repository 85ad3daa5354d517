use Rattle.std.proofs.Common.{ap, arith}
use Rattle.std.proofs.lemmas.Bool.{false≢true}
use Rattle.std.specs.Option.{option_copied, option_map}
use Rattle.pool_store.specs.Files.{info_of}
use Rattle.pool_growth.proofs.checking.lists_end.Goals as goal

pub returns-clause-one : goal.returns-clause-one
returns-clause-one c = λ none lists.
    let whole = c.if-is_multiple_of.ensures in
    c.is_listed.ensures.one none (lists (info_of c.in-Some-Some.was.now) (info_of c.in-Some-Some.now.now) (ap (λ r. option_map info_of (option_copied r)) c.in-Some-Some.is-0)
    (ap (λ r. option_map info_of (option_copied r)) c.in-Some-Some.is-1) (omega arith) (λ zero. false≢true (whole.1 zero)))
