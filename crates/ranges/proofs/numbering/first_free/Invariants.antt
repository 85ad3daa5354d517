use Rattle.ranges.proofs.Names.{◌≡◌, ◌-◌, false, get_or, named_limit, least_from}
use Rattle.ranges.proofs.numbering.first_free.Given as goal

abbrev pub invariant-loop-n : goal.invariant-loop-n
invariant-loop-n l = record { rest : least_from (λ o. get_or l.used o false) 0 named_limit ≡ least_from (λ o. get_or l.used o false) l.n (named_limit - l.n) }
