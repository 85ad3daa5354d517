-- What was not read.
use Rattle.std.proofs.Common.{◌≡◌, Some, None}

pub none≢some : {A : Type 0} {x : A} → None ≡ Some x → ⊥
none≢some {A} {x} e = cc
