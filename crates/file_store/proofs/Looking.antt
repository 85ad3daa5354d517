-- Results that are none of each other.
use Rattle.file_store.proofs.Names.{◌≡◌, Result, Ok, Err}

pub ok_is_no_err : {T E : Type 0} (x : T) (e : E) → ◌≡◌ {A = Result T E} (Ok x) (Err e) → ⊥
ok_is_no_err x e is = cc
