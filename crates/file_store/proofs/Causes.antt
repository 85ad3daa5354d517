-- What the faults of the calls below say.
use Rattle.file_store.{proofs.Names.{◌≡◌, ◌⊎◌, inl, inr, Result, Ok, Err, refl, ap, IsErrAnd, OnErr, RecoverFault}, specs.{Faults.{open_fault}, declared.faults.OpenFault.TheVariants.{BadJournal}}}
use Rattle.sync_journal.specs.declared.faults.RecoverFault.TheVariants.{Device as RecoverDevice, BadJournal as RecoverBadJournal}

pub journal_from : (r : RecoverFault) → BadJournal ≡ open_fault r → r ≡ RecoverBadJournal
journal_from RecoverDevice e = cc
journal_from RecoverBadJournal e = refl

pub fault_cases : (r : RecoverFault) → (r ≡ RecoverDevice) ⊎ (r ≡ RecoverBadJournal)
fault_cases RecoverDevice = inl refl
fault_cases RecoverBadJournal = inr refl

pub on_err : {T E P : Type 0} (r : Result T E) → P → OnErr r P
on_err (Ok x) p = tt
on_err (Err e) p = p

-- an error that is known to be this one
pub is_this : {T E : Type 0} (r : Result T E) (e : E) → IsErrAnd r (λ f. f ≡ e) → r ≡ Err e
is_this (Ok x) e none = absurd none
is_this (Err f) e is = ap Err is

pub same_Err : {T E : Type 0} (a b : E) → ◌≡◌ {A = Result T E} (Err a) (Err b) → a ≡ b
same_Err a b e = cc
