-- What a look at a device comes to.
use Rattle.std.proofs.Common.{◌≡◌, ◌<◌, Result, Ok, Err, refl, sym, ap, subst, ◌∙◌}
use Rattle.std.specs.Prelude.{IsErrAnd}
use Rattle.disk_model.specs.{Moments.{Nothing}, declared.sector_disk.SectorDisk.{Ghosts}}
use Rattle.sync_journal.specs.Runs.{RunsOnDevice}
use Rattle.directories.specs.{Layouts.{IsRefusal}, declared.faults.LayoutFault.{LayoutFault}}
use Rattle.directories.specs.declared.faults.LayoutFault.TheVariants.{Outside, Short, Shared, Memory as NoMemory}
use Rattle.pool_store.specs.{Faults.{layout_fault}, Reading.{LooksFor}}
use Rattle.pool_store.specs.declared.faults.OpenFault.{OpenFault}
use Rattle.pool_store.specs.declared.faults.OpenFault.TheVariants.{Device, BadLayout, Memory}

ok_is_no_err : {T E : Type 0} (x : T) (e : E) → ◌≡◌ {A = Result T E} (Ok x) (Err e) → ⊥
ok_is_no_err x e is = cc

same_Err : {T E : Type 0} (a b : E) → ◌≡◌ {A = Result T E} (Err a) (Err b) → a ≡ b
same_Err a b e = cc

-- an error that is known to be this one
is_this : {T E : Type 0} (r : Result T E) (e : E) → IsErrAnd r (λ f. f ≡ e) → r ≡ Err e
is_this (Ok x) e none = absurd none
is_this (Err f) e is = ap Err is

-- of a result of another type it is the same one
pub same_told : {T U : Type 0} (r : Result T OpenFault) (e f : OpenFault) → IsErrAnd r (λ x. x ≡ e) → r ≡ Err f → ◌≡◌ {A = Result U OpenFault} (Err e) (Err f)
same_told {T} r e f is told = ap Err (same_Err {T = T} e f (sym (is_this r e is) ∙ told))

module _ {D T : Type 0} (g : Ghosts D) (Bad : Type 0) (old new : D) (run : RunsOnDevice g Nothing old new) where
  -- something is found,
  pub looks_found : (x : T) → g.failures new ≡ g.failures old → LooksFor g Bad old new (Ok x)
  looks_found x calm = record {
    looks = record { run = run; calm = calm; device = λ is. absurd (ok_is_no_err x Device is); still = tt };
    bad = λ k is. absurd (ok_is_no_err x BadLayout is);
  }

  -- the device fails,
  pub looks_failed : (r : Result T OpenFault) → IsErrAnd r (λ f. f ≡ Device) → g.failures old < g.failures new → LooksFor g Bad old new r
  looks_failed r is failed = subst (λ r. LooksFor g Bad old new r) (sym (is_this r Device is)) (record {
    looks = record { run = run; calm = tt; device = λ e. failed; still = λ other. absurd (other refl) };
    bad = λ k e. absurd (let one = same_Err {T = T} Device BadLayout e in cc);
  })

  -- what is found is bad,
  pub looks_bad : (r : Result T OpenFault) → IsErrAnd r (λ f. f ≡ BadLayout) → g.failures new ≡ g.failures old → (g.keeps_model new → Bad) → LooksFor g Bad old new r
  looks_bad r is calm bad = subst (λ r. LooksFor g Bad old new r) (sym (is_this r BadLayout is)) (record {
    looks = record { run = run; calm = tt; device = λ e. absurd (let one = same_Err {T = T} BadLayout Device e in cc); still = λ other. calm };
    bad = λ k e. bad k;
  })

  -- or memory is short.
  pub looks_short : (r : Result T OpenFault) → IsErrAnd r (λ f. f ≡ Memory) → g.failures new ≡ g.failures old → LooksFor g Bad old new r
  looks_short r is calm = subst (λ r. LooksFor g Bad old new r) (sym (is_this r Memory is)) (record {
    looks = record { run = run; calm = tt; device = λ e. absurd (let one = same_Err {T = T} Memory Device e in cc); still = λ other. calm };
    bad = λ k e. absurd (let one = same_Err {T = T} Memory BadLayout e in cc);
  })

  -- What an error tells of one thing it tells of another.
  pub looks_further : {U : Type 0} (More : Type 0) (e : OpenFault) (r : Result U OpenFault) → IsErrAnd r (λ f. f ≡ e) → LooksFor g {T = T} Bad old new (Err e) → (g.keeps_model new → Bad → More) → LooksFor g More old new r
  looks_further More e r is looks more = subst (λ r. LooksFor g More old new r) (sym (is_this r e is)) (record {
    looks = record { run = run; calm = tt; device = λ same. looks.device (ap Err (same_Err e Device same)); still = λ other. looks.still (λ same. other (ap Err (same_Err e Device same))) };
    bad = λ k same. more k (looks.bad k (ap Err (same_Err e BadLayout same)));
  })

  -- A fault of a layout tells that it is bad, or that memory was short.
  pub looks_refused : (Worse : Type 0) (given : LayoutFault) (r : Result T OpenFault) → IsErrAnd r (λ f. f ≡ layout_fault given) → g.failures new ≡ g.failures old → IsRefusal given Worse
      → (g.keeps_model new → Worse → Bad) → LooksFor g Bad old new r
  looks_refused Worse (Outside f) r is calm why more = looks_bad r is calm (λ keeps. more keeps why)
  looks_refused Worse (Short f) r is calm why more = looks_bad r is calm (λ keeps. more keeps why)
  looks_refused Worse (Shared f h) r is calm why more = looks_bad r is calm (λ keeps. more keeps why)
  looks_refused Worse NoMemory r is calm why more = looks_short r is calm
