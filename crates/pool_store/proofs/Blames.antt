-- Which fault an opening tells.
use Rattle.std.proofs.Common.{◌≡◌, ◌<◌, Result, Ok, Err, refl, ap, sym, subst, ◌∙◌, arith}
use Rattle.std.specs.Prelude.{IfOk, IsErrAnd, MatchResult}
use Rattle.disk_model.specs.declared.sector_disk.SectorDisk.{Ghosts}
use Rattle.pool_store.specs.{Reading.{LooksFor}, Resume.{BlamesStore, HasPoolHead, IsNoPool}, declared.faults.OpenFault.{OpenFault, TheVariants.{Device, Memory}}}

-- a result that is this error
pub is_error_of : {T E : Type 0} (r : Result T E) (e : E) → IsErrAnd r (λ f. f ≡ e) → r ≡ Err e
is_error_of (Ok x) e none = absurd none
is_error_of (Err f) e is = ap Err is

pub told : {T E : Type 0} (r : Result T E) (e : E) (P : T → Type 0) (Q : E → Type 0) → IsErrAnd r (λ f. f ≡ e) → Q e → MatchResult r P Q
told (Ok x) e P Q none q = absurd none
told (Err f) e P Q is q = subst Q (sym is) q

pub same_Err : {T : Type 0} (a b : OpenFault) → ◌≡◌ {A = Result T OpenFault} (Err a) (Err b) → a ≡ b
same_Err a b e = cc

-- of an error nothing is asked that an `Ok` would have
pub if_ok_none : {T E : Type 0} (P : T → Type 0) (Q : E → Type 0) (r : Result T E) → IsErrAnd r Q → IfOk r P
if_ok_none P Q (Ok x) none = absurd none
if_ok_none P Q (Err e) is = tt

module _ {D : Type 0} (g : Ghosts D) where
  -- the device failed
  pub blames_device : (old new : D) → g.failures old < g.failures new → BlamesStore g old Device new
  blames_device old new failed = record { device = λ is. failed; err_calm = λ other. absurd (other refl); bad = λ keeps is. cc; memory = λ keeps is. cc }

  -- memory was short
  pub blames_memory : (old new : D) → g.failures new ≡ g.failures old → (g.keeps_model new → HasPoolHead (g.sector_count old) (g.content old)) → BlamesStore g old Memory new
  blames_memory old new calm head = record { device = λ is. cc; err_calm = λ other. calm; bad = λ keeps is. cc; memory = λ keeps is. head keeps }

  -- a look told it, and the device hadn't failed before
  pub blames_look : {T : Type 0} (Bad : Type 0) (fault : OpenFault) (old mid new : D) → g.failures mid ≡ g.failures old → (g.keeps_model new → Bad → IsNoPool (g.sector_count old) (g.content old))
      → (g.keeps_model new → fault ≡ Memory → HasPoolHead (g.sector_count old) (g.content old))
      → LooksFor g {T = T} Bad mid new (Err fault) → BlamesStore g old fault new
  blames_look Bad fault old mid new calm more head looks = record {
    device = λ is. (let failed = looks.device (ap Err is) in omega (arith, failed, calm));
    err_calm = λ other. looks.still (λ is. other (same_Err fault Device is)) ∙ calm;
    bad = λ keeps is. more keeps (looks.bad keeps (ap Err is));
    memory = head;
  }
