-- Which fault a commit tells, and what a source was asked for.
use Rattle.sync_journal.{proofs.Names.{◌≡◌, ◌<◌, ℕ, List, Result, Ok, Err, refl, ap, sym, subst, ◌∙◌, arith, IsErr, IsErrAnd, IsErrOf, LeavesOnly}, specs.{Committing.{HomesStandOr, PutsPages}, Layouts.{Layout}, Runs.{RunsOnDevice}, Source.{Asks, HasCauses}}}
use Rattle.sync_journal.specs.{Steps.{BlamesJournal}, declared.{faults.{CommitFault.{CommitFault, TheVariants.{Source, Device}}, RecoverFault.{RecoverFault, TheVariants.{Device as DeviceFailed, BadJournal}}}, source.PageSource.{Ghosts}}}
use Rattle.disk_model.specs.declared.sector_disk.SectorDisk.{Ghosts as DiskGhosts}

-- nothing was asked for
pub asks_nothing : {S : Type 0} (s : Ghosts S) (source : S) → s.follows source source → Asks s source source
asks_nothing s source stays = record { kept = λ h. h; later = omega arith; same = λ h k. refl; sure = λ k is. (is, refl); still = λ k gives. gives; follows = stays }

-- which fault it is
pub told_was : {S T E : Type 0} (fault of : E) (result : Result T E) → IsErrAnd result (λ e. e ≡ fault) → IsErrOf result of → ◌≡◌ {A = Result S E} (Err fault) (Err of)
told_was fault of (Ok done) same is = absurd same
told_was fault of (Err e) same is = (let here : e ≡ of = cc in ap Err (sym same ∙ here))

pub not_source : (result : Result (Unit {0}) CommitFault) → IsErrAnd result (λ e. e ≡ Device) → IsErrOf result Source → ⊥
not_source (Ok done) same is = absurd same
not_source (Err e) same is = cc

-- told of a device that hadn't failed before
pub calm_first : {a mid b x y : ℕ} {result : Result (Unit {0}) CommitFault} → mid ≡ a → HasCauses mid b x y result → HasCauses a b x y result
calm_first {a} {mid} {b} {x} {y} {result} calm causes = subst (λ n. HasCauses n b x y result) calm causes

-- over the failures of a device and of a source, before and now
module _ (a b x y : ℕ) where
  -- a fault that was told before
  pub told_on : (fault : CommitFault) (result : Result (Unit {0}) CommitFault) → IsErrAnd result (λ e. e ≡ fault) → HasCauses a b x y (Err fault) → HasCauses a b x y result
  told_on fault (Ok done) is causes = absurd is
  told_on fault (Err e) is causes = subst (λ f. HasCauses a b x y (Err f)) (sym is) causes

  -- the device failed alone
  pub device_failed : (result : Result (Unit {0}) CommitFault) → IsErrAnd result (λ e. e ≡ Device) → a < b → y ≡ x → HasCauses a b x y result
  device_failed (Ok done) is failed calm = absurd is
  device_failed (Err e) is failed calm = record {
    device_later = omega (arith, failed);
    source_later = omega (arith, calm);
    device = λ told. failed;
    source = λ told. cc;
    device_calm = tt;
    device_still = λ told. cc;
    source_calm = tt;
    source_still = λ told. calm;
  }

  -- the source failed alone
  pub source_failed : (result : Result (Unit {0}) CommitFault) → IsErrAnd result (λ e. e ≡ Source) → x < y → b ≡ a → HasCauses a b x y result
  source_failed (Ok done) is failed calm = absurd is
  source_failed (Err e) is failed calm = record {
    device_later = omega (arith, calm);
    source_later = omega (arith, failed);
    device = λ told. cc;
    source = λ told. failed;
    device_calm = tt;
    device_still = λ told. calm;
    source_calm = tt;
    source_still = λ told. cc;
  }

  -- neither failed
  pub none_failed : b ≡ a → y ≡ x → HasCauses a b x y (Ok (tt {0}))
  none_failed device source = record {
    device_later = omega (arith, device);
    source_later = omega (arith, source);
    device = λ told. cc;
    source = λ told. cc;
    device_calm = device;
    device_still = λ told. device;
    source_calm = source;
    source_still = λ told. source;
  }

-- Pages that were not put, since the device failed.
pub puts_failed : {D S J : Type 0} {g : DiskGhosts D} {s : Ghosts S} {layout : Layout J} {Written : ℕ → Type 0} {Once : Type 0} {after back : J} {homes : List ℕ} {old new : D} {from left : S}
    → (result : Result (Unit {0}) CommitFault) → IsErrAnd result (λ e. e ≡ Device) → (g.keeps_model new → s.keeps_model left → LeavesOnly g old new (HomesStandOr layout (g.sector_count old) homes (s.pages from) (g.content old)))
    → Once → RunsOnDevice g Written old new → Asks s from left → g.failures old < g.failures new → s.failures left ≡ s.failures from → PutsPages g s layout Written Once after back homes old new from left result
puts_failed (Ok done) is any_moment once run asks failed calm = absurd is
puts_failed (Err e) is any_moment once run asks failed calm = record {
  ok = λ keeps given. tt;
  rest = λ keeps. tt;
  outside = λ keeps. tt;
  any_moment = any_moment;
  once = once;
  takes = record { run = run; asks = asks; causes = device_failed _ _ _ _ (Err e) is failed calm };
  source = λ keeps told. absurd (not_source (Err e) is told);
  source_moments = λ keeps told. absurd (not_source (Err e) is told);
}

-- what a recovery tells
pub is_error : {T E : Type 0} (result : Result T E) (P : E → Type 0) → IsErrAnd result P → IsErr result
is_error (Ok x) P is = absurd is
is_error (Err e) P is = refl

pub not_bad_device : {T : Type 0} (result : Result T RecoverFault) → IsErrAnd result (λ e. e ≡ DeviceFailed) → IsErrOf result BadJournal → ⊥
not_bad_device (Ok x) same is = absurd same
not_bad_device (Err e) same is = cc

module _ {D T : Type 0} (g : DiskGhosts D) where
  pub blames_device : (old new : D) (result : Result T RecoverFault) → IsErrAnd result (λ e. e ≡ DeviceFailed) → g.failures old < g.failures new → BlamesJournal g old new result
  blames_device old new (Ok x) same failed = absurd same
  blames_device old new (Err e) same failed = record { device = λ is. failed; calm = tt; still = λ is. cc }

  pub blames_on : {S : Type 0} (old mid new : D) (fault : RecoverFault) (result : Result T RecoverFault) → IsErrAnd result (λ e. e ≡ fault) → g.failures mid ≡ g.failures old
      → BlamesJournal g {T = S} mid new (Err fault) → BlamesJournal g old new result
  blames_on old mid new fault (Ok x) same calm blames = absurd same
  blames_on old mid new fault (Err e) same calm blames = record {
    device = λ is. (let failed = blames.device (told_was fault DeviceFailed (Err e) same is) in omega (arith, failed, calm));
    calm = tt;
    still = λ is. blames.still (told_was fault BadJournal (Err e) same is) ∙ calm;
  }

  pub blames_none : (old new : D) (x : T) → g.failures new ≡ g.failures old → BlamesJournal g old new (Ok x)
  blames_none old new x calm = record { device = λ is. cc; calm = calm; still = λ is. cc }
