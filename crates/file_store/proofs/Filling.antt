-- How homes go on being filled, and how it ends.
use Rattle.file_store.proofs.Names.{◌≡◌, ◌<◌, ℕ, Result, Ok, Err, ⊎_elim, inl, inr, refl, sym, ap, subst, ◌∙◌, arith, IsErrAnd, NamesOnce, Ghosts}
use Rattle.file_store.{specs.{declared.faults.FormatFault.{FormatFault}, declared.faults.FormatFault.TheVariants.{Source, Device}, Making.{Makes, HasFormatCauses, FillsHomes}}, proofs.{Causes.{is_this, same_Err}, Looking.{ok_is_no_err}}}

device_no_source : ◌≡◌ {A = FormatFault} Device Source → ⊥
device_no_source e = cc

-- a fault after a calm part, and one of the device
pub causes_later : {T U : Type 0} (fault : FormatFault) (before mid now : ℕ) → mid ≡ before → HasFormatCauses {T = T} mid now (Err fault) → HasFormatCauses {T = U} before now (Err fault)
causes_later fault before mid now calm causes = record {
  device = λ e. let more = causes.device (ap Err (same_Err _ _ e)) in omega (arith, more, calm);
  calm = tt;
  still = ⊎_elim (λ e. inl (ap Err (same_Err _ _ e))) (λ same. inr (same ∙ calm)) causes.still;
}

pub causes_device : {T : Type 0} (before now : ℕ) → before < now → HasFormatCauses {T = T} before now (Err Device)
causes_device before now failed = record { device = λ e. failed; calm = tt; still = inl refl }

pub causes_none : {T : Type 0} (x : T) (before now : ℕ) → now ≡ before → HasFormatCauses before now (Ok x)
causes_none x before now calm = record { device = λ e. absurd (ok_is_no_err x _ e); calm = calm; still = tt }

module _ {D : Type 0} (g : Ghosts D) {T : Type 0} (W : ℕ → Type 0) (HasBytes AreTold : Type 0) (old new : D) (run : Makes g W old new) (once : NamesOnce W (g.asked old) (g.asked new)) where
  -- all are filled
  pub fills_done : (x : T) → g.failures new ≡ g.failures old → AreTold → FillsHomes g W HasBytes AreTold old new (Ok x)
  fills_done x calm told = record { run = run; once = once; causes = causes_none x _ _ calm; source = λ e. absurd (ok_is_no_err x _ e); others = tt; whole = told }

  -- a part was refused
  pub fills_error : {U : Type 0} (V : ℕ → Type 0) (Bytes Told : Type 0) (fault : FormatFault) (r : Result T FormatFault) (mid : D) → IsErrAnd r (λ f. f ≡ fault)
      → g.failures mid ≡ g.failures old → FillsHomes g {T = U} V Bytes Told mid new (Err fault) → (Bytes → HasBytes) → FillsHomes g W HasBytes AreTold old new r
  fills_error V Bytes Told fault r mid is calm fills more = subst (λ r. FillsHomes g W HasBytes AreTold old new r) (sym (is_this r fault is)) (record {
    run = run;
    once = once;
    causes = causes_later fault _ _ _ calm fills.causes;
    source = λ e. more (fills.source (ap Err (same_Err _ _ e)));
    others = ⊎_elim (λ e. inl (ap Err (same_Err _ _ e))) (λ e. inr (ap Err (same_Err _ _ e))) fills.others;
    whole = tt;
  })

  -- the device failed, or a reader
  pub fills_failed : (r : Result T FormatFault) → IsErrAnd r (λ f. f ≡ Device) → g.failures old < g.failures new → FillsHomes g W HasBytes AreTold old new r
  fills_failed r is failed = subst (λ r. FillsHomes g W HasBytes AreTold old new r) (sym (is_this r Device is)) (record {
    run = run;
    once = once;
    causes = causes_device _ _ failed;
    source = λ e. absurd (device_no_source (same_Err _ _ e));
    others = inr refl;
    whole = tt;
  })
