-- How pages go on being copied: after a part of the new store alone, and within more sectors of it.
use Rattle.upgrades.proofs.Names.{◌≡◌, ◌∙◌, ℕ, Result, Err, refl, arith, Ghosts, IsErrAnd, NamesOnce, once_apart, once_wider}
use Rattle.file_store.proofs.{Copied.{copies_error}, Making.{makes_more, makes_of}}
use Rattle.file_store.specs.{Making.{Makes}, Upgrade.{HasUpgradeCauses}, declared.faults.UpgradeFault.{UpgradeFault}}
use Rattle.upgrades.specs.Copying.{CopiesOld}

-- a part of the new store was made before, and no device failed
pub causes_later : {T : Type 0} (r : Result T UpgradeFault) (a b x y z : ℕ) → y ≡ x → HasUpgradeCauses a b y z r → HasUpgradeCauses a b x z r
causes_later r a b x y z calm causes = record {
  old_later = causes.old_later;
  new_later = let later = causes.new_later in omega (arith, later, calm);
  old_device = causes.old_device;
  new_device = λ is. let more = causes.new_device is in omega (arith, more, calm);
  old_still = causes.old_still;
  new_still = λ other. causes.new_still other ∙ calm;
}

module _ {D E T : Type 0} (g : Ghosts D) (h : Ghosts E) (R V W U : ℕ → Type 0) (old old' : D) (new mid new' : E) where
  pub copies_later : (r : Result T UpgradeFault) → ((k : ℕ) → V k → U k) → ((k : ℕ) → W k → U k) → ((k : ℕ) → V k → W k → ⊥) → Makes h V new mid → NamesOnce V (h.asked new) (h.asked mid) → h.failures mid ≡ h.failures new
      → CopiesOld g h R W old old' mid new' r → CopiesOld g h R U old old' new new' r
  copies_later r first then' apart made once calm copied = record {
    copies = record {
      old_run = copied.old_run;
      once_old = copied.once_old;
      run = makes_more h U new mid new' (makes_of h V U new mid first made) (makes_of h W U mid new' then' copied.run);
      causes = causes_later r (g.failures old) (g.failures old') (h.failures new) (h.failures mid) (h.failures new') calm copied.causes;
      others = copied.others;
    };
    once = once_apart V W U (h.asked new) (h.asked mid) (h.asked new') first then' apart once copied.once;
  }

  -- and the first part was refused
  pub copies_refused : {S : Type 0} (fault : UpgradeFault) (r : Result T UpgradeFault) → IsErrAnd r (λ f. f ≡ fault) → ((k : ℕ) → W k → U k) → CopiesOld {T = S} g h R W old old' new new' (Err fault) → CopiesOld g h R U old old' new new' r
  copies_refused fault r is more copied = record {
    copies = copies_error g h R U old old' new new' copied.old_run copied.once_old (makes_of h W U new new' more copied.run) R W fault r old new is refl refl copied.copies;
    once = once_wider W U (h.asked new) (h.asked new') more copied.once;
  }
