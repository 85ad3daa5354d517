-- Calls that name sectors, one after another.
use Rattle.disk_model.{proofs.Names.{◌≤◌, ◌<◌, ◌+◌, ◌≡◌, ℕ, inl, inr, ⊎_elim, ap, ◌∙◌, arith, cases_eq}, specs.Stop.{Names, NamesOnce}}

-- one of so many sectors from the first on
abbrev pub IsAmong : ℕ → ℕ → ℕ → Type 0
IsAmong first count k = (first ≤ k) × (k < first + count)

-- some sectors, and then the one after them
pub names_next : (n i : ℕ) (before mid now : ℕ → ℕ) → Names (IsAmong n i) before mid → Names (λ k. k ≡ n + i) mid now → Names (IsAmong n (i + 1)) before now
names_next n i before mid now row next = record {
  named = λ k inside. ⊎_elim
      (λ here. next.named k here ∙ ap (λ times. times + 1) (⊎_elim (λ within. absurd (omega (arith, within.1, here))) (λ e. e) (row.others k)))
      (λ other. ⊎_elim (λ here. absurd (other here)) (λ e. e ∙ row.named k (inside.0, omega (arith, inside.1, other))) (next.others k))
      (cases_eq k (n + i));
  others = λ k. ⊎_elim (λ here. inl (omega (arith, here), omega (arith, here)))
      (λ e. ⊎_elim (λ within. inl (within.0, omega (arith, within.1))) (λ e'. inr (e ∙ e')) (row.others k))
      (next.others k);
}

-- no call, or calls that name no sector
pub once_none : (W : ℕ → Type 0) (before now : ℕ → ℕ) → ((k : ℕ) → now k ≡ before k) → NamesOnce W before now
once_none W before now same = record { each = λ k. inl (same k) }

-- one call
pub once_named : (W V : ℕ → Type 0) (before now : ℕ → ℕ) → ((k : ℕ) → V k → W k) → Names V before now → NamesOnce W before now
once_named W V before now inside names = record { each = λ k. ⊎_elim (λ v. inr (inside k v, names.named k v)) (λ e. inl e) (names.others k) }

-- of more sectors
pub once_wider : (W V : ℕ → Type 0) (before now : ℕ → ℕ) → ((k : ℕ) → W k → V k) → NamesOnce W before now → NamesOnce V before now
once_wider W V before now more once = record { each = λ k. ⊎_elim (λ e. inl e) (λ w. inr (more k w.0, w.1)) (once.each k) }

-- some sectors, and then others
pub once_apart : (V W U : ℕ → Type 0) (before mid now : ℕ → ℕ) → ((k : ℕ) → V k → U k) → ((k : ℕ) → W k → U k) → ((k : ℕ) → V k → W k → ⊥)
    → NamesOnce V before mid → NamesOnce W mid now → NamesOnce U before now
once_apart V W U before mid now first_inside then_inside apart first second = record {
  each = λ k. ⊎_elim
      (λ e. ⊎_elim (λ e'. inl (e ∙ e')) (λ v. inr (first_inside k v.0, e ∙ v.1)) (first.each k))
      (λ w. ⊎_elim (λ e'. inr (then_inside k w.0, w.1 ∙ ap (λ times. times + 1) e')) (λ v. absurd (apart k v.0 w.0)) (first.each k))
      (second.each k);
}

-- some sectors, and then none
pub once_still : (W : ℕ → Type 0) (before mid now : ℕ → ℕ) → NamesOnce W before mid → ((k : ℕ) → now k ≡ mid k) → NamesOnce W before now
once_still W before mid now once same = record { each = λ k. ⊎_elim (λ e. inl (same k ∙ e)) (λ w. inr (w.0, same k ∙ w.1)) (once.each k) }
