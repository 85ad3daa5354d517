-- What was not touched twice was not touched.
use Rattle.std.proofs.Common.{◌≡◌, ◌⊎◌, ℕ, inl, inr, refl, ◌∙◌}
use Rattle.disk_model.specs.Moments.{AsksOnly}
use Rattle.disk_model.specs.declared.sector_disk.SectorDisk.{Ghosts}

pub same_then : {T : Type 0} (P Q : Type 0) (a b c : T) → (Q → P) → (b ≡ a) ⊎ P → (c ≡ b) ⊎ Q → (c ≡ a) ⊎ P
same_then P Q a b c wider before after = elim after [
  | inl same ↦ elim before [
    | inl was ↦ inl (same ∙ was)
    | inr why ↦ inr why
  ]
  | inr why ↦ inr (wider why)
]

-- nor were sectors
pub asks_nothing : {E : Type 0} {h : Ghosts E} (W : ℕ → Type 0) (a : E) → AsksOnly h W a a
asks_nothing W a = record { others = λ k. inr refl }

pub asks_more : {E : Type 0} {h : Ghosts E} (V W : ℕ → Type 0) (a b c : E) → ((k : ℕ) → V k → W k) → AsksOnly h W a b → AsksOnly h V b c → AsksOnly h W a c
asks_more V W a b c wider first second = record {
  others = λ k. elim (second.others k) [
    | inl named ↦ inl (wider k named)
    | inr same ↦ elim (first.others k) [
      | inl before ↦ inl before
      | inr was ↦ inr (same ∙ was)
    ]
  ];
}
