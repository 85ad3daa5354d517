-- What lies in a slot stays there, from step to step of an access, but for what the page shows.
use Rattle.fault.proofs.Names.{◌≡◌, ℕ, inr, refl, sym, subst, PageKey, Picture, KeepsPages}
use Rattle.fault.{specs.{Changes.{IsThatPage, KeepsSlotted}, Wants.{ShowsFile}}, proofs.{AccessSteps.{keeps_seen}, Wanted.{shows_back}, Steps.{slotted_then, slotted_wider}}}

-- nothing changed
pub slotted_same : {mode : ℕ} (files : PageKey → Type 0) (own : ℕ → ℕ → Type 0) (c : Picture mode) → KeepsSlotted files own c c
slotted_same files own c = record { file_pages = λ p k at. inr at; copies = λ q p h away. inr refl }

module _ {mode : ℕ} (old mid : Picture mode) (pid page : ℕ) where
  -- no file page came back
  pub slotted_own : KeepsSlotted (λ p. ⊥) (IsThatPage pid page) old mid → KeepsSlotted (ShowsFile old pid page) (IsThatPage pid page) old mid
  slotted_own slotted = slotted_wider (λ p. ⊥) (ShowsFile old pid page) (IsThatPage pid page) (IsThatPage pid page) old mid (λ p none. absurd none) (λ q p is. is) slotted

  -- nothing did
  pub slotted_none : KeepsSlotted (λ p. ⊥) (λ q p. ⊥) old mid → KeepsSlotted (ShowsFile old pid page) (IsThatPage pid page) old mid
  slotted_none slotted = slotted_wider (λ p. ⊥) (ShowsFile old pid page) (λ q p. ⊥) (IsThatPage pid page) old mid (λ p none. absurd none) (λ q p none. absurd none) slotted

  -- the page's file page alone
  pub slotted_brought : (shown : PageKey) → ShowsFile old pid page shown → KeepsSlotted (λ p. p ≡ shown) (λ q p. ⊥) old mid
      → KeepsSlotted (ShowsFile old pid page) (IsThatPage pid page) old mid
  slotted_brought shown shows slotted =
      slotted_wider (λ p. p ≡ shown) (ShowsFile old pid page) (λ q p. ⊥) (IsThatPage pid page) old mid
      (λ p is. (let P : PageKey → Type 0 = λ x. ShowsFile old pid page x in subst P (sym is) shows)) (λ q p none. absurd none) slotted

  module _ (new : Picture mode) where
    -- and then the page's entry was made, or its own copy
    pub slotted_on : (shown : PageKey) → ShowsFile old pid page shown → KeepsSlotted (λ p. p ≡ shown) (λ q p. ⊥) old mid → KeepsSlotted (λ p. ⊥) (IsThatPage pid page) mid new
        → KeepsSlotted (ShowsFile old pid page) (IsThatPage pid page) old new
    slotted_on shown shows first second =
        slotted_then (ShowsFile old pid page) (IsThatPage pid page) old mid new (slotted_brought shown shows first)
        (slotted_wider (λ p. ⊥) (ShowsFile old pid page) (IsThatPage pid page) (IsThatPage pid page) mid new (λ p none. absurd none) (λ q p is. is) second)

    -- tables were linked before
    pub slotted_back : KeepsPages old mid → KeepsSlotted (λ p. ⊥) (λ q p. ⊥) old mid → KeepsSlotted (ShowsFile mid pid page) (IsThatPage pid page) mid new
        → KeepsSlotted (ShowsFile old pid page) (IsThatPage pid page) old new
    slotted_back pages first second =
        slotted_then (ShowsFile old pid page) (IsThatPage pid page) old mid new (slotted_none first)
        (slotted_wider (ShowsFile mid pid page) (ShowsFile old pid page) (IsThatPage pid page) (IsThatPage pid page) mid new
        (λ p. shows_back old mid pid page p pages.at (keeps_seen old mid pages)) (λ q p is. is) second)
