use Rattle.residency.proofs.Names.{◌≡◌, ℕ, true, not, inl, inr, refl, sym, ap, ◌∙◌, false≢true, Private, Cache, Home, Frame}
use Rattle.residency.specs.{Calls.{NeedsSlot}, Contents.{HasContent, goes_to_swap}, Parts.{IsFit}, Picture.{Picture}, declared.contents.Content.{Content, TheVariants.{Own, Page}}}
use Rattle.residency.proofs.looking.is_evictable.Goals as goal

goes : {mode : ℕ} (c : Picture mode) (n : ℕ) (held : Content) → IsFit c → HasContent c n held → NeedsSlot c n → goes_to_swap c.touched held ≡ true
goes c n (Own page) fit has needs = refl
goes c n (Page p) fit has (inl own) = let clash : ⊥ = (let bad : Private ≡ Cache = sym own ∙ fit.places.cached p n has in (cc)) in absurd clash
goes c n (Page p) fit has (inr file) = ap c.touched (fit.places.apart p file.0 (has ∙ sym file.1) (λ home. (let bad : Home ≡ Frame (record { 0 = n }) = sym home ∙ has in (cc)))) ∙ file.2

pub returns-then-not-needs_slot-clause-evictable : goal.returns-then-not-needs_slot-clause-evictable
returns-then-not-needs_slot-clause-evictable g c = λ spared.
    let has = c.in-Some.ensures in
    (has.spareable, λ needs full. false≢true (sym (ap not (c.needs_slot.ensures ∙ goes _ _ c.in-Some.content c.requires.fit has.content needs)) ∙ spared))
