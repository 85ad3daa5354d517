-- A slot loses a share, after an entry was moved away from it.
use Rattle.residency.proofs.{Evicted.{seat_number}, Names.{◌≡◌, ◌≢◌, ℕ, inl, inr, ◌⊎◌, ◌+◌, ◌<◌, refl, sym, ap, ◌∙◌, subst, arith, cases_eq, PageKey, ReleasesSlot, Slot}, Puts.{SameButSlots, slots_forth, slots_back, slots_counts}}
use Rattle.residency.{proofs.{Puts.{slots_pages, fit_slots}, Seats.{counted_released}}, specs.{Parts.{IsFitBut, nowhere}, Picture.{Picture, entry, IsOwned, count_in, page_in}, Seats.{Seat, InSlot, seat}}}

module _ {mode : ℕ} (old new : Picture mode) (k m : ℕ) (fit : IsFitBut old (InSlot k) 1 m) (has : IsOwned old (InSlot k)) (same : SameButSlots old new) (releases : ReleasesSlot old.slots new.slots k) where
  no_file : (p : PageKey) (j : ℕ) → j ≡ k → old.place p ≡ Slot (record { 0 = j }) → ⊥
  no_file p j is e = has.1 p (e ∙ ap (λ i. Slot (record { 0 = i })) is)

  more : (j : ℕ) → j ≡ k → new.slots.count j + 1 ≡ old.slots.count j
  more j is = let P : ℕ → Type 0 = λ i. new.slots.count i + 1 ≡ old.slots.count i in subst P (sym is) releases.lowered

  forth : (z : Seat) → (z ≢ InSlot k) ⊎ (1 < count_in old z) → IsOwned old z → IsOwned new z
  forth z why = slots_forth old new same z (λ j is used. elim (cases_eq j k) [
    | inl e ↦ elim why [
      | inl ne ↦ absurd (ne (is ∙ ap (λ i. InSlot i) e))
      | inr some ↦ (let less = more j e in let c = ap (count_in old) is in omega (arith, less, some, c))
    ]
    | inr ne ↦ (let c = releases.others.counts j ne in omega (arith, c, used))
  ])

  back : (z : Seat) → IsOwned new z → IsOwned old z
  back z = slots_back old new same z (λ j is used. elim (cases_eq j k) [
    | inl e ↦ (let less = more j e in omega (arith, less))
    | inr ne ↦ (let c = releases.others.counts j ne in omega (arith, c, used))
  ])

  pub fit_slot_released : IsFitBut new nowhere 0 m
  fit_slot_released = fit_slots old new (InSlot k) nowhere 1 0 m fit same (
    fit.counted.0,
    counted_released mode (entry old) (entry new) (IsOwned old) (IsOwned new) (count_in old) (count_in new)
        (page_in old fit.counted.0) (page_in new fit.counted.0) (λ q p h. ap seat (same.entries q p)) (InSlot k) nowhere fit.counted.1 has forth back
        (λ z ne own. slots_counts old new same z (λ j is. releases.others.counts j (λ e. ne (is ∙ ap (λ i. InSlot i) e)))) (λ z own. slots_pages old new same fit.counted.0 fit.counted.0 z (λ j is. refl)) releases.lowered
        (λ q p z h is. seat_number old m q p z fit.rooted is),
  )
      (λ p j there. releases.others.counts j (λ is. no_file p j is there))
      (λ j some. elim (cases_eq j k) [
        | inl is ↦ inr (λ p there. no_file p j is there)
        | inr ne ↦ inl (let c = releases.others.counts j ne in omega (arith, c, some))
      ])
