-- Why no frame may be given up.
use Rattle.residency.proofs.Names.{◌≡◌, ◌≢◌, ℕ, zero, suc, ◌<◌, inl, inr, ◌⊎◌, true, Option, length, refl, sym, ap, ◌∙◌, subst, arith, cases_eq, cases_lt, cases_Bool, false≢true, get_or_past, PageKey, FrameNo, Role, Free, Private, Cache}
use Rattle.residency.{proofs.Names.{FrameTable, IsSound, IsFrame, role_of, SlotTable, IsInUse, IsSwapFull, Home, Frame}, specs.{Calls.{IsSpareable, NeedsSlot}, Evictions.{IsEvictable}, Parts.{IsFit}, Picture.{Picture, is_data}}}

-- a frame in use is one
pub used_inside : (t : FrameTable) (n : ℕ) → IsSound t → role_of t n ≢ Free → IsFrame t n
used_inside t n sound used = elim (cases_lt n (length t.roles)) [
  | inl low ↦ (let roles = sound.all_roles in omega (arith, low, roles))
  | inr past ↦ absurd (used (get_or_past t.roles n Free past))
]

pub inside_of : (t : FrameTable) (n : ℕ) → IsSound t → is_data (role_of t n) ≡ true → IsFrame t n
inside_of t n sound used = used_inside t n sound (λ free. false≢true (sym (ap is_data free) ∙ used))

pub above_of : (t : FrameTable) (n : ℕ) → IsSound t → is_data (role_of t n) ≡ true → n ≢ 0
above_of t n sound used none = false≢true (sym (ap is_data (ap (role_of t) none ∙ sound.zero_role)) ∙ used)

-- a slot is free, or none is
free_below : (t : SlotTable) (n : ℕ) → ((k : ℕ) × (k < n) × (t.count k ≡ 0)) ⊎ ((k : ℕ) → k < n → IsInUse t k)
free_below t zero = inr (λ k less. absurd (omega (arith, less)))
free_below t (suc n) = elim (cases_eq (t.count n) 0) [
  | inl none ↦ inl (n, omega arith, none)
  | inr some ↦ elim (free_below t n) [
    | inl there ↦ inl (there.0, (let l = there.1 in omega (arith, l)), there.2)
    | inr used ↦ inr (λ k less. elim (cases_eq k n) [
      | inl e ↦ (let P : ℕ → Type 0 = λ i. IsInUse t i in subst P (sym e) (omega (arith, some)))
      | inr ne ↦ used k (omega (arith, less, ne))
    ])
  ]
]

pub full_then : (t : SlotTable) → ((IsSwapFull t → ⊥) → ⊥) → IsSwapFull t
full_then t not_not = elim (free_below t t.total) [
  | inl there ↦ absurd (not_not (λ full. (let some = full there.0 there.1 in let none = there.2 in omega (arith, some, none))))
  | inr used ↦ used
]

needs_role : {mode : ℕ} (c : Picture mode) (n : ℕ) (r : Role) → IsFit c → role_of c.frames n ≡ r → is_data r ≡ true → NeedsSlot c n ⊎ (NeedsSlot c n → ⊥)
needs_role c n Private fit is used = inl (inl is)
needs_role c n Cache fit is used =
    let p = fit.places.held n is in
    elim (cases_Bool (c.touched p.0)) [
      | inl t ↦ inl (inr (p.0, p.1, t))
      | inr f ↦ inr (λ needs. elim needs [
        | inl own ↦ (let bad : Private ≡ Cache = sym own ∙ is in (cc))
        | inr file ↦ (false≢true (sym f ∙ ap c.touched (one_page p.0 file.0 p.1 file.1) ∙ file.2))
      ])
    ]
  where
    one_page : (p q : PageKey) → c.place p ≡ Frame (record { 0 = n }) → c.place q ≡ Frame (record { 0 = n }) → p ≡ q
    one_page p q at there = fit.places.apart p q (at ∙ sym there) (λ home. (let bad : Home ≡ Frame (record { 0 = n }) = sym home ∙ at in (cc)))
needs_role c n r fit is used = absurd (false≢true used)

module _ {mode : ℕ} (c : Picture mode) (keep : Option FrameNo) (fit : IsFit c) (sound : IsSound c.frames) (none : (n : ℕ) → IsFrame c.frames n → IsEvictable c keep n → ⊥) where
  -- every frame that may be given up needs a slot
  pub all_need : (n : ℕ) → IsSpareable c keep n → NeedsSlot c n
  all_need n spare = elim (needs_role c n (role_of c.frames n) fit refl spare.0) [
    | inl needs ↦ needs
    | inr not_so ↦ absurd (none n (inside_of c.frames n sound spare.0) (spare, λ needs. absurd (not_so needs)))
  ]

  -- and none is free
  pub no_slot_free : (n : ℕ) → IsSpareable c keep n → IsSwapFull c.slots
  no_slot_free n spare = full_then c.slots (λ not_full. none n (inside_of c.frames n sound spare.0) (spare, λ needs. not_full))
