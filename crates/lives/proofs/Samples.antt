-- Two lives with an msync each.
use Rattle.{std.proofs.Common.{ℕ, zero, suc, ◌≡◌, ◌≤◌, ◌⊎◌, ◌↔◌, inl, inr, ⊎_elim, true, [], ◌∷◌, refl, sym, ap, ◌∙◌, subst, arith}, vm_types.specs.Prefix.{Event, is_msync, is_done, after_event, after_msyncs, acknowledged, IsPrefixHolding}}
use Rattle.{vm_types.specs.Files.{Contents}, lives.specs.Lives.{IsLeftBy, stopped_in_first, stopped_in_second}}

-- one msync, taken
taken : (before : Contents) (a : Event) (i : ℕ) → is_msync a.command ≡ true → after_msyncs before (a ∷ []) (suc i) ≡ after_event a before
taken before a i is = rw is refl

one_known : (a : Event) → is_msync a.command ≡ true → is_done a.reply ≡ true → acknowledged (a ∷ []) 1 ≡ 1
one_known a is done = rw is (rw done refl)

-- a life of one msync that was acknowledged
acknowledges : (before contents : Contents) (a : Event) → is_msync a.command ≡ true → is_done a.reply ≡ true → IsPrefixHolding before (a ∷ []) 1 contents
    → contents ≡ after_event a before
acknowledges before contents a is done prefix =
    let known : 1 ≤ prefix.i = subst (λ (n : ℕ). n ≤ prefix.i) (one_known a is done) prefix.holds in
    at_least prefix.i known prefix.same
  where
    at_least : (i : ℕ) → 1 ≤ i → contents ≡ after_msyncs before (a ∷ []) i → contents ≡ after_event a before
    at_least zero less same = absurd (omega (arith, less))
    at_least (suc i) less same = same ∙ taken before a i is

-- a life of one msync in which a stop came
stopped : (before contents : Contents) (a : Event) → is_msync a.command ≡ true → IsPrefixHolding before (a ∷ []) 0 contents
    → (contents ≡ before) ⊎ (contents ≡ after_event a before)
stopped before contents a is prefix = any prefix.i prefix.same
  where
    any : (i : ℕ) → contents ≡ after_msyncs before (a ∷ []) i → (contents ≡ before) ⊎ (contents ≡ after_event a before)
    any zero same = inl same
    any (suc i) same = inr (same ∙ taken before a i is)

holds_acknowledged : (before : Contents) (a : Event) → is_msync a.command ≡ true → is_done a.reply ≡ true → IsPrefixHolding before (a ∷ []) 1 (after_event a before)
holds_acknowledged before a is done = record { i = 1; holds = omega (arith, one_known a is done); same = sym (taken before a 0 is) }

holds_none : (before : Contents) (a : Event) → IsPrefixHolding before (a ∷ []) 0 before
holds_none before a = record { i = 0; holds = omega arith; same = refl }

holds_one : (before : Contents) (a : Event) → is_msync a.command ≡ true → IsPrefixHolding before (a ∷ []) 0 (after_event a before)
holds_one before a is = record { i = 1; holds = omega arith; same = sym (taken before a 0 is) }

pub in_second : (before contents : Contents) (a b : Event) → is_msync a.command ≡ true → is_done a.reply ≡ true → is_msync b.command ≡ true
    → (IsLeftBy before (stopped_in_second a b) contents ↔ ((contents ≡ after_event a before) ⊎ (contents ≡ after_event b (after_event a before))))
in_second before contents a b is_a done is_b = (
  λ left. let first = acknowledges before left.0 a is_a done left.1 in
      subst (λ (p : Contents). (contents ≡ p) ⊎ (contents ≡ after_event b p)) first
      (subst (λ (p : Contents). (p ≡ left.0) ⊎ (p ≡ after_event b left.0)) (sym left.2.2) (stopped left.0 left.2.0 b is_b left.2.1)),
  ⊎_elim
      (λ lost. (after_event a before, holds_acknowledged before a is_a done, (after_event a before, holds_none (after_event a before) b, lost)))
      (λ whole. (after_event a before, holds_acknowledged before a is_a done, (after_event b (after_event a before), holds_one (after_event a before) b is_b, whole))),
)

pub in_first : (before contents : Contents) (a b : Event) → is_msync a.command ≡ true → is_msync b.command ≡ true → is_done b.reply ≡ true
    → (IsLeftBy before (stopped_in_first a b) contents ↔ ((contents ≡ after_event b before) ⊎ (contents ≡ after_event b (after_event a before))))
in_first before contents a b is_a is_b done = (
  λ left. let second : contents ≡ after_event b left.0 = left.2.2 ∙ acknowledges left.0 left.2.0 b is_b done left.2.1 in
      ⊎_elim (λ lost. inl (second ∙ ap (after_event b) lost)) (λ kept. inr (second ∙ ap (after_event b) kept)) (stopped before left.0 a is_a left.1),
  ⊎_elim
      (λ lost. (before, holds_none before a, (after_event b before, holds_acknowledged before b is_b done, lost)))
      (λ whole. (after_event a before, holds_one before a is_a, (after_event b (after_event a before), holds_acknowledged (after_event a before) b is_b done, whole))),
)
