-- The second chance.
use Rattle.std.proofs.{Common.{◌≡◌, inl, inr, ℕ, ◌+◌, ◌-◌, ◌<◌, sym, ◌∙◌, subst, arith}, lemmas.Bool.{cases_lt}}
use Rattle.clock_replace.{specs.{Choice.{place, Chooses}, declared.frame_view.FrameView.{Ghosts}}, proofs.Rounds.{wraps, round_before, second_round}}

-- in one round the hand is nowhere twice
apart : (hand total j i : ℕ) → hand < total → j < i → i < total → place hand total j ≡ place hand total i → ⊥
apart hand total j i below less inside same =
    let w = wraps (hand + j) total in
    let v = wraps (hand + i) total in
    elim (cases_lt (hand + j) total) [
      | inl a ↦ elim (cases_lt (hand + i) total) [
        | inl b ↦ (let p = w.low a in let q = v.low b in omega (arith, p, q, same, less))
        | inr b ↦ (let p = w.low a in let q = v.mid b (omega (arith, below, inside)) in omega (arith, p, q, same, less, inside, below, b))
      ]
      | inr a ↦ (
          let p = w.mid a (omega (arith, below, less, inside)) in
          let q = v.mid (omega (arith, a, less)) (omega (arith, below, inside)) in
          omega (arith, p, q, same, less, a))
    ]

module _ {V : Type 0} (g : Ghosts V) where
  pub chance : (old new : V) (hand past n : ℕ) → hand < g.total old → Chooses g old new hand past n
      → g.marked old n → (m : ℕ) → m < g.total old → g.evictable_at old m → g.marked old m
  chance old new hand past n below chosen marked m inside evictable = elim (cases_lt chosen.before (g.total old)) [
    | inl early ↦ absurd (chosen.clear (chosen.passes.unmarked n marked (λ passed. apart hand (g.total old) passed.0 chosen.before below passed.1 early (sym passed.2 ∙ chosen.is))))
    | inr late ↦ (
        let there = second_round hand (g.total old) m below inside in
        let at : m ≡ place hand (g.total old) (there.0 - g.total old) = there.3 ∙ sym (round_before hand (g.total old) there.0 below there.1 there.2) in
        let first = chosen.passes.first_round (there.0 - g.total old) (omega (arith, late, there.1, there.2)) (subst (λ (x : ℕ). g.evictable_at old x) at evictable) in
        subst (λ (x : ℕ). g.marked old x) (sym at) first.1)
  ]
