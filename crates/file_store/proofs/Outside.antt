-- An opening leaves what lies outside the gate, the journal and the homes.
use Rattle.file_store.proofs.Names.{◌≡◌, ℕ, ⊎_elim, arith, Touches, Ghosts, IsOutside, IsRecovered}

not_recovered : (sectors k : ℕ) → IsOutside sectors k → IsRecovered sectors k → ⊥
not_recovered sectors k outside written = ⊎_elim
    (λ front. ⊎_elim (λ gate. omega (arith, front, gate)) (λ home. omega (arith, front, home.0)) written)
    (λ after. ⊎_elim (λ gate. omega (arith, after, gate)) (λ home. omega (arith, after, home.1)) written)
    outside

pub left_outside : {D : Type 0} (g : Ghosts D) (sectors : ℕ) (old new : D) → Touches g (IsRecovered sectors) old new → (k : ℕ) → IsOutside sectors k → g.content new k ≡ g.content old k
left_outside g sectors old new run k outside = ⊎_elim (λ written. absurd (not_recovered sectors k outside written)) (λ e. e) (run.content k)
