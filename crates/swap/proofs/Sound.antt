-- What is true of slots at all times.
use Rattle.std.proofs.{Common.{◌≡◌, ℕ, ◌-◌, ◌<◌, List, length, set, sym, ap, ◌∙◌}, lemmas.List.{get_or-set_same, set-set, set-get_or}}
use Rattle.swap.{proofs.Stack.{inside_of}, specs.{Counts.{count_at, AreSoundCounts}, Slots.{AreSoundSlots}}}

pub sound_slots : (counts : List ℕ) (bytes : ℕ → List ℕ) → AreSoundCounts counts → AreSoundSlots (record { total = length counts; bytes = bytes; count = count_at counts })
sound_slots counts bytes sound = record { most = sound.most; shared = sound.shared; inside = inside_of counts }

-- a slot that was taken is free again
pub put_back : (old mid new : List ℕ) (n : ℕ) → n < length old → count_at old n ≡ 0 → mid ≡ set old n 1 → new ≡ set mid n (count_at mid n - 1) → new ≡ old
put_back old mid new n below none taken lowered =
    lowered ∙ ap (λ (l : List ℕ). set l n (count_at l n - 1)) taken ∙ ap (λ (v : ℕ). set (set old n 1) n (v - 1)) (get_or-set_same old n 1 0 below)
    ∙ set-set old n 1 0 ∙ ap (λ (v : ℕ). set old n v) (sym none) ∙ set-get_or old n 0
