-- What a table of marks says of homes.
use Rattle.std.proofs.Common.{◌≡◌, ◌-◌, ◌%◌, ◌<◌, ◌≤◌, ◌∙◌, ℕ, zero, suc, Option, Some, None, Bool, true, false, List, length, get_or, is_some, refl, sym, ap, ⊎_elim, arith, replicate, if◌then◌else◌}
use Rattle.std.proofs.lemmas.{Bool.{cases_lt, false≢true}, List.{get_or-replicate, get_or_past, length-replicate}}
use Rattle.pool_journal.proofs.Taken.{up}
use Rattle.pool_journal.specs.{Giving.{AreRising, IsSieveOf, number_but}, declared.sieve.Sieve.{Sieve}}
use Rattle.sync_journal.{proofs.Images.{Means, place_means}, specs.Map.{home_rank}}

-- at first no mark is there
pub no_mark : (n b : ℕ) → get_or (replicate n false) b false ≡ false
no_mark n b = ⊎_elim (λ low. get_or-replicate n b false false low) (λ past. get_or_past (replicate n false) b false (let same = length-replicate n false in omega (arith, same, past))) (cases_lt b n)

-- a number without a mark is no home's
pub unmarked : (homes : List ℕ) (sieve : Sieve) (number at : ℕ) → IsSieveOf homes sieve → ((h : ℕ) → number ≡ suc h → at ≡ h % 4096)
    → get_or sieve.marks at false ≡ false → number_but homes number ≡ number
unmarked homes sieve zero at is place none = refl
unmarked homes sieve (suc h) at is place none = here (home_rank homes h) refl (place_means (λ j. get_or homes j 0) h (length homes))
  where
    here : (o : Option ℕ) → home_rank homes h ≡ o → Means (λ j. get_or homes j 0) h (length homes) o → number_but homes (suc h) ≡ suc h
    here None ranks means = ap (λ o. if is_some o then 0 else suc h) ranks
    here (Some j) ranks means = absurd (false≢true (sym none ∙ ap (λ k. get_or sieve.marks k false) (place h refl ∙ ap (λ k. k % 4096) (sym means.1)) ∙ is.marked j means.0))

-- where homes lie so near together that no two of them share a mark, the mark of a home between them tells whether it is one of them
pub exact : (homes : List ℕ) (sieve : Sieve) (h : ℕ) → AreRising homes → IsSieveOf homes sieve → get_or homes 0 0 ≤ h → h ≤ get_or homes (length homes - 1) 0
    → get_or homes (length homes - 1) 0 - get_or homes 0 0 < 4096 → get_or sieve.marks (h % 4096) false ≡ is_some (home_rank homes h)
exact homes sieve h rising is low high near = here (get_or sieve.marks (h % 4096) false) (home_rank homes h) refl (place_means (λ j. get_or homes j 0) h (length homes))
  where
    here : (b : Bool) (o : Option ℕ) → get_or sieve.marks (h % 4096) false ≡ b → Means (λ j. get_or homes j 0) h (length homes) o → b ≡ is_some o
    here true (Some j) marks means = refl
    here false None marks means = refl
    here false (Some j) marks means = absurd (false≢true (sym marks ∙ ap (λ k. get_or sieve.marks (k % 4096) false) (sym means.1) ∙ is.marked j means.0))
    here true None marks means =
        let at = is.only (h % 4096) marks in
        let inside = at.1 in
        let alike = at.2 in
        let over = up homes rising 0 at.0 (omega arith) inside in
        let under = up homes rising at.0 (length homes - 1) (omega (arith, inside)) (omega (arith, inside)) in
        absurd (means at.0 inside (omega (arith, over, under, alike, low, high, near)))
