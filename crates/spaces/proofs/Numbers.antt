-- The numbers of processes, and how many runs each has.
use Rattle.vm_types.specs.declared.mode.Levels as Levels
use Rattle.spaces.proofs.Names.{◌≡◌, ℕ, ◌<◌, ◌≤◌, Option, Some, None, IsSome, List, [], refl, ◌∙◌, arith, false≢true, run_count, Run, attr_at, run_count-same, run_count-maximal, Core, picture_of, attr_where, IsFit}

unmapped : (o : Option ℕ) (runs : List Run) (k : ℕ) → ((r : ℕ) → o ≡ Some r → ⊥) → attr_where o runs k ≡ None
unmapped None runs k none = refl
unmapped (Some r) runs k none = absurd (none r refl)

mapped : (o : Option ℕ) (runs : List Run) (k : ℕ) → IsSome (attr_where o runs k) → (r : ℕ) × (o ≡ Some r)
mapped None runs k is = absurd (false≢true is)
mapped (Some r) runs k is = (r, refl)

module _ {M : Type 0} {m : Levels.Ghosts M} {D E : Type 0} (c : Core D E M m) (fit : IsFit (picture_of c)) where
  -- there is no process 0
  pub nobody_has : (page : ℕ) → (picture_of c).at 0 page ≡ None
  nobody_has page = unmapped ((picture_of c).root 0) _ page (λ r at. (let low = (fit.rooted.numbers 0 r at).0 in omega (arith, low)))

  pub lives_below : (q page : ℕ) → IsSome ((picture_of c).at q page) → q < 65
  lives_below q page is = let at = mapped ((picture_of c).root q) _ page is in omega (arith, (fit.rooted.numbers q at.0 at.1).1)

  -- a process that doesn't live has no runs
  pub no_runs : (q : ℕ) → ((r : ℕ) → (picture_of c).root q ≡ Some r → ⊥) → run_count m.mode ((picture_of c).at q) ≤ 256
  no_runs q none =
      let same : run_count m.mode ((picture_of c).at q) ≡ 0 =
      run_count-same m.mode ((picture_of c).at q) (attr_at []) (λ k. unmapped ((picture_of c).root q) _ k none) ∙ run_count-maximal m.mode [] tt in
      omega (arith, same)
