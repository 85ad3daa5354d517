use Rattle.std.proofs.Common.{◌≡◌, ◌<◌, ◌*◌, ◌∙◌, ℕ, suc, Bool, true, false, List, get_or, sym, subst, ⊎_elim, arith}
use Rattle.std.proofs.lemmas.{Bool.{false≢true}, List.{get_or-replicate}}
use Rattle.pool_journal.{proofs.Loose.{none_at, some_at}, specs.Maps.{entries_of}}
use Rattle.pool_journal.proofs.pool.PoolJournal.first_given.Goals as goal

pub returns-clause-given : goal.returns-clause-given
returns-clause-given c = λ home low marked.
    let m = c.args.self.now.sizes.blocks in
    let entries = entries_of c.args.self.now.map in
    ⊎_elim
    (λ first. ⊎_elim
    (λ blank. absurd (false≢true (sym (get_or-replicate 256 home false false (omega (arith, low, c.requires.few))) ∙ blank)))
    (λ from. some_at m entries home false from.0 (let below = from.1 in omega (arith, below, c.deref.ensures.len, c.requires.is.map.0)) (subst (λ (xs : List ℕ). get_or xs from.0 0 ≡ suc home) c.deref.ensures.value from.2))
    (c.mark_homes.ensures.others home first))
    (λ from. some_at m entries home true from.0 (let below = from.1 in omega (arith, below, c.deref-2.ensures.len, c.requires.is.map.1)) (subst (λ (xs : List ℕ). get_or xs from.0 0 ≡ suc home) c.deref-2.ensures.value from.2))
    (c.mark_homes-2.ensures.others home marked)

pub returns-clause-none : goal.returns-clause-none
returns-clause-none c = λ home low unmarked. none_at c.args.self.now.sizes.blocks (entries_of c.args.self.now.map) home (none home low unmarked)
  where
    none : (home : ℕ) → home < c.args.homes → get_or c.mark_homes-2.new.given home false ≡ false → (body : Bool) (r : ℕ) → r < 504 * c.args.self.now.sizes.blocks
        → entries_of c.args.self.now.map body r ≡ suc home → ⊥
    none home low unmarked false r below is = false≢true (sym unmarked ∙ c.mark_homes-2.ensures.kept home (c.mark_homes.ensures.named r home (omega (arith, below, c.deref.ensures.len, c.requires.is.map.0)) low
        (subst (λ (xs : List ℕ). get_or xs r 0 ≡ suc home) (sym c.deref.ensures.value) is)))
    none home low unmarked true r below is = false≢true (sym unmarked ∙ c.mark_homes-2.ensures.named r home (omega (arith, below, c.deref-2.ensures.len, c.requires.is.map.1)) low
        (subst (λ (xs : List ℕ). get_or xs r 0 ≡ suc home) (sym c.deref-2.ensures.value) is))
