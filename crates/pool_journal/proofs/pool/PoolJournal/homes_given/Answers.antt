use Rattle.std.proofs.Common.{◌≡◌, ◌≤◌, ◌<◌, ◌-◌, ◌*◌, ℕ, Bool, true, false, List, None, get_or, length, subst, ⊎_elim, arith}
use Rattle.std.proofs.lemmas.Bool.{cases_lt}
use Rattle.pool_journal.{proofs.Loose.{none_at, some_at}, specs.{Maps.{entries_of}, Pools.{slot_by}}}
use Rattle.pool_journal.proofs.pool.PoolJournal.homes_given.Goals as goal

-- no slot is given to a home whose number is above all that a map has
none_above : (m : ℕ) (entries : Bool → ℕ → ℕ) (home : ℕ) → ((body : Bool) (r : ℕ) → r < 504 * m → entries body r ≤ home) → slot_by m entries home ≡ None
none_above m entries home low = none_at m entries home (λ body r below is. let most = low body r below in omega (arith, most, is))

-- all numbers are at most this one,
abbrev IsMost : List ℕ → ℕ → Type 0
IsMost xs most = (i : ℕ) → i < length xs → get_or xs i 0 ≤ most

-- which is one of them, where it is not 0
abbrev IsMet : List ℕ → ℕ → Type 0
IsMet xs most = 0 < most → (i : ℕ) × (i < length xs) × (get_or xs i 0 ≡ most)

pub returns-clause-none : goal.returns-clause-none
returns-clause-none c = λ home from. none_above c.args.self.now.sizes.blocks (entries_of c.args.self.now.map) home (low home from)
  where
    low : (home : ℕ) → c.max.result ≤ home → (body : Bool) (r : ℕ) → r < 504 * c.args.self.now.sizes.blocks → entries_of c.args.self.now.map body r ≤ home
    low home from false r below =
        let most = subst (λ xs. IsMost xs c.greatest.result) c.deref.ensures.value c.greatest.ensures.most r (omega (arith, below, c.requires.is.map.0)) in
        omega (arith, most, from, c.max.ensures)
    low home from true r below =
        let most = subst (λ xs. IsMost xs c.greatest-2.result) c.deref-2.ensures.value c.greatest-2.ensures.most r (omega (arith, below, c.requires.is.map.1)) in
        omega (arith, most, from, c.max.ensures)

pub returns-clause-last : goal.returns-clause-last
returns-clause-last c = λ some.
    let m = c.args.self.now.sizes.blocks in
    let entries = entries_of c.args.self.now.map in
    ⊎_elim
    (λ (less : c.greatest.result < c.greatest-2.result).
    let met = subst (λ xs. IsMet xs c.greatest-2.result) c.deref-2.ensures.value c.greatest-2.ensures.met (omega (arith, some, less, c.max.ensures)) in
    some_at m entries (c.max.result - 1) true met.0 (let inside = met.1 in omega (arith, inside, c.requires.is.map.1)) (let is = met.2 in omega (arith, is, less, some, c.max.ensures)))
    (λ (most : c.greatest-2.result ≤ c.greatest.result).
    let met = subst (λ xs. IsMet xs c.greatest.result) c.deref.ensures.value c.greatest.ensures.met (omega (arith, some, most, c.max.ensures)) in
    some_at m entries (c.max.result - 1) false met.0 (let inside = met.1 in omega (arith, inside, c.requires.is.map.0)) (let is = met.2 in omega (arith, is, most, some, c.max.ensures)))
    (cases_lt c.greatest.result c.greatest-2.result)
