-- The choice of the clock, or second chance, algorithm.
use Rattle.std.specs.Prelude.{◌≡◌, ℕ, ◌+◌, ◌*◌, ◌%◌, ◌<◌, ◌≤◌, ◌↔◌, Result, IfOk, OnErr}
use Rattle.vm_types.specs.declared.number.FrameNo.{FrameNo}
use Rattle.clock_replace.specs.declared.clock.Clock.{Clock}
use Rattle.clock_replace.specs.declared.frame_view.FrameView.{Ghosts}

-- where the hand stands after so many looks
abbrev pub place : ℕ → ℕ → ℕ → ℕ
place hand total i = (hand + i) % total

module _ {V : Type 0} (g : Ghosts V) where
  -- frame m may be given up and was passed in one of the first i looks
  abbrev pub IsPassed : V → ℕ → ℕ → ℕ → Type 0
  IsPassed v hand i m = (j : ℕ) × (j < i) × (m ≡ place hand (g.total v) j) × g.evictable_at v m

  -- i looks from the hand on at frames that may not be given up, or had their marks: these lost them, and no others did. A
  -- frame that may be given up is passed in the first round alone.
  pub record Passes (old new : V) (hand i : ℕ) : Type 0 where
    pub total : g.total new ≡ g.total old
    pub evictable : (m : ℕ) → g.evictable_at new m ↔ g.evictable_at old m
    pub marked : (m : ℕ) → g.marked new m → g.marked old m × (IsPassed old hand i m → ⊥)
    pub unmarked : (m : ℕ) → g.marked old m → (IsPassed old hand i m → ⊥) → g.marked new m
    pub first_round : (j : ℕ) → j < i → g.evictable_at old (place hand (g.total old) j) → (j < g.total old) × g.marked old (place hand (g.total old) j)
    pub follows : g.follows old new

  -- Round and round from the hand on, frame n is the first that may be given up and whose mark is clear then. The hand then
  -- stands just past it.
  pub record Chooses (old new : V) (hand hand' n : ℕ) : Type 0 where
    pub before : ℕ
    pub few : before < 2 * g.total old
    pub passes : Passes old new hand before
    pub is : n ≡ place hand (g.total old) before
    pub inside : n < g.total old
    pub evictable : g.evictable_at old n
    pub clear : g.marked new n → ⊥
    pub looks : g.looks new ≡ g.looks old + (before + 1)
    pub past : hand' ≡ place hand (g.total old) (before + 1)

  -- every frame is as it was
  pub record Keeps (old new : V) : Type 0 where
    pub total : g.total new ≡ g.total old
    pub evictable : (m : ℕ) → g.evictable_at new m ↔ g.evictable_at old m
    pub marked : (m : ℕ) → g.marked new m ↔ g.marked old m
    pub follows : g.follows old new

  -- The clock looks at frames, at each of them twice at most:
  pub record GoesRound {E : Type 0} (old new : V) (clock clock' : Clock) (result : Result FrameNo E) : Type 0 where
    -- they may be asked further, and the hand stands at one of them;
    pub «open» : g.is_open new
    pub hand : clock'.hand < g.total new
    pub looks : g.looks new ≤ g.looks old + 2 * g.total old
    -- the first that may be given up and whose mark is clear is returned,
    pub chooses : IfOk result (λ n. Chooses old new clock.hand clock'.hand n.0)
    -- or none may be given up: then every mark and the hand are as they were.
    pub none : OnErr result ((n : ℕ) → n < g.total old → g.evictable_at old n → ⊥)
    pub kept : OnErr result (Keeps old new)
    pub still : OnErr result (clock' ≡ clock)
