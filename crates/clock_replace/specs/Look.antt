-- What one look does.
use Rattle.std.specs.Prelude.{◌≡◌, ◌≢◌, ◌⊎◌, ℕ, ◌+◌}
use Rattle.clock_replace.specs.declared.frame_view.FrameView.{Ghosts}

module _ {V : Type 0} (g : Ghosts V) where
  -- it asks once
  pub record Looks (old new : V) : Type 0 where
    pub total : g.total new ≡ g.total old
    pub looks : g.looks new ≡ g.looks old + 1
    pub forth : (m : ℕ) → g.evictable_at old m → g.evictable_at new m
    pub back : (m : ℕ) → g.evictable_at new m → g.evictable_at old m
    pub follows : g.follows old new

  -- at a frame that is chosen
  pub record IsChoice (old new : V) (n : ℕ) : Type 0 where
    pub evictable : g.evictable_at old n
    pub clear : g.marked old n → ⊥
    pub forth : (m : ℕ) → g.marked old m → g.marked new m
    pub back : (m : ℕ) → g.marked new m → g.marked old m

  -- at a frame that is passed
  pub record IsPast (old new : V) (n : ℕ) : Type 0 where
    pub had : g.evictable_at old n → g.marked old n
    pub lost : g.evictable_at old n → g.marked new n → ⊥
    pub forth : (m : ℕ) → g.marked old m → (m ≢ n) ⊎ (g.evictable_at old n → ⊥) → g.marked new m
    pub back : (m : ℕ) → g.marked new m → g.marked old m
