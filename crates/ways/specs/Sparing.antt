-- Which frames the clock's hand passed, and which it spared.
use Rattle.std.specs.Prelude.{◌≡◌, ℕ, Bool, true, false, ◌&&◌, ◌||◌, leb, ltb, if◌then◌else◌}
use Rattle.sv39_walk.specs.Entry.{frame_of, is_accessed, is_swapped, is_valid}
use Rattle.residency.specs.Picture.{Picture, entry}
use Rattle.inspection.specs.declared.frame_views.Mapper.{Mapper}

module _ {mode : ℕ} where
  -- The page is over frame n, and has A.
  pub record IsUser (c : Picture mode) (n : ℕ) (user : Mapper) : Type 0 where
    pub entry : user.entry.0 ≡ entry c user.pid user.page
    pub frame : frame_of user.entry.0 ≡ n
    pub valid : is_valid user.entry.0 ≡ true
    pub accessed : is_accessed user.entry.0 ≡ true

  -- The page is still over frame n, and has no A any more.
  pub record HasLostMark (c : Picture mode) (n : ℕ) (user : Mapper) : Type 0 where
    pub frame : frame_of (entry c user.pid user.page) ≡ n
    pub kept : is_swapped (entry c user.pid user.page) ≡ false
    pub cleared : is_accessed (entry c user.pid user.page) ≡ false

-- whether frame n is one from a frame up to, not including, another, round the end of memory where that is not above it
abbrev pub is_passed : ℕ → ℕ → ℕ → Bool
is_passed from to n = if ltb from to then leb from n && ltb n to else (leb from n || ltb n to)
