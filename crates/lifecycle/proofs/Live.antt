-- A live process has a root table.
use Rattle.lifecycle.proofs.Names.{◌≡◌, ◌≢◌, ℕ, true, Option, Some, None, refl, false≢true, is_some}

pub live_root : (o : Option ℕ) → is_some o ≡ true → (r : ℕ) × (o ≡ Some r)
live_root None live = absurd (false≢true live)
live_root (Some r) live = (r, refl)

-- what isn't none is some
pub some_of : {T : Type 0} (o : Option T) → o ≢ None → (x : T) × (o ≡ Some x)
some_of None some = absurd (some refl)
some_of (Some x) some = (x, refl)
