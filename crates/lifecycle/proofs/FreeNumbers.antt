-- The least free number, one number at a time.
use Rattle.{lifecycle.proofs.Names.{◌≡◌, ℕ, zero, suc, ◌+◌, ◌-◌, ◌<◌, Bool, true, false, Option, Some, None, refl, arith, is_some, FrameNo, least_free_from, number_of_frame}, std.specs.Option.{option_map}}

-- whether a process lives, by its root
pub some_number : (o : Option FrameNo) → is_some (option_map number_of_frame o) ≡ is_some o
some_number None = refl
some_number (Some n) = refl

pub least-here : (live : ℕ → Bool) (pid count : ℕ) → 0 < count → live pid ≡ false → least_free_from live pid count ≡ Some pid
unfolding least_free_from
least-here live pid zero some free = absurd (omega arith)
least-here live pid (suc count) some free = rw free refl

pub least-next : (live : ℕ → Bool) (pid count : ℕ) → 0 < count → live pid ≡ true → least_free_from live pid count ≡ least_free_from live (pid + 1) (count - 1)
unfolding least_free_from
least-next live pid zero some taken = absurd (omega arith)
least-next live pid (suc count) some taken = let e : suc count - 1 ≡ count = omega arith in rw (taken, e) refl

pub least-none : (live : ℕ → Bool) (pid count : ℕ) → count ≡ 0 → least_free_from live pid count ≡ None
unfolding least_free_from
least-none live pid zero none = refl
least-none live pid (suc count) none = absurd (omega (arith, none))
