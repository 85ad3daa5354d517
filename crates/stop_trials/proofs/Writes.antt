-- What calls of a stopping device tell of earlier ones.
use Rattle.std.proofs.{Common.{◌≡◌, ℕ, suc, ◌+◌, false, Option, Some, None, is_some, Result, Ok, Err, is_err, OnOk, ap, refl, arith, sym, ◌∙◌}, lemmas.Bool.{false≢true}}
use Rattle.stop_trials.specs.{declared.stopping.Event.{Event}, declared.stopping.Event.TheVariants.{Write}, Stopping.{Plan, stopped_in, plan_after_event, plan_after_writes}}

-- what a call that didn't fail ensures
pub when_ok : {T E : Type 0} (r : Result T E) (P : Type 0) → OnOk r P → is_err r ≡ false → P
when_ok (Ok x) P holds ok = holds
when_ok (Err y) P holds ok = absurd (false≢true (sym ok))

-- a device that runs after an event ran before it
still_runs : (stopped : Option Event) (stop : Option ℕ) (count : ℕ) (event : Event) → is_some (stopped_in stopped stop count event) ≡ false → is_some stopped ≡ false
still_runs None stop count event runs = refl
still_runs (Some earlier) stop count event runs = runs

pub ran_before : (event : Event) (before after : Plan) → after ≡ plan_after_event event before → is_some after.stopped ≡ false → is_some before.stopped ≡ false
ran_before event before after is runs = still_runs before.stopped before.stop _ event (ap (λ (p : Plan). is_some p.stopped) (sym is) ∙ runs)

-- one write more
pub one_write : (i n : ℕ) (p : Plan) → plan_after_event (Write (n + i)) (plan_after_writes i n p) ≡ plan_after_writes (i + 1) n p
one_write i n p = let next : suc i ≡ i + 1 = omega arith in ap (λ k. plan_after_writes k n p) next
