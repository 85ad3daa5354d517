-- What the replies of a run say of devices and frames, counted.
use Rattle.machine.proofs.{Face.{HasCause, cause_of}, Names.{ℕ, ◌+◌, ◌≡◌, ◌≤◌, ◌<◌, Bool, true, false, if◌then◌else◌, List, [], ◌∷◌, refl, ◌∙◌, subst, sym, sum_by, arith, sum_by-cons, Ghosts, Errno, EIO, Stall, SwapDevice, StoreDevice}}
use Rattle.machine.{proofs.Names.{Reply, Refused, Stalled, names_store, names_swap, refused_count}, specs.{Chain.{Caused}, Counts.{failed_count, swap_failed_count, Counts}, Machine.{store_of, swap_of}, declared.machine.Machine.{Machine}}}

not_counted : (b : Bool) (n : ℕ) → n ≡ (if b then 1 else 0) → n ≡ 0 → b ≡ false
not_counted false n is none = refl
not_counted true n is none = absurd (let one : n ≡ 1 = is in omega (arith, one, none))

module _ {D E : Type 0} (g : Ghosts D) (h : Ghosts E) where
  refused_failed : (old new : Machine D E) (errno : Errno) → HasCause g h old new (Refused errno) → g.failures (store_of old) + failed_count (Refused errno) ≤ g.failures (store_of new)
  refused_failed old new EIO is = let less : g.failures (store_of old) < g.failures (store_of new) = is.failed refl in omega (arith, less)
  refused_failed old new errno is = omega (arith, is.later)

  stall_failed : (old new : Machine D E) (stall : Stall) → HasCause g h old new (Stalled stall) → g.failures (store_of old) + failed_count (Stalled stall) ≤ g.failures (store_of new)
  stall_failed old new StoreDevice is = let less : g.failures (store_of old) < g.failures (store_of new) = is.stalled refl in omega (arith, less)
  stall_failed old new stall is = omega (arith, is.later)

  failed_once : (old new : Machine D E) (reply : Reply) → HasCause g h old new reply → g.failures (store_of old) + failed_count reply ≤ g.failures (store_of new)
  failed_once old new (Refused errno) is = refused_failed old new errno is
  failed_once old new (Stalled stall) is = stall_failed old new stall is
  failed_once old new reply is = omega (arith, is.later)

  swap_stall_failed : (old new : Machine D E) (stall : Stall) → HasCause g h old new (Stalled stall)
      → h.failures (swap_of old) + swap_failed_count (Stalled stall) ≤ h.failures (swap_of new)
  swap_stall_failed old new SwapDevice is = let less : h.failures (swap_of old) < h.failures (swap_of new) = is.swap_stalled refl in omega (arith, less)
  swap_stall_failed old new stall is = omega (arith, is.swap_later)

  swap_failed_once : (old new : Machine D E) (reply : Reply) → HasCause g h old new reply → h.failures (swap_of old) + swap_failed_count reply ≤ h.failures (swap_of new)
  swap_failed_once old new (Stalled stall) is = swap_stall_failed old new stall is
  swap_failed_once old new reply is = omega (arith, is.swap_later)

  -- where the reply doesn't name the store
  calm_once : (old new : Machine D E) (reply : Reply) → HasCause g h old new reply → failed_count reply ≡ 0 → g.failures (store_of new) ≡ g.failures (store_of old)
  calm_once old new reply is none = is.calm (not_counted (names_store reply) (failed_count reply) refl none)

  -- where it doesn't name the swap device
  swap_calm_once : (old new : Machine D E) (reply : Reply) → HasCause g h old new reply → swap_failed_count reply ≡ 0 → h.failures (swap_of new) ≡ h.failures (swap_of old)
  swap_calm_once old new reply is none = is.swap_calm (not_counted (names_swap reply) (swap_failed_count reply) refl none)

  pub counts : (old : Machine D E) (replies : List Reply) (new : Machine D E) → Caused g h old replies new → Counts g h old new replies
  counts old [] new same =
      subst (λ (m : Machine D E). Counts g h old m []) (sym same) (record { refused = omega arith; failed = omega arith; swap_failed = omega arith; calm = λ none. refl; swap_calm = λ none. refl })
  counts old (r ∷ rs) new c =
      let mid = c.0 in
      let first = cause_of g h old mid r c.1 in
      let rest = counts mid rs new c.2 in
      record {
        refused = omega (arith, first.counted, rest.refused, sum_by-cons refused_count r rs);
        failed = omega (arith, failed_once old mid r first, rest.failed, sum_by-cons failed_count r rs);
        swap_failed = omega (arith, swap_failed_once old mid r first, rest.swap_failed, sum_by-cons swap_failed_count r rs);
        calm = λ none.
            let here : failed_count r ≡ 0 = omega (arith, none, sum_by-cons failed_count r rs) in
            let there : sum_by failed_count rs ≡ 0 = omega (arith, none, sum_by-cons failed_count r rs) in
            rest.calm there ∙ calm_once old mid r first here;
        swap_calm = λ none.
            let here : swap_failed_count r ≡ 0 = omega (arith, none, sum_by-cons swap_failed_count r rs) in
            let there : sum_by swap_failed_count rs ≡ 0 = omega (arith, none, sum_by-cons swap_failed_count r rs) in
            rest.swap_calm there ∙ swap_calm_once old mid r first here;
      }
