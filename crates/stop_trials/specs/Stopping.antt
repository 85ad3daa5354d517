-- What a stopping device has counted, where it stops, and what its calls leave.
use Rattle.std.specs.Prelude.{◌≡◌, ◌⊎◌, ℕ, zero, suc, ◌+◌, if◌then◌else◌, Option, Some, None, Result, is_err, is_some}
use Rattle.disk_model.specs.Plan.{one_more, is_at}
use Rattle.disk_model.specs.SimDisk.{sectors_in, sector_of, IsUnsynced, moment_of, LeftSince, failures_of}
use Rattle.disk_model.specs.Stop.{ChangesOnly, ChangesPage, IsOfPage, Elapses, HasCause}
use Rattle.stop_trials.specs.declared.stopping.Event.{Event}
use Rattle.stop_trials.specs.declared.stopping.Event.TheVariants.{Write}
use Rattle.stop_trials.specs.declared.stopping.StoppingDisk.{StoppingDisk}

pub record Plan : Type 0 where
  pub events : ℕ
  pub stop : Option ℕ
  pub stopped : Option Event
  -- the sync that succeeds and syncs nothing
  pub drops : Option ℕ

abbrev pub plan_of : StoppingDisk → Plan
plan_of d = record { events = d.events; stop = d.stop; stopped = d.stopped; drops = d.drops }

-- no sync is dropped
abbrev pub DropsNoSync : StoppingDisk → Type 0
DropsNoSync d = d.drops ≡ None

-- it stays stopped where it is, and else stops in this event where it is told to
abbrev pub stopped_in : Option Event → Option ℕ → ℕ → Event → Option Event
stopped_in (Some earlier) stop count event = Some earlier
stopped_in None stop count event = if is_at stop count then Some event else None

abbrev pub plan_after_event : Event → Plan → Plan
plan_after_event event p = record p { events = one_more p.events; stopped = stopped_in p.stopped p.stop (one_more p.events) event }

-- after so many writes in a row, the first to sector n
abbrev pub plan_after_writes : ℕ → ℕ → Plan → Plan
plan_after_writes zero n p = p
plan_after_writes (suc i) n p = plan_after_event (Write (n + i)) (plan_after_writes i n p)

-- after so many calls the next one fails where the device has stopped, and else none, the first being call 1
abbrev pub failing_call : Option Event → ℕ → ℕ
failing_call None calls = 0
failing_call (Some event) calls = one_more calls

-- Whatever it is asked for, the device answers as a disk:
pub record AnswersAsDisk {T F : Type 0} (old new : StoppingDisk) (result : Result T F) : Type 0 where
  -- it has as many sectors as it had,
  pub size : sectors_in new.disk ≡ sectors_in old.disk
  -- is honest only if it was before,
  pub kept : DropsNoSync new → DropsNoSync old
  -- tells a fault exactly where it failed,
  pub cause : HasCause (failures_of old.disk) (failures_of new.disk) result
  -- and a stop might have left what it might have left before, or what it may leave now.
  pub time : Elapses (moment_of old.disk) (moment_of new.disk) (LeftSince old.disk) (LeftSince new.disk) (sector_of new.disk) (IsUnsynced new.disk)

-- It holds what it held:
pub record HoldsAsBefore (old new : StoppingDisk) : Type 0 where
  -- in every sector the same bytes,
  pub same : sector_of new.disk ≡ sector_of old.disk
  -- with the same ones unsynced.
  pub unsynced : (k : ℕ) → IsUnsynced new.disk k → IsUnsynced old.disk k
  pub still : (k : ℕ) → IsUnsynced old.disk k → IsUnsynced new.disk k

-- Sector n may hold other bytes:
pub record ChangesSector (n : ℕ) (old new : StoppingDisk) : Type 0 where
  -- no other does,
  pub others : ChangesOnly n (sector_of old.disk) (sector_of new.disk)
  -- and it is unsynced, with those that were.
  pub unsynced : (k : ℕ) → IsUnsynced new.disk k → IsUnsynced old.disk k ⊎ (k ≡ n)
  pub marked : IsUnsynced new.disk n
  pub still : (k : ℕ) → IsUnsynced old.disk k → IsUnsynced new.disk k

-- The eight sectors from n on may hold other bytes:
pub record ChangesSectors (n : ℕ) (old new : StoppingDisk) : Type 0 where
  -- no other does,
  pub others : ChangesPage n (sector_of old.disk) (sector_of new.disk)
  -- and they are unsynced, with those that were.
  pub unsynced : (k : ℕ) → IsUnsynced new.disk k → IsUnsynced old.disk k ⊎ IsOfPage n k
  pub marked : (k : ℕ) → IsOfPage n k → IsUnsynced new.disk k
  pub still : (k : ℕ) → IsUnsynced old.disk k → IsUnsynced new.disk k

-- The device has counted events, and stopped in one of them where it was told to:
pub record StopsAsTold {T F : Type 0} (plan : Plan) (new : StoppingDisk) (result : Result T F) : Type 0 where
  -- this is its plan now,
  pub counted : plan_of new ≡ plan
  -- and the call fails exactly where it has stopped.
  pub fails : is_err result ≡ is_some new.stopped
