-- Writes for which there is no room.
use Rattle.sync_plans.proofs.Names.{ℕ, ◌+◌, ◌<◌, ◌≤◌, ◌≡◌, ◌⊎◌, true, List, Result, Err, inl, inr, ⊎_elim, refl, sym, ap, subst, ◌∙◌, arith, rules, Image, MayLeave, Names, HasCause, Elapses, no_time}
use Rattle.sync_plans.specs.{Device.{PlanLeftSince}, PlanDisk.{content_of, listed_unsynced, unsynced_in, IsLost, listed_left, left_in, plan_moment}, Plans.{image_after, IsLeftUnsynced}}
use Rattle.sync_plans.specs.{Writing.{KeepsPlan, KeepsList, PutsCalls}, declared.{call.Call.{Call}, plan_disk.PlanDisk.{PlanDisk}}}
use Rattle.disk_model.specs.{Asked.{times_named}, declared.{asking.Asked.{Asked}, sector_disk.DiskFault.{DiskFault}}}

abbrev pub failed : DiskFault → Result (Unit {0}) DiskFault
failed fault = Err fault

-- what is listed as it was holds what it held, and no time passes
module _ (old new : PlanDisk) (list : KeepsList old new) (plan : KeepsPlan old new) where
  pub same_content : content_of new ≡ content_of old
  same_content = rw (list.calls, list.rows, list.used, plan.image, plan.lent) refl

  pub same_time : Elapses (plan_moment old) (plan_moment new) (listed_left old) (listed_left new) (content_of new) (listed_unsynced new)
  same_time = rw (list.calls, list.rows, list.used, plan.image, plan.lent, plan.room) (no_time (plan_moment old) (listed_left old) (content_of old) (listed_unsynced old))

  pub puts_none : (sectors : ℕ → Type 0) (fault : DiskFault) → new.full ≡ true
      → HasCause old.failures.number new.failures.number (failed fault) → PutsCalls old new sectors (failed fault)
  puts_none sectors fault full cause = record {
    unsynced = λ k u. inl (rw (sym list.calls, sym list.used) u);
    marked = search rules;
    still = λ k u. rw (list.calls, list.used) u;
    time = same_time;
    full = full;
    keeps = plan;
    cause = cause;
  }

-- plans are kept in a row
pub more_kept : (old mid new : PlanDisk) → KeepsPlan old mid → KeepsPlan mid new → KeepsPlan old new
more_kept old mid new first second = record {
  image = second.image ∙ first.image;
  lent = second.lent ∙ first.lent;
  room = second.room ∙ first.room;
  asked = second.asked ∙ first.asked;
  lost = second.lost ∙ first.lost;
}

-- a sector that a call names more is lost then
module _ (lost lost' : ℕ → ℕ) (W : ℕ → Type 0) (names : Names W lost lost') where
  pub lost_here : (k : ℕ) → W k → 0 < lost' k
  lost_here k here = let more = names.named k here in omega (arith, more)

  pub lost_still : (k : ℕ) → 0 < lost k → 0 < lost' k
  lost_still k was = ⊎_elim (λ here. lost_here k here) (λ same. omega (arith, same, was)) (names.others k)

-- What the device holds and may leave is what is listed, and any bytes where a write was lost.
abbrev pub all_of : (ℕ → Type 0) → (ℕ → Type 0) → ℕ → Type 0
all_of unsynced lost k = unsynced k ⊎ lost k

abbrev pub left_with : (ℕ → Image → Type 0) → Image → (ℕ → Type 0) → ℕ → Image → Type 0
left_with left content unsynced t c = left t c ⊎ MayLeave content unsynced c

module _ (now now' : ℕ) (left left' : ℕ → Image → Type 0) (content content' : Image) (unsynced unsynced' lost lost' : ℕ → Type 0)
    (time : Elapses now now' left left' content' unsynced') where
  nothing_else : (t : ℕ) (c : Image) → t ≤ now → left_with left' content' (all_of unsynced' lost') t c
      → left_with left content (all_of unsynced lost) t c ⊎ MayLeave content' (all_of unsynced' lost') c
  nothing_else t c le since = ⊎_elim
      (λ listed. ⊎_elim (λ past. inl (inl past)) (λ may. inr (record { kept = λ k. ⊎_elim (λ u. inl (inl u)) (λ e. inr e) (may.kept k) })) (time.nothing_else t c le listed))
      (λ may. inr may) since

  -- after a write, where what holds other bytes is unsynced,
  pub time_written : ((k : ℕ) → all_of unsynced lost k → all_of unsynced' lost' k) → ((k : ℕ) → all_of unsynced' lost' k ⊎ (content' k ≡ content k))
      → Elapses now now' (left_with left content (all_of unsynced lost)) (left_with left' content' (all_of unsynced' lost')) content' (all_of unsynced' lost')
  time_written still others = record {
    later = time.later;
    nothing_else = nothing_else;
    keeps = λ t c le past. ⊎_elim (λ listed. inl (time.keeps t c le listed))
        (λ may. inr (record { kept = λ k. ⊎_elim (λ u. inl (still k u)) (λ e. ⊎_elim (λ u. inl u) (λ same. inr (e ∙ sym same)) (others k)) (may.kept k) })) past;
  }

  -- and after a sync, where no write was lost before
  pub time_synced : ((k : ℕ) → lost k → ⊥) → ((t : ℕ) (c : Image) → t ≤ now → MayLeave content unsynced c → left t c)
      → Elapses now now' (left_with left content (all_of unsynced lost)) (left_with left' content' (all_of unsynced' lost')) content' (all_of unsynced' lost')
  time_synced none present = record {
    later = time.later;
    nothing_else = nothing_else;
    keeps = λ t c le past. ⊎_elim (λ listed. inl (time.keeps t c le listed))
        (λ may. inl (time.keeps t c le (present t c le (record { kept = λ k. ⊎_elim (λ u. ⊎_elim (λ synced. inl synced) (λ gone. absurd (none k gone)) u) (λ e. inr e) (may.kept k) })))) past;
  }

-- a device of which nothing more is listed may leave what it might have left
pub same_left : (old new : PlanDisk) → KeepsList old new → KeepsPlan old new
    → Elapses (plan_moment old) (plan_moment new) (left_in old) (left_in new) (content_of new) (unsynced_in new)
same_left old new list plan = time_written (plan_moment old) (plan_moment new) (listed_left old) (listed_left new) (content_of old) (content_of new)
    (listed_unsynced old) (listed_unsynced new) (IsLost old) (IsLost new) (same_time old new list plan)
    (λ k. ⊎_elim (λ u. inl (rw (list.calls, list.used) u)) (λ lost. inr (subst (λ (a : Asked). 0 < times_named a k) (sym plan.lost) lost)))
    (λ k. inr (ap (λ (image : Image). image k) (same_content old new list plan)))

-- what a stop may leave now of the listed calls it may leave since any moment
pub present : (calls : List Call) (rows : List (List ℕ)) (pages : ℕ → List ℕ) (first : Image) (room used t : ℕ) (c : Image) → t ≤ used + 2
    → MayLeave (image_after calls rows pages first used) (IsLeftUnsynced calls used) c → PlanLeftSince calls rows pages first room used t c
present calls rows pages first room used t c le may = inr (inr (used, le, omega arith, may))
