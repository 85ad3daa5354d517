-- The second chance of pages, told on after a frame was had.
use Rattle.vm_types.specs.declared.mode.Levels as Levels
use Rattle.fault.proofs.Names.{top_level, ◌≡◌, ◌≢◌, ◌⊎◌, ℕ, inl, inr, Option, None, Result, Ok, Err, IfOk, OnOk, refl, sym, ◌∙◌, subst, FrameNo, Stall, PageKey, Ghosts, IsPage, IsFull, Private, Table, role_of, Core, Picture, picture_of, entry, ChangesFrame}
use Rattle.fault.proofs.Names.{Same, ObtainsCached, entries_taken, chance_owned, chance_cached, TakesOwnFrame, AreAllMarked, GivesChance, KeepsButA, IsLeftBut}
use Rattle.fault.specs.Chances.{GivesOthersChance}

module _ {mode : ℕ} (old mid new : Picture mode) where
  -- no entry was changed afterwards
  pub chance_on : (keep : Option FrameNo) → GivesChance old mid keep → ((q p : ℕ) → entry new q p ≡ entry mid q p) → GivesChance old new keep
  chance_on keep gives same = record { each = λ q p h marked. subst (λ (e : ℕ). KeepsButA (entry old q p) e ⊎ AreAllMarked old keep) (sym (same q p)) (gives.each q p h marked) }

  -- but that of one page
  pub others_on : (pid page : ℕ) (keep : Option FrameNo) → GivesChance old mid keep → ((q p : ℕ) → IsPage (top_level mode) p → (q ≢ pid) ⊎ (p ≢ page) → entry new q p ≡ entry mid q p)
      → GivesOthersChance old new pid page (AreAllMarked old keep)
  others_on pid page keep gives same = record {
    each = λ q p h other marked. subst (λ (e : ℕ). KeepsButA (entry old q p) e ⊎ AreAllMarked old keep) (sym (same q p h other)) (gives.each q p h marked);
  }

module _ {mode : ℕ} (old new : Picture mode) (pid page : ℕ) where
  pub others_same : (unless : Type 0) → ((q p : ℕ) → IsPage (top_level mode) p → (q ≢ pid) ⊎ (p ≢ page) → entry new q p ≡ entry old q p) → GivesOthersChance old new pid page unless
  others_same unless same = record { each = λ q p h other marked. inl (Same (same q p h other)) }

  pub others_for : (first then : Type 0) → (first → then) → GivesOthersChance old new pid page first → GivesOthersChance old new pid page then
  others_for first then for gives = record { each = λ q p h other marked. elim (gives.each q p h other marked) [ inl stays ↦ inl stays | inr all ↦ inr (for all) ] }

-- no entry was changed afterwards
pub others_kept : {mode : ℕ} (old mid new : Picture mode) (pid page : ℕ) (unless : Type 0) → GivesOthersChance old mid pid page unless
    → ((q p : ℕ) → IsPage (top_level mode) p → entry new q p ≡ entry mid q p) → GivesOthersChance old new pid page unless
others_kept old mid new pid page unless gives same = record {
  each = λ q p h other marked. subst (λ (e : ℕ). KeepsButA (entry old q p) e ⊎ unless) (sym (same q p h)) (gives.each q p h other marked);
}

pub chance_none : {mode : ℕ} (c : Picture mode) (keep : Option FrameNo) → GivesChance c c keep
chance_none c keep = record { each = λ q p h marked. inl (Same refl) }

module _ {M : Type 0} {m : Levels.Ghosts M} {D E : Type 0} where
  -- a page of a file or an object was brought into a frame
  pub chance_came : (old new : Core D E M m) (page : PageKey) (r : Result FrameNo Stall) → IfOk r (λ n. ObtainsCached (picture_of old) (picture_of new) page n.0)
      → (IsFull old.frames → IfOk r (IsLeftBut old new None)) → OnOk r (GivesChance (picture_of old) (picture_of new) None)
  chance_came old new page (Ok n) got aged = chance_cached got aged
  chance_came old new page (Err s) got aged = tt

  -- a frame was taken for a page of a process, and changed further
  pub chance_written : {h : Ghosts E} {old taken : Core D E M m} {page : ℕ} {keep : Option FrameNo} {n : FrameNo} (done : TakesOwnFrame h old taken page keep (Ok n)) (new : Picture m.mode)
      → ChangesFrame done.taken.found new n.0 → role_of new.frames n.0 ≢ Table → GivesChance (picture_of old) new keep
  chance_written {old = old} {taken = taken} {keep = keep} {n = n} done new changes datum =
      let found = done.taken.found in
      let own = done.taken.own in
      chance_on (picture_of old) (picture_of taken) new keep (chance_owned done) (λ q p.
      entries_taken found new n.0 done.taken.fit changes.frames changes.was_free datum changes.root q p
      ∙ sym (entries_taken found (picture_of taken) n.0 done.taken.fit own.takes.others own.takes.was_free (λ t. (let bad : Private ≡ Table = sym own.takes.kind_set ∙ t in (cc))) own.root q p))
