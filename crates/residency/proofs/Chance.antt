-- The second chance that pages have where a frame is given up.
use Rattle.vm_types.specs.declared.mode.Levels as Levels
use Rattle.clock_replace.proofs.Chance.{chance}
use Rattle.residency.proofs.{Names.{◌≡◌, ◌⊎◌, ℕ, ◌<◌, inl, inr, true, Option, None, refl, sym, ap, ◌∙◌, subst, cases_eq, Ok, FrameNo, Ghosts, Private, Table, Cache, IsFull, frame_count, role_of, frame_of, PageKey}}
use Rattle.residency.proofs.{Asking.{entries_taken}, Refusing.{inside_of}}
use Rattle.residency.specs.{Ages.{Same, Cleared, Left}, AskedFrames.{Obtains, SeeksFrame, TakesOwnFrame}, Calls.{ObtainsCached}, Chances.{GivesChance, KeepsButA}, Evictions.{ClearsMarks, IsAccessed, IsEvictable}}
use Rattle.residency.specs.{Picture.{Picture, picture_of, entry, is_data}, Views.{seen, IsLeftBut}, declared.{kernel.Core.{Core}}}

-- an entry that lost A alone is over the frame that it was over
frame_kept : (e e' : ℕ) → KeepsButA e e' → frame_of e' ≡ frame_of e
frame_kept e e' (Same same) = ap frame_of same
frame_kept e e' (Cleared is cleared) = cleared.0.frame
frame_kept e e' (Left is given left) = absurd given

clears_none : {mode : ℕ} (c : Picture mode) → ClearsMarks c c
clears_none c = record { roles = λ n. refl; entries = λ pid page h. Same refl; pointers = λ n i m points. points }

-- every entry is as it was
pub chance_same : {mode : ℕ} (old new : Picture mode) (keep : Option FrameNo) → ((pid page : ℕ) → entry new pid page ≡ entry old pid page) → GivesChance old new keep
chance_same old new keep same = record { each = λ pid page h marked. inl (Same (same pid page)) }

module _ {M : Type 0} {m : Levels.Ghosts M} {D E : Type 0} {old new : Core D E M m} {keep : Option FrameNo} where
  -- where the clock chose the frame
  pub chance_left : {n : FrameNo} → IsLeftBut old new keep n → GivesChance (picture_of old) (picture_of new) keep
  chance_left {n} is =
      let its = is.clock in
      let chosen = its.round.chooses in
      let marks = chosen.passes.follows.marks (picture_of its.asked) (clears_none (picture_of its.asked)) in
      let before : Picture m.mode = picture_of old in
      let between : Picture m.mode = picture_of is.left in
      let total : frame_count old.frames ≡ frame_count its.asked.frames = ap (λ (c : Picture m.mode). frame_count c.frames) (sym its.same) in
      record {
        each = λ pid page h marked.
            (let aged : KeepsButA (entry before pid page) (entry between pid page) = subst (λ (c : Picture m.mode). KeepsButA (entry c pid page) (entry between pid page)) its.same (marks.entries pid page h) in
            elim (cases_eq (frame_of (entry between pid page)) n.0) [
              | inl over ↦ inr (λ k may.
                  let inside = inside_of old.frames k old.sound may.0.0 in
                  let here : IsAccessed before n.0 = (
                    subst (λ (c : Picture m.mode). is_data (role_of c.frames n.0) ≡ true) its.same chosen.evictable.0.0,
                    (pid, page, h, record { concerned = marked; frame = sym (frame_kept _ _ aged) ∙ over }),
                  ) in
                  subst (λ (c : Picture m.mode). IsAccessed c k) its.same
                  (chance seen its.asked is.left old.clock.hand is.left.clock.hand n.0 (subst (λ (x : ℕ). old.clock.hand < x) total old.hand_inside) chosen
                  (subst (λ (c : Picture m.mode). IsAccessed c n.0) (sym its.same) here) k (subst (λ (x : ℕ). k < x) total inside)
                  (subst (λ (c : Picture m.mode). IsEvictable c its.asked.keep k) (sym its.same) (subst (λ (x : Option FrameNo). IsEvictable before x k) (sym its.keeps) may))))
              | inr beside ↦ inl (subst (KeepsButA (entry before pid page)) (sym (is.entries pid page h (inr beside))) aged)
            ]);
      }

  -- a frame was put to use, and none was given up for it, or the clock chose it
  chance_used : {n : FrameNo} (found : Picture m.mode) → IsFull old.frames ⊎ (found ≡ picture_of old) → ((pid page : ℕ) → entry (picture_of new) pid page ≡ entry found pid page)
      → (IsFull old.frames → IsLeftBut old new keep n) → GivesChance (picture_of old) (picture_of new) keep
  chance_used found (inl full) same aged = chance_left (aged full)
  chance_used found (inr none) same aged = chance_same (picture_of old) (picture_of new) keep (λ pid page. same pid page ∙ ap (λ c. entry c pid page) none)

  module _ {h : Ghosts E} {n : FrameNo} where
    pub chance_obtained : Obtains h old new keep (Ok n) → GivesChance (picture_of old) (picture_of new) keep
    chance_obtained done = chance_used (picture_of new) (elim done.needed [ inl full ↦ inl full | inr none ↦ inr (ap (λ (c : Core D E M m). picture_of c) none) ]) (λ pid page. refl) done.aged

    pub chance_sought : SeeksFrame h old new keep (Ok n) → IsFull old.frames → GivesChance (picture_of old) (picture_of new) keep
    chance_sought done full = chance_left (done.aged full)

    pub chance_owned : {page : ℕ} → TakesOwnFrame h old new page keep (Ok n) → GivesChance (picture_of old) (picture_of new) keep
    chance_owned done =
        let own = done.taken.own in
        chance_used done.taken.found done.taken.needed
        (entries_taken done.taken.found (picture_of new) n.0 done.taken.fit own.takes.others own.takes.was_free (λ t. (let bad : Private ≡ Table = sym own.takes.kind_set ∙ t in (cc))) own.root) done.seeks.aged

module _ {M : Type 0} {m : Levels.Ghosts M} {D E : Type 0} {old new : Core D E M m} {n : FrameNo} where
  -- a page of a file or an object came into it
  pub chance_cached : {page : PageKey} → ObtainsCached (picture_of old) (picture_of new) page n.0 → (IsFull old.frames → IsLeftBut old new None n) → GivesChance (picture_of old) (picture_of new) None
  chance_cached got aged =
      let brings = got.brings in
      chance_used got.found got.needed
      (entries_taken got.found (picture_of new) n.0 got.fit brings.frames brings.was_free (λ t. (let bad : Cache ≡ Table = sym brings.kind ∙ t in (cc))) brings.root) aged
