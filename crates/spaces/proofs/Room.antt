-- Memory of the size that it was, and sound as it was.
use Rattle.vm_types.specs.declared.mode.Levels as Levels
use Rattle.spaces.proofs.Names.{ℕ, Bool, true, ◌≡◌, refl, sym, ap, ◌∙◌, subst, Ghosts, AnyStore, IsReadySized, SizedDirectory, HasRoom, kept_of, directory_in, directory_of, ready_released, KeepsRoom, IsSoundCore, MarksEnds, cut_off_page}
use Rattle.spaces.proofs.Names.{Core, IsFit, Picture, picture_of, FilePage, PageKey, File, IsReady, ReadsStore}
use Rattle.page_cache.specs.CacheTable as CacheTable

-- a store that keeps in memory what it kept has room for the commits that it had room for
pub room_left : {D : Type 0} (old new : AnyStore D) → kept_of new ≡ kept_of old → HasRoom (kept_of old) → HasRoom (kept_of new)
room_left old new same room = subst HasRoom (sym same) room

-- and its files have the lengths that they had
pub lengths_left : {D : Type 0} (old new : AnyStore D) → kept_of new ≡ kept_of old → new.sizes.items ≡ old.sizes.items → directory_of new ≡ directory_of old
lengths_left old new same sizes = ap (λ k. directory_in k new.sizes.items) same ∙ ap (λ z. directory_in (kept_of old) z) sizes

-- each page of a file that was touched still is
module _ {mode : ℕ} where
  abbrev pub KeepsMarks : Picture mode → Picture mode → Type 0
  KeepsMarks old new = (p : FilePage) → old.touched (File p) ≡ true → new.touched (File p) ≡ true

-- so files that got longer again are touched where they had been cut off
pub ends_left : (d e : SizedDirectory) (was now : PageKey → Bool) → e ≡ d → ((p : FilePage) → was (File p) ≡ true → now (File p) ≡ true) → MarksEnds d was → MarksEnds e now
ends_left d e was now same more marks =
    subst (λ (x : SizedDirectory). MarksEnds x now) (sym same)
    (record { there = marks.there; ends = λ f resized longer within. more (cut_off_page d f) (marks.ends f resized longer within) })

module _ {M : Type 0} {m : Levels.Ghosts M} {D E : Type 0} (old new : Core D E M m) where
  -- there is a node for each frame and for each slot, so the map of places tells how many there are
  pub room_same : new.cache ≡ old.cache → KeepsRoom (picture_of old) (picture_of new)
  room_same same = record { frames = sym new.node_count ∙ ap CacheTable.cache_frames same ∙ old.node_count; slots = sym new.slot_count ∙ ap CacheTable.slot_count same ∙ old.slot_count }

  -- and which pages are touched
  pub marks_cached : new.cache ≡ old.cache → KeepsMarks (picture_of old) (picture_of new)
  marks_cached same p touched = ap (λ t. CacheTable.is_touched t (File p)) same ∙ touched

  module _ (g : Ghosts D) (h : Ghosts E) where
    -- a call that read the store at most
    pub sound_read : ReadsStore g old.store new.store → IsReadySized g new.store → IsReady h new.swap → IsFit (picture_of new) → KeepsMarks (picture_of old) (picture_of new)
        → IsSoundCore g h old → IsSoundCore g h new
    sound_read reads ready swap fit marks sound = record {
      ready = ready;
      room = room_left old.store new.store reads.same sound.room;
      swap = swap;
      fit = fit;
      ends = ends_left (directory_of old.store) (directory_of new.store) (picture_of old).touched (picture_of new).touched (lengths_left old.store new.store reads.same reads.sizes) marks sound.ends;
    }

    -- that left it alone
    pub sound_beside : new.store ≡ old.store → IsReady h new.swap → IsFit (picture_of new) → KeepsMarks (picture_of old) (picture_of new) → IsSoundCore g h old → IsSoundCore g h new
    sound_beside store swap fit marks sound = record {
      ready = subst (λ (x : AnyStore D). IsReadySized g x) (sym store) sound.ready;
      room = room_left old.store new.store (ap (λ (x : AnyStore D). kept_of x) store) sound.room;
      swap = swap;
      fit = fit;
      ends = ends_left (directory_of old.store) (directory_of new.store) (picture_of old).touched (picture_of new).touched (ap (λ (x : AnyStore D). directory_of x) store) marks sound.ends;
    }

    -- or asked neither device, and gave back slots at the most
    pub sound_kept : KeepsRoom (picture_of old) (picture_of new) → new.store ≡ old.store → new.swap.pages ≡ old.swap.pages → IsFit (picture_of new) → KeepsMarks (picture_of old) (picture_of new)
        → IsSoundCore g h old → IsSoundCore g h new
    sound_kept room store pages fit marks sound = sound_beside store (ready_released h old.swap old.swap new.swap refl pages room.slots sound.swap) fit marks sound
