-- A page that got a frame of its own, whose entry was set, or that came back from its slot grants what its region lets be done.
use Rattle.fault.proofs.{AccessSteps.{cause_of, no_store}, Forms.{mapped_page, over_here}, Names.{◌≡◌, ℕ, true, false, Some, Result, Ok, Err, refl, ◌≢◌, Bool, None, subst, IfOk, IfErr, OnErr, Store, Load, Fetch, FrameNo, Stall, Attr}}
use Rattle.fault.proofs.Names.{can_write, top_level, Access, lets, Ghosts, bytes_of, IsSound, count_of, Core, Picture, picture_of, entry, IsFit, IsBehind, is_shared, Frees, Refuses, HasStallCause, IsShort, KeepsFiles, IsEntryOver, IsPage}
use Rattle.fault.proofs.{Names.{over_some}, OwnSteps.{full_own}, Ready.{shown_there}, Settled.{full_sole, reads_too, entered_store, entered_ready, ready_own, owned_entry, copy_shown, readable, ready_read, entered_read, ready_after}, Steps.{seen_none}}
use Rattle.fault.{proofs.Wanted.{copy_keeps, away_keeps, sole_there}, specs.{Changes.{IsCalm, IsLinked, KeepsViews, KeepsOtherViews, Moves, copied_frame, is_sole, shown_bytes, KeepsSeen}, Granted.{IsEntered, IsReadyAt}}}
use Rattle.{fault.specs.{Leaves.{IsFullEntry}, Outcome.{IsStalled, seen_at}, Shown.{AreShown}, Wants.{Wants, ForStore, ForSlot}}, residency.specs.Picture.{is_private, is_swapped}}
use Rattle.vm_types.specs.declared.mode.Levels as Levels

module _ {mode : ℕ} (old new : Picture mode) (pid page : ℕ) (a : Attr) (sound : IsSound old.frames) (fit : IsFit new) (sound' : IsSound new.frames) (now : new.at pid page ≡ Some a)
    (alone : is_shared a.backing ≡ false) (writable : can_write a.prot ≡ true) (here : is_swapped (entry old pid page) ≡ false)
    (memory : is_private (entry old pid page) ≡ false → (m : ℕ) × IsBehind old a.backing m)
    (stays : (m : ℕ) → is_private (entry old pid page) ≡ false → IsBehind old a.backing m → IsBehind new a.backing m × (bytes_of new.frames m ≡ bytes_of old.frames m))
    (others : KeepsOtherViews old new pid page) (files : KeepsFiles old new) where
  one_ready : (n : FrameNo) → bytes_of new.frames n.0 ≡ shown_bytes old pid page a → IsEntryOver (entry new pid page) a.prot n.0 true true true → IsReadyAt old new pid page a Store n.0
  one_ready n bytes over =
      ready_own old new pid page a n.0 alone
      (owned_entry old new pid page a n.0 fit sound' now alone (reads_too new pid page a fit now writable) over
      (copy_shown old new pid page a (bytes_of new.frames n.0) sound here memory stays bytes) others files.touched)

  pub owned_ready : (r : Result FrameNo Stall) → IfOk r (λ n. bytes_of new.frames n.0 ≡ shown_bytes old pid page a) → IfOk r (λ n. IsEntryOver (entry new pid page) a.prot n.0 true true true)
      → IfOk r (λ n. IsReadyAt old new pid page a Store n.0)
  owned_ready (Ok n) bytes over = one_ready n bytes over
  owned_ready (Err s) bytes over = tt

  pub owned_entered : (r : Result FrameNo Stall) → IfOk r (λ n. bytes_of new.frames n.0 ≡ shown_bytes old pid page a) → IfOk r (λ n. IsEntryOver (entry new pid page) a.prot n.0 true true true)
      → IfOk r (λ n. count_of new.frames n.0 ≡ 1) → IfOk r (λ n. IsEntered new pid page a Store n.0)
  owned_entered (Ok n) bytes over sole = entered_store new pid page a n.0 true (reads_too new pid page a fit now writable) over (full_sole new a n.0 (entry new pid page) sole writable over) (entered_ready Store old new pid page a n.0 (one_ready n bytes over))
  owned_entered (Err s) bytes over sole = tt

module _ {M : Type 0} {m : Levels.Ghosts M} {D E : Type 0} (old new : Core D E M m) (pid page : ℕ) (a : Attr) (was : (picture_of old).at pid page ≡ Some a) (alone : is_shared a.backing ≡ false) where
  -- where no frame is wanted the page has its own
  pub owned_calm : (is_sole (picture_of old) (entry (picture_of old) pid page) ≡ true → IsCalm old new pid page) → (Wants (picture_of old) pid page Store → ⊥) → IsCalm old new pid page
  owned_calm calm none = calm (sole_there (picture_of old) pid page a was alone none)

  module _ (g : Ghosts D) (h : Ghosts E) where
    pub owned_stalled : (r : Result FrameNo Stall) → IsLinked (picture_of old) pid page → is_swapped (entry (picture_of old) pid page) ≡ false
        → (is_private (entry (picture_of old) pid page) ≡ false → (n : ℕ) × IsBehind (picture_of old) a.backing n)
        → ((n : ℕ) → is_private (entry (picture_of old) pid page) ≡ false → IsBehind (picture_of old) a.backing n → IsBehind (picture_of new) a.backing n × (bytes_of new.frames n ≡ bytes_of old.frames n))
        → Moves h old new → KeepsFiles (picture_of old) (picture_of new) → OnErr r (KeepsViews (picture_of old) (picture_of new))
        → OnErr r (Frees (picture_of old) (picture_of new) (copied_frame (picture_of old) pid page a)) → OnErr r (is_sole (picture_of old) (entry (picture_of old) pid page) ≡ false) → HasStallCause h old new r
        → IfErr r (IsShort (picture_of new)) → IfErr r (Refuses (picture_of new) (copied_frame (picture_of old) pid page a)) → IfErr r (IsStalled g h old new pid page Store)
    owned_stalled (Ok n) linked here memory stays moves files views frees several cause short refuses = tt
    owned_stalled (Err s) linked here memory stays moves files views frees several cause short refuses = record {
      keeps = record { views = views; touched = files.touched };
      cause = cause_of g h old new s moves.store cause;
      short = short;
      refused = λ other. record {
        keep = copied_frame (picture_of old) pid page a;
        keeps = copy_keeps (picture_of old) (picture_of new) pid page a linked was alone here memory stays moves.fit moves.spaces moves.tables views frees;
        refuses = refuses;
      };
      wanted = ForStore a refl was alone several;
      home = λ is. absurd (no_store h old new s cause is);
    }

-- a page that is to be read
module _ {mode : ℕ} (old new : Picture mode) (pid page : ℕ) (a : Attr) (access : Access) (n : ℕ) (private write stored : Bool) (fit : IsFit new) (sound : IsSound new.frames) (was : old.at pid page ≡ Some a)
    (now : new.at pid page ≡ Some a) (keeps : KeepsSeen old new) (over : IsEntryOver (entry new pid page) a.prot n private write stored) (other : access ≢ Store) (allowed : lets access a.prot ≡ true) where
  pub read_ready : IsReadyAt old new pid page a access n
  read_ready = ready_read access old new pid page a n other (readable old new pid page a n private write stored fit sound was now keeps over)

  pub read_entered : IsFullEntry new a n private (entry new pid page) → IsEntered new pid page a access n
  read_entered full = entered_read access new pid page a n private other allowed full (entered_ready access old new pid page a n read_ready)

-- a page that came back from its slot
module _ {mode : ℕ} (new : Picture mode) (pid page : ℕ) (a : Attr) (fit : IsFit new) (sound : IsSound new.frames) (now : new.at pid page ≡ Some a) (alone : is_shared a.backing ≡ false) (n : ℕ)
    (full : IsFullEntry new a n true (entry new pid page)) (one : count_of new.frames n ≡ 1) where
  own_shown : AreShown new (seen_at new pid page a) (bytes_of new.frames n)
  own_shown =
      subst (λ (x : ℕ). AreShown new (seen_at new pid page a) (bytes_of new.frames x)) full.names
      (shown_there new pid page a fit sound (mapped_page new pid page a fit.granting now) now (over_some (entry new pid page) a.prot n true _ _ full)
      (over_here (entry new pid page) a n true _ _ full))

  stores : lets Store a.prot ≡ true → IsEntryOver (entry new pid page) a.prot n true true true
  stores allowed = full_own new a n (entry new pid page) one allowed full

  self_ready : (access : Access) → lets access a.prot ≡ true → IsReadyAt new new pid page a access n
  self_ready Store allowed =
      ready_own new new pid page a n alone
      (owned_entry new new pid page a n fit sound now alone (reads_too new pid page a fit now allowed) (stores allowed) own_shown (λ q k other. refl) (λ p. refl))
  self_ready access allowed = readable new new pid page a n true _ _ fit sound now now (seen_none new) full

  self_entered : (access : Access) → lets access a.prot ≡ true → IsEntered new pid page a access n
  self_entered Load allowed = entered_read Load new pid page a n true (λ e. (cc)) allowed full (entered_ready Load new new pid page a n (self_ready Load allowed))
  self_entered Fetch allowed = entered_read Fetch new pid page a n true (λ e. (cc)) allowed full (entered_ready Fetch new new pid page a n (self_ready Fetch allowed))
  self_entered Store allowed =
      entered_store new pid page a n true (reads_too new pid page a fit now allowed) (stores allowed) full (entered_ready Store new new pid page a n (self_ready Store allowed))

module _ {mode : ℕ} (old new : Picture mode) (pid page : ℕ) (a : Attr) (access : Access) (fit : IsFit new) (sound : IsSound new.frames) (now : new.at pid page ≡ Some a) (alone : is_shared a.backing ≡ false)
    (allowed : lets access a.prot ≡ true) where
  pub swapped_entered : (r : Result FrameNo Stall) → IfOk r (λ n. IsFullEntry new a n.0 true (entry new pid page)) → IfOk r (λ n. count_of new.frames n.0 ≡ 1) → IfOk r (λ n. IsEntered new pid page a access n.0)
  swapped_entered (Ok n) full one = self_entered new pid page a fit sound now alone n.0 full one access allowed
  swapped_entered (Err s) full one = tt

  pub swapped_ready : (r : Result FrameNo Stall) → old.at pid page ≡ Some a → KeepsSeen old new → IfOk r (λ n. IsFullEntry new a n.0 true (entry new pid page)) → IfOk r (λ n. count_of new.frames n.0 ≡ 1)
      → IfOk r (λ n. IsReadyAt old new pid page a access n.0)
  swapped_ready (Ok n) was keeps full one = ready_after old new new pid page a access n.0 was now keeps (self_ready new pid page a fit sound now alone n.0 full one access allowed)
  swapped_ready (Err s) was keeps full one = tt

-- or stayed there
module _ {M : Type 0} {m : Levels.Ghosts M} {D E : Type 0} (g : Ghosts D) (h : Ghosts E) (old new : Core D E M m) (pid page : ℕ) (access : Access) where
  pub swapped_stalled : (r : Result FrameNo Stall) → new.store ≡ old.store → KeepsFiles (picture_of old) (picture_of new) → OnErr r (KeepsViews (picture_of old) (picture_of new))
      → IsPage (top_level m.mode) page → is_private (entry (picture_of old) pid page) ≡ false → is_swapped (entry (picture_of old) pid page) ≡ true → OnErr r (Frees (picture_of old) (picture_of new) None)
      → HasStallCause h old new r → IfErr r (IsShort (picture_of new)) → IfErr r (Refuses (picture_of new) None) → IfErr r (IsStalled g h old new pid page access)
  swapped_stalled (Ok n) same files views inside common away frees cause short refuses = tt
  swapped_stalled (Err s) same files views inside common away frees cause short refuses = record {
    keeps = record { views = views; touched = files.touched };
    cause = cause_of g h old new s same cause;
    short = short;
    refused = λ other. record { keep = None; keeps = away_keeps (picture_of old) (picture_of new) pid page access inside common away frees; refuses = refuses };
    wanted = ForSlot away;
    home = λ is. absurd (no_store h old new s cause is);
  }
