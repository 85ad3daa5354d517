-- When swap is asked, from the frame that is tried up to the calls that take one.
use Rattle.vm_types.specs.declared.mode.Levels as Levels
use Rattle.residency.proofs.{Entries.{entries_kept}, Giving.{frame_given, gives_kept, one_given}, Names.{top_level, FrameNo, FilePage, ◌≡◌, ◌≢◌, ℕ, ◌⊎◌, inl, inr, List, Option, refl, sym, ap, ◌∙◌, subst, arith, Ghosts, AsksOnly, Nothing}}
use Rattle.residency.proofs.Names.{Names, NamesOnce, asks_none, asks_once, asks_wider, asks_then, once_named, once_none, SizedStore, SizedDirectory, Size, directory_in, directory_of, kept_of, disk_of, IsSectorOf, ReadsSizedPage, Free, Table, role_of, IsFrame, IsFull, SameButFor, Swap, Pages, slots_of}
use Rattle.residency.{proofs.Names.{IsSectorOfSlot, IsSectorOfFreeSlot, place_of, is_touched, KeepsTrees, data_changed}, specs.{Ages.{GivesFrame, WantsFrame}, Calls.{Frees, NeedsSlot, GivesToSwap, AsksSwap, AsksSwapAlso, AsksOneSlot}}}
use Rattle.{residency.specs.{Evictions.{IsEvictable, ClearsMarks, Looked, GivesUp}, Parts.{IsFit}, Picture.{entry, Picture, picture_of, is_data}, Reading.{ReadsStore}, declared.kernel.Core.{Core}}, std.proofs.Common.{Result}}
use Rattle.swap.specs.Slots as Slots

or_more : {A B : Type 0} → A ⊎ ⊥ → A ⊎ B
or_more (inl is) = inl is
or_more (inr none) = absurd none

-- why a frame was given up, if one was
pub needed_of : {M : Type 0} {m : Levels.Ghosts M} → {D E : Type 0} (old found : Core D E M m) → IsFull old.frames ⊎ (found ≡ old) → IsFull old.frames ⊎ (picture_of found ≡ picture_of old)
needed_of old found (inl full) = inl full
needed_of old found (inr same) = inr (ap picture_of same)

module _ {M : Type 0} {m : Levels.Ghosts M} {D E : Type 0} where
  -- a frame that needs a slot after a look needed one before
  needed_before : (old mid : Core D E M m) (v : ℕ) → role_of mid.frames v ≡ role_of old.frames v → mid.cache ≡ old.cache → NeedsSlot (picture_of mid) v → NeedsSlot (picture_of old) v
  needed_before old mid v role cache (inl own) = inl (sym role ∙ own)
  needed_before old mid v role cache (inr filed) = inr (filed.0, ap (λ t. place_of t filed.0) (sym cache) ∙ filed.1, ap (λ t. is_touched t filed.0) (sym cache) ∙ filed.2)

-- swap's device as it was
module _ {E : Type 0} (h : Ghosts E) where
  pub asks_same : (W : ℕ → Type 0) (old new : Swap E) → new ≡ old → AsksOnly h W old.pages.disk new.pages.disk
  asks_same W old new same = asks_none h W old.pages.disk new.pages.disk (λ k. ap (λ (s : Swap E). h.asked s.pages.disk k) same)

  -- some calls before which swap was as it was, and after which its device was
  pub asks_between : (W : ℕ → Type 0) (old before after new : Swap E) → before ≡ old → new.pages ≡ after.pages → AsksOnly h W before.pages.disk after.pages.disk → AsksOnly h W old.pages.disk new.pages.disk
  asks_between W old before after new first last asks =
      let P : Swap E → Type 0 = λ s. AsksOnly h W s.pages.disk new.pages.disk in
      let Q : Pages E → Type 0 = λ p. AsksOnly h W before.pages.disk p.disk in
      subst P first (subst Q (sym last) asks)

  -- a slot was put
  pub asks_put : (old before after new : Swap E) → before ≡ old → new.pages ≡ after.pages → AsksOnly h (IsSectorOfFreeSlot (slots_of before)) before.pages.disk after.pages.disk
      → AsksOnly h (IsSectorOfFreeSlot (slots_of old)) old.pages.disk new.pages.disk
  asks_put old before after new first last asks = asks_between (IsSectorOfFreeSlot (slots_of old)) old before after new first last
      (let P : Swap E → Type 0 = λ s. AsksOnly h (IsSectorOfFreeSlot (slots_of s)) before.pages.disk after.pages.disk in subst P first asks)

  pub one_put : (old before after new : Swap E) (slot : ℕ) → before ≡ old → new.pages ≡ after.pages → AsksOnly h (IsSectorOfSlot slot) before.pages.disk after.pages.disk
      → (k : ℕ) × AsksOnly h (λ n. IsSectorOfSlot k n ⊎ ⊥) old.pages.disk new.pages.disk
  one_put old before after new slot first last asks =
      (slot, asks_wider h (IsSectorOfSlot slot) (λ n. IsSectorOfSlot slot n ⊎ ⊥) old.pages.disk new.pages.disk (λ k is. inl is) (asks_between (IsSectorOfSlot slot) old before after new first last asks))

module _ {M : Type 0} {m : Levels.Ghosts M} {D E : Type 0} (h : Ghosts E) where
  -- a frame was chosen by the clock, and tried
  pub asked_tried : (old mid new : Core D E M m) (keep : Option FrameNo) (v : ℕ) → ClearsMarks (picture_of old) (picture_of mid) → Looked old mid → IsEvictable (picture_of mid) keep v
      → GivesUp v (picture_of mid) (picture_of new) → AsksOnly h (IsSectorOfFreeSlot (slots_of mid.swap)) mid.swap.pages.disk new.swap.pages.disk → (new.swap ≡ mid.swap) ⊎ NeedsSlot (picture_of mid) v → IsFull old.frames
      → AsksSwap h old new keep
  asked_tried old mid new keep v marks looked ev gives asks (inl same) full = inl (same ∙ looked.swap)
  asked_tried old mid new keep v marks looked ev gives asks (inr needs) full = inr (record {
    full = full;
    frame = v;
    spareable = (sym (ap is_data (marks.roles v)) ∙ ev.0.0, ev.0.1);
    needs = needed_before old mid v (marks.roles v) looked.cache needs;
    room = (let P : Swap E → Type 0 = λ s. Slots.IsSwapFull (slots_of s) → ⊥ in subst P looked.swap (ev.1 needs));
    alone = frame_given (picture_of old) (picture_of mid) (picture_of new) v marks gives ev.0.0;
    asks = asks_wider h (IsSectorOfFreeSlot (slots_of old.swap)) (λ k. IsSectorOfFreeSlot (slots_of old.swap) k ⊎ ⊥) old.swap.pages.disk new.swap.pages.disk (λ k is. inl is)
        (asks_put h old.swap mid.swap new.swap new.swap looked.swap refl asks);
  })

  pub one_tried : (old mid new : Core D E M m) → mid.swap ≡ old.swap → AsksOneSlot h mid new Nothing → AsksOneSlot h old new Nothing
  one_tried old mid new same one = (one.0, asks_between h (λ k. IsSectorOfSlot one.0 k ⊎ ⊥) old.swap mid.swap new.swap new.swap same refl one.1)

  -- it was taken then
  given_taken : (old found new : Core D E M m) (keep : Option FrameNo) (n : ℕ) (also : ℕ → Type 0) → IsFull old.frames ⊎ (found ≡ old) → Frees (picture_of old) (picture_of found) keep → IsFrame found.frames n
      → role_of found.frames n ≡ Free → (GivesFrame (picture_of old) (picture_of found) n → GivesFrame (picture_of old) (picture_of new) n) → AsksOnly h also found.swap.pages.disk new.swap.pages.disk
      → GivesToSwap h old found keep Nothing → (found ≡ old) ⊎ GivesToSwap h old new keep also
  given_taken old found new keep n also needed frees inside free taken more given = elim needed [
    | inl full ↦ (
        let e = one_given (picture_of old) (picture_of found) given.frame n frees.count full given.alone inside free in
        let P : ℕ → Type 0 = λ k. GivesFrame (picture_of old) (picture_of found) k in
        let Q : ℕ → Type 0 = λ k. GivesFrame (picture_of old) (picture_of new) k in
        let W : ℕ → Type 0 = λ k. IsSectorOfFreeSlot (slots_of old.swap) k ⊎ also k in
        let before = old.swap.pages.disk in
        let mid = found.swap.pages.disk in
        let after = new.swap.pages.disk in
        inr (record {
          full = full;
          frame = given.frame;
          spareable = given.spareable;
          needs = given.needs;
          room = given.room;
          alone = subst Q (sym e) (taken (subst P e given.alone));
          asks = asks_then h W before mid after (asks_wider h (λ k. IsSectorOfFreeSlot (slots_of old.swap) k ⊎ ⊥) W before mid (λ k is. or_more is) given.asks) (asks_wider h also W mid after (λ k is. inr is) more);
        }))
    | inr same ↦ inl same
  ]

  pub asked_taken : (old found new : Core D E M m) (keep : Option FrameNo) (n : ℕ) → IsFull old.frames ⊎ (found ≡ old) → Frees (picture_of old) (picture_of found) keep → IsFrame found.frames n → role_of found.frames n ≡ Free
      → new.swap ≡ found.swap → (GivesFrame (picture_of old) (picture_of found) n → GivesFrame (picture_of old) (picture_of new) n) → AsksSwap h old found keep → AsksSwap h old new keep
  asked_taken old found new keep n needed frees inside free swap taken (inl same) = inl (swap ∙ same)
  asked_taken old found new keep n needed frees inside free swap taken (inr given) = elim (given_taken old found new keep n Nothing needed frees inside free taken (asks_same h Nothing found.swap new.swap swap) given) [
    | inl same ↦ inl (swap ∙ ap (λ (c : Core D E M m). c.swap) same)
    | inr now ↦ inr now
  ]

  -- and swap asked for more
  pub also_taken : (old found new : Core D E M m) (keep : Option FrameNo) (n : ℕ) (also : ℕ → Type 0) → IsFull old.frames ⊎ (found ≡ old) → Frees (picture_of old) (picture_of found) keep → IsFrame found.frames n
      → role_of found.frames n ≡ Free → (GivesFrame (picture_of old) (picture_of found) n → GivesFrame (picture_of old) (picture_of new) n) → AsksOnly h also found.swap.pages.disk new.swap.pages.disk
      → AsksSwap h old found keep → AsksSwapAlso h old new keep also
  also_taken old found new keep n also needed frees inside free taken more (inl same) = inl (asks_between h also old.swap found.swap new.swap new.swap same refl more)
  also_taken old found new keep n also needed frees inside free taken more (inr given) = elim (given_taken old found new keep n also needed frees inside free taken more given) [
    | inl same ↦ inl (asks_between h also old.swap found.swap new.swap new.swap (ap (λ (c : Core D E M m). c.swap) same) refl more)
    | inr now ↦ inr now
  ]

  pub also_asked : (old new : Core D E M m) (keep : Option FrameNo) (also : ℕ → Type 0) → AsksSwap h old new keep → AsksSwapAlso h old new keep also
  also_asked old new keep also (inl same) = inl (asks_same h also old.swap new.swap same)
  also_asked old new keep also (inr given) = inr (record { full = given.full; frame = given.frame; spareable = given.spareable; needs = given.needs; room = given.room; alone = given.alone; asks = asks_wider h _ _ old.swap.pages.disk new.swap.pages.disk (λ k is. or_more is) given.asks })

  pub one_also : (old found : Core D E M m) (new : Swap E) (also : ℕ → Type 0) → AsksOneSlot h old found Nothing → AsksOnly h also found.swap.pages.disk new.pages.disk
      → (slot : ℕ) × AsksOnly h (λ k. IsSectorOfSlot slot k ⊎ also k) old.swap.pages.disk new.pages.disk
  one_also old found new also one more = (
    one.0,
    asks_then h (λ k. IsSectorOfSlot one.0 k ⊎ also k) old.swap.pages.disk found.swap.pages.disk new.pages.disk
        (asks_wider h (λ k. IsSectorOfSlot one.0 k ⊎ ⊥) (λ k. IsSectorOfSlot one.0 k ⊎ also k) old.swap.pages.disk found.swap.pages.disk (λ k is. or_more is) one.1)
        (asks_wider h also (λ k. IsSectorOfSlot one.0 k ⊎ also k) found.swap.pages.disk new.pages.disk (λ k is. inr is) more),
  )

-- a frame that was free is put to use, not as a table: every entry is as it was
pub entries_taken : {mode : ℕ} (found new : Picture mode) (n : ℕ) → IsFit found → SameButFor n found.frames new.frames → role_of found.frames n ≡ Free → role_of new.frames n ≢ Table
    → ((pid : ℕ) → new.root pid ≡ found.root pid) → (pid page : ℕ) → entry new pid page ≡ entry found pid page
entries_taken {mode} found new n fit same free datum root =
    let trees : KeepsTrees found.frames new.frames (top_level mode) = data_changed found.frames new.frames (top_level mode) n fit.rooted.forest same (λ t. (let bad : Free ≡ Table = sym free ∙ t in (cc))) datum in
    entries_kept found new 0 fit.rooted trees.entries root

-- a frame that was given up holds no table afterwards
pub gives_taken : {mode : ℕ} (old found new : Picture mode) (n : ℕ) → IsFit found → SameButFor n found.frames new.frames → role_of found.frames n ≡ Free → role_of new.frames n ≢ Table
    → ((pid : ℕ) → new.root pid ≡ found.root pid) → GivesFrame old found n → GivesFrame old new n
gives_taken {mode} old found new n fit same free datum root gives =
    let trees : KeepsTrees found.frames new.frames (top_level mode) = data_changed found.frames new.frames (top_level mode) n fit.rooted.forest same (λ t. (let bad : Free ≡ Table = sym free ∙ t in (cc))) datum in
    gives_kept old found new n same.roles (entries_kept found new 0 fit.rooted trees.entries root) trees.same.forth gives

-- the store was asked for one page, once
module _ {D : Type 0} (g : Ghosts D) (page : FilePage) (old : SizedStore D) where
  pub once_store : (mid new : SizedStore D) → mid ≡ old → NamesOnce (IsSectorOf mid page) (g.asked (disk_of mid)) (g.asked (disk_of new)) → NamesOnce (IsSectorOf old page) (g.asked (disk_of old)) (g.asked (disk_of new))
  once_store mid new same names =
      let P : SizedStore D → Type 0 = λ s. NamesOnce (IsSectorOf s page) (g.asked (disk_of s)) (g.asked (disk_of new)) in
      subst P same names

  pub once_unasked : (new : SizedStore D) → new ≡ old → NamesOnce (IsSectorOf old page) (g.asked (disk_of old)) (g.asked (disk_of new))
  once_unasked new same = once_none (IsSectorOf old page) (g.asked (disk_of old)) (g.asked (disk_of new)) (λ k. ap (λ (s : SizedStore D). g.asked (disk_of s) k) same)

  pub asks_store : (new : SizedStore D) → NamesOnce (IsSectorOf old page) (g.asked (disk_of old)) (g.asked (disk_of new)) → AsksOnly g (IsSectorOf old page) (disk_of old) (disk_of new)
  asks_store new once = asks_once g (IsSectorOf old page) (IsSectorOf old page) (disk_of old) (disk_of new) (λ k is. is) once

  -- it has the files that it had,
  pub same_directory : {T F : Type 0} {to : List ℕ} {r : Result T F} (new : SizedStore D) → ReadsSizedPage g old new page to r → directory_of new ≡ directory_of old
  same_directory new reads = ap (λ k. directory_in k new.sizes.items) reads.same.0 ∙ ap (λ sizes. directory_in (kept_of old) sizes) reads.same.1

  -- it was read, or not at all
  pub reads_store : {T F : Type 0} {to : List ℕ} {r : Result T F} (mid new : SizedStore D) → mid ≡ old → ReadsSizedPage g mid new page to r → ReadsStore g old new
  reads_store mid new same reads =
      let P : SizedStore D → Type 0 = λ s. ReadsStore g s new in
      subst P same (record { size = reads.size; kept = reads.kept; failures = reads.cause.later; touches = reads.touches; same = reads.same.0; sizes = reads.same.1 })

  pub reads_none : (new : SizedStore D) → new ≡ old → ReadsStore g old new
  reads_none new same =
      let P : SizedStore D → Type 0 = λ s. ReadsStore g old s in
      subst P (sym same) (record {
        size = refl;
        kept = λ k. k;
        failures = omega arith;
        touches = λ k. record { content = λ j. inr refl; unsynced = λ j u. inl u; later = omega arith; moments = λ t c before left. inl left };
        same = refl;
        sizes = refl;
      })

-- the frame that was wanted, where none was had
module _ {M : Type 0} {m : Levels.Ghosts M} {D E : Type 0} where
  pub wants_tried : (old new : Core D E M m) → IsFull old.frames ⊎ (new ≡ old) → IsFull new.frames → (v : ℕ) × GivesFrame (picture_of old) (picture_of new) v → (v : ℕ) × WantsFrame (picture_of old) (picture_of new) v
  wants_tried old new (inl full) now tried = (tried.0, (tried.1, inl full))
  wants_tried old new (inr same) now tried = (tried.0, (tried.1, inl (let P : Core D E M m → Type 0 = λ c. IsFull c.frames in subst P same now)))

  -- and where one was had, and given back
  pub wants_taken : (old found : Core D E M m) (new : Picture m.mode) (n : ℕ) → IsFull old.frames ⊎ (found ≡ old) → role_of found.frames n ≡ Free → GivesFrame (picture_of old) new n → (v : ℕ) × WantsFrame (picture_of old) new v
  wants_taken old found new n (inl full) free gives = (n, (gives, inl full))
  wants_taken old found new n (inr same) free gives = (n, (gives, inr (let P : Core D E M m → Type 0 = λ c. role_of c.frames n ≡ Free in subst P same free)))
