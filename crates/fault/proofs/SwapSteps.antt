-- A page's own copy read from its slot into a frame, and what it leaves.
use Rattle.fault.proofs.{Forms.{mapped_page}, Names.{top_level, Attr, can_write, SlotNo, ◌≡◌, ◌≢◌, ℕ, inl, inr, ◌*◌, true, false, List, Option, Some, refl, sym, ap, ◌∙◌, subst, arith, None, false≢true, Private, FrameTable}}
use Rattle.fault.proofs.Names.{count_of, SameButFor, Takes, with_bytes, Releases, IsFrame, bytes_of, with_bytes-others, with_bytes-same, ◌&&◌, ◌==◌, option_map, Ghosts, Swap, Pages, IsAsWritten, SlotTable, IsReady, slots_of, IsInUse}
use Rattle.fault.proofs.Names.{ReleasesSlot, IsEntryOver, IsPage, Entry, Swapped, number_of, IsEntry, has_bit, is_swapped, InSlot, seat, Picture, entry, picture_of, view, view_of, bytes_in, IsOwned, IsFit, IsEntryFor, Resident}
use Rattle.fault.proofs.{Names.{Away, IsSwapped, IsFitBut, TakesOwn, ChangesFrame, Core, ObtainsOwn, away_seat, views_given, with_slots, fit_slot_released, by_page}, Settling.{KeepsAside, aside_then, aside_slot_released}}
use Rattle.fault.{proofs.Settling.{HasFrame, GivesFrame, fit_seated, seat_owned, view_given, aside_given}, specs.{Changes.{KeepsViews}, Leaves.{IsFullEntry}, OwnFrames.{LiesInSlot}, declared.spot.Spot.{Spot}}}
use Rattle.{residency.specs.Parts.{Nothing}, std.specs.Prelude.{◌≤◌}, fault.proofs.Names.{rules, not_swapped}}
use Rattle.vm_types.specs.declared.mode.Levels as Levels

pub zero_here : is_swapped 0 ≡ false
unfolding has_bit
zero_here = refl

not_shared_away : {mode : ℕ} (c : Picture mode) (attr : Option Attr) (a : Attr) (e : ℕ) → attr ≡ Some a → is_swapped e ≡ true → e ≢ 0 → IsEntryFor c attr e → IsSwapped c a e
not_shared_away c attr a e at away some (Nothing none) = absurd (some none)
not_shared_away c attr a e at away some (Resident b is resident) = absurd (false≢true (sym (not_swapped e resident.framed) ∙ away))
not_shared_away c attr a e at away some (Away b is swapped) = let both : Some b ≡ Some a = sym is ∙ at in subst (λ (x : Attr). IsSwapped c x e) (cc) swapped

-- the page lies in a slot by its region too
pub swapped_page : {mode : ℕ} (c : Picture mode) (pid page : ℕ) (a : Attr) → IsFit c → IsPage (top_level mode) page → c.at pid page ≡ Some a → is_swapped (entry c pid page) ≡ true → IsSwapped c a (entry c pid page)
swapped_page c pid page a fit h at away =
    not_shared_away c (c.at pid page) a (entry c pid page) at away (λ none. false≢true (sym zero_here ∙ sym (ap is_swapped none) ∙ away)) (fit.granting.entries pid page h)

others_then : {n : ℕ} {a b c : FrameTable} → SameButFor n a b → SameButFor n b c → SameButFor n a c
others_then p q = record { frames = q.frames ∙ p.frames; bytes = λ m ne. q.bytes m ne ∙ p.bytes m ne; roles = λ m ne. q.roles m ne ∙ p.roles m ne; counts = λ m ne. q.counts m ne ∙ p.counts m ne }

-- a frame that was taken and written, as the other frames see it
pub own_written : (old taken : FrameTable) (n : ℕ) (w : List ℕ) → Takes old taken Private n → SameButFor n old (with_bytes taken n w)
own_written old taken n w takes =
    others_then takes.others (with_bytes-others taken n w)

pub own_spent : (old taken new : FrameTable) (n : ℕ) (w : List ℕ) → Takes old taken Private n → Releases (with_bytes taken n w) new n → SameButFor n old new
own_spent old taken new n w takes releases =
    others_then (own_written old taken n w takes) releases.others

-- a frame that was taken for a page changed further, and no slot
pub changes_further : {mode : ℕ} {found taken : Picture mode} {n page : ℕ} → TakesOwn found taken n page → (t : SlotTable) → t ≡ taken.slots → (u : FrameTable) → SameButFor n found.frames u
    → ChangesFrame found (record taken { slots = t; frames = u }) n
changes_further own t slots u frames = let same = slots ∙ own.slots in search rules

-- the fullest entry by the share count of its frame alone
pub full_count : {mode : ℕ} (c c' : Picture mode) (a : Attr) (n e : ℕ) → count_of c'.frames n ≡ count_of c.frames n → IsFullEntry c a n true e → IsFullEntry c' a n true e
full_count c c' a n e same full = subst (λ (x : ℕ). IsEntryOver e a.prot n true ((x == 1) && can_write a.prot) ((x == 1) && can_write a.prot)) (sym same) full

module _ {E : Type 0} (h : Ghosts E) where
  -- slots that were ready are, after one share was given back
  pub ready_released : (a b c : Swap E) → b ≡ a → c.pages ≡ b.pages → (slots_of c).total ≡ (slots_of b).total → IsReady h a → IsReady h c
  ready_released a b c same pages total ready =
      let P : Pages E → Type 0 = λ x. IsAsWritten h x.disk x.written.notes in
      let Q : Pages E → Type 0 = λ x. 8 * (slots_of c).total ≤ h.sector_count x.disk in
      let there = subst (λ (x : Swap E). IsReady h x) (sym same) ready in
      record { room = subst Q (sym pages) (let room = there.room in omega (arith, room, total)); as_written = subst P (sym pages) there.as_written }

-- the slot that an entry names
pub slot_seat : {e number : ℕ} {d : Entry} {slot : SlotNo} → number ≡ e → number_of d ≡ number → IsEntry d → d ≡ Swapped slot → seat e ≡ Some (InSlot slot.0)
slot_seat {slot = slot} is names form swapped =
    ap seat (sym is ∙ sym names ∙ ap number_of swapped) ∙ away_seat slot.0 (let P : Entry → Type 0 = λ d. IsEntry d in subst P swapped form)

module _ {M : Type 0} {m : Levels.Ghosts M} {D E : Type 0} {h : Ghosts E} {core : Core D E M m} {spot : Spot} {a : Attr} (lies : LiesInSlot h core spot a) where
  here : IsPage (top_level m.mode) spot.page
  here = mapped_page (picture_of core) spot.pid spot.page a lies.spot.linked.fit.granting lies.attr

  pub swapped_here : IsSwapped (picture_of core) a (entry (picture_of core) spot.pid spot.page)
  swapped_here = swapped_page (picture_of core) spot.pid spot.page a lies.spot.linked.fit here lies.attr lies.away

  module _ {taken : Picture m.mode} {n : ℕ} (obtains : ObtainsOwn (picture_of core) taken None n spot.page) where
    stays : entry obtains.found spot.pid spot.page ≡ entry (picture_of core) spot.pid spot.page
    stays = obtains.frees.entries spot.pid spot.page here (inr (inl lies.away))

    pub slot_used : (k : ℕ) → seat (entry (picture_of core) spot.pid spot.page) ≡ Some (InSlot k) → IsInUse taken.slots k
    slot_used k from = subst (λ (t : SlotTable). IsInUse t k) (sym obtains.own.slots) (obtains.fit.counted.1.named spot.pid spot.page (InSlot k) here (ap seat stays ∙ from)).0

    -- the frame that it was read into
    module _ (t : SlotTable) (same : t ≡ taken.slots) (w : List ℕ) where
      pub slot_frame : HasFrame (picture_of core) obtains.found (record taken { slots = t; frames = with_bytes taken.frames n w }) None spot.pid spot.page spot.root.0 n a
      slot_frame =
          let changes = changes_further obtains.own t same _ (own_written obtains.found.frames taken.frames n w obtains.own.takes) in
          search (rules, stays)

      pub slot_bytes : (k : ℕ) → w ≡ taken.slots.bytes k → bytes_of (with_bytes taken.frames n w) n ≡ obtains.found.slots.bytes k
      slot_bytes k is =
          let inside : IsFrame taken.frames n = (let same = obtains.own.takes.others.frames in let low = obtains.own.takes.inside in omega (arith, same, low)) in
          with_bytes-same taken.frames n w inside ∙ is ∙ ap (λ u. u.bytes k) obtains.own.slots

-- that frame is shown, and the slot given back
module _ {mode : ℕ} {old found mid : Picture mode} {pid page r n : ℕ} {a : Attr} (has : HasFrame old found mid None pid page r n a) (k : ℕ) (from : seat (entry old pid page) ≡ Some (InSlot k))
    {set : Picture mode} (gives : GivesFrame old mid set page r n a) where
  fit_set : IsFitBut set (InSlot k) 1 0
  fit_set = fit_seated has gives (InSlot k) from (λ e. (cc))

  owned : IsOwned set (InSlot k)
  owned = seat_owned has gives (InSlot k) from

  pub slot_set : IsInUse set.slots k
  slot_set = owned.0

  module _ (t : SlotTable) (releases : ReleasesSlot set.slots t k) where
    abbrev new : Picture mode
    new = record set { slots = t }

    pub fit_in : IsFit (record set { slots = t })
    fit_in = fit_slot_released set new k 0 fit_set owned (with_slots set t) releases

    pub aside_in : KeepsAside old (record set { slots = t }) pid page
    aside_in = aside_then (aside_given has gives) (aside_slot_released set t k fit_set releases)

    view_was : view found pid page ≡ Some (record { attr = a; own = Some (found.slots.bytes k) })
    unfolding view
    view_was =
        ap (λ o. view_of o (found.at pid page)) (ap (λ z. option_map (bytes_in found.frames found.slots) z) (ap seat has.stays ∙ from))
        ∙ ap (λ o. view_of (Some (found.slots.bytes k)) o) (has.frees.pages.at pid page ∙ has.at)

    here_in : bytes_of mid.frames n ≡ found.slots.bytes k → view new pid page ≡ view old pid page
    here_in same =
        views_given set new k 1 0 (InSlot k) fit_set (with_slots set t) releases pid page
        ∙ view_given has gives
        ∙ ap (λ w. Some (record { attr = a; own = Some w })) same ∙ sym view_was ∙ has.frees.pages.views pid page

    pub seen_in : bytes_of mid.frames n ≡ found.slots.bytes k → KeepsViews old (record set { slots = t })
    seen_in same q p = elim (by_page q p pid page) [
      | inl e ↦ (subst (λ (x : ℕ). view new x p ≡ view old x p) (sym e.0) (subst (λ (x : ℕ). view new pid x ≡ view old pid x) (sym e.1) (here_in same)))
      | inr other ↦ aside_in.others q p other
    ]
