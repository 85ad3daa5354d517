-- Which sectors of swap's device the steps of a call ask for.
use Rattle.vm_types.specs.declared.mode.Levels as Levels
use Rattle.fault.proofs.Names.{◌≡◌, ◌⊎◌, ◌<◌, ℕ, inl, inr, true, false, Option, None, get_or, refl, sym, ap, ◌∙◌, subst, arith, cases_eq, PageKey, FrameNo, Ghosts, Nothing, asks_wider, asks_then, Free, Private, role_of, IsFull, KeepsFrames}
use Rattle.fault.proofs.Names.{⊎_elim, Place, Home, Frame, Slot, IsSectorOfFreeSlot, Core, Picture, picture_of, is_data, IsFit, IsSpareable, NeedsSlot, Frees, ObtainsTable, AsksSwap, AsksSwapAlso, GivesToSwap, SameBeside, asks_same}
use Rattle.fault.proofs.Names.{asks_between}
use Rattle.fault.specs.Asking.{HasSwappable, MayAsk, AsksIfFull, AsksNoNew, AsksSlotsIf}

-- what a call may ask for, by the steps of it
module _ {mode : ℕ} where
  -- a frame that may be given up though one is kept may be where none is
  swappable_any : (c : Picture mode) (keep : Option FrameNo) → HasSwappable c keep → HasSwappable c None
  swappable_any c keep has = (has.0, (has.1.0, λ none. none), has.2)

  -- what a later call may ask for, where the one before left no new sector, and what it asks for besides the earlier might have asked for
  may_before : (old new : Picture mode) (full now : Type 0) (keep : Option FrameNo) (also more : ℕ → Type 0) → AsksNoNew old new keep more → (now → full) → ((k : ℕ) → also k → MayAsk old full None more k)
      → (k : ℕ) → MayAsk new now keep also k → MayAsk old full None more k
  may_before old new full now keep also more still f wider k (inl is) = wider k is
  may_before old new full now keep also more still f wider k (inr free) = ⊎_elim (λ was. inr (f free.0, still.frames free.1, was)) inl (still.slots k free.2)

  pub no_new_same : (c : Picture mode) (keep : Option FrameNo) (also : ℕ → Type 0) → AsksNoNew c c keep also
  no_new_same c keep also = record { slots = λ k is. inl is; frames = swappable_any c keep }

  -- and it leaves no new sector either
  pub no_new_then : (a b c : Picture mode) (keep : Option FrameNo) (also more : ℕ → Type 0) → AsksNoNew a b None also → AsksNoNew b c keep more → ((k : ℕ) → more k → IsSectorOfFreeSlot a.slots k ⊎ also k) → AsksNoNew a c keep also
  no_new_then a b c keep also more first second wider = record {
    slots = λ k is. ⊎_elim (first.slots k) (wider k) (second.slots k is);
    frames = λ has. first.frames (second.frames has);
  }

  -- where the slots are as they were, and so is what each frame holds that holds a page
  pub no_new_held : (old new : Picture mode) (keep : Option FrameNo) (also : ℕ → Type 0) → new.slots ≡ old.slots → ((n : ℕ) → is_data (role_of new.frames n) ≡ true → role_of new.frames n ≡ role_of old.frames n)
      → ((p : PageKey) → new.place p ≡ old.place p) → ((p : PageKey) → new.touched p ≡ old.touched p) → AsksNoNew old new keep also
  no_new_held old new keep also slots roles places touched = record {
    slots = λ k is. inl (subst (λ t. IsSectorOfFreeSlot t k) slots is);
    frames = λ has. (has.0, (sym (ap is_data (roles has.0 has.1.0)) ∙ has.1.0, λ none. none), needed has.0 (roles has.0 has.1.0) has.2);
  }
    where
      needed : (n : ℕ) → role_of new.frames n ≡ role_of old.frames n → NeedsSlot new n → NeedsSlot old n
      needed n role (inl own) = inl (sym role ∙ own)
      needed n role (inr filed) = inr (filed.0, sym (places filed.0) ∙ filed.1, sym (touched filed.0) ∙ filed.2)

-- frames were given up
module _ {mode : ℕ} (old new : Picture mode) (keep : Option FrameNo) (frees : Frees old new keep) (fit : IsFit old) where
  slots_freed : (k : ℕ) → IsSectorOfFreeSlot new.slots k → IsSectorOfFreeSlot old.slots k ⊎ ⊥
  slots_freed k (n, inside, free, sector) = elim (cases_eq (old.slots.count n) 0) [
    | inl none ↦ inl (n, subst (λ t. n < t) frees.total inside, none, sector)
    | inr some ↦ (let same = (frees.slots n (omega (arith, some))).1 in absurd (some (sym same ∙ free)))
  ]

  -- a page that lies in a frame lay in one before, which held a page
  framed_freed : (p : PageKey) (n : ℕ) → new.place p ≡ Frame (record { 0 = n }) → (x : Place) → old.place p ≡ x → (m : ℕ) × (old.place p ≡ Frame (record { 0 = m }))
  framed_freed p n now Home was = (let bad = sym (frees.home p was) ∙ now in absurd (cc))
  framed_freed p n now (Frame m) was = (m.0, was)
  framed_freed p n now (Slot k) was = (let bad = sym (frees.slotted p k.0 was) ∙ now in absurd (cc))

  swappable_freed : (n : ℕ) → IsSpareable new None n → NeedsSlot new n → HasSwappable old None
  swappable_freed n spare (inl own) = elim (frees.roles n) [
    | inl same ↦ (n, (sym (ap is_data same) ∙ spare.0, λ none. none), inl (sym same ∙ own))
    | inr freed ↦ (let bad : Free ≡ Private = sym freed.0 ∙ own in (cc))
  ]
  swappable_freed n spare (inr filed) =
      let was = framed_freed filed.0 n filed.1 (old.place filed.0) refl in
      (was.0, (ap is_data (fit.places.cached filed.0 was.0 was.1), λ none. none), inr (filed.0, was.1, sym (frees.pages.files.touched filed.0) ∙ filed.2))

  -- that leaves no slot free that wasn't, and no page to be put into one that didn't have to be
  pub no_new_frees : AsksNoNew old new None Nothing
  no_new_frees = record { slots = slots_freed; frames = λ has. swappable_freed has.0 has.1 has.2 }

-- a frame was obtained, and taken for a table: it is none that could be given up
module _ {mode : ℕ} (old taken : Picture mode) (table : ℕ) (fit : IsFit old) (obtains : ObtainsTable old taken table) where
  roles_taken : (n : ℕ) → is_data (role_of taken.frames n) ≡ true → role_of taken.frames n ≡ role_of obtains.found.frames n
  roles_taken n holds = elim (cases_eq n table) [
    | inl e ↦ (let bad : false ≡ true = sym (ap is_data (ap (role_of taken.frames) e ∙ obtains.adds.takes.kind_set)) ∙ holds in (cc))
    | inr ne ↦ obtains.adds.takes.others.roles n ne
  ]

  pub no_new_taken : AsksNoNew old taken None Nothing
  no_new_taken =
      no_new_then old obtains.found taken None Nothing Nothing (no_new_frees old obtains.found None obtains.frees fit)
      (no_new_held obtains.found taken None Nothing obtains.beside.slots roles_taken obtains.beside.place obtains.beside.touched) (λ k none. absurd none)

  -- and linked
  pub no_new_linked : (new : Picture mode) → KeepsFrames taken.frames new.frames → SameBeside taken new → AsksNoNew old new None Nothing
  no_new_linked new kept beside =
      no_new_then old taken new None Nothing Nothing no_new_taken
      (no_new_held taken new None Nothing beside.slots (λ n holds. ap (λ roles. get_or roles n Free) kept.roles) beside.place beside.touched) (λ k none. absurd none)

module _ {M : Type 0} {m : Levels.Ghosts M} {D E : Type 0} (h : Ghosts E) where
  module _ {full : Type 0} where
    pub asks_slots_wider : (old new : Core D E M m) (keep : Option FrameNo) (also more : ℕ → Type 0) → ((k : ℕ) → also k → MayAsk (picture_of old) full keep more k) → AsksSlotsIf h full old new keep also
        → AsksSlotsIf h full old new keep more
    asks_slots_wider old new keep also more wider asks =
        asks_wider h (MayAsk (picture_of old) full keep also) (MayAsk (picture_of old) full keep more) old.swap.pages.disk new.swap.pages.disk (λ k. ⊎_elim (wider k) inr) asks

    pub asks_slots_any : (old new : Core D E M m) (keep : Option FrameNo) (also : ℕ → Type 0) → AsksSlotsIf h full old new keep also → AsksSlotsIf h full old new None also
    asks_slots_any old new keep also asks =
        asks_wider h (MayAsk (picture_of old) full keep also) (MayAsk (picture_of old) full None also) old.swap.pages.disk new.swap.pages.disk (λ k. ⊎_elim inl (λ free. inr (free.0, swappable_any (picture_of old) keep free.1, free.2))) asks

    -- no call of the device was made
    pub asks_slots_same : (old new : Core D E M m) (keep : Option FrameNo) (also : ℕ → Type 0) → new.swap ≡ old.swap → AsksSlotsIf h full old new keep also
    asks_slots_same old new keep also same = asks_same h (MayAsk (picture_of old) full keep also) old.swap new.swap same

    -- or none but those before
    pub asks_slots_kept : (old mid new : Core D E M m) (keep : Option FrameNo) (also : ℕ → Type 0) → new.swap.pages ≡ mid.swap.pages → AsksSlotsIf h full old mid keep also → AsksSlotsIf h full old new keep also
    asks_slots_kept old mid new keep also same asks = asks_between h (MayAsk (picture_of old) full keep also) old.swap old.swap mid.swap new.swap refl same asks

    -- memory is full in another way
    pub asks_slots_if : (more : Type 0) (old new : Core D E M m) (keep : Option FrameNo) (also : ℕ → Type 0) → (full → more) → AsksSlotsIf h full old new keep also → AsksSlotsIf h more old new keep also
    asks_slots_if more old new keep also f asks =
        asks_wider h (MayAsk (picture_of old) full keep also) (MayAsk (picture_of old) more keep also) old.swap.pages.disk new.swap.pages.disk (λ k. ⊎_elim inl (λ free. inr (f free.0, free.1, free.2))) asks

    -- A call after one that left no new sector: what it asks for besides, the first might have asked for.
    pub asks_slots_then : (now : Type 0) (old mid new : Core D E M m) (keep : Option FrameNo) (also more : ℕ → Type 0) → AsksSlotsIf h full old mid None also → AsksNoNew (picture_of old) (picture_of mid) keep also
        → (now → full) → AsksSlotsIf h now mid new keep more → ((k : ℕ) → more k → MayAsk (picture_of old) full None also k) → AsksSlotsIf h full old new None also
    asks_slots_then now old mid new keep also more first still f second wider =
        let W : ℕ → Type 0 = MayAsk (picture_of old) full None also in
        let before = old.swap.pages.disk in
        let between = mid.swap.pages.disk in
        let after = new.swap.pages.disk in
        asks_then h W before between after first
        (asks_wider h (MayAsk (picture_of mid) now keep more) W between after (may_before (picture_of old) (picture_of mid) full now keep more also still f wider) second)

  -- a frame was asked for
  given_slots : (old new : Core D E M m) (keep : Option FrameNo) (also : ℕ → Type 0) → GivesToSwap h old new keep also → AsksIfFull h old new keep also
  given_slots old new keep also given =
      asks_wider h (λ k. IsSectorOfFreeSlot (picture_of old).slots k ⊎ also k) (MayAsk (picture_of old) (IsFull old.frames) keep also) old.swap.pages.disk new.swap.pages.disk
      (λ k. ⊎_elim (λ free. inr (given.full, (given.frame, given.spareable, given.needs), free)) inl) given.asks

  pub asks_swap : (old new : Core D E M m) (keep : Option FrameNo) (also : ℕ → Type 0) → AsksSwap h old new keep → AsksIfFull h old new keep also
  asks_swap old new keep also (inl same) = asks_slots_same old new keep also same
  asks_swap old new keep also (inr given) = asks_slots_wider old new keep Nothing also (λ k none. absurd none) (given_slots old new keep Nothing given)

  -- and swap was asked for more
  pub asks_swap_also : (old new : Core D E M m) (keep : Option FrameNo) (also : ℕ → Type 0) → AsksSwapAlso h old new keep also → AsksIfFull h old new keep also
  asks_swap_also old new keep also (inl only) = asks_wider h also (MayAsk (picture_of old) (IsFull old.frames) keep also) old.swap.pages.disk new.swap.pages.disk (λ k is. inl is) only
  asks_swap_also old new keep also (inr given) = given_slots old new keep also given
