-- A frame that was obtained, and what was done with it.
use Rattle.vm_types.specs.declared.mode.Levels as Levels
use Rattle.residency.proofs.{Asking.{also_taken, asked_taken, entries_taken, gives_taken, needed_of, wants_taken, wants_tried}, BroughtIn.{fit_brought}, Cleaning.{all_touched}, Giving.{frame_taken, one_given}, Names.{◌≡◌, ◌≢◌, ℕ, ◌⊎◌, ◌≤◌, Option, None}}
use Rattle.residency.proofs.Names.{sym, ap, ◌∙◌, subst, arith, rules, IsErrAnd, FrameNo, PageKey, Stall, StoreDevice, Ghosts, disk_of, AsksOnly, Free, Table, Cache, role_of, IsFrame, IsFull, SameButFor, FrameTable, Takes, Swap, IsReady, IsSectorOfSlot}
use Rattle.residency.{proofs.{Names.{Frame, place_of, is_touched, SameButForPage}, Returning.{frees_spent}, Sparing.{frees_then}, Taking.{fit_spent}}, specs.{Ages.{GivesFrame}, AskedFrames.{ComesIn, Obtains, SeeksFrame}, Calls.{AsksSwap}}}
use Rattle.residency.specs.{Calls.{AsksSwapAlso, KeepsRest, UsesDevice}, Parts.{IsPageFor}, Picture.{Picture, picture_of, entry}, Stalls.{StallCause, ReadCause, HasReadCause}, Steps.{BringsIn, ChangesFrame, LeavesSlot}, Views.{AsksClock, IsLeftBut}}
use Rattle.{residency.specs.{Views.{ChoosesByClock, TurnsClock}, declared.kernel.Core.{Core}}, std.proofs.Common.{Result, Ok, Err}}

-- swap's device was read then
pub device_read : {M : Type 0} {m : Levels.Ghosts M} {D E : Type 0} {h : Ghosts E} {old found : Core D E M m} {keep : Option FrameNo} {r : Result FrameNo Stall} → Obtains h old found keep r → (disk : E)
    → h.sector_count disk ≡ h.sector_count found.swap.pages.disk → (h.keeps_model disk → h.keeps_model found.swap.pages.disk) → h.failures found.swap.pages.disk ≤ h.failures disk → UsesDevice h old.swap.pages.disk disk
device_read got disk size kept later = record { size = size ∙ got.device.size; kept = λ k. got.device.kept (kept k); later = (let before = got.device.later in omega (arith, before, later)) }

module _ {M : Type 0} {m : Levels.Ghosts M} {D E : Type 0} {h : Ghosts E} {old found : Core D E M m} {keep : Option FrameNo} {v : FrameNo} (got : Obtains h old found keep (Ok v))
    (n : FrameNo) (inside : IsFrame found.frames n.0) (free : role_of found.frames n.0 ≡ Free) where
  -- no frame was given up but the one that is taken,
  pub given : GivesFrame (picture_of old) (picture_of found) n.0
  given = frame_taken (picture_of old) (picture_of found) keep v.0 n.0 got.frees got.gives (needed_of old found got.needed) inside free

  -- nor after it was changed, and became no table
  pub given_on : (new : Picture m.mode) → SameButFor n.0 found.frames new.frames → role_of new.frames n.0 ≢ Table → ((pid : ℕ) → new.root pid ≡ (picture_of found).root pid)
      → GivesFrame (picture_of old) (picture_of found) n.0 → GivesFrame (picture_of old) new n.0
  given_on new same datum root gives = gives_taken (picture_of old) (picture_of found) new n.0 got.fit same free datum root gives

  -- nor after it was given back
  pub given_back : (new : Picture m.mode) → ChangesFrame (picture_of found) new n.0 → role_of new.frames n.0 ≡ Free → GivesFrame (picture_of old) (picture_of found) n.0 → GivesFrame (picture_of old) new n.0
  given_back new changes freed = given_on new changes.frames (λ t. (let bad : Free ≡ Table = sym freed ∙ t in (cc))) changes.root

  pub asked_on : (new : Core D E M m) → new.swap ≡ found.swap → (GivesFrame (picture_of old) (picture_of found) n.0 → GivesFrame (picture_of old) (picture_of new) n.0) → AsksSwap h old new keep
  asked_on new swap taken = asked_taken h old found new keep n.0 got.needed got.frees inside free swap taken got.asked

  pub also_on : (new : Core D E M m) (also : ℕ → Type 0) → (GivesFrame (picture_of old) (picture_of found) n.0 → GivesFrame (picture_of old) (picture_of new) n.0) → AsksOnly h also found.swap.pages.disk new.swap.pages.disk
      → AsksSwapAlso h old new keep also
  also_on new also taken more = also_taken h old found new keep n.0 also got.needed got.frees inside free taken more got.asked

  -- the clock chose it, where none was free
  pub chosen : IsFull old.frames → AsksClock old keep (Ok n) found.clock
  chosen full =
      let same = one_given (picture_of old) (picture_of found) v.0 n.0 got.frees.count full got.gives inside free in
      let P : ℕ → Type 0 = λ k. AsksClock old keep (Ok (record { 0 = k })) found.clock in
      subst P same (got.turns full)

  pub clock_on : (new : Core D E M m) → new.clock ≡ found.clock → new.looks ≡ found.looks → TurnsClock old new keep (Ok n)
  clock_on new clock looks = record { stands = λ some. clock ∙ got.stands some; turns = λ full. rw clock (chosen full); looks = rw looks got.looks }

  -- memory is as the clock left it, but for what lay in it, where no entry was changed since
  pub aged_on : (new : Core D E M m) → ((pid page : ℕ) → entry (picture_of new) pid page ≡ entry (picture_of found) pid page) → IsFull old.frames → IsLeftBut old new keep n
  aged_on new same full =
      let is = one_given (picture_of old) (picture_of found) v.0 n.0 got.frees.count full got.gives inside free in
      let P : ℕ → Type 0 = λ k. IsLeftBut old found keep (record { 0 = k }) in
      let left = subst P is (got.aged full) in
      record { left = left.left; clock = left.clock; entries = λ pid page h stays. same pid page ∙ left.entries pid page h stays }

  -- none was, where it became no table
  pub entries_on : (new : Picture m.mode) → SameButFor n.0 found.frames new.frames → role_of new.frames n.0 ≢ Table → ((pid : ℕ) → new.root pid ≡ (picture_of found).root pid)
      → (pid page : ℕ) → entry new pid page ≡ entry (picture_of found) pid page
  entries_on new same datum root = entries_taken (picture_of found) new n.0 got.fit same free datum root

  -- it was put to use
  pub seeks_on : (new : Core D E M m) → new.swap ≡ found.swap → new.refused ≡ found.refused → KeepsRest found new → new.clock ≡ found.clock → new.looks ≡ found.looks
      → ((pid page : ℕ) → entry (picture_of new) pid page ≡ entry (picture_of found) pid page)
      → (GivesFrame (picture_of old) (picture_of found) n.0 → GivesFrame (picture_of old) (picture_of new) n.0) → SeeksFrame h old new keep (Ok n)
  unfolding ChoosesByClock
  seeks_on new swap refused rest clock looks entries taken =
      let P : Swap E → Type 0 = λ s. IsReady h s × UsesDevice h old.swap.pages.disk s.pages.disk × ((slot : ℕ) × AsksOnly h (λ k. IsSectorOfSlot slot k ⊎ ⊥) old.swap.pages.disk s.pages.disk) in
      let uses = subst P (sym swap) (got.swap, got.device, got.one) in
      record {
        rest = record { store = rest.store ∙ got.rest.store; roots = rest.roots ∙ got.rest.roots; regions = rest.regions ∙ got.rest.regions };
        clock = clock_on new clock looks;
        aged = aged_on new entries;
        asked = asked_on new swap taken;
        uses = record { swap = uses.0; device = uses.1; one = uses.2 };
        refused = record { refuses = tt; short = tt; cause = (ap (λ r. r.number) refused ∙ got.cause.0, ap (λ (s : Swap E). h.failures s.pages.disk) swap ∙ got.cause.1) };
      }

-- for a page of a file or an object
module _ {M : Type 0} {m : Levels.Ghosts M} {D E : Type 0} {h : Ghosts E} {old found : Core D E M m} {v : FrameNo} (got : Obtains h old found None (Ok v))
    (n : FrameNo) (inside : IsFrame found.frames n.0) (free : role_of found.frames n.0 ≡ Free) (new : Core D E M m) (page : PageKey) where
  pub comes_on : BringsIn (picture_of found) (picture_of new) page n.0 → ComesIn old new page (Ok n)
  comes_on brings = record {
    brought = record { found = picture_of found; fit = got.fit; frees = got.frees; gives = given got n inside free; needed = needed_of old found got.needed; brings = brings };
    fit = fit_brought (picture_of found) (picture_of new) page n.0 got.fit brings;
    frees = tt;
    tried = tt;
  }

  -- it was taken, and the page lies there
  pub comes_taken : {t : FrameTable} → Takes found.frames t Cache n.0 → SameButFor n.0 found.frames new.frames → role_of new.frames n.0 ≡ Cache → LeavesSlot (picture_of found) (picture_of new) page
      → ((k : ℕ) → place_of found.cache page ≢ Frame (record { 0 = k })) → IsPageFor (picture_of found) page
      → place_of new.cache page ≡ Frame n → is_touched new.cache page ≡ is_touched found.cache page → SameButForPage page found.cache new.cache
      → ((pid : ℕ) → (picture_of new).root pid ≡ (picture_of found).root pid) → ((pid k : ℕ) → (picture_of new).at pid k ≡ (picture_of found).at pid k)
      → ((k : ℕ) → (picture_of new).page_of k ≡ (picture_of found).page_of k) → ((f : ℕ) → (picture_of new).files f ≡ (picture_of found).files f) → ComesIn old new page (Ok n)
  comes_taken takes frames kind slots away inner placed touched others root at page_of files = comes_on (search (rules, takes.above, all_touched found.cache new.cache page others touched))

  -- it was given back
  pub comes_back : (stall : Stall) → ChangesFrame (picture_of found) (picture_of new) n.0 → role_of new.frames n.0 ≡ Free → ComesIn old new page (Err stall)
  comes_back stall changes freed = record {
    brought = tt;
    fit = fit_spent (picture_of found) (picture_of new) n.0 got.fit changes (λ t. (let bad : Free ≡ Table = sym freed ∙ t in (cc))) freed;
    frees = frees_then (picture_of old) (picture_of found) (picture_of new) None got.frees (frees_spent (picture_of found) (picture_of new) n.0 got.fit changes freed);
    tried = wants_taken old found (picture_of new) n.0 got.needed free (given_back got n inside free (picture_of new) changes freed (given got n inside free));
  }

-- why, where the store is as it was
read_cause : {M : Type 0} {m : Levels.Ghosts M} {D E : Type 0} (g : Ghosts D) (h : Ghosts E) (old new : Core D E M m) (stall : Stall) → new.store ≡ old.store → StallCause h old new stall → ReadCause g h old new stall
read_cause g h old new StoreDevice store c = absurd c
read_cause g h old new stall store c = (c.0, ap (λ s. g.failures (disk_of s)) store, c.1)

-- none was had
module _ {M : Type 0} {m : Levels.Ghosts M} {D E : Type 0} {h : Ghosts E} {old new : Core D E M m} {stall : Stall} where
  pub seeks_stall : {keep : Option FrameNo} (r : Result FrameNo Stall) → IsErrAnd r (λ e. e ≡ stall) → Obtains h old new keep (Err stall) → SeeksFrame h old new keep r
  unfolding ChoosesByClock
  seeks_stall (Ok x) is got = absurd is
  seeks_stall {keep} (Err e) is got =
      let P : Stall → Type 0 = λ s. SeeksFrame h old new keep (Err s) in
      subst P (sym is) (record { rest = got.rest; clock = got.clock; aged = λ full. tt; asked = got.asked; uses = got.uses; refused = got.refused })

  pub comes_stall : (page : PageKey) (r : Result FrameNo Stall) → IsErrAnd r (λ e. e ≡ stall) → Obtains h old new None (Err stall) → ComesIn old new page r
  comes_stall page (Ok x) is got = absurd is
  comes_stall page (Err e) is got = record { brought = tt; fit = got.fit; frees = got.frees; tried = wants_tried old new got.needed got.full got.tried }

  pub reads_stall : {keep : Option FrameNo} (g : Ghosts D) (r : Result FrameNo Stall) → IsErrAnd r (λ e. e ≡ stall) → Obtains h old new keep (Err stall) → HasReadCause g h old new r
  reads_stall g (Ok x) is got = absurd is
  reads_stall g (Err e) is got = let P : Stall → Type 0 = λ s. ReadCause g h old new s in subst P (sym is) (read_cause g h old new stall got.rest.store got.cause)
