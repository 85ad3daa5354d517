-- What is left of an access to a page, told from its steps, in each way of serving it.
use Rattle.fault.proofs.{AccessAsking.{asks_brought, asks_calm, asks_less, asks_same, asks_still, now_out}, AccessSlotted.{slotted_brought, slotted_on, slotted_own, slotted_same}, AccessSteps.{brings_none, proceeds_moves, proceeds_then}}
use Rattle.fault.proofs.{AccessSteps.{counts_calm, files_read}, Entered.{read_ready, read_entered}, Linked.{brings_on, brings_wider, calm_then, read_then, stalled_away, open_still}, Names.{◌≡◌, ◌/◌, ℕ, false, inl, ◌⊎◌, Option, None}}
use Rattle.fault.proofs.Names.{Result, Ok, Err, refl, ◌∙◌, ◌≢◌, Bool, true, Some, subst, IsErrAnd, Access, FrameNo, Phys, PageKey, Stall, Attr, Width, Store, stands_on, lets, Ghosts, IsReadySized, IsFull, IsReady, Frame, Core, Picture}
use Rattle.fault.proofs.{Names.{picture_of, held, entry, IsFit, KeepsFiles, seat}, Settled.{none_same}, Steps.{no_table_calm, no_table_none, no_table_then, moves_entered, moves_none, stands_kept, slotted_calm, files_same}}
use Rattle.fault.{proofs.{Wanted.{calm_same, page_there, shows_file, page_inside, err_is}, WaySteps.{links_no_table}}, specs.{AccessAsking.{IsSectorOfItsSlot}, Asking.{AsksIfFull}, Changes.{AddsNoTable, Enters, IsCalm, IsThatPage}}}
use Rattle.fault.specs.{Changes.{KeepsOtherViews, KeepsSlotted, KeepsTouched, Moves, StandsAt}, Found.{IsOpenTo}, FramesShown.{ShowsFrame}, Outcome.{IsStalled, IsWalked, Stalls}, PagingIn.{PagesIn, MayBring}, Serving.{Reaches, Serves, Tends}}
use Rattle.fault.specs.{Leaves.{IsFullEntry}, SpotServing.{MayServeAt}, Wants.{ShowsFile, Wants}, declared.{refusal.AccessRefusal.{AccessRefusal}, spot.Spot.{Spot}}}
use Rattle.vm_types.specs.declared.mode.Levels as Levels
use Rattle.fault.specs.declared.refusal.AccessRefusal.TheVariants as Refusal
use Rattle.fault.proofs.Chances.{others_same}
use Rattle.sized_stores.specs.Store.{disk_of}

module _ {M : Type 0} {m : Levels.Ghosts M} {D E : Type 0} (g : Ghosts D) (h : Ghosts E) where
  -- nothing changed
  pub tends_none : (core : Core D E M m) (pid page : ℕ) (access : Access) → IsFit (picture_of core) → IsReadySized g core.store → IsReady h core.swap → Tends g h core core pid page access
  tends_none core pid page access fit store swap =
      let c : Picture m.mode = picture_of core in
      record {
        proceeds = proceeds_moves g h core core store (moves_none h core fit swap);
        brings = λ kept. brings_none g core.store core.store (ShowsFile c pid page) c c (files_same c);
        touches = λ p touched. touched;
        others = λ q k other. refl;
        slotted = slotted_same (ShowsFile c pid page) (IsThatPage pid page) c;
        calm = λ none. calm_same core pid page;
        tables = links_no_table c c pid page (no_table_none c);
        pointers = λ n i k points. points;
        read = inl refl;
        asks = asks_same g h core core pid page access refl refl;
      }

  -- the page's entry was made over a frame that was there
  pub tends_entered : (old new : Core D E M m) (pid page : ℕ) (access : Access) → IsReadySized g old.store → IsReady h old.swap → Enters old new pid page → KeepsFiles (picture_of old) (picture_of new)
      → Tends g h old new pid page access
  tends_entered old new pid page access store swap enters files = record {
    proceeds = proceeds_moves g h old new store (moves_entered h old new pid page swap enters);
    brings = λ kept. brings_none g old.store new.store (ShowsFile (picture_of old) pid page) (picture_of old) (picture_of new) files;
    touches = λ p touched. files.touched p ∙ touched;
    others = λ q k other. enters.views q k;
    slotted = slotted_calm (ShowsFile (picture_of old) pid page) old new pid page enters.calm;
    calm = λ none. enters.calm;
    tables = links_no_table (picture_of old) (picture_of new) pid page (no_table_calm old new pid page enters.calm);
    pointers = enters.calm.pointers;
    read = inl enters.calm.store;
    asks = asks_calm g h old new pid page access enters.calm;
  }

  -- it has a frame of its own, and the store was left alone
  pub tends_moved : (old new : Core D E M m) (pid page : ℕ) (access : Access) (keep : Option FrameNo) (few : ℕ → Type 0) → IsReadySized g old.store → Moves h old new → KeepsFiles (picture_of old) (picture_of new)
      → KeepsOtherViews (picture_of old) (picture_of new) pid page → KeepsSlotted (λ p. ⊥) (IsThatPage pid page) (picture_of old) (picture_of new)
      → ((Wants (picture_of old) pid page access → ⊥) → IsCalm old new pid page) → ((k : ℕ) → few k → IsSectorOfItsSlot (picture_of old) pid page k) → AsksIfFull h old new keep few
      → AddsNoTable (picture_of old) (picture_of new) → Tends g h old new pid page access
  tends_moved old new pid page access keep few store moves files others slotted calm less asks none = record {
    proceeds = proceeds_moves g h old new store moves;
    brings = λ kept. brings_none g old.store new.store (ShowsFile (picture_of old) pid page) (picture_of old) (picture_of new) files;
    touches = λ p touched. files.touched p ∙ touched;
    others = others;
    slotted = slotted_own (picture_of old) (picture_of new) pid page slotted;
    calm = calm;
    tables = links_no_table (picture_of old) (picture_of new) pid page none;
    pointers = none.pointers;
    read = inl moves.store;
    asks = asks_less g h old new pid page access (IsFull old.frames) keep few moves.store less (now_out (picture_of old) pid page access) asks;
  }

  -- the page of a file or an object that it shows was to be brought into a frame first
  module _ (old mid : Core D E M m) (pid page : ℕ) (access : Access) (p : PageKey) (shows : ShowsFile (picture_of old) pid page p) (fit : IsFit (picture_of old)) where
    module _ (stall : Stall) (first : PagesIn g h old mid p (Err stall)) (idle : (n : FrameNo) → (picture_of old).place p ≡ Frame n → (mid ≡ old) × ⊥) where
      pub tends_away : Tends g h old mid pid page access
      tends_away = record {
        proceeds = first.proceeds;
        brings = brings_wider old mid pid page p shows g h first.brings;
        touches = λ q touched. first.keeps.touched q ∙ touched;
        others = λ q k other. first.keeps.views q k;
        slotted = slotted_brought (picture_of old) (picture_of mid) pid page p shows first.slotted;
        calm = λ unwanted. (let there = page_there (picture_of old) pid page access p shows unwanted in absurd (idle there.0 there.1).1);
        tables = links_no_table (picture_of old) (picture_of mid) pid page first.no_table;
        pointers = first.no_table.pointers;
        read = read_then old mid pid page p shows mid.store fit refl first.read;
        asks = asks_brought g h old mid pid page access p shows first.asks first.once_store;
      }

      pub stalls_away : IsStalled g h old mid pid page access stall
      stalls_away =
          stalled_away old mid pid page p shows g h access stall fit first.keeps (λ n at. (idle n at).1) first.cause first.short first.home first.proceeds.spaces first.frees first.refuses

    -- then the page's entry was made over it
    pub tends_shown : (new : Core D E M m) (r : Result FrameNo Stall) → PagesIn g h old mid p r → ((n : FrameNo) → (picture_of old).place p ≡ Frame n → mid ≡ old) → Enters mid new pid page
        → ((q : PageKey) → (held (picture_of new) q ≡ held (picture_of mid) q) ⊎ ((held (picture_of new) q ≡ None) × ((picture_of mid).touched q ≡ false)))
        → ((f : ℕ) → (picture_of new).files f ≡ (picture_of mid).files f) → KeepsTouched (picture_of mid) (picture_of new) → Tends g h old new pid page access
    tends_shown new r first idle enters held files touches =
        let moves = moves_entered h mid new pid page first.proceeds.swap enters in
        let none = no_table_then (picture_of old) (picture_of mid) (picture_of new) first.no_table (no_table_calm mid new pid page enters.calm) in
        record {
          proceeds = proceeds_then g h old mid new first.proceeds moves;
          brings = brings_on old mid pid page p shows g h new first.brings first.keeps enters.calm.store moves.device held files;
          touches = λ q touched. touches q (first.keeps.touched q ∙ touched);
          others = λ q k other. enters.views q k ∙ first.keeps.views q k;
          slotted = slotted_on (picture_of old) (picture_of mid) pid page (picture_of new) p shows first.slotted (slotted_calm (λ p. ⊥) mid new pid page enters.calm);
          calm = calm_then old mid pid page p shows idle new access (λ none. enters.calm);
          tables = links_no_table (picture_of old) (picture_of new) pid page none;
          pointers = none.pointers;
          read = read_then old mid pid page p shows new.store fit enters.calm.store first.read;
          asks = asks_still g h old mid pid page access p shows first.asks first.once_store new enters.calm.store enters.calm.swap;
        }

  -- what is returned of a stall
  pub serves_stall : (old new : Core D E M m) (pid page : ℕ) (attr : Attr) (access : Access) (r : Result FrameNo Stall) (stall : Stall) → IsErrAnd r (λ e. e ≡ stall) → Tends g h old new pid page access
      → IsStalled g h old new pid page access stall → Serves g h old new pid page attr access r
  serves_stall old new pid page attr access r stall is tends stalled =
      subst (Serves g h old new pid page attr access) (err_is r stall is) (record { tends = tends; entered = tt; ready = λ trusted. tt; chance = λ one. tt; counts = tt; stalled = stalled })

  pub reaches_stall : (old new : Core D E M m) (pid addr : ℕ) (width : Width) (access : Access) (r : Result Phys AccessRefusal) (stall : Stall) → IsErrAnd r (λ e. e ≡ Refusal.Stall stall)
      → Tends g h old new pid (addr / 4096) access → ((place : Phys) → IsWalked (picture_of old) pid addr width access place → ⊥) → Stalls g h old new pid addr width access stall
      → Reaches g h old new pid addr width access r
  reaches_stall old new pid addr width access r stall is tends never stalls =
      subst (Reaches g h old new pid addr width access) (err_is r (Refusal.Stall stall) is)
      (record { tends = tends; placed = tt; entered = tt; walked = λ place walked. absurd (never place walked); granted = λ trusted. tt; chance = λ one. tt; counts = tt; refusal = stalls })

module _ {M : Type 0} {m : Levels.Ghosts M} {D E : Type 0} {g : Ghosts D} {h : Ghosts E} {before : Core D E M m} {spot : Spot} {attr : Attr} {other : Access} (may : MayServeAt g h before spot attr other) where
  pub may_bring : {p : PageKey} → stands_on attr.backing ≡ Some p → MayBring g h before p
  may_bring {p = p} stands = record {
    fit = may.spot.linked.fit;
    store = may.store;
    swap = may.swap;
    inside = page_inside (picture_of before) spot.pid spot.page attr p may.spot.linked may.allowed.mapped stands may.allowed.inside;
  }

  pub shows_at : {p : PageKey} → stands_on attr.backing ≡ Some p → seat (entry (picture_of before) spot.pid spot.page) ≡ None → ShowsFile (picture_of before) spot.pid spot.page p
  shows_at {p = p} stands none = shows_file (picture_of before) spot.pid spot.page attr p may.allowed.mapped stands none

  -- the page's entry was made over a frame that was there
  pub serves_entered : {after : Core D E M m} {frame : ℕ} {private write dirty : Bool} → ShowsFrame before after spot attr frame private write dirty
      → IsFullEntry (picture_of after) attr frame private (entry (picture_of after) spot.pid spot.page) → (access : Access) → access ≢ Store
      → lets access attr.prot ≡ true → Serves g h before after spot.pid spot.page attr access (Ok (record { 0 = frame }))
  serves_entered {after = after} {frame = frame} shows full access reads lets =
      let old = picture_of before in
      let new = picture_of after in
      let enters = shows.enters in
      let mapped = may.allowed.mapped in
      let now = enters.spaces.at spot.pid spot.page ∙ mapped in
      record {
        tends = tends_entered g h before after spot.pid spot.page access may.store may.swap enters shows.files;
        entered = read_entered old new spot.pid spot.page attr access frame _ _ _ enters.fit after.sound mapped now (record { views = enters.views; touched = shows.files.touched }) shows.entry reads lets full;
        ready = λ trusted. read_ready old new spot.pid spot.page attr access frame _ _ _ enters.fit after.sound mapped now (record { views = enters.views; touched = shows.files.touched }) shows.entry reads lets;
        chance = λ one. others_same old new spot.pid spot.page _ enters.calm.others;
        counts = counts_calm g h before after spot.pid spot.page enters.calm;
        stalled = tt;
      }

  -- the page of a file or an object that it shows wasn't to be had
  pub serves_away : {after : Core D E M m} {p : PageKey} → ShowsFile (picture_of before) spot.pid spot.page p → (stall : Stall) → PagesIn g h before after p (Err stall)
      → ((n : FrameNo) → (picture_of before).place p ≡ Frame n → (after ≡ before) × ⊥) → (access : Access) (r : Result FrameNo Stall) → IsErrAnd r (λ e. e ≡ stall)
      → Serves g h before after spot.pid spot.page attr access r
  serves_away {after = after} {p = p} shows stall first idle access r is = serves_stall g h before after spot.pid spot.page attr access r stall is
      (tends_away g h before after spot.pid spot.page access p shows may.spot.linked.fit stall first idle)
      (stalls_away g h before after spot.pid spot.page access p shows may.spot.linked.fit stall first idle)

  -- it was brought in: the page is mapped as it was, and lies nowhere else
  module _ {after : Core D E M m} {p : PageKey} {r : Result FrameNo Stall} (first : PagesIn g h before after p r) where
    pub stands_brought : StandsAt (picture_of after) spot
    stands_brought = stands_kept (picture_of before) (picture_of after) spot may.spot first.proceeds.fit first.proceeds.spaces first.proceeds.tables first.rows

    pub open_brought : IsOpenTo (picture_of after) spot.pid spot.page other attr
    open_brought = open_still (picture_of before) (picture_of after) spot.pid spot.page other attr first.proceeds.spaces.at (files_read g before.store after.store first.proceeds.reads) may.allowed

    pub none_brought : seat (entry (picture_of before) spot.pid spot.page) ≡ None → seat (entry (picture_of after) spot.pid spot.page) ≡ None
    none_brought none = none_same (picture_of before) (picture_of after) spot.pid spot.page attr may.allowed.mapped open_brought.mapped (first.keeps.views spot.pid spot.page) none
