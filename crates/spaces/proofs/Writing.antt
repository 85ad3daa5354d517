-- Stores of the flat model in a state that memory shows.
use Rattle.vm_types.specs.declared.mode.Levels as Levels
use Rattle.spaces.proofs.{Calls.{does}, Names.{ℕ, ◌/◌, ◌%◌, ◌≡◌, ◌≢◌, ◌&&◌, Bool, true, false, not, if◌then◌else◌, inl, inr, List, Option, Some, None, is_some, refl, sym, ap, ◌∙◌, subst, arith, nat_tests, Ghosts, AccessRefusal, KeepsRoom}}
use Rattle.spaces.proofs.Names.{KeepsOtherViews, KeepsSlotted, Proceeds, BringsFiles, IsReadyToStore, IsOpenToStore, IsRefusal, verdict_of, view-mapped, own_in-none, one_view, ShowsFiles, bytes_shown, shows_own, shows_shared, shows_common}
use Rattle.spaces.proofs.Names.{view-attr, fit_own, fit_file, views_others, views_file, entries_own, entries_file, mapped_page, shared_none, with_bytes-others, bytes_of, IsHeld, Core, IsFit, is_shared, Picture, picture_of, is_live, entry}
use Rattle.spaces.proofs.Names.{own_in, view, ShowsPages, SameBeside, CoreShows, held_framed, SlotTable, Access, StoredValue, Store, BusAdraln, SegvAccerr, BusAdrerr, ESRCH, PageKey, File, Object, Backing, Anon, Shared, Done, Refused}
use Rattle.spaces.proofs.Names.{Width, with_number, with_shown_bytes, Files, table_count, is_success, reply_of, State, shown, copy_or_behind, with_view, Outcome, outcome, answers, judged, store_outcome, Verdict, Fine, Faults, lets}
use Rattle.{spaces.{proofs.{Names.{is_past_end, page_verdict, View, byte_count}, Reading.{live_outcome, refused, same, files}, Short.{tables_kept}, Shown.{judged_is}}, specs.{Accesses.{reply_for}, Calls.{Comes}}}, std.specs.Prelude.{◌==◌}}
use Rattle.vm_types.specs.declared.region.Backing.TheVariants.{Common}
use Rattle.{fault.proofs.Forms.{own_role}, frames.specs.{FrameTable.{role_of}, declared.role.Role.TheVariants.{Cache, Private, Table}}}
use Rattle.frames.specs.FrameTable as Frames
use Rattle.vm_types.specs.declared.access.Access.TheVariants as Accesses
use Rattle.sized_stores.specs.Store.{disk_of}

-- the page of an access that is fine
fine_page : (files : Files) (o : Option View) (kind : Access) (v : View) → page_verdict files o kind ≡ Fine v → o ≡ Some v
fine_page files None kind v e = cc
fine_page files (Some w) kind v e =
    elim (lets kind w.attr.prot) as (λ (b : Bool). (if not b then Faults SegvAccerr else (if is_past_end files w.attr.backing then Faults BusAdrerr else Fine w)) ≡ Fine v
    → Some w ≡ Some v) [
      | true ↦ λ k.
          elim (is_past_end files w.attr.backing) as (λ (b : Bool). (if b then Faults BusAdrerr else Fine w) ≡ Fine v → Some w ≡ Some v) [
            | true ↦ λ h. cc
            | false ↦ λ h. cc
          ] k
      | false ↦ λ k. cc
    ] e

pub fine_seen : {mode : ℕ} (c : Picture mode) (pid addr : ℕ) (width : Width) (kind : Access) (v : View) → verdict_of c pid addr width kind ≡ Fine v → view c pid (addr / 4096) ≡ Some v
fine_seen c pid addr width kind v e =
    elim (addr % byte_count width == 0) as (λ (b : Bool). (if not b then Faults BusAdraln else page_verdict c.files (view c pid (addr / 4096)) kind) ≡ Fine v
    → view c pid (addr / 4096) ≡ Some v) [
      | true ↦ λ k. fine_page c.files (view c pid (addr / 4096)) kind v k
      | false ↦ λ k. cc
    ] e

-- a shared page has no copy of its own
pub shared_plain : {mode : ℕ} (c : Picture mode) (pid page : ℕ) (v : View) → IsFit c → view c pid page ≡ Some v → is_shared v.attr.backing ≡ true → v.own ≡ None
shared_plain c pid page v fit seen shared =
    let mapped : c.at pid page ≡ Some v.attr = view-attr c pid page v seen in
    let none = shared_none c pid page v.attr fit.granting mapped (mapped_page c pid page v.attr fit.granting mapped) shared in
    let same = one_view (record { attr = v.attr; own = own_in c.frames c.slots (entry c pid page) }) v (sym (view-mapped c pid page v.attr mapped) ∙ seen) in
    ap (λ (x : View). x.own) (sym same) ∙ own_in-none c.frames c.slots (entry c pid page) none

-- bytes written to the frame that the access was given leave memory fit
pub fit_stored : {mode : ℕ} (mid new : Picture mode) (pid page : ℕ) (b : Backing) (n : ℕ) (w : List ℕ) → IsFit mid → IsOpenToStore mid pid page b n
    → new.frames ≡ Frames.with_bytes mid.frames n w → SameBeside mid new → IsFit new
fit_stored mid new pid page (Shared p) n w fit usable frames beside = fit_file mid new n w fit usable.0 frames beside (File p) usable.1
fit_stored mid new pid page (Common p) n w fit usable frames beside = fit_file mid new n w fit usable.0 frames beside (Object p) usable.1
fit_stored mid new pid page b n w fit usable frames beside = fit_own mid new n w fit usable.0 frames beside pid page usable.1

-- and no other page is seen otherwise
pub others_stored : {mode : ℕ} (old mid new : Picture mode) (pid page : ℕ) (b : Backing) (n : ℕ) (w : List ℕ) → IsFit mid → IsOpenToStore mid pid page b n
    → new.frames ≡ Frames.with_bytes mid.frames n w → SameBeside mid new → KeepsOtherViews old mid pid page → KeepsOtherViews old new pid page
others_stored old mid new pid page (Shared p) n w fit usable frames beside others = λ q k other.
    views_file mid new n w fit usable.0 frames beside (File p) usable.1 q k ∙ others q k other
others_stored old mid new pid page (Common p) n w fit usable frames beside others = λ q k other.
    views_file mid new n w fit usable.0 frames beside (Object p) usable.1 q k ∙ others q k other
others_stored old mid new pid page b n w fit usable frames beside others = λ q k other. views_others mid new n w fit usable.0 frames beside pid page usable.1 q k other ∙ others q k other

-- nor has a page another entry
pub entries_stored : {mode : ℕ} (mid new : Picture mode) (pid page : ℕ) (b : Backing) (n : ℕ) (w : List ℕ) → IsFit mid → IsOpenToStore mid pid page b n
    → new.frames ≡ Frames.with_bytes mid.frames n w → SameBeside mid new → (q k : ℕ) → entry new q k ≡ entry mid q k
entries_stored mid new pid page (Shared p) n w fit usable frames beside = entries_file mid new n w fit usable.0 frames beside (File p) usable.1
entries_stored mid new pid page (Common p) n w fit usable frames beside = entries_file mid new n w fit usable.0 frames beside (Object p) usable.1
entries_stored mid new pid page b n w fit usable frames beside = entries_own mid new n w fit usable.0 frames beside pid page usable.1

slotted_on : {mode : ℕ} (files : PageKey → Type 0) (own : ℕ → ℕ → Type 0) (old mid new : Picture mode) → ((p : PageKey) → new.place p ≡ mid.place p)
    → ((q k : ℕ) → entry new q k ≡ entry mid q k) → KeepsSlotted files own old mid → KeepsSlotted files own old new
slotted_on files own old mid new place entries slotted = record {
  file_pages = λ p k at. elim (slotted.file_pages p k at) [ inl came ↦ inl came | inr there ↦ inr (place p ∙ there) ];
  copies = λ q p inside away. elim (slotted.copies q p inside away) [ inl came ↦ inl came | inr same ↦ inr (entries q p ∙ same) ];
}

-- and what lay in a slot is still there
pub slotted_stored : {mode : ℕ} (old mid new : Picture mode) (pid page : ℕ) (b : Backing) (n : ℕ) (w : List ℕ) (files : PageKey → Type 0) (own : ℕ → ℕ → Type 0)
    → IsFit mid → IsOpenToStore mid pid page b n → new.frames ≡ Frames.with_bytes mid.frames n w → SameBeside mid new
    → KeepsSlotted files own old mid → KeepsSlotted files own old new
slotted_stored old mid new pid page b n w files own fit usable frames beside slotted =
    slotted_on files own old mid new beside.place (entries_stored mid new pid page b n w fit usable frames beside) slotted

-- that frame is no table
pub data_frame : {mode : ℕ} (c : Picture mode) (pid page n : ℕ) (b : Backing) → IsFit c → IsOpenToStore c pid page b n → role_of c.frames n ≢ Table
data_frame c pid page n (Shared p) fit usable is = let never : Cache ≡ Table = sym (fit.places.cached (File p) n usable.1) ∙ is in cc
data_frame c pid page n (Common p) fit usable is = let never : Cache ≡ Table = sym (fit.places.cached (Object p) n usable.1) ∙ is in cc
data_frame c pid page n b fit usable is =
    let sole = usable.1 in
    let never : Private ≡ Table = sym (ap (role_of c.frames) (sym sole.frame) ∙ own_role c pid page fit sole.inside sole.private) ∙ is in cc

-- it was handed out
pub open_held : {mode : ℕ} (c : Picture mode) (pid page : ℕ) (b : Backing) (n : ℕ) → IsOpenToStore c pid page b n → IsHeld c.frames n
open_held c pid page Anon n usable = usable.0
open_held c pid page b n usable = usable.0

-- and memory is as large as it was
pub room_stored : {mode : ℕ} (old mid new : Picture mode) (n : ℕ) (w : List ℕ) → KeepsRoom old mid → new.frames ≡ Frames.with_bytes mid.frames n w → new.slots ≡ mid.slots → KeepsRoom old new
room_stored old mid new n w room frames slots = record {
  frames = ap Frames.frame_count frames ∙ (with_bytes-others mid.frames n w).frames ∙ room.frames;
  slots = ap (λ (t : SlotTable). t.total) slots ∙ room.slots;
}

-- a store changes no process, and which pages are mapped
mapped_still : (s : State) (pid page : ℕ) (v w : View) → s.views pid page ≡ Some v → (q k : ℕ) → is_some (with_view s.views pid page w q k) ≡ is_some (s.views q k)
mapped_still s pid page v w seen q k =
    elim (q == pid && k == page) as (λ (b : Bool). (q == pid && k == page) ≡ b → is_some (if b then Some w else s.views q k) ≡ is_some (s.views q k)) [
      | true ↦ λ e.
          let here : q ≡ pid = grind (arith, nat_tests) in
          let there : k ≡ page = grind (arith, nat_tests) in
          sym (ap is_some (ap (λ (x : ℕ). s.views x k) here ∙ ap (s.views pid) there ∙ seen))
      | false ↦ λ e. refl
    ] refl

module _ (mode : ℕ) where
  stored_tables : (s : State) (pid page : ℕ) (v : View) (b : Backing) (w : List ℕ) → s.views pid page ≡ Some v → table_count (with_shown_bytes s pid page v b w) ≡ table_count s
  unfolding table_count
  stored_tables s pid page v (Shared p) w seen = tables_kept s (with_shown_bytes s pid page v (Shared p) w) refl (λ q. refl) (λ q k. refl)
  stored_tables s pid page v (Common p) w seen = tables_kept s (with_shown_bytes s pid page v (Common p) w) refl (λ q. refl) (λ q k. refl)
  stored_tables s pid page v b w seen = tables_kept s (with_shown_bytes s pid page v b w) refl (λ q. refl) (mapped_still s pid page v (record v { own = Some w }) seen)

module _ {M : Type 0} {m : Levels.Ghosts M} {D E : Type 0} (g : Ghosts D) (h : Ghosts E) (old mid : Core D E M m) (W : PageKey → Type 0) (s : State) (shows : CoreShows g old s)
    (keeps : g.keeps_model (disk_of mid.store)) (swaps : h.keeps_model mid.swap.pages.disk) (before : IsFit (picture_of old)) (goes : Proceeds g h old mid)
    (brings : BringsFiles g h W old mid) (pid addr : ℕ) (live : is_live (picture_of old) pid ≡ true) (value : StoredValue) where
  store_is : (v : Verdict) → verdict_of (picture_of old) pid addr value.width Accesses.Store ≡ v → outcome s (Store pid addr value) ≡ store_outcome s pid addr value v
  store_is v e =
      live_outcome (picture_of old) s pid (store_outcome s pid addr value (judged s pid addr value.width Accesses.Store)) (answers s (Refused ESRCH)) shows.pages live
      ∙ ap (store_outcome s pid addr value) (judged_is old s shows.pages pid addr value.width Accesses.Store ∙ e)

  tables_still : (v : View) → verdict_of (picture_of old) pid addr value.width Accesses.Store ≡ Fine v → table_count (outcome s (Store pid addr value)).state ≡ table_count s
  tables_still v e =
      ap (λ (o : Outcome). table_count o.state) (store_is (Fine v) e)
      ∙ stored_tables m.mode s pid (addr / 4096) v v.attr.backing (with_number (shown s v) (addr % 4096) (byte_count value.width) value.value)
      (shows.pages.views pid (addr / 4096) ∙ fine_seen (picture_of old) pid addr value.width Accesses.Store v e)

  pub store_refused : (refusal : AccessRefusal) → IsRefusal g h old mid pid addr value.width Accesses.Store refusal
      → Comes g h old mid s (Store pid addr value) (reply_of (reply_for refusal))
  store_refused refusal is =
      refused g h old mid s pid addr value.width Accesses.Store (Store pid addr value) (λ v e. ap (λ (o : Outcome). is_success o.reply) (store_is (Fine v) e))
      tables_still (λ code e. store_is (Faults code) e) refl refl refl goes.fit refusal is shows.pages
      (same g h old mid W s shows keeps swaps goes brings)

  module _ (v : View) (fine : verdict_of (picture_of old) pid addr value.width Accesses.Store ≡ Fine v) (n : ℕ) where
    now : ShowsFiles (picture_of mid) s
    now = files g h old mid W s shows keeps swaps goes brings

    -- a shared page shows what stands behind it
    behind_it : (b : Backing) → v.attr.backing ≡ b → is_shared b ≡ true → copy_or_behind s b None ≡ shown s v
    behind_it b is shared =
        let plain : v.own ≡ None = shared_plain (picture_of old) pid (addr / 4096) v before (fine_seen (picture_of old) pid addr value.width Accesses.Store v fine) (ap is_shared is ∙ shared) in
        sym (ap (λ (b : Backing). copy_or_behind s b None) is) ∙ sym (ap (λ (o : Option (List ℕ)). copy_or_behind s v.attr.backing o) plain)

    -- the bytes that are written over are those that the page shows
    shown_there : (b : Backing) → v.attr.backing ≡ b → IsReadyToStore (picture_of old) (picture_of mid) pid (addr / 4096) v b n → bytes_of mid.frames n ≡ shown s v
    shown_there (Shared p) is touches = sym (now.held p (bytes_of mid.frames n) (held_framed (picture_of mid) (File p) n touches.place)) ∙ behind_it (Shared p) is refl
    shown_there (Common p) is touches = sym (now.objects p (bytes_of mid.frames n) (held_framed (picture_of mid) (Object p) n touches.place)) ∙ behind_it (Common p) is refl
    shown_there b is owns = bytes_shown (picture_of mid) s v (bytes_of mid.frames n) now owns.shown

    module _ (new : Core D E M m) (w : List ℕ) (frames : new.frames ≡ Frames.with_bytes mid.frames n w) (beside : SameBeside (picture_of mid) (picture_of new)) where
      shows_stored : (b : Backing) → v.attr.backing ≡ b → IsReadyToStore (picture_of old) (picture_of mid) pid (addr / 4096) v b n
          → ShowsPages (picture_of new) (with_shown_bytes s pid (addr / 4096) v v.attr.backing w)
      shows_stored (Shared p) is touches =
          subst (λ (b : Backing). ShowsPages (picture_of new) (with_shown_bytes s pid (addr / 4096) v b w)) (sym is)
          (shows_shared (picture_of old) (picture_of mid) (picture_of new) s pid (addr / 4096) n v w goes.fit frames beside before shows.pages now p touches)
      shows_stored (Common p) is touches =
          subst (λ (b : Backing). ShowsPages (picture_of new) (with_shown_bytes s pid (addr / 4096) v b w)) (sym is)
          (shows_common (picture_of old) (picture_of mid) (picture_of new) s pid (addr / 4096) n v w goes.fit frames beside before shows.pages now p touches)
      shows_stored b is owns = shows_own (picture_of old) (picture_of mid) (picture_of new) s pid (addr / 4096) n v w goes.fit frames beside before shows.pages now (ap is_shared is) owns

      pub stores : IsReadyToStore (picture_of old) (picture_of mid) pid (addr / 4096) v v.attr.backing n
          → w ≡ with_number (bytes_of mid.frames n) (addr % 4096) (byte_count value.width) value.value → Comes g h old new s (Store pid addr value) Done
      stores ready is =
          let bytes : w ≡ with_number (shown s v) (addr % 4096) (byte_count value.width) value.value =
          is ∙ ap (λ (b : List ℕ). with_number b (addr % 4096) (byte_count value.width) value.value) (shown_there v.attr.backing refl ready) in
          does g h old new s (Store pid addr value) Done (store_outcome s pid addr value (Fine v)) (store_is (Fine v) fine) refl
          (subst (λ (b : List ℕ). ShowsPages (picture_of new) (with_shown_bytes s pid (addr / 4096) v v.attr.backing b)) bytes (shows_stored v.attr.backing refl ready))
