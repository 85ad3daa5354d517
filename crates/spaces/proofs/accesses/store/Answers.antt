use Rattle.spaces.proofs.Names.{ℕ, ◌<◌, ◌≡◌, inr, is_some, ◌/◌, ◌%◌, List, File, refl, sym, ap, ◌∙◌, rules, arith, FrameTable, IsHeld, IsSound, with_bytes, IsHeld-above, IsHeld-not_zero, IsSound-step, with_bytes-others, IsThatPage}
use Rattle.spaces.proofs.Names.{ShowsFile, picture_of, Phys, Done, with_number, byte_count}
use Rattle.spaces.{proofs.{Asking.{asks_unstalled, keeps_dead, keeps_refused, no_root, one_end, one_place, writes_walked}, Calls.{found_lives}, Room.{sound_read}}}
use Rattle.spaces.proofs.Writing.{data_frame, entries_stored, fit_stored, open_held, others_stored, room_stored, slotted_stored, store_refused, stores}
use Rattle.vm_types.specs.declared.access.Access.TheVariants as Accesses
use Rattle.fault.proofs.Chances.{others_kept}
use Rattle.spaces.proofs.accesses.store.Goals as goal

pub frame_of-frame-requires : goal.frame_of-frame-requires
frame_of-frame-requires g c =
    (open_held (picture_of c.access.new.core) c.in-Some.pid (c.args.addr / 4096) c.in-Ok.ensures.placed.seen.attr.backing (c.in-Ok.place.0 / 4096) c.in-Ok.ensures.placed.usable).inside

pub bytes_mut-page-requires : goal.bytes_mut-page-requires
bytes_mut-page-requires g c =
    open_held (picture_of c.access.new.core) c.in-Some.pid (c.args.addr / 4096) c.in-Ok.ensures.placed.seen.attr.backing c.frame_of-frame.result.0 (rw c.frame_of-frame.ensures c.in-Ok.ensures.placed.usable)

pub returns-in-Ok-clause-keeps : goal.returns-in-Ok-clause-keeps
returns-in-Ok-clause-keeps g c =
    let a = c.args in
    let old = picture_of a.core.now in
    let mid = picture_of c.access.new.core in
    let same = c.in-Some.ensures.found.0 in
    let tends = rw same at c.access.ensures.tends in
    let goes = tends.proceeds in
    let found = sound_read a.core.now c.access.new.core g.D.SectorDisk g.E.SectorDisk goes.reads goes.ready goes.swap goes.fit (λ p. tends.touches (File p)) c.requires.sound in
    let placed = c.in-Ok.ensures.placed in
    let n = c.frame_of-frame.result.0 in
    let backing = placed.seen.attr.backing in
    let usable = rw (← c.frame_of-frame.ensures, same) at placed.usable in
    let written = writes_walked c.access.new.core c.access.new.core _ n n (a.addr % 4096) a.stored c.write_number.new.page refl refl
    (record { store = refl; swap = refl; cache = refl; roots = refl; regions = refl; page_of = refl }) refl refl refl
    (c.write_number.ensures
    ∙ ap (λ (b : List ℕ). with_number b (a.addr % 4096) (byte_count a.stored.width) a.stored.value) c.bytes_mut-page.ensures.value) in
    record {
      accounts = record {
        sound = record {
          ready = found.ready;
          room = found.room;
          swap = found.swap;
          fit = fit_stored mid _ a.pid (a.addr / 4096) backing n c.write_number.new.page goes.fit usable refl
              (record { slots = refl; root = λ q. refl; at = λ q k. refl; page_of = λ m. refl; place = λ p. refl; touched = λ p. refl; files = λ f. refl });
          ends = found.ends;
        };
        room = room_stored old mid _ n c.write_number.new.page goes.room refl refl;
        denied = search rules;
        caused = search rules;
      };
      others = others_stored old mid _ a.pid (a.addr / 4096) backing n c.write_number.new.page goes.fit
          usable refl (record { slots = refl; root = λ q. refl; at = λ q k. refl; page_of = λ m. refl; place = λ p. refl; touched = λ p. refl; files = λ f. refl })
          tends.others;
      reads = goes.reads;
      device = goes.device;
      asks = asks_unstalled g.D.SectorDisk g.E.SectorDisk a.core.now c.access.new.core a.pid a.addr Accesses.Store tends _ refl refl
          (slotted_stored old mid _ a.pid (a.addr / 4096) backing n c.write_number.new.page
          (ShowsFile old a.pid (a.addr / 4096)) (IsThatPage a.pid (a.addr / 4096)) goes.fit usable refl
          (record { slots = refl; root = λ q. refl; at = λ q k. refl; page_of = λ m. refl; place = λ p. refl; touched = λ p. refl; files = λ f. refl }) tends.slotted)
          (inr (n, a.addr % 4096, a.stored, data_frame mid a.pid (a.addr / 4096) n backing goes.fit usable, written)) Done (λ stall e. cc) (λ e. refl)
          (λ done. rw (← same) (placed.root, c.in-Ok.place, placed.lives, placed.place))
          (λ done one. others_kept old mid _ a.pid (a.addr / 4096) _ ((rw same at c.in-Ok.ensures.chance) one)
          (λ q p inside. entries_stored mid _ a.pid (a.addr / 4096) backing n c.write_number.new.page goes.fit usable refl
          (record { slots = refl; root = λ q. refl; at = λ q k. refl; page_of = λ m. refl; place = λ p. refl; touched = λ p. refl; files = λ f. refl }) q p));
    }

pub returns-in-Ok-clause-comes : goal.returns-in-Ok-clause-comes
returns-in-Ok-clause-comes g c = λ s shows keeps swaps.
    let a = c.args in
    let mid = c.access.new.core in
    let n = c.frame_of-frame.result.0 in
    let granted = rw c.in-Some.ensures.found.0 at (c.in-Ok.ensures.granted (λ away. swaps refl)) in
    let ready = rw (← c.frame_of-frame.ensures) at granted.ready in
    stores g.D.SectorDisk g.E.SectorDisk a.core.now mid _ s shows (keeps refl) (swaps refl) c.requires.sound.fit c.access.ensures.proceeds c.access.ensures.brings
    a.pid a.addr (found_lives (picture_of a.core.now) c.in-Some.pid a.pid c.in-Some.ensures.found) a.stored granted.seen granted.fine n _ c.write_number.new.page refl
    (record { slots = refl; root = λ q. refl; at = λ q k. refl; page_of = λ m. refl; place = λ p. refl; touched = λ p. refl; files = λ f. refl })
    ready
    (c.write_number.ensures
    ∙ ap (λ (b : List ℕ). with_number b (a.addr % 4096) (byte_count a.stored.width) a.stored.value) c.bytes_mut-page.ensures.value)

pub returns-in-Ok-clause-walked : goal.returns-in-Ok-clause-walked
returns-in-Ok-clause-walked g c place walked =
    let a = c.args in
    let granted = c.access.ensures.walked place (rw c.in-Some.ensures.found.0 walked) in
    let number = c.frame_of-frame.ensures ∙ ap (λ (p : Phys). p.0 / 4096) (one_place c.access.result c.in-Ok.place place c.in-Ok.is granted.1) in
    writes_walked a.core.now c.access.new.core _ c.frame_of-frame.result.0 (place.0 / 4096) (a.addr % 4096) a.stored c.write_number.new.page granted.0 number
    (record { store = refl; swap = refl; cache = refl; roots = refl; regions = refl; page_of = refl }) refl refl refl
    (c.write_number.ensures
    ∙ ap (λ (b : List ℕ). with_number b (a.addr % 4096) (byte_count a.stored.width) a.stored.value) c.bytes_mut-page.ensures.value)

pub returns-in-Err-clause-comes : goal.returns-in-Err-clause-comes
returns-in-Err-clause-comes g c = λ s shows keeps swaps.
    let a = c.args in
    let new = c.access.new.core in
    rw (← c.in-Some.ensures.found.0) (rw c.refused.ensures (store_refused g.D.SectorDisk g.E.SectorDisk a.core.now new _ s shows (keeps refl) (swaps refl) c.requires.sound.fit c.access.ensures.proceeds c.access.ensures.brings
    c.in-Some.pid a.addr c.in-Some.ensures.found.1 a.stored c.in-Err.refusal c.in-Err.ensures.refusal))

pub returns-in-Err-clause-keeps : goal.returns-in-Err-clause-keeps
returns-in-Err-clause-keeps g c =
    let a = c.args in
    let new = c.access.new.core in
    rw (← c.in-Some.ensures.found.0) (rw c.refused.ensures (keeps_refused g.D.SectorDisk g.E.SectorDisk a.core.now new c.in-Some.pid a.addr a.stored.width Accesses.Store c.access.result c.in-Err.refusal c.access.ensures c.in-Err.ensures.refusal c.requires.sound))

pub returns-in-Err-clause-walked : goal.returns-in-Err-clause-walked
returns-in-Err-clause-walked g c place walked =
    let granted = c.access.ensures.walked place (rw c.in-Some.ensures.found.0 walked) in
    absurd (one_end c.access.result place c.in-Err.refusal c.in-Err.is granted.1)

pub returns-in_default-clause-walked : goal.returns-in_default-clause-walked
returns-in_default-clause-walked g c place walked =
    absurd (no_root (picture_of c.args.core.now) c.args.pid walked.root (sym c.live.ensures.known ∙ ap is_some c.in_default.is) walked.lives)

pub returns-in_default-clause-keeps : goal.returns-in_default-clause-keeps
returns-in_default-clause-keeps g c = keeps_dead g.D.SectorDisk g.E.SectorDisk c.args.core.now c.args.pid c.args.addr Accesses.Store c.requires.sound

sound_written : (t : FrameTable) (n : ℕ) (w : List ℕ) → IsHeld t n → IsSound t → IsSound (with_bytes t n w)
sound_written t n w held sound =
    IsSound-step n t (with_bytes t n w) sound (with_bytes-others t n w) (IsHeld-above t n sound held) refl refl (sound.counted n held.inside) (IsHeld-not_zero t n held)

pub invariant_of-core-clause-sound : goal.invariant_of-core-clause-sound
invariant_of-core-clause-sound g c =
    let mid = c.access.new.core in
    let n = c.frame_of-frame.result.0 in
    let placed = c.in-Ok.ensures.placed in
    let usable = rw (← c.frame_of-frame.ensures) at placed.usable in
    sound_written mid.frames n c.write_number.new.page (open_held (picture_of mid) c.in-Some.pid (c.args.addr / 4096) placed.seen.attr.backing n usable) mid.sound

-- the frame that was written is one of as many as there were
pub invariant_of-core-clause-page_count : goal.invariant_of-core-clause-page_count
invariant_of-core-clause-page_count g c = let mid = c.access.new.core in mid.page_count ∙ sym (with_bytes-others mid.frames c.frame_of-frame.result.0 c.write_number.new.page).frames

pub invariant_of-core-clause-node_count : goal.invariant_of-core-clause-node_count
invariant_of-core-clause-node_count g c = let mid = c.access.new.core in mid.node_count ∙ sym (with_bytes-others mid.frames c.frame_of-frame.result.0 c.write_number.new.page).frames

below_same : (k m n : ℕ) → k < m → n ≡ m → k < n
below_same k m n low same = omega (arith, low, same)

pub invariant_of-core-clause-hand_inside : goal.invariant_of-core-clause-hand_inside
invariant_of-core-clause-hand_inside g c =
    let mid = c.access.new.core in below_same _ _ _ mid.hand_inside (with_bytes-others mid.frames c.frame_of-frame.result.0 c.write_number.new.page).frames
