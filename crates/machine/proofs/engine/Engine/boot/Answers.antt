use Rattle.machine.proofs.{Boots.{fine_frames, fine_slots, sized_at_start, sound_at_start, still, boots, accepts, refuses_frames, refuses_slots, refuses_memory, refuses_store}, Names.{inl, inr, ⊎_elim, refl, sym, ap, ◌∙◌, subst, arith}}
use Rattle.machine.{proofs.engine.Engine.boot.Goals.{then-config-gt-MAX_SLOTS-via-then-config-gt-MAX_SLOTS, then-config-gt-MAX_SLOTS-via-else-config-gt-MAX_SLOTS+then-from-sectors}, specs.{Boot.{HasBadSlots}, StoreBoot.{BootsStore}}}
use Rattle.swap.specs.{Slots.{IsReady}, declared.slots.Swap.{Swap}}
use Rattle.machine.proofs.engine.Engine.boot.Goals as goal

pub returns-then-config-lt-MIN_FRAMES-clause-refuses : goal.returns-then-config-lt-MIN_FRAMES-clause-refuses
returns-then-config-lt-MIN_FRAMES-clause-refuses g c =
    refuses_frames g.D.SectorDisk c.args.config _ c.args.store (⊎_elim (λ few. inl few) (λ many. inr (omega (arith, many.1))) c.then-config-lt-MIN_FRAMES.either)

pub returns-then-config-lt-MIN_FRAMES-clause-err_moments : goal.returns-then-config-lt-MIN_FRAMES-clause-err_moments
returns-then-config-lt-MIN_FRAMES-clause-err_moments g c = still g.D.SectorDisk c.args.store (λ keeps i left. g.met.D.SectorDisk.only_now c.args.store i keeps left)

pub returns-then-config-gt-MAX_SLOTS-clause-refuses : goal.returns-then-config-gt-MAX_SLOTS-clause-refuses
returns-then-config-gt-MAX_SLOTS-clause-refuses g c =
    let bad : HasBadSlots c.args.config (g.E.SectorDisk.sector_count c.args.swap) = elim c.then-config-gt-MAX_SLOTS.branch [
      | then-config-gt-MAX_SLOTS-via-then-config-gt-MAX_SLOTS w ↦ inl w.if-config-gt-MAX_SLOTS.true
      | then-config-gt-MAX_SLOTS-via-else-config-gt-MAX_SLOTS+then-from-sectors w ↦ inr (rw (sym w.from.ensures, sym w.sectors.ensures) w.if-from-sectors.true)
    ] in
    refuses_slots g.D.SectorDisk c.args.config _ c.args.store (fine_frames c.args.config c.if-config-lt-MIN_FRAMES.false c.if-config-gt-MAX_FRAMES.false) bad

pub returns-then-config-gt-MAX_SLOTS-clause-err_moments : goal.returns-then-config-gt-MAX_SLOTS-clause-err_moments
returns-then-config-gt-MAX_SLOTS-clause-err_moments g c = still g.D.SectorDisk c.args.store (λ keeps i left. g.met.D.SectorDisk.only_now c.args.store i keeps left)

pub returns-in-Err-clause-refuses : goal.returns-in-Err-clause-refuses
returns-in-Err-clause-refuses g c =
    refuses_store g.D.SectorDisk c.args.config _ c.args.store c.in-Err.fault.0 c.in-Err.fault.1 (fine_frames c.args.config c.if-config-lt-MIN_FRAMES.false c.if-config-gt-MAX_FRAMES.false)
    (fine_slots c.args.config _ _ _ c.if-config-gt-MAX_SLOTS.false c.from.ensures c.sectors.ensures c.if-from-sectors.false) c.in-Err.ensures

pub returns-in-Err-clause-err_moments : goal.returns-in-Err-clause-err_moments
returns-in-Err-clause-err_moments g c = c.in-Err.ensures.leaves

pub returns-in_default-clause-refuses : goal.returns-in_default-clause-refuses
returns-in_default-clause-refuses g c =
    rw c.device_of.ensures (refuses_memory g.D.SectorDisk c.args.config _ c.args.store c.in-Ok.store (fine_frames c.args.config c.if-config-lt-MIN_FRAMES.false c.if-config-gt-MAX_FRAMES.false)
    (fine_slots c.args.config _ _ _ c.if-config-gt-MAX_SLOTS.false c.from.ensures c.sectors.ensures c.if-from-sectors.false) c.in-Ok.ensures)

pub returns-in_default-clause-err_moments : goal.returns-in_default-clause-err_moments
returns-in_default-clause-err_moments g c = rw c.device_of.ensures c.in-Ok.ensures.leaves

pub returns-in_default-new-clause-refuses : goal.returns-in_default-new-clause-refuses
returns-in_default-new-clause-refuses g c =
    rw c.device_of-in_default-new.ensures (refuses_memory g.D.SectorDisk c.args.config _ c.args.store c.in-Ok.store (fine_frames c.args.config c.if-config-lt-MIN_FRAMES.false c.if-config-gt-MAX_FRAMES.false)
    (fine_slots c.args.config _ _ _ c.if-config-gt-MAX_SLOTS.false c.from.ensures c.sectors.ensures c.if-from-sectors.false) c.in-Ok.ensures)

pub returns-in_default-new-clause-err_moments : goal.returns-in_default-new-clause-err_moments
returns-in_default-new-clause-err_moments g c = rw c.device_of-in_default-new.ensures c.in-Ok.ensures.leaves

pub returns-in_default-new-2-clause-refuses : goal.returns-in_default-new-2-clause-refuses
returns-in_default-new-2-clause-refuses g c =
    rw c.device_of-in_default-new-2.ensures (refuses_memory g.D.SectorDisk c.args.config _ c.args.store c.in-Ok.store (fine_frames c.args.config c.if-config-lt-MIN_FRAMES.false c.if-config-gt-MAX_FRAMES.false)
    (fine_slots c.args.config _ _ _ c.if-config-gt-MAX_SLOTS.false c.from.ensures c.sectors.ensures c.if-from-sectors.false) c.in-Ok.ensures)

pub returns-in_default-new-2-clause-err_moments : goal.returns-in_default-new-2-clause-err_moments
returns-in_default-new-2-clause-err_moments g c = rw c.device_of-in_default-new-2.ensures c.in-Ok.ensures.leaves

pub returns-in-Err-new-clause-refuses : goal.returns-in-Err-new-clause-refuses
returns-in-Err-new-clause-refuses g c =
    rw (c.device_of-in-Err-new.ensures, c.in-Err-new.ensures.err) (refuses_memory g.D.SectorDisk c.args.config _ c.args.store c.in-Ok.store (fine_frames c.args.config c.if-config-lt-MIN_FRAMES.false c.if-config-gt-MAX_FRAMES.false)
    (fine_slots c.args.config _ _ _ c.if-config-gt-MAX_SLOTS.false c.from.ensures c.sectors.ensures c.if-from-sectors.false) c.in-Ok.ensures)

pub returns-in-Err-new-clause-err_moments : goal.returns-in-Err-new-clause-err_moments
returns-in-Err-new-clause-err_moments g c = rw (c.device_of-in-Err-new.ensures, c.in-Err-new.ensures.err) c.in-Ok.ensures.leaves

pub returns-in-Ok-new-4-clause-sound : goal.returns-in-Ok-new-4-clause-sound
returns-in-Ok-new-4-clause-sound g c =
    let made = c.in-Ok-new-4.ensures in
    record {
      room = sized_at_start g.D.SectorDisk g.E.SectorDisk c.in-Ok-new-4.core c.in-Ok.store c.in-Ok-new-3.sync_room c.always_free_pages-most.result c.len.result c.args.config.frames c.args.config.slots
          made.store c.in-Ok-new-3.ensures c.always_free_pages-most.ensures (c.len.ensures ∙ c.in-Ok.store.sizes.ok.0) made.start;
      going = λ _. sound_at_start g.D.SectorDisk g.E.SectorDisk c.args.store c.in-Ok.store c.in-Ok-new-4.core made.store c.in-Ok.ensures
          (subst (λ device. IsReady g.E.SectorDisk device) (sym made.swap) c.in-Ok-new-2.ensures.ready) made.fit;
    }

pub returns-in-Ok-new-4-clause-boots : goal.returns-in-Ok-new-4-clause-boots
returns-in-Ok-new-4-clause-boots g c =
    let made = c.in-Ok-new-4.ensures in
    boots g.D.SectorDisk g.E.SectorDisk c.args.store _ c.args.config.frames c.args.config.slots refl c.in-Ok-new.ensures
    (sized_at_start g.D.SectorDisk g.E.SectorDisk c.in-Ok-new-4.core c.in-Ok.store c.in-Ok-new-3.sync_room c.always_free_pages-most.result c.len.result c.args.config.frames c.args.config.slots
    made.store c.in-Ok-new-3.ensures c.always_free_pages-most.ensures (c.len.ensures ∙ c.in-Ok.store.sizes.ok.0) made.start)
    (subst (λ store. BootsStore g.D.SectorDisk c.args.store store) (sym made.store) c.in-Ok.ensures) made.start

pub returns-in-Ok-new-4-clause-accepts : goal.returns-in-Ok-new-4-clause-accepts
returns-in-Ok-new-4-clause-accepts g c =
    rw c.in-Ok-new-4.ensures.store (accepts g.D.SectorDisk c.args.config _ c.args.store c.in-Ok.store (fine_frames c.args.config c.if-config-lt-MIN_FRAMES.false c.if-config-gt-MAX_FRAMES.false)
    (fine_slots c.args.config _ _ _ c.if-config-gt-MAX_SLOTS.false c.from.ensures c.sectors.ensures c.if-from-sectors.false) c.in-Ok.ensures)

pub returns-in-Ok-new-4-clause-moments : goal.returns-in-Ok-new-4-clause-moments
returns-in-Ok-new-4-clause-moments g c = rw c.in-Ok-new-4.ensures.store c.in-Ok.ensures.leaves

pub returns-in-Ok-new-4-clause-starts : goal.returns-in-Ok-new-4-clause-starts
returns-in-Ok-new-4-clause-starts g c =
    let made = c.in-Ok-new-4.ensures in
    record { frames = made.start.fresh.frames; slots = made.start.slots_free.total; swap = ap (λ (s : Swap _). s.pages.disk) made.swap ∙ c.in-Ok-new-2.ensures.disk }
