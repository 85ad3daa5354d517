use Rattle.residency.proofs.{Asking.{asked_tried, one_tried}, Giving.{frame_given}, Names.{ℕ, ◌≡◌, ◌+◌, inl, inr, sym, ap, ◌∙◌, arith, rules, Result, Ok, Err, IfErr, IfOk, IsErrAnd, MatchResult, FrameNo, Stall, NoFrames, NoSwap, SwapDevice}}
use Rattle.residency.proofs.{Names.{Clock, FrameTable, frame_count, role_of, IsFull}, Refusing.{inside_of, above_of, all_need, no_slot_free}, Shown.{shows_kept}, Sparing.{frees_then, gives_frees}, Stalls.{short_of}}
use Rattle.{residency.specs.{Ages.{GivesFrame}, Calls.{Refuses}, Capacity.{IsShort}, Picture.{Picture, picture_of}, Views.{AsksClock, TurnsFor}, declared.kernel.Core.{Core}}, std.specs.Prelude.{Option}}
use Rattle.vm_types.specs.declared.mode.Levels as Levels
use Rattle.regions.proofs.ResultLemmas.{on_err}
use Rattle.residency.{proofs.Names.{Ghosts, Swap, IsReady, refl, subst, ◌≤◌, ◌*◌}, specs.{AskedFrames.{Obtains}, Calls.{Frees, KeepsRest, UsesDevice}, Evictions.{ClearsMarks}, Parts.{IsFit}, Stalls.{StallCause}}}
use Rattle.residency.proofs.obtaining.give_up.Goals as goal

-- frames of which none is free and each keeps its use
full_still : (old new : FrameTable) → frame_count new ≡ frame_count old → ((n : ℕ) → role_of new n ≡ role_of old n) → IsFull old → IsFull new
full_still old new count roles full = λ n inside free. full n (omega (arith, count, inside)) (sym (roles n) ∙ free)

-- a failure of the swap device says nothing of what memory is
short_swap : {mode : ℕ} {T : Type 0} (c : Picture mode) (stall : Stall) (r : Result T Stall) → IsErrAnd r (λ e. e ≡ stall) → stall ≡ SwapDevice → IfErr r (IsShort c)
unfolding IsShort
short_swap c stall (Ok x) is swap = absurd is
short_swap c stall (Err e) is swap = rw (is, swap) tt

turns_swap : {M : Type 0} {m : Levels.Ghosts M} {D E : Type 0} (old : Core D E M m) (keep : Option FrameNo) (clock : Clock) (stall : Stall) (r : Result FrameNo Stall) → IsErrAnd r (λ e. e ≡ stall) → stall ≡ SwapDevice
    → (tried : FrameNo) × AsksClock old keep (Ok tried) clock → MatchResult r (λ n. AsksClock old keep (Ok n) clock) (TurnsFor old keep clock)
turns_swap old keep clock stall (Ok x) is swap tried = absurd is
turns_swap old keep clock stall (Err e) is swap tried = rw (is, swap) tried

none_aged : (r : Result FrameNo Stall) (Q : Stall → Type 0) (P : FrameNo → Type 0) → IsErrAnd r Q → IfOk r P
none_aged (Ok n) Q P is = absurd is
none_aged (Err e) Q P is = tt

-- the clock found none to give up
none_had : {M : Type 0} {m : Levels.Ghosts M} {D E : Type 0} (h : Ghosts E) (old new : Core D E M m) (keep : Option FrameNo) (stall : Stall) → IsFit (picture_of new) → Frees (picture_of old) (picture_of new) keep
    → ClearsMarks (picture_of old) (picture_of new) → KeepsRest old new → new.swap ≡ old.swap → new.looks.number ≤ old.looks.number + 2 * frame_count old.frames → IsReady h old.swap → IsFull old.frames → IsFull new.frames
    → TurnsFor old keep new.clock stall → Refuses (picture_of new) keep stall → StallCause h old new stall → Obtains h old new keep (Err stall)
none_had {E = E} h old new keep stall fit frees marks rest swap looks ready full still_full turns refuses cause =
    let P : Swap E → Type 0 = λ s. IsReady h s × UsesDevice h old.swap.pages.disk s.pages.disk in
    let uses = subst P (sym swap) (ready, record { size = refl; kept = λ kept. kept; later = omega arith }) in
    record {
      free = tt;
      gives = tt;
      fit = fit;
      frees = frees;
      shows = λ s. shows_kept (picture_of old) (picture_of new) s frees.pages;
      rest = rest;
      idle = λ some. absurd (some full);
      needed = inl full;
      clock = record { stands = λ some. absurd (some full); turns = λ _. turns; looks = looks };
      aged = λ full. tt;
      asked = inl swap;
      uses = record { swap = uses.0; device = uses.1; one = tt };
      full = still_full;
      still = marks.roles;
      tried = search rules;
      refused = record { refuses = refuses; short = short_of (picture_of new) fit new.sound new.bounded.each keep stall refuses; cause = cause };
    }

pub evict-requires-clause-inside : goal.evict-requires-clause-inside
evict-requires-clause-inside g c = inside_of c.choose-choice.new.core.frames c.in-Ok.victim.0 c.choose-choice.new.core.sound c.in-Ok.ensures.found.0.0

pub returns-in_err-evict-in-Ok : goal.returns-in_err-evict-in-Ok
returns-in_err-evict-in-Ok g c =
    let old = picture_of c.args.core.now in
    let mid = picture_of c.choose-choice.new.core in
    let new = picture_of c.evict.new.core in
    let found = c.choose-choice.ensures in
    let may = c.in-Ok.ensures.found in
    let v = c.in-Ok.victim.0 in
    let gives = c.evict.ensures.gives in
    let frees = frees_then old mid new c.args.keep found.frees (gives_frees v mid new c.args.keep gives (above_of mid.frames v c.choose-choice.new.core.sound may.0.0) may.0.1) in
    record {
      free = search rules;
      gives = search rules;
      fit = c.evict.ensures.fit;
      frees = frees;
      shows = λ s. shows_kept old new s frees.pages;
      rest = search rules;
      idle = λ some. absurd (some c.requires.full);
      needed = inl c.requires.full;
      clock = record {
        stands = λ some. absurd (some c.requires.full);
        turns = λ full. turns_swap c.args.core.now c.args.keep c.evict.new.core.clock _ c.from_residual.result c.from_residual.ensures.1 c.in_err-evict-in-Ok.ensures.fault (c.in-Ok.victim, rw c.evict.ensures.plain.clock c.in-Ok.ensures.clock);
        looks = search rules;
      };
      aged = λ full. none_aged c.from_residual.result _ _ c.from_residual.ensures.1;
      asked = asked_tried g.E.SectorDisk c.args.core.now c.choose-choice.new.core _ c.args.keep v found.marks found.looked may gives c.evict.ensures.asks c.evict.ensures.asked c.requires.full;
      uses = search rules;
      full = on_err c.from_residual.result (IsFull new.frames) (full_still mid.frames new.frames gives.2.count c.in_err-evict-in-Ok.ensures.still (found.full c.requires.full));
      still = on_err c.from_residual.result _ (λ n. c.in_err-evict-in-Ok.ensures.still n ∙ found.marks.roles n);
      tried = on_err c.from_residual.result ((v : ℕ) × GivesFrame old new v) (v, frame_given old mid new v found.marks gives may.0.0);
      refused = record { refuses = search rules; short = short_swap new _ c.from_residual.result c.from_residual.ensures.1 c.in_err-evict-in-Ok.ensures.fault; cause = search rules };
    }

pub returns-in_ok-evict-in-Ok : goal.returns-in_ok-evict-in-Ok
returns-in_ok-evict-in-Ok g c =
    let old = picture_of c.args.core.now in
    let mid = picture_of c.choose-choice.new.core in
    let new = picture_of c.evict.new.core in
    let found = c.choose-choice.ensures in
    let may = c.in-Ok.ensures.found in
    let v = c.in-Ok.victim.0 in
    let gives = c.evict.ensures.gives in
    let count = gives.2.count in
    let inside = inside_of mid.frames v c.choose-choice.new.core.sound may.0.0 in
    let frees = frees_then old mid new c.args.keep found.frees (gives_frees v mid new c.args.keep gives (above_of mid.frames v c.choose-choice.new.core.sound may.0.0) may.0.1) in
    record {
      free = record { inside = omega (arith, inside, count); free = c.in_ok-evict-in-Ok.ensures.free };
      gives = frame_given old mid new v found.marks gives may.0.0;
      fit = c.evict.ensures.fit;
      frees = frees;
      shows = λ s. shows_kept old new s frees.pages;
      rest = search rules;
      idle = λ some. absurd (some c.requires.full);
      needed = inl c.requires.full;
      clock = record { stands = λ some. absurd (some c.requires.full); turns = λ full. rw c.evict.ensures.plain.clock c.in-Ok.ensures.clock; looks = search rules };
      aged = λ full. record { left = c.choose-choice.new.core; clock = c.in-Ok.ensures.left; entries = λ pid page h stays. gives.2.entries pid page h (inr stays) };
      asked = asked_tried g.E.SectorDisk c.args.core.now c.choose-choice.new.core _ c.args.keep v found.marks found.looked may gives c.evict.ensures.asks c.evict.ensures.asked c.requires.full;
      uses = record { swap = search rules; device = search rules; one = one_tried g.E.SectorDisk c.args.core.now c.choose-choice.new.core c.evict.new.core found.looked.swap c.in_ok-evict-in-Ok.ensures.one };
      full = tt;
      still = tt;
      tried = tt;
      refused = search rules;
    }

pub returns-then-has_spareable : goal.returns-then-has_spareable
returns-then-has_spareable g c =
    let now = picture_of c.choose-choice.new.core in
    let found = c.choose-choice.ensures in
    let sound = c.choose-choice.new.core.sound in
    let some = c.has_spareable.ensures.some c.if-has_spareable.true in
    let none = c.in-Err.ensures.none in
    none_had g.E.SectorDisk c.args.core.now _ c.args.keep NoSwap found.fit found.frees found.marks (record { store = found.looked.store; roots = found.looked.roots; regions = found.looked.regions }) found.looked.swap found.looks
    c.requires.swap c.requires.full (found.full c.requires.full) (_, c.in-Err.ensures.clock)
    (found.full c.requires.full, some, all_need now c.args.keep found.fit sound none, no_slot_free now c.args.keep found.fit sound none some.0 some.1)
    (c.raise.ensures ∙ ap (λ n. n.number + 1) found.looked.refused, ap (λ s. g.E.SectorDisk.failures s.pages.disk) found.looked.swap)

pub returns-else-has_spareable : goal.returns-else-has_spareable
returns-else-has_spareable g c =
    let now = picture_of c.choose-choice.new.core in
    let found = c.choose-choice.ensures in
    none_had g.E.SectorDisk c.args.core.now _ c.args.keep NoFrames found.fit found.frees found.marks (record { store = found.looked.store; roots = found.looked.roots; regions = found.looked.regions }) found.looked.swap found.looks
    c.requires.swap c.requires.full (found.full c.requires.full) (_, c.in-Err.ensures.clock)
    (found.full c.requires.full, λ n spare. c.has_spareable.ensures.none c.if-has_spareable.false n (inside_of now.frames n c.choose-choice.new.core.sound spare.0) spare)
    (c.raise.ensures ∙ ap (λ n. n.number + 1) found.looked.refused, ap (λ s. g.E.SectorDisk.failures s.pages.disk) found.looked.swap)
