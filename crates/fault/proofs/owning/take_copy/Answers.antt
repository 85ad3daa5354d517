use Rattle.fault.proofs.Names.{◌≢◌, Some, refl, sym, ap, ◌∙◌, subst, arith, rules, Nothing, ℕ, ◌≡◌, ◌<◌, FrameTable, frame_count, IsFrame, IsSound, bytes_of, role_of, count_of, with_bytes-others, with_bytes-same, Picture, picture_of}
use Rattle.fault.proofs.Names.{ChangesFrame}
use Rattle.fault.proofs.{Asking.{asks_swap}, SwapSteps.{own_written, changes_further}}
use Rattle.fault.proofs.{Taken.{sound_taken}, owning.take_copy.Given.{Over}}
use Rattle.fault.specs.Changes.{TakesCopy}
use Rattle.fault.proofs.{Chances.{chance_written}, Names.{Private, Table}}
use Rattle.fault.proofs.owning.take_copy.Goals as goal

frames_same : (g : Over) (c : goal.After-fill g) → frame_count c.fill.new.frames ≡ frame_count c.take_own.new.self.frames
frames_same g c = let taken = c.take_own.new.self.frames in ap frame_count c.fill.ensures ∙ (with_bytes-others taken c.in_ok-own.own.0 (bytes_of taken c.args.from.0)).frames

pub fill-requires-clause-source : goal.fill-requires-clause-source
fill-requires-clause-source g c =
    let took = c.in_ok-own.ensures.taken in
    let a = took.own.takes.others.frames in
    let b = took.frees.count in
    let low = c.requires.source in
    omega (arith, a, b, low)

pub returns : goal.returns
returns g c =
    let done = c.in_ok-own.ensures in
    let took = done.taken in
    let found = took.found in
    let taken : Picture g.M.Levels.mode = picture_of c.take_own.new.self in
    let n = c.in_ok-own.own.0 in
    let m = c.args.from.0 in
    let w = bytes_of taken.frames m in
    let P : FrameTable → Type 0 = λ t. ChangesFrame found (record taken { frames = t }) n in
    let apart : m ≢ n = λ e. c.requires.in_use (sym (took.frees.kept_role m refl) ∙ ap (role_of found.frames) e ∙ took.own.takes.was_free) in
    let inside : IsFrame taken.frames n = (let same = took.own.takes.others.frames in let low = took.own.takes.inside in omega (arith, same, low)) in
    let asks = asks_swap g.E.SectorDisk c.args.core.now c.take_own.new.self (Some c.args.from) Nothing done.asked in
    let copy : TakesCopy (picture_of c.args.core.now) (record taken { frames = c.fill.new.frames }) n c.args.page m = record {
      found = found;
      fit = took.fit;
      frees = took.frees;
      changes = subst P (sym c.fill.ensures) (changes_further took.own taken.slots refl _ (own_written found.frames taken.frames n w took.own.takes));
      inside = (let Q : FrameTable → Type 0 = λ t. IsFrame t n in let same = (with_bytes-others taken.frames n w).frames in subst Q (sym c.fill.ensures) (omega (arith, same, inside)));
      role = ap (λ t. role_of t n) c.fill.ensures ∙ took.own.takes.kind_set;
      count = ap (λ t. count_of t n) c.fill.ensures ∙ took.own.takes.counted;
      noted = took.own.noted;
      copied = ap (λ t. bytes_of t n) c.fill.ensures ∙ with_bytes-same taken.frames n w inside ∙ took.own.takes.others.bytes m apart ∙ took.frees.kept_bytes m refl c.requires.datum;
    } in
    let chance = chance_written done (record taken { frames = c.fill.new.frames }) copy.changes (λ t. (let bad : Private ≡ Table = sym copy.role ∙ t in (cc))) in
    search rules

pub returns-in_err-own : goal.returns-in_err-own
returns-in_err-own g c = let asks = asks_swap g.E.SectorDisk c.args.core.now c.take_own.new.self (Some c.args.from) Nothing c.in_err-own.ensures.asked in search rules

pub invariant_of-core-clause-page_count : goal.invariant_of-core-clause-page_count
invariant_of-core-clause-page_count g c = c.take_own.new.self.page_count ∙ sym (frames_same g c)

pub invariant_of-core-clause-node_count : goal.invariant_of-core-clause-node_count
invariant_of-core-clause-node_count g c = c.take_own.new.self.node_count ∙ sym (frames_same g c)

pub invariant_of-core-clause-hand_inside : goal.invariant_of-core-clause-hand_inside
invariant_of-core-clause-hand_inside g c = subst (λ (k : ℕ). c.take_own.new.self.clock.hand < k) (sym (frames_same g c)) c.take_own.new.self.hand_inside

pub invariant_of-core-clause-sound : goal.invariant_of-core-clause-sound
invariant_of-core-clause-sound g c =
    let taken = c.take_own.new.self.frames in
    let takes = c.in_ok-own.ensures.taken.own.takes in
    let n = c.in_ok-own.own.0 in
    let inside : IsFrame taken n = (let same = takes.others.frames in let low = takes.inside in omega (arith, same, low)) in
    subst IsSound (sym c.fill.ensures) (sound_taken taken n (bytes_of taken c.args.from.0) inside takes.kind_set c.take_own.new.self.sound)
