use Rattle.std.proofs.Common.{◌≡◌, ◌<◌, ◌*◌, ◌∙◌, ℕ, Bool, refl, inl, sym, ap, subst, arith, rules}
use Rattle.disk_model.proofs.Naming.{once_named}
use Rattle.disk_model.specs.{Moments.{Nothing}, Stop.{Image, NamesOnce}}
use Rattle.pool_journal.proofs.{Anew.{gate_then_named}, Resumed.{still_synced, settled_so, kept_reading}}
use Rattle.pool_journal.specs.{Blocks.{IsCountedMap}, Gates.{IsPoolGate}, Maps.{entries_of}, Pools.{pool_counted, pool_entry, pool_named}, Recovering.{layout_in, state_of, IsGateOrNamed}}
use Rattle.sync_journal.{proofs.{Runs.{one_more}, Sectors.{same_image}}, specs.Runs.{RunsOnDevice}}
use Rattle.pool_journal.proofs.pool.PoolJournal.resume.Goals as goal

pub returns-in_err-second : goal.returns-in_err-second
returns-in_err-second g c =
    let d = g.D.SectorDisk in
    let sizes = c.args.self.now.sizes in
    let old = c.args.disk.now in
    let new = c.named.new.disk in
    let w = c.named.ensures in
    let run = w.reads.run in
    record {
      named = search rules;
      map = search rules;
      settled = search rules;
      synced = λ keeps. still_synced (layout_in sizes) d old new (run.touches keeps) (c.requires.synced (run.kept keeps));
      any_moment = λ keeps. kept_reading (layout_in sizes) d old new (run.touches keeps) (c.requires.synced (run.kept keeps)) (λ image left. g.met.D.SectorDisk.only_now old image (run.kept keeps) left);
      reads = record { run = run; cause = record { later = run.later; failed = λ is. c.in_err-second.ensures.reads.cause.failed refl; calm = search rules } };
      once = λ keeps. once_named (IsGateOrNamed sizes.blocks (d.content old)) IsPoolGate (d.asked old) (d.asked new) (λ k at. inl at) w.asks;
      is = c.requires.is;
      sizes = refl;
    }

pub returns-in_err-read_map : goal.returns-in_err-read_map
returns-in_err-read_map g c =
    let d = g.D.SectorDisk in
    let journal = c.args.self.now in
    let sizes = journal.sizes in
    let old = c.args.disk.now in
    let mid = c.named.new.disk in
    let new = c.read_map.new.disk in
    let first = c.in_ok-second.ensures in
    let w = c.read_map.ensures in
    let run : RunsOnDevice d Nothing old new = one_more d Nothing old mid new first.reads.run w.reads.run in
    record {
      named = search rules;
      map = search rules;
      settled = search rules;
      synced = λ keeps. still_synced (layout_in sizes) d old new (run.touches keeps) (c.requires.synced (run.kept keeps));
      any_moment = λ keeps. kept_reading (layout_in sizes) d old new (run.touches keeps) (c.requires.synced (run.kept keeps)) (λ image left. g.met.D.SectorDisk.only_now old image (run.kept keeps) left);
      reads = record { run = run; cause = record { later = run.later; failed = λ is. (let failed = c.in_err-read_map.ensures.reads.cause.failed refl in let calm = first.reads.cause.calm in omega (arith, failed, calm)); calm = search rules } };
      once = λ keeps. (let before = w.reads.run.kept keeps in gate_then_named sizes.blocks (pool_named (d.content old)) (d.asked old) (d.asked mid) (d.asked new)
          (pool_counted sizes.blocks (pool_named (d.content old)) (d.content old)) first.asks
          (subst (λ (image : Image). NamesOnce (IsCountedMap sizes.blocks (pool_named (d.content old)) (pool_counted sizes.blocks (pool_named (d.content old)) image)) (d.asked mid) (d.asked new)) (same_image d old mid (first.reads.run.touches before))
          (subst (λ b. NamesOnce (IsCountedMap sizes.blocks b (pool_counted sizes.blocks b (d.content mid))) (d.asked mid) (d.asked new)) (first.named before) (w.once keeps))));
      is = record { sized = c.requires.is.sized; map = c.requires.is.map; next = w.fits; homes = c.requires.is.homes; counted = c.requires.is.counted; room = c.requires.is.room };
      sizes = refl;
    }

pub returns : goal.returns
returns g c =
    let d = g.D.SectorDisk in
    let journal = c.args.self.now in
    let sizes = journal.sizes in
    let m = sizes.blocks in
    let n = sizes.homes in
    let old = c.args.disk.now in
    let mid = c.named.new.disk in
    let new = c.read_map.new.disk in
    let now = c.take_next.new.self in
    let first = c.in_ok-second.ensures in
    let w = c.in_ok-read_map.ensures in
    let t = c.take_next.ensures in
    let run : RunsOnDevice d Nothing old new = one_more d Nothing old mid new first.reads.run w.reads.run in
    let second_is : d.keeps_model new → now.second ≡ pool_named (d.content old) = λ keeps. t.second_is ∙ first.named (w.reads.run.kept keeps) in
    let at_mid : d.keeps_model new → d.content mid ≡ d.content old = λ keeps. same_image d old mid (first.reads.run.touches (w.reads.run.kept keeps)) in
    let given : d.keeps_model new → (body : Bool) (r : ℕ) → r < 504 * m → entries_of now.map body r ≡ pool_entry m n (pool_named (d.content old)) (d.content old) body r = λ keeps body r below.
    ap (λ map. entries_of map body r) t.map ∙ w.entries keeps body r below ∙ ap (λ (image : Image). pool_entry m n c.in_ok-second.second image body r) (at_mid keeps)
    ∙ ap (λ b. pool_entry m n b (d.content old) body r) (first.named (w.reads.run.kept keeps)) in
    record {
      named = second_is;
      map = given;
      settled = λ keeps. (let still = c.requires.synced (run.kept keeps) in let same = same_image d old new (run.touches keeps) in settled_so (layout_in sizes) d old new (run.touches keeps) still (state_of now)
          (record {
            gate = ap (λ (image : Image). pool_named image) same ∙ sym (second_is keeps);
            map = λ body r below. ap (λ (image : Image). pool_entry m n now.second image body r) same ∙ ap (λ b. pool_entry m n b (d.content old) body r) (second_is keeps) ∙ sym (given keeps body r below);
            synced = λ k u. absurd (still_synced (layout_in sizes) d old new (run.touches keeps) still k u);
          }));
      synced = λ keeps. still_synced (layout_in sizes) d old new (run.touches keeps) (c.requires.synced (run.kept keeps));
      any_moment = λ keeps. kept_reading (layout_in sizes) d old new (run.touches keeps) (c.requires.synced (run.kept keeps)) (λ image left. g.met.D.SectorDisk.only_now old image (run.kept keeps) left);
      reads = record { run = run; cause = record { later = run.later; failed = λ is. cc; calm = w.reads.cause.calm ∙ first.reads.cause.calm } };
      once = λ keeps. (let before = w.reads.run.kept keeps in gate_then_named m (pool_named (d.content old)) (d.asked old) (d.asked mid) (d.asked new)
          (pool_counted m (pool_named (d.content old)) (d.content old)) first.asks
          (subst (λ (image : Image). NamesOnce (IsCountedMap m (pool_named (d.content old)) (pool_counted m (pool_named (d.content old)) image)) (d.asked mid) (d.asked new)) (same_image d old mid (first.reads.run.touches before))
          (subst (λ b. NamesOnce (IsCountedMap m b (pool_counted m b (d.content mid))) (d.asked mid) (d.asked new)) (first.named before) (w.once keeps))));
      is = t.is;
      sizes = t.sizes;
    }
