use Rattle.std.proofs.Common.{◌≡◌, ◌≤◌, ◌+◌, ◌-◌, ◌*◌, ◌∙◌, ◌⊎◌, ℕ, ⊎_elim, inl, inr, refl, ap, sym, arith, rules}
use Rattle.std.proofs.lemmas.Bool.{cases_lt}
use Rattle.disk_model.{proofs.{Naming.{once_wider}, Pieces.{joined-same}}, specs.{Moments.{Nothing}, Stop.{Image}}}
use Rattle.pool_journal.proofs.BlockReads.{IsRead, few_more, zero_more, entries_more, read_next}
use Rattle.pool_journal.specs.{Blocks.{IsRestOfMap}, Pools.{pool_start}}
use Rattle.sync_journal.{proofs.{Runs.{one_more}, Sectors.{same_image}}, specs.Runs.{RunsOnDevice}}
use Rattle.pool_journal.proofs.map_blocks.read_rest.Goals as goal

pub loop-q-init : goal.loop-q-init
loop-q-init g c =
    let first : ℕ = 1 in
    let one : (first ≡ 1) ⊎ (first ≤ c.args.counted) = inl refl in
    search rules

pub loop-q-preserved : goal.loop-q-preserved
loop-q-preserved g c =
    let d = g.D.SectorDisk in
    let m = c.args.sizes.blocks in
    let n = c.args.sizes.homes in
    let old = c.args.disk.now in
    let mid = c.loop-q.disk in
    let new = c.read_page.new.disk in
    let image = d.content old in
    let inv = c.loop-q.invariant in
    let q = c.loop-q.q in
    let was = c.loop-q.map in
    let now = c.take_block.new.self in
    let page = c.read_page.new.to in
    let r = c.in_ok-read_page.ensures in
    let takes = c.take_block.ensures in
    let start = pool_start m c.args.second in
    let at = c.block_start.ensures in (
      one_more d Nothing old mid new inv.0 r.reads.run,
      λ keeps. same_image d mid new (r.reads.run.touches keeps) ∙ inv.1 (r.reads.run.kept keeps),
      λ keeps. (let before = r.reads.run.kept keeps in entries_more m n c.args.second image q was now page takes
          (joined-same 8 (λ i. image (start + 8 * (m - 1 - q) + i)) (λ i. d.content mid (c.block_start.result + i))
          (λ i small. ap (λ k. image (k + i)) (sym at) ∙ ap (λ (f : Image). f (c.block_start.result + i)) (sym (inv.1 before))) ∙ sym (r.read keeps)) (inv.2 before)),
      zero_more m n c.args.second image q was now page takes inv.8 inv.3,
      takes.size m inv.4,
      few_more m n c.args.second image q was now page takes inv.5,
      r.reads.cause.calm ∙ inv.6,
      read_next m start q c.block_start.result (d.asked old) (d.asked mid) (d.asked new) at inv.8 (omega (arith, c.loop-q-test.true, c.requires.few)) inv.7 r.asks,
      omega (arith, inv.8),
      inr (omega (arith, c.loop-q-test.true)),
    )

pub returns-in_err-read_page : goal.returns-in_err-read_page
returns-in_err-read_page g c =
    let d = g.D.SectorDisk in
    let m = c.args.sizes.blocks in
    let old = c.args.disk.now in
    let mid = c.loop-q.disk in
    let new = c.read_page.new.disk in
    let inv = c.loop-q.invariant in
    let q = c.loop-q.q in
    let start = pool_start m c.args.second in
    let r = c.read_page.ensures in
    let run : RunsOnDevice d Nothing old new = one_more d Nothing old mid new inv.0 r.reads.run in
    record {
      entries = search rules;
      rest = λ body r out. inv.3 body r (⊎_elim (λ low. inl low) (λ past. inr (omega (arith, past, c.loop-q-test.true))) out);
      fits = inv.4;
      homes = inv.5;
      reads = record { run = run; cause = record { later = run.later; failed = λ is. (let failed = c.in_err-read_page.ensures.reads.cause.failed refl in let calm = inv.6 in omega (arith, failed, calm)); calm = search rules } };
      once = once_wider (IsRead m start (q + 1)) (IsRestOfMap m c.args.second c.args.counted) (d.asked old) (d.asked new) (λ k inside. (omega (arith, inside.0, c.loop-q-test.true), inside.1))
          (read_next m start q c.block_start.result (d.asked old) (d.asked mid) (d.asked new) c.block_start.ensures inv.8 (omega (arith, c.loop-q-test.true, c.requires.few)) inv.7 r.asks);
    }

pub returns : goal.returns
returns g c =
    let d = g.D.SectorDisk in
    let m = c.args.sizes.blocks in
    let old = c.args.disk.now in
    let now = c.loop-q.disk in
    let inv = c.loop-q.invariant in
    let start = pool_start m c.args.second in
    record {
      entries = λ keeps body q i some below small. inv.2 keeps body q i some (omega (arith, below, c.loop-q-test.false)) small;
      rest = λ body r out. ⊎_elim (λ low. inv.3 body r (inl low)) (λ past. ⊎_elim (λ low. inv.3 body r (inl low)) (λ high. inv.3 body r (inr (⊎_elim (λ one. omega (arith, high, one)) (λ few. omega (arith, past, few)) inv.9))) (cases_lt r 504)) out;
      fits = inv.4;
      homes = inv.5;
      reads = record { run = inv.0; cause = record { later = inv.0.later; failed = λ is. cc; calm = inv.6 } };
      once = once_wider (IsRead m start c.loop-q.q) (IsRestOfMap m c.args.second c.args.counted) (d.asked old) (d.asked now)
          (λ k inside. (⊎_elim (λ one. absurd (omega (arith, inside.0, inside.1, one))) (λ few. omega (arith, inside.0, few)) inv.9, inside.1)) inv.7;
    }
