use Rattle.std.proofs.Common.{◌≡◌, ◌<◌, ◌≤◌, ◌+◌, ◌*◌, ◌∙◌, ℕ, Bool, refl, ap, sym, subst, inr, arith, rules}
use Rattle.std.specs.Prelude.{min}
use Rattle.byteorder.specs.Endian.{little_number}
use Rattle.disk_model.proofs.Naming.{once_named}
use Rattle.disk_model.specs.{Moments.{Nothing}, Sectors.{joined}, Stop.{Image, NamesOnce}}
use Rattle.pool_journal.proofs.BlockReads.{few_more, none_read, all_read, read_first}
use Rattle.pool_journal.specs.{Blocks.{TakesBlock, IsCountedMap}, Maps.{entries_of}, Pools.{pool_block, pool_counted, block_number, within}}
use Rattle.sync_journal.{proofs.{Runs.{one_more}, Sectors.{same_image}}, specs.{Layout.{IsPageSector}, Runs.{RunsOnDevice}}}
use Rattle.pool_journal.proofs.map_blocks.read_map.Goals as goal

pub read_rest-requires-clause-size : goal.read_rest-requires-clause-size
read_rest-requires-clause-size g c = c.clear.ensures.size c.args.sizes.blocks c.requires.size

pub returns-in_err-read_page : goal.returns-in_err-read_page
returns-in_err-read_page g c =
    let d = g.D.SectorDisk in
    let m = c.args.sizes.blocks in
    let r = c.read_page.ensures in
    record {
      entries = search rules;
      fits = c.clear.ensures.size m c.requires.size;
      homes = λ body r. subst (λ x. x ≤ c.args.sizes.homes) (sym (c.clear.ensures.empty body r)) (omega arith);
      reads = search rules;
      once = λ keeps. once_named (IsCountedMap m c.args.second (pool_counted m c.args.second (d.content c.args.disk.now))) (IsPageSector c.block_start.result)
          (d.asked c.args.disk.now) (d.asked c.read_page.new.disk) (λ k here. (inr (omega (arith, here.0, c.block_start.ensures)), omega (arith, here.1, c.block_start.ensures, c.requires.pool.sized.0))) r.asks;
    }

pub returns-in_err-read_rest : goal.returns-in_err-read_rest
returns-in_err-read_rest g c =
    let d = g.D.SectorDisk in
    let m = c.args.sizes.blocks in
    let r = c.in_ok-read_page.ensures in
    let w = c.read_rest.ensures in
    let old = c.args.disk.now in
    let mid = c.read_page.new.disk in
    let new = c.read_rest.new.disk in
    let image = d.content old in
    let page = c.read_page.new.to in
    let counted = c.min-counted.result in
    let run : RunsOnDevice d Nothing old new = one_more d Nothing old mid new r.reads.run w.reads.run in
    record {
      entries = search rules;
      fits = w.fits;
      homes = w.homes;
      reads = record { run = run; cause = record { later = run.later; failed = λ is. (let failed = c.in_err-read_rest.ensures.reads.cause.failed refl in let calm = r.reads.cause.calm in omega (arith, failed, calm)); calm = search rules } };
      once = λ keeps. (let first : page ≡ pool_block m c.args.second image 0 = r.read (w.reads.run.kept keeps) ∙ ap (λ k. joined (λ i. image (k + i)) 8) c.block_start.ensures in
          let is : pool_counted m c.args.second image ≡ counted = ap (λ b. min (little_number 4 b) m) (sym first) ∙ sym (c.min-counted.ensures ∙ ap (λ k. min k m) c.read_u32.ensures) in
          subst (λ n. NamesOnce (IsCountedMap m c.args.second n) (d.asked old) (d.asked new)) (sym is)
          (read_first m c.args.second counted c.block_start.result (d.asked old) (d.asked mid) (d.asked new) c.block_start.ensures c.requires.pool.sized.0 r.asks w.once));
    }

pub returns-then-counted-gt0 : goal.returns-then-counted-gt0
returns-then-counted-gt0 g c =
    let d = g.D.SectorDisk in
    let m = c.args.sizes.blocks in
    let n = c.args.sizes.homes in
    let old = c.args.disk.now in
    let mid = c.read_page.new.disk in
    let new = c.read_rest.new.disk in
    let image = d.content old in
    let r = c.in_ok-read_page.ensures in
    let w = c.in_ok-read_rest.ensures in
    let was = c.read_rest.new.map in
    let now = c.take_block.new.self in
    let page = c.read_page.new.to in
    let counted = c.min-counted.result in
    let takes = c.take_block.ensures in
    let run : RunsOnDevice d Nothing old new = one_more d Nothing old mid new r.reads.run w.reads.run in
    record {
      entries = λ keeps body p below.
          let before = w.reads.run.kept keeps in
          let first : page ≡ pool_block m c.args.second image 0 = r.read before ∙ ap (λ k. joined (λ i. image (k + i)) 8) c.block_start.ensures in
          let same : d.content mid ≡ image = same_image d old mid (r.reads.run.touches before) in
          let is : pool_counted m c.args.second image ≡ counted = ap (λ b. min (little_number 4 b) m) (sym first) ∙ sym (c.min-counted.ensures ∙ ap (λ k. min k m) c.read_u32.ensures) in
          all_read m n c.args.second image counted was is w.rest now
          (subst (λ (i : Image). (body : Bool) (q i' : ℕ) → 1 ≤ q → q < counted → i' < 504 → entries_of was body (504 * q + i') ≡ within n (block_number body i' (pool_block m c.args.second i q))) same (w.entries keeps))
          (subst (λ b. TakesBlock 0 b n was now) first takes) c.if-counted-gt0.true body p;
      fits = takes.size m w.fits;
      homes = few_more m n c.args.second image 0 was now page takes w.homes;
      reads = record { run = run; cause = record { later = run.later; failed = λ is. cc; calm = w.reads.cause.calm ∙ r.reads.cause.calm } };
      once = λ keeps. (let first : page ≡ pool_block m c.args.second image 0 = r.read (w.reads.run.kept keeps) ∙ ap (λ k. joined (λ i. image (k + i)) 8) c.block_start.ensures in
          let is : pool_counted m c.args.second image ≡ counted = ap (λ b. min (little_number 4 b) m) (sym first) ∙ sym (c.min-counted.ensures ∙ ap (λ k. min k m) c.read_u32.ensures) in
          subst (λ n. NamesOnce (IsCountedMap m c.args.second n) (d.asked old) (d.asked new)) (sym is)
          (read_first m c.args.second counted c.block_start.result (d.asked old) (d.asked mid) (d.asked new) c.block_start.ensures c.requires.pool.sized.0 r.asks w.once));
    }

pub returns-else-counted-gt0 : goal.returns-else-counted-gt0
returns-else-counted-gt0 g c =
    let d = g.D.SectorDisk in
    let m = c.args.sizes.blocks in
    let n = c.args.sizes.homes in
    let old = c.args.disk.now in
    let mid = c.read_page.new.disk in
    let new = c.read_rest.new.disk in
    let image = d.content old in
    let r = c.in_ok-read_page.ensures in
    let w = c.in_ok-read_rest.ensures in
    let was = c.read_rest.new.map in
    let page = c.read_page.new.to in
    let counted = c.min-counted.result in
    let run : RunsOnDevice d Nothing old new = one_more d Nothing old mid new r.reads.run w.reads.run in
    record {
      entries = λ keeps body p below.
          let before = w.reads.run.kept keeps in
          let first : page ≡ pool_block m c.args.second image 0 = r.read before ∙ ap (λ k. joined (λ i. image (k + i)) 8) c.block_start.ensures in
          let same : d.content mid ≡ image = same_image d old mid (r.reads.run.touches before) in
          let is : pool_counted m c.args.second image ≡ counted = ap (λ b. min (little_number 4 b) m) (sym first) ∙ sym (c.min-counted.ensures ∙ ap (λ k. min k m) c.read_u32.ensures) in
          none_read m n c.args.second image counted was is w.rest (omega (arith, c.if-counted-gt0.false)) body p;
      fits = w.fits;
      homes = w.homes;
      reads = record { run = run; cause = record { later = run.later; failed = λ is. cc; calm = w.reads.cause.calm ∙ r.reads.cause.calm } };
      once = λ keeps. (let first : page ≡ pool_block m c.args.second image 0 = r.read (w.reads.run.kept keeps) ∙ ap (λ k. joined (λ i. image (k + i)) 8) c.block_start.ensures in
          let is : pool_counted m c.args.second image ≡ counted = ap (λ b. min (little_number 4 b) m) (sym first) ∙ sym (c.min-counted.ensures ∙ ap (λ k. min k m) c.read_u32.ensures) in
          subst (λ n. NamesOnce (IsCountedMap m c.args.second n) (d.asked old) (d.asked new)) (sym is)
          (read_first m c.args.second counted c.block_start.result (d.asked old) (d.asked mid) (d.asked new) c.block_start.ensures c.requires.pool.sized.0 r.asks w.once));
    }
