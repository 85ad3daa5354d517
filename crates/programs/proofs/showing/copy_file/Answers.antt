use Rattle.std.{proofs.{Common.{◌≡◌, ◌+◌, ◌*◌, ◌/◌, ◌<◌, ◌≤◌, ◌++◌, sym, ap, subst, ◌∙◌, take, drop, arith, rules}, KnownBytes.{Appends-trans}, lemmas.List.{take-append-drop}}, specs.Io.KnownBytes.{Appends}}
use Rattle.programs.proofs.{Asking.{reads_more}, Copies.{begins_more, next_piece, all_pages}}
use Rattle.programs.proofs.showing.copy_file.Goals as goal
use Rattle.stores.specs.Store.{disk_of}

pub returns-in-Err-clause-reads : goal.returns-in-Err-clause-reads
returns-in-Err-clause-reads g c =
    let k = c.loop-k.k in
    let file = c.requires.file in
    let count : c.div_ceil-k-end.result ≡ (c.args.length + 4095) / 4096 = search rules in
    let inside : 4096 * k < c.args.length = omega (arith, count, c.loop-k-test.true) in
    reads_more g.D.SectorDisk c.args.store.now c.loop-k.store c.copy_page.new.store c.args.file k (file.0, file.1, subst (λ n. 4096 * k < n) (sym file.2) inside)
    c.loop-k.invariant.reads c.copy_page.ensures.reads

pub returns-in-Err-clause-written : goal.returns-in-Err-clause-written
returns-in-Err-clause-written g c = λ keeps bytes is.
    let e = c.in-Err.ensures in
    let first = e.reads.kept keeps in
    let k = c.loop-k.k in
    let i = c.loop-k.invariant in
    let file = c.requires.file in
    let count : c.div_ceil-k-end.result ≡ (c.args.length + 4095) / 4096 = search rules in
    let inside : 4096 * k < c.args.length = omega (arith, count, c.loop-k-test.true) in
    let before = i.written first bytes is in
    let next = next_piece g.D.SectorDisk c.args.store.now (disk_of c.loop-k.store) c.args.file k c.args.length file.0 bytes c.requires.ready (i.reads.kept first) file.1 file.2 is i.reads.size (i.reads.touches first) inside in
    let split : bytes ≡ take (4096 * (k + 1)) bytes ++ drop (4096 * (k + 1)) bytes = sym (take-append-drop (4096 * (k + 1)) bytes) in
    begins_more _ _ _ bytes _ _ (drop (4096 * (k + 1)) bytes) (split ∙ ap (λ s. s ++ drop (4096 * (k + 1)) bytes) next) before (e.written keeps)

pub loop-k-preserved : goal.loop-k-preserved
loop-k-preserved g c =
    let e = c.in-Ok.ensures in
    let i = c.loop-k.invariant in
    let k = c.loop-k.k in
    let file = c.requires.file in
    let count : c.div_ceil-k-end.result ≡ (c.args.length + 4095) / 4096 = search rules in
    let inside : 4096 * k < c.args.length = omega (arith, count, c.loop-k-test.true) in
    record {
      reads = reads_more g.D.SectorDisk c.args.store.now c.loop-k.store c.copy_page.new.store c.args.file k (file.0, file.1, subst (λ n. 4096 * k < n) (sym file.2) inside) i.reads e.reads;
      calm = e.blames.calm ∙ i.calm;
      written = λ keeps bytes is.
          let first = e.reads.kept keeps in
          let before = i.written first bytes is in
          let next = next_piece g.D.SectorDisk c.args.store.now (disk_of c.loop-k.store) c.args.file k c.args.length file.0 bytes c.requires.ready (i.reads.kept first) file.1 file.2 is i.reads.size (i.reads.touches first) inside in
          subst (λ b. Appends (g.W.Write.contents c.args.writer.now) (g.W.Write.contents c.copy_page.new.writer) b) (sym next)
          (Appends-trans _ _ _ _ _ before (e.written keeps));
    }

pub returns-clause-written : goal.returns-clause-written
returns-clause-written g c = λ keeps bytes is.
    let k = c.loop-k.k in
    let file = c.requires.file in
    let count : c.div_ceil-k-end.result ≡ (c.args.length + 4095) / 4096 = search rules in
    let past : (file.0.length + 4095) / 4096 ≤ k = omega (arith, count, c.loop-k-test.false, file.2) in
    let all = all_pages g.D.SectorDisk c.args.store.now c.args.file k file.0 bytes c.requires.ready (c.loop-k.invariant.reads.kept keeps) file.1 is past in
    subst (λ b. Appends (g.W.Write.contents c.args.writer.now) (g.W.Write.contents c.loop-k.writer) b) all (c.loop-k.invariant.written keeps bytes is)
