use Rattle.disk_model.proofs.{Counts.{one_write}, Names.{◌≡◌, ◌+◌, ⊎_elim, sym, ap, subst, ◌∙◌, arith, rules, if◌then◌else◌, replicate, cases_eq, false≢true}, Naming.{names_next}, sim_disk.SimDiskSectorDisk.write_page.Goals.{then-is_err}}
use Rattle.disk_model.{proofs.sim_disk.SimDiskSectorDisk.write_page.Goals.{else-is_err}, specs.{Sectors.{part_of}, SimDisk.{DiskCounts, sector_of, asked_of, disk_counts, after_write, after_writes, left_by_write}}}
use Rattle.disk_model.proofs.sim_disk.SimDiskSectorDisk.write_page.Goals as goal

pub loop-i-preserved : goal.loop-i-preserved
loop-i-preserved c =
    let old = c.args.self.now in
    let mid = c.loop-i.self in
    let new = c.write.new.self in
    let w = c.write.ensures in
    let inv = c.loop-i.invariant in
    let i = c.loop-i.i in
    let here : sector_of new (c.args.n + i) ≡ left_by_write (disk_counts mid) (part_of c.args.from.now i) = w.leaves ∙ ap (left_by_write (disk_counts mid)) (c.parts-sector-items.ensures.each i (let len = c.parts-sector-items.ensures.len in omega (arith, c.loop-i-test.true, len))) in
    record {
      asks = names_next c.args.n i (asked_of old) (asked_of mid) (asked_of new) inv.asks w.asks;
      size = search rules;
      later = search rules;
      caused = search rules;
      calm = search rules;
      written = λ calm j less. elim c.if-is_err.branch [
        | then-is_err at ↦ absurd (false≢true (sym calm ∙ at.failed-is))
        | else-is_err at ↦ ⊎_elim
            (λ same. subst (λ m. sector_of new (c.args.n + m) ≡ part_of c.args.from.now m) (sym same)
            (here ∙ ap (λ fails. if fails then replicate 512 238 else part_of c.args.from.now i) (sym w.fails.failing ∙ sym c.is_err.ensures.value ∙ at.if-is_err.false)))
            (λ other. w.changes.others.others (c.args.n + j) (λ e. other (omega (arith, e))) ∙ inv.written (sym at.failed-is ∙ calm) j (omega (arith, less, other)))
            (cases_eq j i)
      ];
      each = λ j less. ⊎_elim
          (λ same. subst (λ m. sector_of new (c.args.n + m) ≡ left_by_write (after_writes m (disk_counts old)) (part_of c.args.from.now m)) (sym same)
          (here ∙ ap (λ (k : DiskCounts). left_by_write k (part_of c.args.from.now i)) inv.counted))
          (λ other. w.changes.others.others (c.args.n + j) (λ e. other (omega (arith, e))) ∙ inv.each j (omega (arith, less, other)))
          (cases_eq j i);
      counted = w.fails.counted ∙ ap after_write inv.counted ∙ one_write i (disk_counts old);
      last = w.changes.last ∙ inv.last;
      others = search rules;
      unsynced = search rules;
      marked = search rules;
      still = search rules;
      time = search rules;
    }
