use Rattle.disk_model.proofs.{Counts.{last_read, next_read}, Names.{◌≡◌, ◌<◌, ◌+◌, ◌*◌, ◌-◌, length, ⊎_elim, sym, ap, subst, ◌∙◌, arith, rules, cases_eq, put_mid}, Pages.{more_time, carried_by_read, put_here, put_there, length_put}}
use Rattle.disk_model.specs.{Asked.{times_named}, Sectors.{part_of}, SimDisk.{sector_of, IsUnsynced, moment_of, LeftSince, disk_counts, after_reads}, Stop.{Image, Names, IsOfPage}}
use Rattle.disk_model.proofs.sim_disk.SimDiskSectorDisk.read_page.Goals as goal

pub returns-in_err-get-clause-keeps : goal.returns-in_err-get-clause-keeps
returns-in_err-get-clause-keeps c =
    let old = c.args.self.now in
    let mid = c.loop-i.self in
    let new = c.get.new.self in
    let time = more_time (moment_of old) (moment_of mid) (moment_of new) (LeftSince old) (LeftSince mid) (LeftSince new) (sector_of mid) (sector_of new) (IsUnsynced mid) (IsUnsynced new)
    c.loop-i.invariant.time c.get.ensures.keeps.time (carried_by_read (sector_of mid) (sector_of new) (IsUnsynced mid) (IsUnsynced new) c.get.ensures.holds.same c.get.ensures.holds.still) in
    search rules

pub returns-in_err-get-clause-counted : goal.returns-in_err-get-clause-counted
returns-in_err-get-clause-counted c =
    c.get.ensures.fails.counted ∙ sym (last_read 8 c.loop-i.i (disk_counts c.loop-i.self) c.loop-i-test.true (sym c.in_err-get.ensures.fails.failing)) ∙ sym c.loop-i.invariant.counted

pub returns-in_err-get-clause-asks : goal.returns-in_err-get-clause-asks
returns-in_err-get-clause-asks c =
    subst (λ asked. Names (IsOfPage c.args.n) (times_named c.args.self.now.asked) (times_named asked)) (sym (c.get.ensures.asked ∙ c.loop-i.invariant.asked)) c.page.ensures

pub returns-clause-asks : goal.returns-clause-asks
returns-clause-asks c =
    subst (λ asked. Names (IsOfPage c.args.n) (times_named c.args.self.now.asked) (times_named asked)) (sym c.loop-i.invariant.asked) c.page.ensures

pub loop-i-preserved : goal.loop-i-preserved
loop-i-preserved c =
    let old = c.args.self.now in
    let mid = c.loop-i.self in
    let new = c.get.new.self in
    let r = c.get.ensures in
    let inv = c.loop-i.invariant in
    let i = c.loop-i.i in
    let k = 512 * i + 512 - 512 * i in
    let put = c.copy_from_slice.new.self in
    let sector : length c.get.new.to ≡ 512 = search rules in
    let after : put ≡ c.get.new.to = c.copy_from_slice.ensures.after in
    let long : length put ≡ 512 = ap length after ∙ sector in
    let below : i < 8 = c.loop-i-test.true in
    let given : c.get.new.to ≡ sector_of mid (c.args.n + i) = c.in_ok-get.ensures.gives in
    record {
      asked = r.asked ∙ inv.asked;
      size = r.keeps.size ∙ inv.size;
      long = length_put c.loop-i.to put (512 * i) k (omega (arith, inv.long, below)) (omega (arith, long)) ∙ inv.long;
      sector = sector;
      calm = c.in_ok-get.ensures.keeps.cause.calm ∙ inv.calm;
      counted = inv.counted ∙ next_read 8 i (disk_counts mid) below (sym c.in_ok-get.ensures.fails.failing) ∙ ap (after_reads (8 - (i + 1))) (sym r.fails.counted);
      last = r.holds.last ∙ inv.last;
      gives = λ j less. ⊎_elim
          (λ here. subst (λ m. part_of (put_mid (512 * i) k c.loop-i.to put) m ≡ sector_of old (c.args.n + m)) (sym here)
          (put_here c.loop-i.to put i k inv.long long below ∙ after ∙ given ∙ ap (λ (f : Image). f (c.args.n + i)) inv.same))
          (λ other. put_there c.loop-i.to put i j k inv.long long below (omega (arith, less, other)) ∙ inv.gives j (omega (arith, less, other)))
          (cases_eq j i);
      same = r.holds.same ∙ inv.same;
      unsynced = λ n u. inv.unsynced n (r.holds.unsynced n u);
      still = λ n u. r.holds.still n (inv.still n u);
      time = more_time (moment_of old) (moment_of mid) (moment_of new) (LeftSince old) (LeftSince mid) (LeftSince new) (sector_of mid) (sector_of new) (IsUnsynced mid) (IsUnsynced new)
          inv.time r.keeps.time (carried_by_read (sector_of mid) (sector_of new) (IsUnsynced mid) (IsUnsynced new) r.holds.same r.holds.still);
    }
