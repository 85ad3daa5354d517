use Rattle.disk_model.proofs.{Names.{◌≡◌, ◌≤◌, ◌+◌, ◌*◌, refl, subst, ⊎_elim, inl, inr, ◌∙◌, arith, rules}, Naming.{once_apart, once_named, once_none}, Rows.{of_first, of_next, first_or_else, changes_more, zeros_none, zeros_next, pages_none, pages_next, AreZeros, WritesPages}}
use Rattle.disk_model.specs.Stop.{IsOfPage, IsOfPages, NamesOnce}
use Rattle.disk_model.proofs.write_zeros.WriteZeros.write_zeros.Goals as goal

pub loop-i-init : goal.loop-i-init
loop-i-init g c =
    let d = g.Self.SectorDisk in
    let old = c.args.self.now in
    record {
      size = refl;
      kept = λ keeps. keeps;
      calm = refl;
      asks = once_none (IsOfPages c.args.n 0) (d.asked old) (d.asked old) (λ k. refl);
      zeros = λ keeps. zeros_none c.args.n (d.content old);
      writes = λ keeps. pages_none d c.args.n old;
    }

pub write_page-requires-clause-room : goal.write_page-requires-clause-room
write_page-requires-clause-room g c = omega (arith, c.requires.room, c.loop-i.invariant.size, c.loop-i-test.true)

pub returns-in_err-write_page : goal.returns-in_err-write_page
returns-in_err-write_page g c =
    let d = g.Self.SectorDisk in
    let old = c.args.self.now in
    let mid = c.loop-i.self in
    let new = c.write_page.new.self in
    let n = c.args.n in
    let i = c.loop-i.i in
    let inv = c.loop-i.invariant in
    let w = c.write_page.ensures in
    let failed = c.in_err-write_page.ensures.cause.failed refl in
    let calm = inv.calm in
    let within : i + 1 ≤ c.args.pages = omega (arith, c.loop-i-test.true) in
    let writes : d.keeps_model new → WritesPages d n (i + 1) old new = λ keeps.
    pages_next d n i old mid new (inv.writes (w.kept keeps)) (w.others keeps) (w.unsynced keeps) (w.marked keeps) (w.still keeps) (w.time keeps) in
    record {
      size = w.size ∙ inv.size;
      kept = λ keeps. inv.kept (w.kept keeps);
      cause = record { later = omega (arith, failed, calm); failed = λ is. omega (arith, failed, calm); calm = search rules };
      asks = once_apart (IsOfPages n i) (IsOfPage (n + 8 * i)) (IsOfPages n c.args.pages) (d.asked old) (d.asked mid) (d.asked new)
          (λ k first. of_first n i c.args.pages k (omega (arith, within)) first) (λ k next. of_first n (i + 1) c.args.pages k within (of_next n i k next)) (first_or_else n i)
          inv.asks (once_named (IsOfPage (n + 8 * i)) (IsOfPage (n + 8 * i)) (d.asked mid) (d.asked new) (λ k here. here) w.asks);
      written = search rules;
      others = λ keeps. changes_more n (i + 1) c.args.pages (d.content old) (d.content new) within (writes keeps).others;
      unsynced = λ keeps k u. ⊎_elim (λ o. inl o) (λ of. inr (of_first n (i + 1) c.args.pages k within of)) ((writes keeps).unsynced k u);
      marked = search rules;
      still = λ keeps. (writes keeps).still;
      time = λ keeps. (writes keeps).time;
    }

pub loop-i-preserved : goal.loop-i-preserved
loop-i-preserved g c =
    let d = g.Self.SectorDisk in
    let old = c.args.self.now in
    let mid = c.loop-i.self in
    let new = c.write_page.new.self in
    let n = c.args.n in
    let i = c.loop-i.i in
    let inv = c.loop-i.invariant in
    let w = c.write_page.ensures in
    record {
      size = w.size ∙ inv.size;
      kept = λ keeps. inv.kept (w.kept keeps);
      calm = c.in_ok-write_page.ensures.cause.calm ∙ inv.calm;
      asks = once_apart (IsOfPages n i) (IsOfPage (n + 8 * i)) (IsOfPages n (i + 1)) (d.asked old) (d.asked mid) (d.asked new)
          (λ k first. of_first n i (i + 1) k (omega arith) first) (of_next n i) (first_or_else n i)
          inv.asks (once_named (IsOfPage (n + 8 * i)) (IsOfPage (n + 8 * i)) (d.asked mid) (d.asked new) (λ k here. here) w.asks);
      zeros = λ keeps. zeros_next n i (d.content mid) (d.content new) (inv.zeros (w.kept keeps)) (w.others keeps) (c.in_ok-write_page.ensures.written keeps);
      writes = λ keeps. pages_next d n i old mid new (inv.writes (w.kept keeps)) (w.others keeps) (w.unsynced keeps) (w.marked keeps) (w.still keeps) (w.time keeps);
    }

pub returns : goal.returns
returns g c =
    let d = g.Self.SectorDisk in
    let n = c.args.n in
    let inv = c.loop-i.invariant in
    let new = c.loop-i.self in
    let end : c.loop-i.i ≡ c.args.pages = omega (arith, c.loop-i-test.false, c.loop-i.auto.i-end) in
    let writes : d.keeps_model new → WritesPages d n c.args.pages c.args.self.now new = λ keeps. subst (λ i. WritesPages d n i c.args.self.now new) end (inv.writes keeps) in
    record {
      size = inv.size;
      kept = inv.kept;
      cause = search rules;
      asks = subst (λ i. NamesOnce (IsOfPages n i) (d.asked c.args.self.now) (d.asked new)) end inv.asks;
      written = λ keeps. subst (λ i. AreZeros n i (d.content new)) end (inv.zeros keeps);
      others = λ keeps. (writes keeps).others;
      unsynced = λ keeps. (writes keeps).unsynced;
      marked = λ keeps. (writes keeps).marked;
      still = λ keeps. (writes keeps).still;
      time = λ keeps. (writes keeps).time;
    }
