use Rattle.sync_journal.{proofs.{Causes.{told_on, device_failed, none_failed}, Names.{◌≡◌, ◌∙◌, length, subst, sym, refl, arith, rules, Image, once_still}, Runs.{and_no_write}}, specs.{Layout.{IsJournalSector, IsStaged}, Map.{map_bytes}, Standing.{map_of, HoldsPages}}}
use Rattle.sync_journal.proofs.stage.stage.Goals as goal

pub fill_journal-requires : goal.fill_journal-requires
fill_journal-requires g c = c.requires

pub returns-in_err-fill_journal : goal.returns-in_err-fill_journal
returns-in_err-fill_journal g c =
    let e = c.in_err-fill_journal.ensures in
    record { fills = record { fills = record { body = search rules; once = e.once; takes = record { run = e.run; asks = e.asks; causes = told_on _ _ _ _ _ _ c.from_residual.ensures.1 e.causes } }; map = search rules }; synced = search rules }

pub returns-in_err-sync : goal.returns-in_err-sync
returns-in_err-sync g c =
    let d = g.D.SectorDisk in
    let s = c.in_err-sync.ensures in
    let filled = c.in_ok-fill_journal.ensures in
    let mid = c.fill_journal.new.disk in let new = c.sync.new.self in
    let failed = s.cause.failed refl in let calm = filled.causes.device_calm in
    let once = once_still (IsStaged (length c.args.homes.now)) (d.asked c.args.disk.now) (d.asked mid) (d.asked new) filled.once s.asks in
    let run = and_no_write d IsJournalSector c.args.disk.now mid new filled.run s.size s.kept s.cause.later s.same s.unsynced s.time in
    record {
      fills = record {
        fills = record { body = search rules; once = once; takes = record { run = run; asks = filled.asks; causes = device_failed _ _ _ _ _ c.from_residual-in_err-sync.ensures.1 (omega (arith, failed, calm)) filled.causes.source_calm } };
        map = search rules;
      };
      synced = search rules;
    }

pub returns : goal.returns
returns g c =
    let d = g.D.SectorDisk in
    let s = c.in_ok-sync.ensures in
    let homes = c.args.homes.now in
    let filled = c.in_ok-fill_journal.ensures in
    let mid = c.fill_journal.new.disk in let new = c.sync.new.self in
    record {
      fills = record {
        fills = record {
          body = λ keeps gives. subst (λ (image : Image). HoldsPages (length homes) (g.S.PageSource.pages c.args.source.now) image) (sym (s.same keeps)) (filled.body (s.kept keeps) gives);
          once = once_still (IsStaged (length homes)) (d.asked c.args.disk.now) (d.asked mid) (d.asked new) filled.once s.asks;
          takes = record {
            run = and_no_write d IsJournalSector c.args.disk.now mid new filled.run s.size s.kept s.cause.later s.same s.unsynced s.time;
            asks = filled.asks;
            causes = none_failed _ _ _ _ (s.cause.calm ∙ filled.causes.device_calm) filled.causes.source_calm;
          };
        };
        map = λ keeps. subst (λ (image : Image). map_of image ≡ map_bytes homes) (sym (s.same keeps)) (filled.map (s.kept keeps));
      };
      synced = s.synced;
    }
