use Rattle.sync_journal.proofs.Names.{◌≡◌, ◌≤◌, length, ap, sym, subst, inl, ◌∙◌, refl, arith, rules, Image, Names, Nothing, asks_named, asks_once, asks_then, once_named, length-take-le}
use Rattle.sync_journal.specs.{Layout.{home_count_in, IsMapIn}, Gate.{is_open_sector}, Map.{AreNamed, IsWithinHomes, ReadsMap}, OldJournal.{IsLookedAtIn, IsOldTable}, OldLayouts.{old_gate, is_old_open, sizes_under}, Standing.{map_in}}
use Rattle.sync_journal.proofs.{Causes.{not_bad_device, blames_device, blames_none}, Runs.{no_write, one_more}, OldJournals.{closed_at, not_held, is_bad, is_table, map_looked, most_under, named_good, open_at}}
use Rattle.sync_journal.proofs.old_journal.OldJournal.find.Goals as goal

pub returns-in_err-read : goal.returns-in_err-read
returns-in_err-read g c =
    let d = g.D.SectorDisk in
    let old = c.args.disk.now in
    let new = c.read.new.self in
    let r = c.read.ensures in
    let layout = c.args.version in
    let gate = subst (λ n. Names (λ k. k ≡ n) (d.asked old) (d.asked new)) c.gate_of.ensures.is r.asks in
    record {
      version = search rules;
      few = search rules;
      found = search rules;
      looks = record { run = no_write d Nothing old new r.size r.kept r.cause.later r.same r.unsynced r.time; blames = blames_device d old new _ c.from_residual.ensures.1 (c.in_err-read.ensures.cause.failed refl) };
      asks = asks_named d (IsOldTable layout) (λ k. k ≡ old_gate layout) old new (λ k here. inl here) gate;
      once = λ keeps. once_named (IsLookedAtIn layout (d.content old)) (λ k. k ≡ old_gate layout) (d.asked old) (d.asked new) (λ k at. inl at) gate;
      good = search rules;
      bad = λ keeps is. absurd (not_bad_device _ c.from_residual.ensures.1 is);
    }

pub returns-then-not-holds_pages : goal.returns-then-not-holds_pages
returns-then-not-holds_pages g c =
    let d = g.D.SectorDisk in
    let old = c.args.disk.now in
    let new = c.read.new.self in
    let r = c.in_ok-read.ensures in
    let layout = c.args.version in
    let gate = subst (λ n. Names (λ k. k ≡ n) (d.asked old) (d.asked new)) c.gate_of.ensures.is r.asks in
    let opened = c.is_open_gate-is_open.result in
    let read : d.keeps_model new → is_old_open layout (d.content old) ≡ opened = λ keeps. ap (λ n. is_open_sector (d.content old n)) (sym c.gate_of.ensures.is) ∙ ap is_open_sector (sym (r.gives keeps)) ∙ sym c.is_open_gate-is_open.ensures in
    let none = sym c.holds_pages.ensures ∙ c.if-not-holds_pages.true in
    record {
      version = refl;
      few = omega arith;
      found = λ keeps. record { at = closed_at layout opened (d.content old) (read keeps) none };
      looks = record { run = no_write d Nothing old new r.size r.kept r.cause.later r.same r.unsynced r.time; blames = blames_none d old new _ r.cause.calm };
      asks = asks_named d (IsOldTable layout) (λ k. k ≡ old_gate layout) old new (λ k here. inl here) gate;
      once = λ keeps. once_named (IsLookedAtIn layout (d.content old)) (λ k. k ≡ old_gate layout) (d.asked old) (d.asked new) (λ k at. inl at) gate;
      good = λ keeps. not_held layout opened (d.content old) (read keeps) none (d.sector_count old);
      bad = λ keeps is. cc;
    }

pub returns-in_err-count : goal.returns-in_err-count
returns-in_err-count g c =
    let d = g.D.SectorDisk in
    let old = c.args.disk.now in
    let mid = c.read.new.self in
    let new = c.read_map.new.disk in
    let r = c.in_ok-read.ensures in
    let layout = c.args.version in
    let opened = c.is_open_gate-is_open.result in
    let gate = subst (λ n. Names (λ k. k ≡ n) (d.asked old) (d.asked mid)) c.gate_of.ensures.is r.asks in
    let calm = r.cause.calm in
    let failed = c.in_err-count.ensures.cause.failed refl in
    let holds = sym c.holds_pages.ensures ∙ c.if-not-holds_pages.false in
    record {
      version = search rules;
      few = search rules;
      found = search rules;
      looks = record {
        run = one_more d Nothing old mid new (no_write d Nothing old mid r.size r.kept r.cause.later r.same r.unsynced r.time) c.read_map.ensures.run;
        blames = blames_device d old new _ c.from_residual-in_err-count.ensures.1 (omega (arith, failed, calm));
      };
      asks = asks_then d (IsOldTable layout) old mid new (asks_named d (IsOldTable layout) (λ k. k ≡ old_gate layout) old mid (λ k here. inl here) gate)
          (asks_once d (IsOldTable layout) (IsMapIn (sizes_under layout opened)) mid new (is_table layout opened) c.read_map.ensures.once);
      once = λ keeps. (let read = ap (λ n. is_open_sector (d.content old n)) (sym c.gate_of.ensures.is) ∙ ap is_open_sector (sym (r.gives (c.read_map.ensures.run.kept keeps))) ∙ sym c.is_open_gate-is_open.ensures in
          map_looked layout opened (d.content old) read holds (d.asked old) (d.asked mid) (d.asked new) gate c.read_map.ensures.once);
      good = search rules;
      bad = λ keeps is. absurd (not_bad_device _ c.from_residual-in_err-count.ensures.1 is);
    }

pub returns-in-Some : goal.returns-in-Some
returns-in-Some g c =
    let d = g.D.SectorDisk in
    let old = c.args.disk.now in
    let mid = c.read.new.self in
    let new = c.read_map.new.disk in
    let r = c.in_ok-read.ensures in
    let layout = c.args.version in
    let opened = c.is_open_gate-is_open.result in
    let sizes = sizes_under layout opened in
    let gate = subst (λ n. Names (λ k. k ≡ n) (d.asked old) (d.asked mid)) c.gate_of.ensures.is r.asks in
    let holds = sym c.holds_pages.ensures ∙ c.if-not-holds_pages.false in
    let read : d.keeps_model new → is_old_open layout (d.content old) ≡ opened = λ keeps. ap (λ n. is_open_sector (d.content old n)) (sym c.gate_of.ensures.is)
    ∙ ap is_open_sector (sym (r.gives (c.read_map.ensures.run.kept keeps))) ∙ sym c.is_open_gate-is_open.ensures in
    let content = d.content old in
    let limit = home_count_in sizes (d.sector_count old) in
    let count = c.in-Some.count in
    let homes = c.read_map.new.homes in
    let few = subst (λ o. IsWithinHomes sizes.most o) c.in-Some.is c.in_ok-count.ensures.few in
    let most = most_under layout opened in
    let long : length homes ≡ 1023 = c.read_map.array_long in
    let room : count ≤ length homes = omega (arith, few, most, long) in
    let are : d.keeps_model new → AreNamed sizes.most limit (map_in sizes content) homes count = λ keeps. subst (λ o. ReadsMap sizes.most limit (map_in sizes content) homes o) c.in-Some.is
    (subst (λ (image : Image). ReadsMap sizes.most limit (map_in sizes image) homes c.in_ok-count.field-0) (r.same (c.read_map.ensures.run.kept keeps))
    (subst (λ n. ReadsMap sizes.most (home_count_in sizes n) (map_in sizes (d.content mid)) homes c.in_ok-count.field-0) r.size (c.in_ok-count.ensures.names keeps))) in
    record {
      version = refl;
      few = (let named = length-take-le count homes room in omega (arith, named, few));
      found = λ keeps. record { at = open_at layout opened content (read keeps) holds (d.sector_count old) count homes room (are keeps) };
      looks = record {
        run = one_more d Nothing old mid new (no_write d Nothing old mid r.size r.kept r.cause.later r.same r.unsynced r.time) c.read_map.ensures.run;
        blames = blames_none d old new _ (c.in_ok-count.ensures.cause.calm ∙ r.cause.calm);
      };
      asks = asks_then d (IsOldTable layout) old mid new (asks_named d (IsOldTable layout) (λ k. k ≡ old_gate layout) old mid (λ k here. inl here) gate)
          (asks_once d (IsOldTable layout) (IsMapIn sizes) mid new (is_table layout opened) c.read_map.ensures.once);
      once = λ keeps. map_looked layout opened content (read keeps) holds (d.asked old) (d.asked mid) (d.asked new) gate c.read_map.ensures.once;
      good = λ keeps. named_good layout opened content (read keeps) holds (d.sector_count old) count homes room (are keeps);
      bad = λ keeps is. cc;
    }

pub returns-in-None : goal.returns-in-None
returns-in-None g c =
    let d = g.D.SectorDisk in
    let old = c.args.disk.now in
    let mid = c.read.new.self in
    let new = c.read_map.new.disk in
    let r = c.in_ok-read.ensures in
    let layout = c.args.version in
    let opened = c.is_open_gate-is_open.result in
    let sizes = sizes_under layout opened in
    let gate = subst (λ n. Names (λ k. k ≡ n) (d.asked old) (d.asked mid)) c.gate_of.ensures.is r.asks in
    let holds = sym c.holds_pages.ensures ∙ c.if-not-holds_pages.false in
    let read : d.keeps_model new → is_old_open layout (d.content old) ≡ opened = λ keeps. ap (λ n. is_open_sector (d.content old n)) (sym c.gate_of.ensures.is)
    ∙ ap is_open_sector (sym (r.gives (c.read_map.ensures.run.kept keeps))) ∙ sym c.is_open_gate-is_open.ensures in
    let limit = home_count_in sizes (d.sector_count old) in
    let homes = c.read_map.new.homes in
    record {
      version = tt;
      few = tt;
      found = λ keeps. tt;
      looks = record {
        run = one_more d Nothing old mid new (no_write d Nothing old mid r.size r.kept r.cause.later r.same r.unsynced r.time) c.read_map.ensures.run;
        blames = record { device = λ is. cc; calm = tt; still = λ is. c.in_ok-count.ensures.cause.calm ∙ r.cause.calm };
      };
      asks = asks_then d (IsOldTable layout) old mid new (asks_named d (IsOldTable layout) (λ k. k ≡ old_gate layout) old mid (λ k here. inl here) gate)
          (asks_once d (IsOldTable layout) (IsMapIn sizes) mid new (is_table layout opened) c.read_map.ensures.once);
      once = λ keeps. map_looked layout opened (d.content old) (read keeps) holds (d.asked old) (d.asked mid) (d.asked new) gate c.read_map.ensures.once;
      good = λ keeps. tt;
      bad = λ keeps is. is_bad layout opened (d.content old) (read keeps) holds (d.sector_count old) (subst (λ o. ReadsMap sizes.most limit (map_in sizes (d.content old)) homes o) c.in-None.is
          (subst (λ (image : Image). ReadsMap sizes.most limit (map_in sizes image) homes c.in_ok-count.field-0) (r.same (c.read_map.ensures.run.kept keeps))
          (subst (λ n. ReadsMap sizes.most (home_count_in sizes n) (map_in sizes (d.content mid)) homes c.in_ok-count.field-0) r.size (c.in_ok-count.ensures.names keeps))));
    }
