use Rattle.sync_journal.proofs.Names.{ℕ, List, Option, Result, Ok, Err, length, take, refl, ap, sym, subst, ◌∙◌, ◌≡◌, ◌<◌, arith, length-take-le, get_or-take, IsErrAnd, Image, Nothing}
use Rattle.sync_journal.{specs.{Layout.{home_count}, Gate.{is_open_sector}, Map.{IsBadMap, AreFewHomes, map_count, home_in}, Recovery.{GivesHomes, Finds}, Standing.{map_of}}, proofs.{Asking.{gate_asks, map_asks}, Causes.{blames_device, blames_none}, Runs.{no_write, one_more}}}
use Rattle.sync_journal.specs.declared.faults.RecoverFault.{RecoverFault, TheVariants.{Device}}
use Rattle.sync_journal.proofs.recovery.find_open.Goals as goal

-- where the device failed nothing is said of a gate or a map
not_found : (n : ℕ) (image : Image) (homes : List ℕ) (result : Result (Option ℕ) RecoverFault) → IsErrAnd result (λ e. e ≡ Device) → GivesHomes n homes result × Finds n image homes result
not_found n image homes (Ok x) same = absurd same
not_found n image homes (Err e) same = (tt, subst (λ f. Finds n image homes (Err f)) (sym same) tt)

pub returns-in_err-read : goal.returns-in_err-read
returns-in_err-read g c =
    let d = g.D.SectorDisk in let old = c.args.disk.now in
    let r = c.read.ensures in
    let none = not_found (d.sector_count old) (d.content old) c.args.homes.now _ c.from_residual.ensures.1 in
    record {
      looks = record {
        run = no_write d Nothing old c.read.new.self r.size r.kept r.cause.later r.same r.unsynced r.time;
        blames = blames_device d old c.read.new.self _ c.from_residual.ensures.1 (c.in_err-read.ensures.cause.failed refl);
      };
      asks = λ keeps. gate_asks d (d.content old) old c.read.new.self r.asks;
      gives = none.0;
      finds = λ keeps. none.1;
    }

pub returns-then-not-is_open_gate : goal.returns-then-not-is_open_gate
returns-then-not-is_open_gate g c =
    let d = g.D.SectorDisk in let old = c.args.disk.now in
    let r = c.in_ok-read.ensures in
    record {
      looks = record { run = no_write d Nothing old c.read.new.self r.size r.kept r.cause.later r.same r.unsynced r.time; blames = blames_none d old c.read.new.self _ r.cause.calm };
      asks = λ keeps. gate_asks d (d.content old) old c.read.new.self r.asks;
      gives = tt;
      finds = λ keeps. ap is_open_sector (sym (r.gives keeps)) ∙ sym c.is_open_gate.ensures ∙ c.if-not-is_open_gate.true;
    }

pub returns-in_err-read_page : goal.returns-in_err-read_page
returns-in_err-read_page g c =
    let d = g.D.SectorDisk in let old = c.args.disk.now in
    let r = c.in_ok-read.ensures in
    let page = c.read_page.ensures in
    let none = not_found (d.sector_count old) (d.content old) c.args.homes.now _ c.from_residual-in_err-read_page.ensures.1 in
    record {
      looks = record {
        run = one_more d Nothing old c.read.new.self c.read_page.new.disk (no_write d Nothing old c.read.new.self r.size r.kept r.cause.later r.same r.unsynced r.time) page.reads.run;
        blames = (let failed = c.in_err-read_page.ensures.reads.cause.failed refl in let calm = r.cause.calm in
            blames_device d old c.read_page.new.disk _ c.from_residual-in_err-read_page.ensures.1 (omega (arith, failed, calm)));
      };
      asks = λ keeps. map_asks d (d.content old) old c.read.new.self c.read_page.new.disk
          (ap is_open_sector (sym (r.gives (page.kept keeps))) ∙ sym c.is_open_gate.ensures ∙ c.if-not-is_open_gate.false) r.asks page.asks;
      gives = none.0;
      finds = λ keeps. none.1;
    }

pub returns-in-Some : goal.returns-in-Some
returns-in-Some g c =
    let d = g.D.SectorDisk in let old = c.args.disk.now in
    let r = c.in_ok-read.ensures in
    let page = c.in_ok-read_page.ensures in
    let e = c.in-Some.ensures in
    let n = c.in-Some.count in
    let homes = c.read_homes.new.homes in
    let long : length (take n homes) ≡ n = length-take-le n homes (let most = e.1 in omega (arith, most, c.read_homes.auto.homes)) in
    record {
      looks = record {
        run = one_more d Nothing old c.read.new.self c.read_page.new.disk (no_write d Nothing old c.read.new.self r.size r.kept r.cause.later r.same r.unsynced r.time) page.reads.run;
        blames = blames_none d old c.read_page.new.disk _ (page.reads.cause.calm ∙ r.cause.calm);
      };
      asks = λ keeps. map_asks d (d.content old) old c.read.new.self c.read_page.new.disk
          (ap is_open_sector (sym (r.gives (page.kept keeps))) ∙ sym c.is_open_gate.ensures ∙ c.if-not-is_open_gate.false) r.asks c.read_page.ensures.asks;
      gives = (
        (let most = e.1 in omega (arith, most, c.told-homes)),
        subst (λ count. AreFewHomes 1023 count (take n homes)) (c.home_count.ensures ∙ ap home_count (c.sectors.ensures ∙ page.size ∙ r.size))
            (subst (λ most. AreFewHomes most c.home_count.result (take n homes)) c.told-homes e.3),
      );
      finds = λ keeps. (let map = ap (λ (image : Image). map_of image) (sym (r.same (page.kept keeps))) ∙ sym (page.read keeps) in record {
        gate = ap is_open_sector (sym (r.gives (page.kept keeps))) ∙ sym c.is_open_gate.ensures ∙ c.if-not-is_open_gate.false;
        count = ap map_count map ∙ sym e.0 ∙ sym long;
        each = λ j below. (let inside : j < n = omega (arith, below, long) in ap (λ bytes. home_in bytes j) map ∙ sym (e.2 j inside) ∙ sym (get_or-take n homes j 0 inside));
      });
    }

pub returns-in-None : goal.returns-in-None
returns-in-None g c =
    let d = g.D.SectorDisk in let old = c.args.disk.now in
    let r = c.in_ok-read.ensures in
    let page = c.in_ok-read_page.ensures in
    record {
      looks = record {
        run = one_more d Nothing old c.read.new.self c.read_page.new.disk (no_write d Nothing old c.read.new.self r.size r.kept r.cause.later r.same r.unsynced r.time) page.reads.run;
        blames = record { device = λ is. cc; calm = tt; still = λ is. page.reads.cause.calm ∙ r.cause.calm };
      };
      asks = λ keeps. map_asks d (d.content old) old c.read.new.self c.read_page.new.disk
          (ap is_open_sector (sym (r.gives (page.kept keeps))) ∙ sym c.is_open_gate.ensures ∙ c.if-not-is_open_gate.false) r.asks c.read_page.ensures.asks;
      gives = tt;
      finds = λ keeps. record {
        gate = ap is_open_sector (sym (r.gives (page.kept keeps))) ∙ sym c.is_open_gate.ensures ∙ c.if-not-is_open_gate.false;
        map = subst (λ n. IsBadMap n (home_count (d.sector_count old)) (map_of (d.content old))) c.told-homes
            (subst (λ m. IsBadMap (length c.args.homes.now) (home_count (d.sector_count old)) m) (page.read keeps ∙ ap (λ (image : Image). map_of image) (r.same (page.kept keeps)))
            (subst (λ n. IsBadMap (length c.args.homes.now) n c.read_page.new.to) (c.home_count.ensures ∙ ap home_count (c.sectors.ensures ∙ page.size ∙ r.size)) c.in-None.ensures));
      };
    }
