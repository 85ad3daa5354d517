use Rattle.std.proofs.Common.{inl, ◌∙◌, not, refl, inr, sym, subst, arith, rules}
use Rattle.disk_model.proofs.{Moments.{stays}, Naming.{once_wider, once_none}}
use Rattle.pool_journal.proofs.{Anew.{map_then_gate, mapped_run, mapped_moments, mapped_blocks, named_run, named_moments, named_blocks, named_settled, anew_failed}, Resumed.{settled_so, kept_reading}}
use Rattle.pool_journal.specs.{Blocks.{IsNotedMap}, Maps.{entries_of}, Pools.{pool_standing}, Recovering.{layout_in, state_of, IsGateOrNoted}}
use Rattle.sync_journal.{proofs.Causes.{is_error}, specs.Layouts.{IsSettled}}
use Rattle.pool_journal.proofs.pool.PoolJournal.renew.Goals as goal

pub returns-in_err-put_map : goal.returns-in_err-put_map
returns-in_err-put_map g c =
    let d = g.D.SectorDisk in
    let was = c.args.self.now in
    let m = was.sizes.blocks in
    let n = was.sizes.homes in
    let second = was.second in
    let old = c.args.disk.now in
    let new = c.put_map.new.disk in
    let w = c.put_map.ensures in
    anew_failed d was old new _ (is_error _ _ c.from_residual.ensures.1) c.requires.is (c.gives.ensures.some c.if-gives.true)
    (mapped_run d m n second (entries_of was.map) old new (λ keeps image left. g.met.D.SectorDisk.only_now old image keeps left) c.requires.rest w.run)
    (once_wider (IsNotedMap m (not second) (entries_of was.map)) (IsGateOrNoted m (not second) (entries_of was.map)) (d.asked old) (d.asked new) (λ k map. inr map) w.once) (c.in_err-put_map.ensures.failed refl)
    (mapped_moments d m n second (entries_of was.map) old new (λ keeps image left. g.met.D.SectorDisk.only_now old image keeps left) c.requires.rest w.run)
    (λ keeps. inl (mapped_blocks d m n second (entries_of was.map) old new (λ keeps image left. g.met.D.SectorDisk.only_now old image keeps left) c.requires.rest w.run (c.requires.synced (w.kept keeps)) keeps))

pub returns-in_err-name_map : goal.returns-in_err-name_map
returns-in_err-name_map g c =
    let d = g.D.SectorDisk in
    let was = c.args.self.now in
    let m = was.sizes.blocks in
    let n = was.sizes.homes in
    let second = was.second in
    let old = c.args.disk.now in
    let mid = c.put_map.new.disk in
    let new = c.name_map.new.disk in
    let w = c.in_ok-put_map.ensures in
    let e = c.name_map.ensures in
    anew_failed d was old new _ (is_error _ _ c.from_residual-in_err-name_map.ensures.1) c.requires.is (c.gives.ensures.some c.if-gives.true)
    (named_run d m n second (entries_of was.map) old mid (λ keeps image left. g.met.D.SectorDisk.only_now old image keeps left) c.requires.rest w.run w.done w.synced new e.run)
    (map_then_gate m (not second) (d.asked old) (d.asked mid) (d.asked new) (entries_of was.map) w.once e.once)
    (let failed = c.in_err-name_map.ensures.failed refl in let calm = w.calm in omega (arith, failed, calm))
    (named_moments d m n second (entries_of was.map) old mid (λ keeps image left. g.met.D.SectorDisk.only_now old image keeps left) c.requires.rest w.run w.done w.synced new e.run)
    (λ keeps. named_blocks d m n second (entries_of was.map) old mid (λ keeps image left. g.met.D.SectorDisk.only_now old image keeps left) c.requires.rest w.run w.done w.synced new e.run (c.requires.synced (w.kept (e.kept keeps))) keeps)

pub returns-in_ok-name_map : goal.returns-in_ok-name_map
returns-in_ok-name_map g c =
    let d = g.D.SectorDisk in
    let was = c.args.self.now in
    let m = was.sizes.blocks in
    let n = was.sizes.homes in
    let second = was.second in
    let old = c.args.disk.now in
    let mid = c.put_map.new.disk in
    let new = c.name_map.new.disk in
    let now = c.face.new.self in
    let w = c.in_ok-put_map.ensures in
    let e = c.in_ok-name_map.ensures in
    let f = c.face.ensures in
    record {
      writes = record {
        writes = record {
          done = λ keeps. subst (λ map. IsSettled (layout_in was.sizes) d (d.sector_count old) (d.content old) (now.second, entries_of map) new (pool_standing m n (d.content old))) (sym f.map)
              (subst (λ b. IsSettled (layout_in was.sizes) d (d.sector_count old) (d.content old) (b, entries_of was.map) new (pool_standing m n (d.content old))) (sym f.second_is)
              (named_settled d m n second (entries_of was.map) old mid (λ keeps image left. g.met.D.SectorDisk.only_now old image keeps left) c.requires.rest w.run w.done w.synced new e.run keeps (e.done keeps) (e.synced keeps)));
          run = named_run d m n second (entries_of was.map) old mid (λ keeps image left. g.met.D.SectorDisk.only_now old image keeps left) c.requires.rest w.run w.done w.synced new e.run;
          once = map_then_gate m (not second) (d.asked old) (d.asked mid) (d.asked new) (entries_of was.map) w.once e.once;
          failed = λ is. cc;
          calm = e.calm ∙ w.calm;
        };
        synced = e.synced;
      };
      any_moment = named_moments d m n second (entries_of was.map) old mid (λ keeps image left. g.met.D.SectorDisk.only_now old image keeps left) c.requires.rest w.run w.done w.synced new e.run;
      blocks = λ keeps. named_blocks d m n second (entries_of was.map) old mid (λ keeps image left. g.met.D.SectorDisk.only_now old image keeps left) c.requires.rest w.run w.done w.synced new e.run (c.requires.synced (w.kept (e.kept keeps))) keeps;
      turned = λ given. f.second_is;
      idle = λ none. absurd (c.gives.ensures.some c.if-gives.true none);
      is = f.is;
      sizes = f.sizes;
      map = f.map;
    }

pub returns-else-gives : goal.returns-else-gives
returns-else-gives g c =
    let d = g.D.SectorDisk in
    let was = c.args.self.now in
    let disk = c.args.disk.now in
    record {
      writes = record {
        writes = record {
          done = λ keeps. settled_so (layout_in was.sizes) d disk disk (stays d _ disk) (c.requires.synced keeps) (state_of was) (c.requires.rest keeps);
          run = search rules;
          once = once_none _ (d.asked disk) (d.asked disk) (λ k. refl);
          failed = λ is. cc;
          calm = refl;
        };
        synced = c.requires.synced;
      };
      any_moment = λ keeps. kept_reading (layout_in was.sizes) d disk disk (stays d _ disk) (c.requires.synced keeps) (λ image left. g.met.D.SectorDisk.only_now disk image keeps left);
      blocks = λ keeps. inl (mapped_blocks d was.sizes.blocks was.sizes.homes was.second (entries_of was.map) disk disk (λ keeps image left. g.met.D.SectorDisk.only_now disk image keeps left) c.requires.rest
          (record { size = refl; kept = λ h. h; later = omega arith; touches = λ h. stays d _ disk }) (c.requires.synced keeps) keeps);
      turned = λ given. absurd (given (c.gives.ensures.none c.if-gives.false));
      idle = λ none. refl;
      is = c.requires.is;
      sizes = refl;
      map = refl;
    }
