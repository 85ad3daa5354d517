use Rattle.std.proofs.Common.{◌*◌, ◌∙◌, refl, sym, ap, subst, arith, rules, inl, inr}
use Rattle.disk_model.proofs.{Moments.{asks_none, asks_wider}, Naming.{once_none, once_wider}}
use Rattle.pool_journal.proofs.{Counted.{none_live, not_full}, Room.{alike, but_most, thin_either, thin_loose, thin_moved, thin_full, thin_single}, Thinned.{kept, copied, none_had}}
use Rattle.pool_journal.specs.{Commit.{thinned, IsDropped}, Copying.{IsCopiedHome, HoldsHomes}, Maps.{entries_of}, Pools.{IsLooseHome, IsSingle}}
use Rattle.sync_journal.proofs.Runs.{of_more}
use Rattle.pool_journal.proofs.pool.PoolJournal.make_room.Goals as goal

pub returns-in_err-copy_home : goal.returns-in_err-copy_home
returns-in_err-copy_home g c =
    let d = g.D.SectorDisk in
    let m = c.args.self.now.sizes.blocks in
    let was = entries_of c.args.self.now.map in
    let homes = c.args.homes.now in
    let begins = c.begin.ensures in
    let thin = entries_of c.begin.new.self.next in
    let old = c.args.disk.now in
    let new = c.copy_home.new.disk in
    let size = ap (λ s. s.blocks) begins.sizes in
    let full = thin_full m was thin homes begins.next (sym begins.full_is ∙ c.if-begin.true) in
    let w = c.copy_home.ensures in
    record {
      thins = search rules;
      keeps_slots = λ body r. thin_either m was thin homes begins.next body r;
      homes_are = λ body r. (let most = but_most homes (was body r) in omega (arith, most, begins.next body r, c.requires.is.homes body r));
      new_homes = none_had homes was thin begins.next;
      single = thin_single m was thin homes begins.next;
      room = search rules;
      changes = record { is = begins.is; sizes = begins.sizes; second = begins.second; map = begins.map; free = begins.free };
      run = of_more d (IsLooseHome c.begin.new.self.sizes.blocks thin) (IsLooseHome m (thinned homes was)) old new
          (λ k home. thin_loose m was thin homes begins.next k (subst (λ b. IsLooseHome b thin k) size home)) w.run;
      asks = asks_wider d (IsCopiedHome c.begin.new.self.sizes.blocks thin) (IsDropped m was homes) old new
          (λ k there. (full, thin_moved m was thin homes begins.next k (subst (λ b. IsCopiedHome b thin k) size there))) w.asks;
      once = λ single. once_wider (IsCopiedHome c.begin.new.self.sizes.blocks thin) (IsDropped m was homes) (d.asked old) (d.asked new)
          (λ k there. (full, thin_moved m was thin homes begins.next k (subst (λ b. IsCopiedHome b thin k) size there)))
          (w.once (subst (λ b. IsSingle b thin) (sym size) (thin_single m was thin homes begins.next single)));
      failed = λ is. c.in_err-copy_home.ensures.failed refl;
      calm = search rules;
    }

pub returns-in_ok-copy_home : goal.returns-in_ok-copy_home
returns-in_ok-copy_home g c =
    let d = g.D.SectorDisk in
    let m = c.args.self.now.sizes.blocks in
    let was = entries_of c.args.self.now.map in
    let homes = c.args.homes.now in
    let begins = c.begin.ensures in
    let thin = entries_of c.begin.new.self.next in
    let old = c.args.disk.now in
    let new = c.copy_home.new.disk in
    let size = ap (λ s. s.blocks) begins.sizes in
    let full = thin_full m was thin homes begins.next (sym begins.full_is ∙ c.if-begin.true) in
    let w = c.in_ok-copy_home.ensures in
    record {
      thins = λ keeps. copied m was (entries_of c.clear.new.self) homes (d.content old) (d.content new) c.clear.ensures.empty
          (λ h slot is i below. subst (λ b. HoldsHomes b thin (d.content old) (d.content new)) size (w.done keeps) h i slot (alike m was thin homes begins.next h ∙ is) below);
      keeps_slots = λ body r. inr (c.clear.ensures.empty body r);
      homes_are = λ body r. omega (arith, c.clear.ensures.empty body r);
      new_homes = λ body r j inside names. omega (arith, names, c.clear.ensures.empty body r);
      single = λ single a b r s low below same. inl (c.clear.ensures.empty a r);
      room = λ few. (let none = none_live m (entries_of c.clear.new.self) c.clear.ensures.empty in omega (arith, none, few));
      changes = record {
        is = record {
          sized = begins.is.sized;
          map = begins.is.map;
          next = c.clear.ensures.size _ begins.is.next;
          homes = begins.is.homes;
          counted = begins.is.counted;
          room = begins.is.room;
        };
        sizes = begins.sizes;
        second = begins.second;
        map = begins.map;
        free = begins.free;
      };
      run = of_more d (IsLooseHome c.begin.new.self.sizes.blocks thin) (IsLooseHome m (thinned homes was)) old new
          (λ k home. thin_loose m was thin homes begins.next k (subst (λ b. IsLooseHome b thin k) size home)) w.run;
      asks = asks_wider d (IsCopiedHome c.begin.new.self.sizes.blocks thin) (IsDropped m was homes) old new
          (λ k there. (full, thin_moved m was thin homes begins.next k (subst (λ b. IsCopiedHome b thin k) size there))) w.asks;
      once = λ single. once_wider (IsCopiedHome c.begin.new.self.sizes.blocks thin) (IsDropped m was homes) (d.asked old) (d.asked new)
          (λ k there. (full, thin_moved m was thin homes begins.next k (subst (λ b. IsCopiedHome b thin k) size there)))
          (w.once (subst (λ b. IsSingle b thin) (sym size) (thin_single m was thin homes begins.next single)));
      failed = λ is. cc;
      calm = w.calm;
    }

pub returns-else-begin : goal.returns-else-begin
returns-else-begin g c =
    let d = g.D.SectorDisk in
    let m = c.args.self.now.sizes.blocks in
    let was = entries_of c.args.self.now.map in
    let homes = c.args.homes.now in
    let begins = c.begin.ensures in
    let thin = entries_of c.begin.new.self.next in
    let disk = c.args.disk.now in
    record {
      thins = λ keeps. kept m was thin homes (d.content disk) (d.content disk) begins.next;
      keeps_slots = λ body r. thin_either m was thin homes begins.next body r;
      homes_are = λ body r. (let most = but_most homes (was body r) in omega (arith, most, begins.next body r, c.requires.is.homes body r));
      new_homes = none_had homes was thin begins.next;
      single = thin_single m was thin homes begins.next;
      room = λ few. not_full (504 * m) _ (sym begins.full_is ∙ c.if-begin.false);
      changes = record { is = begins.is; sizes = begins.sizes; second = begins.second; map = begins.map; free = begins.free };
      run = search rules;
      asks = asks_none d (IsDropped m was homes) disk disk (λ k. refl);
      once = λ single. once_none (IsDropped m was homes) (d.asked disk) (d.asked disk) (λ k. refl);
      failed = λ is. cc;
      calm = refl;
    }
