use Rattle.std.proofs.Common.{◌∙◌, ℕ, List, length, refl, sym, ap, subst, arith, rules}
use Rattle.disk_model.proofs.{Moments.{asks_once}, Naming.{once_wider}}
use Rattle.disk_model.specs.Stop.{NamesOnce}
use Rattle.pool_journal.proofs.{Free.{free_most}, Room.{are_slots, filled_loose, least}}
use Rattle.pool_journal.specs.{Filling.{AreSlots, IsFilled, HoldsSlots}, Giving.{AreApart, GivesFirst}, Maps.{entries_of}, Pools.{IsLooseSlot}, declared.slot.Slot.{Slot}}
use Rattle.sync_journal.{proofs.{Causes.{none_failed, told_on}, Runs.{of_more}}, specs.{Runs.{RunsOnDevice}, Source.{IsTold}}}
use Rattle.pool_journal.proofs.pool.PoolJournal.fill.Goals as goal

pub list-requires-clause-room : goal.list-requires-clause-room
list-requires-clause-room g c =
    let most = free_most c.args.self.now.sizes.blocks (entries_of c.args.self.now.map) in
    omega (arith, most, c.requires.few, c.requires.is.room)

pub write_pages-requires-clause-slots : goal.write_pages-requires-clause-slots
write_pages-requires-clause-slots g c =
    let m = c.args.self.now.sizes.blocks in
    let fits = c.requires.is.map in
    subst (AreSlots m) (sym c.deref.ensures.value) (are_slots m (entries_of c.args.self.now.map) c.list.new.self.slots.items (c.list.ensures.free m fits) (c.list.ensures.apart m fits))

pub returns-in_err-write_pages : goal.returns-in_err-write_pages
returns-in_err-write_pages g c =
    let d = g.D.SectorDisk in
    let m = c.args.self.now.sizes.blocks in
    let was = entries_of c.args.self.now.map in
    let slots = c.list.new.self.slots.items in
    let fits = c.requires.is.map in
    let old = c.args.disk.now in
    let new = c.write_pages.new.disk in
    let value = c.deref.ensures.value in
    let w = c.write_pages.ensures in
    let loose = filled_loose m was slots (c.list.ensures.free m fits) in
    let long = least _ _ _ (c.list.ensures.long m fits) c.requires.few in
    let once = subst (λ xs. NamesOnce (IsFilled m xs (length xs)) (d.asked old) (d.asked new)) value w.once in
    record {
      fills = record {
        body = search rules;
        once = once_wider (IsFilled m slots (length slots)) (IsLooseSlot m was) (d.asked old) (d.asked new) loose once;
        takes = record {
          run = of_more d (IsFilled m slots (length slots)) (IsLooseSlot m was) old new loose (subst (λ xs. RunsOnDevice d (IsFilled m xs (length xs)) old new) value w.run);
          asks = w.asks;
          causes = told_on _ _ _ _ _ _ c.from_residual.ensures.1 c.in_err-write_pages.ensures.causes;
        };
      };
      asks_slots = asks_once d (IsFilled m slots (length c.args.homes.now)) (IsFilled m slots (length slots)) old new (λ k at. subst (λ j. IsFilled m slots j k) long at) once;
      given = search rules;
      long = long;
      are = c.list.ensures.free m fits;
      apart = c.list.ensures.apart m fits;
      changes = record {
        is = record {
          sized = c.requires.is.sized;
          map = c.requires.is.map;
          next = c.requires.is.next;
          homes = c.requires.is.homes;
          counted = c.requires.is.counted;
          room = (let same = c.list.ensures.capacity in let room = c.requires.is.room in omega (arith, same, room));
        };
        sizes = refl;
        second = refl;
        map = refl;
        free = refl;
      };
    }

pub give_all-requires-clause-inside : goal.give_all-requires-clause-inside
give_all-requires-clause-inside g c =
    let m = c.args.self.now.sizes.blocks in
    let fits = c.requires.is.map in (
      m,
      c.requires.is.next,
      (subst (AreSlots m) (sym c.deref-2.ensures.value) (are_slots m (entries_of c.args.self.now.map) c.list.new.self.slots.items (c.list.ensures.free m fits) (c.list.ensures.apart m fits))).inside,
    )

pub give_all-requires-clause-apart : goal.give_all-requires-clause-apart
give_all-requires-clause-apart g c = subst AreApart (sym c.deref-2.ensures.value) (c.list.ensures.apart c.args.self.now.sizes.blocks c.requires.is.map)

pub give_all-requires-clause-long : goal.give_all-requires-clause-long
give_all-requires-clause-long g c = sym (ap (λ (xs : List Slot). length xs) c.deref-2.ensures.value ∙ least _ _ _ (c.list.ensures.long c.args.self.now.sizes.blocks c.requires.is.map) c.requires.few)

pub returns : goal.returns
returns g c =
    let d = g.D.SectorDisk in
    let s = g.S.PageSource in
    let m = c.args.self.now.sizes.blocks in
    let was = entries_of c.args.self.now.map in
    let homes = c.args.homes.now in
    let slots = c.list.new.self.slots.items in
    let fits = c.requires.is.map in
    let old = c.args.disk.now in
    let new = c.write_pages.new.disk in
    let value = c.deref.ensures.value in
    let w = c.in_ok-write_pages.ensures in
    let told : ℕ → Type 0 = IsTold s c.args.source.now c.write_pages.new.source in
    let loose = filled_loose m was slots (c.list.ensures.free m fits) in
    let long = least _ _ _ (c.list.ensures.long m fits) c.requires.few in
    let once = subst (λ xs. NamesOnce (IsFilled m xs (length xs)) (d.asked old) (d.asked new)) value w.once in
    record {
      fills = record {
        body = λ keeps. subst (λ k. HoldsSlots m slots k told (s.pages c.args.source.now) (d.content new)) long
            (subst (λ xs. HoldsSlots m xs (length xs) told (s.pages c.args.source.now) (d.content new)) value (w.body keeps));
        once = once_wider (IsFilled m slots (length slots)) (IsLooseSlot m was) (d.asked old) (d.asked new) loose once;
        takes = record {
          run = of_more d (IsFilled m slots (length slots)) (IsLooseSlot m was) old new loose (subst (λ xs. RunsOnDevice d (IsFilled m xs (length xs)) old new) value w.run);
          asks = w.asks;
          causes = none_failed _ _ _ _ w.causes.device_calm w.causes.source_calm;
        };
      };
      asks_slots = asks_once d (IsFilled m slots (length homes)) (IsFilled m slots (length slots)) old new (λ k at. subst (λ j. IsFilled m slots j k) long at) once;
      given = subst (λ k. GivesFirst k slots homes c.args.self.now.next c.give_all.new.map) long
          (subst (λ xs. GivesFirst (length xs) xs homes c.args.self.now.next c.give_all.new.map) c.deref-2.ensures.value c.give_all.ensures);
      long = long;
      are = c.list.ensures.free m fits;
      apart = c.list.ensures.apart m fits;
      changes = record {
        is = record {
          sized = c.requires.is.sized;
          map = c.requires.is.map;
          next = c.give_all.ensures.size m c.requires.is.next;
          homes = c.requires.is.homes;
          counted = c.requires.is.counted;
          room = (let same = c.list.ensures.capacity in let room = c.requires.is.room in omega (arith, same, room));
        };
        sizes = refl;
        second = refl;
        map = refl;
        free = refl;
      };
    }
