use Rattle.residency.proofs.Names.{◌≡◌, ◌<◌, None, refl, sym, ap, ◌∙◌, subst, arith, rules, Free, Table, Private, Cache, with_bytes-same, slots_of, IsSectorOfSlot, Home, Frame, Slot}
use Rattle.residency.{specs.{Picture.{Picture, picture_of}, Calls.{UsesDevice}, Capacity.{IsShort}, Views.{ChoosesByClock}}, proofs.{Asking.{asks_between, also_asked, one_also}, BroughtIn.{frames_written}}}
use Rattle.residency.proofs.{Obtained.{aged_on, also_on, chosen, clock_on, comes_back, comes_taken, comes_stall, device_read, entries_on, given_back, given_on, seeks_stall}, Returning.{leaves_slot, all_spent}}
use Rattle.residency.proofs.kernel.Core.bring_back.Goals as goal

pub returns-in-Ok-get : goal.returns-in-Ok-get
returns-in-Ok-get g c =
    let mid : Picture g.M.Levels.mode = picture_of c.obtain.new.core in
    let got = c.in_ok-obtain.ensures in
    let frame = c.in-Ok.frame in
    let takes = c.in-Ok.ensures.taken in
    let page = c.args.page in
    let slot = c.args.slot in
    let there = got.frees.slotted page slot.0 c.requires.there in
    let written = frames_written c.obtain.new.core.frames c.take.new.self frame.0 c.get.new.to takes in
    let asks = asks_between g.E.SectorDisk (IsSectorOfSlot slot.0) c.obtain.new.core.swap c.obtain.new.core.swap c.get.new.self c.release.new.self refl c.release.ensures.pages c.get.ensures.asks in
    let used = device_read got c.get.new.self.pages.disk c.get.ensures.size c.get.ensures.kept c.get.ensures.cause.later in
    record {
      same = λ keeps. (
          let was = c.requires.fit.places.slotted page slot.0 c.requires.there in
          let P : _ → Type 0 = λ pages. g.E.SectorDisk.keeps_model pages.disk in
          with_bytes-same c.take.new.self frame.0 c.get.new.to (let e = takes.others.frames in let inside = takes.inside in omega (arith, e, inside))
          ∙ c.in-Ok-get.ensures.gives (subst P c.release.ensures.pages keeps)
          ∙ (got.frees.slots slot.0 (omega (arith, was))).0);
      comes = comes_taken got frame takes.inside takes.was_free _ page takes written takes.kind_set
          (leaves_slot mid _ page slot.0 (slots_of c.get.new.self) there c.get.ensures.same c.release.ensures.releases (got.fit.places.slotted page slot.0 there))
          (λ m at. (let bad : Slot slot ≡ Frame (record { 0 = m }) = sym there ∙ at in (cc)))
          (got.fit.places.inside page (λ home. (let bad : Slot slot ≡ Home = sym there ∙ home in (cc))))
          c.set_place.ensures.placed c.set_place.ensures.touched c.set_place.ensures.others (λ pid. refl) (λ pid k. refl) (λ m. refl) (λ f. refl);
      rest = record { store = got.rest.store; roots = got.rest.roots; regions = got.rest.regions };
      clock = clock_on got frame takes.inside takes.was_free _ refl refl;
      aged = aged_on got frame takes.inside takes.was_free _ (entries_on got frame takes.inside takes.was_free _ written (λ t. (let bad : Cache ≡ Table = sym takes.kind_set ∙ t in (cc))) (λ pid. refl));
      asked = also_on got frame takes.inside takes.was_free _ (IsSectorOfSlot slot.0)
          (given_on got frame takes.inside takes.was_free _ written (λ t. (let bad : Cache ≡ Table = sym takes.kind_set ∙ t in (cc))) (λ pid. refl)) asks;
      uses = record { swap = search rules; device = subst (λ p. UsesDevice g.E.SectorDisk c.args.self.now.swap.pages.disk p.disk) (sym c.release.ensures.pages) used; one = one_also g.E.SectorDisk c.args.self.now c.obtain.new.core c.release.new.self (IsSectorOfSlot slot.0) got.one asks };
      refused = record { refuses = tt; short = tt; cause = (got.cause.0, ap (λ p. g.E.SectorDisk.failures p.disk) c.release.ensures.pages ∙ c.in-Ok-get.ensures.cause.calm ∙ got.cause.1) };
    }

pub returns-in-Err : goal.returns-in-Err
unfolding IsShort
returns-in-Err g c =
    let mid : Picture g.M.Levels.mode = picture_of c.obtain.new.core in
    let got = c.in_ok-obtain.ensures in
    let frame = c.in-Ok.frame in
    let takes = c.in-Ok.ensures.taken in
    let spent = all_spent mid c.take.new.self c.release-in-Err.new.self (slots_of c.get.new.self) mid.files frame.0 c.get.new.to takes c.release-in-Err.ensures.change c.get.ensures.same (λ f. refl) in
    let freed = c.release-in-Err.ensures.alone (λ own. (let bad : Cache ≡ Private = sym takes.kind_set ∙ own in (cc))) in
    let used = device_read got c.get.new.self.pages.disk c.get.ensures.size c.get.ensures.kept c.get.ensures.cause.later in
    record {
      same = λ keeps. tt;
      comes = comes_back got frame takes.inside takes.was_free _ c.args.page _ spent freed;
      rest = record { store = got.rest.store; roots = got.rest.roots; regions = got.rest.regions };
      clock = record { stands = got.stands; turns = λ full. (frame, chosen got frame takes.inside takes.was_free full); looks = got.looks };
      aged = λ full. tt;
      asked = also_on got frame takes.inside takes.was_free _ (IsSectorOfSlot c.args.slot.0) (given_back got frame takes.inside takes.was_free _ spent freed) c.get.ensures.asks;
      uses = record { swap = c.get.ensures.ready; device = used; one = tt };
      refused = record { refuses = tt; short = tt; cause = (got.cause.0, subst (λ n. n < g.E.SectorDisk.failures c.get.new.self.pages.disk) got.cause.1 (c.in-Err.ensures.cause.failed refl)) };
    }

pub returns-in_err-obtain : goal.returns-in_err-obtain
unfolding ChoosesByClock
returns-in_err-obtain g c =
    let got = c.in_err-obtain.ensures in
    let stalls = seeks_stall c.from_residual.result c.from_residual.ensures.1 got in
    search (
      rules,
      comes_stall c.args.page c.from_residual.result c.from_residual.ensures.1 got,
      stalls,
      also_asked g.E.SectorDisk c.args.self.now c.obtain.new.core None (IsSectorOfSlot c.args.slot.0) got.asked,
    )

pub release-requires : goal.release-requires
release-requires g c =
    let there = c.obtain.ensures.frees.slotted c.args.page c.args.slot.0 c.requires.there in
    let one = c.obtain.ensures.fit.places.slotted c.args.page c.args.slot.0 there in
    let same = ap (λ t. t.count c.args.slot.0) c.get.ensures.same in
    omega (arith, one, same)

pub get-requires-clause-in_use : goal.get-requires-clause-in_use
get-requires-clause-in_use g c =
    let there = c.obtain.ensures.frees.slotted c.args.page c.args.slot.0 c.requires.there in
    let one = c.obtain.ensures.fit.places.slotted c.args.page c.args.slot.0 there in
    omega (arith, one)

pub set_place-requires-clause-free : goal.set_place-requires-clause-free
set_place-requires-clause-free g c = λ p ne at. (let bad : Free ≡ Cache = sym c.in-Ok.ensures.taken.was_free ∙ c.obtain.ensures.fit.places.cached p c.in-Ok.frame.0 at in (cc))
