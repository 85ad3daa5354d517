use Rattle.residency.proofs.{Asking.{asks_store, once_store, once_unasked, reads_none, reads_store, same_directory}, BroughtIn.{frames_written}, Names.{◌≡◌, ◌<◌, refl, sym, ap, ◌∙◌, subst, ℕ, arith, rules, File, with_bytes-same, AreBounded}}
use Rattle.residency.proofs.{Names.{disk_of, files_in, files_of, Free, Table, Private, Cache, Home, Frame}, Obtained.{aged_on, asked_on, chosen, clock_on, comes_back, comes_taken, comes_stall, entries_on, given_back, given_on, reads_stall, seeks_stall}}
use Rattle.residency.{proofs.Returning.{leaves_none, all_spent}, specs.{Capacity.{IsShort}, Picture.{Picture, picture_of}, Reading.{page_at_home}, Views.{ChoosesByClock}}}
use Rattle.residency.proofs.kernel.Core.bring_in.Goals as goal

pub returns-in-Ok-read_page : goal.returns-in-Ok-read_page
returns-in-Ok-read_page g c =
    let mid : Picture g.M.Levels.mode = picture_of c.obtain.new.core in
    let got = c.in_ok-obtain.ensures in
    let frame = c.in-Ok.frame in
    let takes = c.in-Ok.ensures.taken in
    let page = File c.args.page in
    let home = got.frees.home page c.requires.home in
    let written = frames_written c.obtain.new.core.frames c.take.new.self frame.0 c.read_page.new.to takes in
    let once = once_store g.D.SectorDisk c.args.page c.args.self.now.store c.obtain.new.core.store c.read_page.new.self got.rest.store c.read_page.ensures.once in
    record {
      read = λ keeps. with_bytes-same c.take.new.self frame.0 c.read_page.new.to (let e = takes.others.frames in let inside = takes.inside in omega (arith, e, inside))
          ∙ c.in-Ok-read_page.ensures.page keeps ∙ ap (λ s. page_at_home g.D.SectorDisk s c.args.page) got.rest.store;
      comes = comes_taken got frame takes.inside takes.was_free _ page takes written takes.kind_set
          (leaves_none mid _ page home refl)
          (λ m at. (let bad : Home ≡ Frame (record { 0 = m }) = sym home ∙ at in (cc)))
          ((c.requires.inside.0, got.frees.pages.files.files c.args.page.file ∙ c.requires.inside.1, c.requires.inside.2))
          c.set_place.ensures.placed c.set_place.ensures.touched c.set_place.ensures.others (λ pid. refl) (λ pid k. refl) (λ m. refl) (λ f. ap (λ d. files_in d f) (same_directory g.D.SectorDisk c.args.page c.obtain.new.core.store c.read_page.new.self c.in-Ok-read_page.ensures));
      rest = record { roots = got.rest.roots; regions = got.rest.regions };
      clock = clock_on got frame takes.inside takes.was_free _ refl refl;
      aged = aged_on got frame takes.inside takes.was_free _ (entries_on got frame takes.inside takes.was_free _ written (λ t. (let bad : Cache ≡ Table = sym takes.kind_set ∙ t in (cc))) (λ pid. refl));
      store = c.read_page.ensures.ready;
      asks = asks_store g.D.SectorDisk c.args.page c.args.self.now.store c.read_page.new.self once;
      once = once;
      reads = reads_store g.D.SectorDisk c.args.page c.args.self.now.store c.obtain.new.core.store c.read_page.new.self got.rest.store c.read_page.ensures;
      asked = asked_on got frame takes.inside takes.was_free _ refl (given_on got frame takes.inside takes.was_free _ written (λ t. (let bad : Cache ≡ Table = sym takes.kind_set ∙ t in (cc))) (λ pid. refl));
      uses = record { swap = got.swap; device = got.device; one = got.one };
      refuses = tt;
      unread = tt;
      short = tt;
      cause = (got.cause.0, c.in-Ok-read_page.ensures.cause.calm ∙ ap (λ s. g.D.SectorDisk.failures (disk_of s)) got.rest.store, got.cause.1);
    }

pub returns-in-Err : goal.returns-in-Err
unfolding IsShort
returns-in-Err g c =
    let mid : Picture g.M.Levels.mode = picture_of c.obtain.new.core in
    let got = c.in_ok-obtain.ensures in
    let frame = c.in-Ok.frame in
    let takes = c.in-Ok.ensures.taken in
    let spent = all_spent mid c.take.new.self c.release.new.self mid.slots (files_of c.read_page.new.self) frame.0 c.read_page.new.to takes c.release.ensures.change refl (λ f. ap (λ d. files_in d f) (same_directory g.D.SectorDisk c.args.page c.obtain.new.core.store c.read_page.new.self c.in-Err.ensures)) in
    let freed = c.release.ensures.alone (λ own. (let bad : Cache ≡ Private = sym takes.kind_set ∙ own in (cc))) in
    let once = once_store g.D.SectorDisk c.args.page c.args.self.now.store c.obtain.new.core.store c.read_page.new.self got.rest.store c.read_page.ensures.once in
    record {
      read = tt;
      comes = comes_back got frame takes.inside takes.was_free _ (File c.args.page) _ spent freed;
      rest = record { roots = got.rest.roots; regions = got.rest.regions };
      clock = record { stands = got.stands; turns = λ full. (frame, chosen got frame takes.inside takes.was_free full); looks = got.looks };
      aged = λ full. tt;
      store = c.read_page.ensures.ready;
      asks = asks_store g.D.SectorDisk c.args.page c.args.self.now.store c.read_page.new.self once;
      once = once;
      reads = reads_store g.D.SectorDisk c.args.page c.args.self.now.store c.obtain.new.core.store c.read_page.new.self got.rest.store c.read_page.ensures;
      asked = asked_on got frame takes.inside takes.was_free _ refl (given_back got frame takes.inside takes.was_free _ spent freed);
      uses = record { swap = got.swap; device = got.device; one = tt };
      refuses = λ other. other refl;
      unread = λ other. absurd (other refl);
      short = tt;
      cause = (got.cause.0, subst (λ s. g.D.SectorDisk.failures (disk_of s) < g.D.SectorDisk.failures (disk_of c.read_page.new.self)) got.rest.store (c.in-Err.ensures.cause.failed refl), got.cause.1);
    }

pub returns-in_err-obtain : goal.returns-in_err-obtain
unfolding ChoosesByClock
returns-in_err-obtain g c =
    let got = c.in_err-obtain.ensures in
    let stalls = seeks_stall c.from_residual.result c.from_residual.ensures.1 got in
    let once = once_unasked g.D.SectorDisk c.args.page c.args.self.now.store c.obtain.new.core.store got.rest.store in
    search (
      rules,
      comes_stall (File c.args.page) c.from_residual.result c.from_residual.ensures.1 got,
      once,
      asks_store g.D.SectorDisk c.args.page c.args.self.now.store c.obtain.new.core.store once,
      reads_none g.D.SectorDisk c.args.page c.args.self.now.store c.obtain.new.core.store got.rest.store,
      stalls,
      reads_stall g.D.SectorDisk c.from_residual.result c.from_residual.ensures.1 got,
    )

pub set_place-requires-clause-free : goal.set_place-requires-clause-free
set_place-requires-clause-free g c = λ p ne at. (let bad : Free ≡ Cache = sym c.in-Ok.ensures.taken.was_free ∙ c.obtain.ensures.fit.places.cached p c.in-Ok.frame.0 at in (cc))

pub invariant_of-self-clause-bounded : goal.invariant_of-self-clause-bounded
invariant_of-self-clause-bounded g c = subst (λ d. AreBounded (files_in d)) (sym (same_directory g.D.SectorDisk c.args.page c.obtain.new.core.store c.read_page.new.self c.in-Ok-read_page.ensures)) c.obtain.new.core.bounded

pub invariant_of-self-clause-page_count : goal.invariant_of-self-clause-page_count
invariant_of-self-clause-page_count g c = c.obtain.new.core.page_count ∙ sym (frames_written c.obtain.new.core.frames c.take.new.self c.in-Ok.frame.0 c.read_page.new.to c.in-Ok.ensures.taken).frames

pub invariant_of-self-clause-node_count : goal.invariant_of-self-clause-node_count
invariant_of-self-clause-node_count g c = c.set_place.ensures.others.frames ∙ c.obtain.new.core.node_count ∙ sym (frames_written c.obtain.new.core.frames c.take.new.self c.in-Ok.frame.0 c.read_page.new.to c.in-Ok.ensures.taken).frames

pub invariant_of-self-clause-hand_inside : goal.invariant_of-self-clause-hand_inside
invariant_of-self-clause-hand_inside g c = subst (λ (n : ℕ). c.obtain.new.core.clock.hand < n) (sym (frames_written c.obtain.new.core.frames c.take.new.self c.in-Ok.frame.0 c.read_page.new.to c.in-Ok.ensures.taken).frames) c.obtain.new.core.hand_inside

pub invariant_of-self-in-Err-clause-bounded : goal.invariant_of-self-in-Err-clause-bounded
invariant_of-self-in-Err-clause-bounded g c = subst (λ d. AreBounded (files_in d)) (sym (same_directory g.D.SectorDisk c.args.page c.obtain.new.core.store c.read_page.new.self c.in-Err.ensures)) c.obtain.new.core.bounded
