use Rattle.residency.proofs.Names.{◌≡◌, refl, sym, ◌∙◌, rules, Object, zero_page, Free, Table, Cache, zero_bytes, Home, Frame}
use Rattle.residency.{specs.Picture.{Picture, picture_of}, proofs.{Obtained.{comes_taken, comes_stall, entries_on, given_on, seeks_on, seeks_stall}, Places.{named-same}, Returning.{leaves_none}}}
use Rattle.residency.proofs.kernel.Core.bring_blank.Goals as goal

zeros_alike : zero_bytes ≡ zero_page
unfolding zero_bytes zero_page
zeros_alike = refl

pub returns : goal.returns
returns g c =
    let mid : Picture g.M.Levels.mode = picture_of c.obtain.new.core in
    let got = c.in_ok-obtain.ensures in
    let frame = c.in-Ok.frame in
    let takes = c.in-Ok.ensures.taken in
    let page = Object c.args.page in
    let home = got.frees.home page c.requires.home in
    record {
      blank = takes.zeros ∙ zeros_alike;
      comes = comes_taken got frame takes.inside takes.was_free _ page takes takes.others takes.kind_set
          (leaves_none mid _ page home refl)
          (λ m at. (let bad : Home ≡ Frame (record { 0 = m }) = sym home ∙ at in (cc)))
          (named-same (picture_of c.args.self.now).at mid.at c.args.page.object c.args.page.page got.frees.pages.at ∙ c.requires.named)
          c.set_place.ensures.placed c.set_place.ensures.touched c.set_place.ensures.others (λ pid. refl) (λ pid k. refl) (λ m. refl) (λ f. refl);
      seeks = seeks_on got frame takes.inside takes.was_free _ refl refl (record { store = refl; roots = refl; regions = refl }) refl refl
          (entries_on got frame takes.inside takes.was_free _ takes.others (λ t. (let bad : Cache ≡ Table = sym takes.kind_set ∙ t in (cc))) (λ pid. refl))
          (given_on got frame takes.inside takes.was_free _ takes.others (λ t. (let bad : Cache ≡ Table = sym takes.kind_set ∙ t in (cc))) (λ pid. refl));
    }

pub returns-in_err-obtain : goal.returns-in_err-obtain
returns-in_err-obtain g c =
    let got = c.in_err-obtain.ensures in
    record {
      blank = search rules;
      comes = comes_stall (Object c.args.page) c.from_residual.result c.from_residual.ensures.1 got;
      seeks = seeks_stall c.from_residual.result c.from_residual.ensures.1 got;
    }

pub set_place-requires-clause-free : goal.set_place-requires-clause-free
set_place-requires-clause-free g c = λ p ne at. (let bad : Free ≡ Cache = sym c.in-Ok.ensures.taken.was_free ∙ c.obtain.ensures.fit.places.cached p c.in-Ok.frame.0 at in (cc))
