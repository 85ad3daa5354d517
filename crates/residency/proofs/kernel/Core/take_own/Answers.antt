use Rattle.residency.proofs.Names.{◌≡◌, sym, ◌<◌, length, refl, ◌∙◌, arith, get_or-set_same, get_or-set_other, ℕ, rules, Table, Private}
use Rattle.residency.{specs.{Picture.{picture_of}, Ages.{WantsFrame}}, proofs.{Asking.{needed_of, wants_tried}, Obtained.{entries_on, given, given_on, seeks_on, seeks_stall}}}
use Rattle.regions.proofs.ResultLemmas.{on_err}
use Rattle.residency.proofs.kernel.Core.take_own.Goals as goal

pub returns : goal.returns
returns g c =
    let own = c.in-Ok.own in
    let items = c.obtain.new.core.page_of.items in
    let got = c.in_ok-obtain.ensures in
    let takes = c.in-Ok.ensures.taken in
    let there : own.0 < length items = (let pages = c.obtain.new.core.page_count in let low = takes.inside in omega (arith, pages, low)) in
    record {
      taken = record {
        found = picture_of c.obtain.new.core;
        fit = got.fit;
        frees = got.frees;
        gives = given got own takes.inside takes.was_free;
        needed = needed_of c.args.self.now c.obtain.new.core got.needed;
        own = search (rules, get_or-set_other, get_or-set_same items own.0 c.get.result 0 there ∙ c.get.ensures.number);
      };
      seeks = seeks_on got own takes.inside takes.was_free _ refl refl (record { store = refl; roots = refl; regions = refl }) refl refl
          (entries_on got own takes.inside takes.was_free _ takes.others (λ t. (let bad : Private ≡ Table = sym takes.kind_set ∙ t in (cc))) (λ pid. refl))
          (given_on got own takes.inside takes.was_free _ takes.others (λ t. (let bad : Private ≡ Table = sym takes.kind_set ∙ t in (cc))) (λ pid. refl));
      fit = tt;
      frees = tt;
      tried = tt;
    }

pub returns-in_err-obtain : goal.returns-in_err-obtain
returns-in_err-obtain g c =
    let got = c.in_err-obtain.ensures in
    let old = c.args.self.now in
    let new = c.obtain.new.core in
    record {
      taken = search rules;
      seeks = seeks_stall c.from_residual.result c.from_residual.ensures.1 got;
      fit = on_err c.from_residual.result _ got.fit;
      frees = on_err c.from_residual.result _ got.frees;
      tried = on_err c.from_residual.result ((v : ℕ) × WantsFrame (picture_of old) (picture_of new) v) (wants_tried old new got.needed got.full got.tried);
    }
