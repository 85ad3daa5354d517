use Rattle.std.proofs.Common.{◌≡◌, Bool, true, false, ◌||◌, refl, sym, ap, ◌∙◌}
use Rattle.vm_types.specs.declared.object.PageKey.{TheVariants.{File}}
use Rattle.page_cache.specs.CacheTable.{is_touched, place_of}
use Rattle.residency.{proofs.Cleaning.{all_placed}, specs.Picture.{Picture, picture_of}}
use Rattle.fault.proofs.Settling.{fit_marked}
use Rattle.truncation.proofs.resizing.cut_page.Goals as goal

or_true : (b c : Bool) → c ≡ true → (b || c) ≡ true
or_true true c is = refl
or_true false c is = is

or_false : (b c : Bool) → c ≡ false → (b || c) ≡ b
or_false true c is = refl
or_false false c is = is

pub returns-then-touches : goal.returns-then-touches
returns-then-touches g c =
    let x : Picture g.M.Levels.mode = picture_of c.cut_frame.new.core in
    let y : Picture g.M.Levels.mode = record x { place = place_of c.mark_dirty.new.self; touched = is_touched c.mark_dirty.new.self } in
    let cut = c.cut_frame.ensures.beside in
    let key = File c.args.page in
    let marks = c.mark_dirty.ensures in
    let place = all_placed c.cut_frame.new.core.cache c.mark_dirty.new.self key marks.others marks.placed in
    record {
      found = c.cached.new.core;
      frame = c.in_ok-frame.frame;
      brings = c.in_ok-frame.ensures.pages_in;
      idle = λ n at. (c.in_ok-frame.ensures.idle n at).0;
      cuts = record {
        frames = c.cut_frame.ensures.cuts;
        touched = marks.touched ∙ sym (or_true _ c.args.touches c.if-touches.true);
        others = λ p ne. marks.others.touched p ne ∙ ap (λ t. is_touched t p) cut.cache;
        place = λ p. place p ∙ ap (λ t. place_of t p) cut.cache;
        store = cut.store;
        swap = cut.swap;
        roots = cut.roots;
        regions = cut.regions;
        page_of = cut.page_of;
        refused = cut.refused;
      };
      fit = fit_marked x y key c.in_ok-frame.frame.0 refl refl (λ q. refl) (λ q k. refl) (λ n. refl) place marks.touched marks.others.touched (λ f. refl)
          (ap (λ t. place_of t key) cut.cache ∙ c.in_ok-frame.ensures.pages_in.placed) c.cut_frame.ensures.fit;
    }

pub returns-else-touches : goal.returns-else-touches
returns-else-touches g c =
    let cut = c.cut_frame.ensures.beside in
    record {
      found = c.cached.new.core;
      frame = c.in_ok-frame.frame;
      brings = c.in_ok-frame.ensures.pages_in;
      idle = λ n at. (c.in_ok-frame.ensures.idle n at).0;
      cuts = record {
        frames = c.cut_frame.ensures.cuts;
        touched = ap (λ t. is_touched t (File c.args.page)) cut.cache ∙ sym (or_false _ c.args.touches c.if-touches.false);
        others = λ p ne. ap (λ t. is_touched t p) cut.cache;
        place = λ p. ap (λ t. place_of t p) cut.cache;
        store = cut.store;
        swap = cut.swap;
        roots = cut.roots;
        regions = cut.regions;
        page_of = cut.page_of;
        refused = cut.refused;
      };
      fit = c.cut_frame.ensures.fit;
    }
