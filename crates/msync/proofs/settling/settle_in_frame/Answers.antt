use Rattle.msync.proofs.{Beside.{same_beside}, Names.{inl, refl, ap, ◌∙◌, arith, File, place_of, is_touched, Picture, picture_of, is_data, Untouches, fit_untouched, all_placed}, Settled.{frames_cut, settles_framed}}
use Rattle.msync.proofs.settling.settle_in_frame.Goals as goal

pub change_leaves-requires-clause-inside : goal.change_leaves-requires-clause-inside
change_leaves-requires-clause-inside g c =
    let b : Picture g.M.Levels.mode = picture_of c.cut_tail.new.core in
    let same = frames_cut (picture_of c.args.core.now) b c.args.page c.args.frame.0 _ c.requires.fit c.requires.placed c.cut_tail.ensures.cuts (same_beside c.args.core.now c.cut_tail.new.core c.cut_tail.ensures.beside) in
    omega (arith, same, c.requires.there)

pub change_leaves-requires-clause-data : goal.change_leaves-requires-clause-data
change_leaves-requires-clause-data g c =
    let beside = same_beside c.args.core.now c.cut_tail.new.core c.cut_tail.ensures.beside in
    ap is_data (c.cut_tail.ensures.fit.places.cached (File c.args.page) c.args.frame.0 (beside.place (File c.args.page) ∙ c.requires.placed))

pub returns : goal.returns
returns g c =
    let x : Picture g.M.Levels.mode = picture_of c.change_leaves.new.core in
    let y : Picture g.M.Levels.mode = record x { place = place_of c.clean.new.self; touched = is_touched c.clean.new.self } in
    let cut = c.cut_tail.ensures.beside in
    let beside = same_beside c.args.core.now c.cut_tail.new.core cut in
    let changed = c.change_leaves.ensures in
    let u : Untouches x y (File c.args.page) = record {
      frames = refl;
      slots = refl;
      root = λ p. refl;
      at = λ p k. refl;
      page_of = λ m. refl;
      files = λ f. refl;
      place = all_placed c.change_leaves.new.core.cache c.clean.new.self (File c.args.page) c.clean.ensures.others c.clean.ensures.placed;
      now = c.clean.ensures.untouched;
      others = c.clean.ensures.others.touched;
    } in
    record {
      fit = fit_untouched x y (File c.args.page) c.args.frame.0 changed.fit u
          (changed.changes.beside.place (File c.args.page) ∙ beside.place (File c.args.page) ∙ c.requires.placed) changed.clear;
      beside = record {
        store = changed.beside.store ∙ cut.store;
        pages = ap (λ s. s.pages) (changed.beside.swap ∙ cut.swap);
        roots = changed.beside.roots ∙ cut.roots;
        regions = changed.beside.regions ∙ cut.regions;
        page_of = changed.beside.page_of ∙ cut.page_of;
        clock = changed.beside.clock ∙ cut.clock;
        refused = changed.beside.refused ∙ cut.refused;
      };
      swap = inl (changed.beside.swap ∙ cut.swap);
      settles = settles_framed (picture_of c.args.core.now) (picture_of c.cut_tail.new.core) x y c.args.page c.args.frame.0 _ c.requires.fit c.cut_tail.ensures.fit changed.fit c.requires.placed c.requires.there
          c.cut_tail.ensures.cuts beside changed.changes u refl;
    }
