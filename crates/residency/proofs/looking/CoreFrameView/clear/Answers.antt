use Rattle.residency.{proofs.{Giving.{marks_then}, Names.{subst, sym, ◌∙◌, arith}, Sparing.{cleared_frees, frees_then}}, specs.{Calls.{Frees}, Picture.{picture_of}}}
use Rattle.residency.proofs.looking.CoreFrameView.clear.Goals as goal

pub returns-clause-follows : goal.returns-clause-follows
returns-clause-follows g c =
    let v = c.args.self.now in
    let old = picture_of v in
    let new = picture_of c.change_leaves.new.core in
    let done = c.change_leaves.ensures in
    record {
      kept = done.beside.keep;
      frees = λ s f. subst (λ k. Frees s new k) (sym done.beside.keep) (frees_then s old new v.keep f (cleared_frees c.args.n old new v.keep c.requires.open done.changes (λ e. (let a = done.above in omega (arith, a, e))) c.requires.evictable.0.1));
      marks = λ s f. marks_then s old new c.args.n f done.changes;
      full = λ full n inside free. full n (let k = done.changes.frames in omega (arith, k, inside)) (sym (done.changes.roles n) ∙ free);
      looked = record { store = done.beside.store; swap = done.beside.swap; cache = done.beside.cache; roots = done.beside.roots; regions = done.beside.regions; refused = done.beside.refused };
    }
