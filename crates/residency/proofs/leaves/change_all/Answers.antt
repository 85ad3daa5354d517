use Rattle.residency.{proofs.{LeafSteps.{entries_none, entries_then, still_clear, over_number, kinds_kept}, Names.{ℕ, inl, inr, subst, arith, cases_eq}}, specs.{Leaves.{IsOver}, Picture.{picture_of}}}
use Rattle.residency.proofs.leaves.change_all.Goals as goal

pub loop-pid-init : goal.loop-pid-init
loop-pid-init g c = record {
  entries = entries_none c.args.search.now.change c.args.search.now.frame.0 c.args.core.now c.requires.has.fit;
  clear = λ q k less h over. (let n = over_number (picture_of c.args.core.now) c.args.search.now.change c.args.search.now.frame.0 q k c.requires.has.fit over in omega (arith, less, n.0));
}

pub loop-pid-preserved : goal.loop-pid-preserved
loop-pid-preserved g c =
    let b = c.loop-pid.core in
    let d = c.change_of.new.core in
    let kept = c.loop-pid.invariant in
    let done = c.change_of.ensures in
    record {
      entries = entries_then c.args.search.now.change c.args.search.now.frame.0 c.args.core.now c.loop-pid.core c.change_of.new.core kept.entries done.entries;
      clear = λ q k less h over. elim (cases_eq q c.loop-pid.pid) [
        | inl e ↦ (let P : ℕ → Type 0 = λ x. IsOver (picture_of d) c.args.search.now.change c.args.search.now.frame.0 x k in done.clear k h (subst P e over))
        | inr ne ↦ still_clear c.args.search.now.change c.args.search.now.frame.0 q k (picture_of b) (picture_of d) done.changes h (kept.clear q k (omega (arith, less, ne)) h) over
      ];
    }

pub returns : goal.returns
returns g c =
    let kept = c.loop-pid.invariant in
    record {
      clear = λ pid page h over. (
          let n = over_number (picture_of c.loop-pid.core) c.args.search.now.change c.args.search.now.frame.0 pid page kept.entries.fit over in
          kept.clear pid page (omega (arith, n.1, c.loop-pid-test.false)) h over);
      above = c.args.search.now.above;
      entries = kept.entries;
    }

pub change_of-requires-clause-among : goal.change_of-requires-clause-among
change_of-requires-clause-among g c = record {
  fit = c.loop-pid.invariant.entries.fit;
  roots = kinds_kept c.args.search.now.change c.args.search.now.frame.0 c.kinds_of-kinds.result (picture_of c.args.core.now) (picture_of c.loop-pid.core) c.loop-pid.invariant.entries.changes c.kinds_of-kinds.ensures;
}
