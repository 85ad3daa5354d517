use Rattle.ranges.proofs.{Gaps.{no_whole, no_entry}, Names.{same_Some, top_level, ℕ, ◌/◌, inl, inr, refl, sym, ap, ◌∙◌, subst, arith, cases_lt, min, IsTableOf, Picture, picture_of}}
use Rattle.ranges.proofs.rows.next_linked.Goals as goal

pub linked_table-requires-clause-root : goal.linked_table-requires-clause-root
linked_table-requires-clause-root g c = c.requires.rooted.roots c.args.pid c.root_of-root.result.0 c.root_of-root.ensures

pub loop-at-init : goal.loop-at-init
loop-at-init g c = record { from = omega (arith, c.get-at.ensures.number); passed = λ p from below. absurd (omega (arith, c.get-at.ensures.number, from, below)) }

pub loop-at-preserved : goal.loop-at-preserved
loop-at-preserved g c =
    let k = c.loop-at.invariant in
    record {
      from = omega (arith, k.from, c.in-Err.ensures.further, c.user_page-first.ensures);
      passed = λ p from below. elim (cases_lt p c.loop-at.at) [
        | inl front ↦ k.passed p from front
        | inr back ↦ c.in-Err.ensures.passed p (omega (arith, c.user_page-first.ensures, back)) below
      ];
    }

pub returns-in-Ok : goal.returns-in-Ok
returns-in-Ok g c =
    let old : Picture g.M.Levels.mode = picture_of c.args.core.now in
    let r = c.root_of-root.result.0 in
    let is = c.user_page-first.ensures in
    let first = c.user_page-first.result in
    record {
      none = tt;
      some = record {
        linked = record {
          further = omega (arith, c.min-end.ensures, c.table_end.ensures, is, c.loop-at-test.true);
          high = omega (arith, c.min-end.ensures, c.requires.row.high);
          one_table = omega (arith, c.min-end.ensures, c.table_end.ensures);
          table = λ r' root. subst (λ (x : ℕ). IsTableOf old.frames (top_level g.M.Levels.mode) x (first / 512) c.in-Ok.table.0)
              (same_Some r r' (sym c.root_of-root.ensures ∙ root)) c.in-Ok.ensures.linked;
        };
        of = refl;
        ends = c.min-end.ensures ∙ ap (min c.args.end) c.table_end.ensures;
        from = omega (arith, c.loop-at.invariant.from, is);
        unlinked = record {
          passed = λ p from below. no_whole old c.args.pid r c.root_of-root.ensures p (c.loop-at.invariant.passed p from (omega (arith, is, below)));
          gap = λ p from below. no_entry old c.args.pid r c.root_of-root.ensures p (c.loop-at.invariant.passed p from (omega (arith, is, below)));
        };
      };
    }

pub returns : goal.returns
returns g c =
    let old : Picture g.M.Levels.mode = picture_of c.args.core.now in
    let r = c.root_of-root.result.0 in
    record {
      none = record {
        passed = λ p from below. no_whole old c.args.pid r c.root_of-root.ensures p (c.loop-at.invariant.passed p from (omega (arith, c.loop-at-test.false, below)));
        gap = λ p from below. no_entry old c.args.pid r c.root_of-root.ensures p (c.loop-at.invariant.passed p from (omega (arith, c.loop-at-test.false, below)));
      };
      some = tt;
    }
