use Rattle.ranges.proofs.Names.{ℕ, inl, inr, false, get_or, sym, ◌∙◌, subst, arith, length-replicate, cases_eq, false≢true, named_limit, is_used, picture_of}
use Rattle.ranges.{specs.{Numbers.{IsUsedBy}, Rows.{without_maps}}, proofs.Marking.{least_same, used_same, clear_list, nobody}}
use Rattle.ranges.proofs.numbering.free_object.Goals as goal

pub loop-number-init : goal.loop-number-init
loop-number-init g c = record {
  room = length-replicate named_limit false;
  all = λ o q low from to is. absurd (omega (arith, from, to));
  only = λ o e. absurd (false≢true (sym (clear_list named_limit o) ∙ e));
}

pub loop-number-preserved : goal.loop-number-preserved
loop-number-preserved g c =
    let marks = c.mark_process.ensures.marks in
    let F = IsUsedBy (without_maps (picture_of c.args.core.now).at c.args.pid c.args.first c.args.pages) in
    record {
      room = marks.room ∙ c.loop-number.invariant.room;
      all = λ o q low from to is. elim (cases_eq q c.loop-number.number) [
        | inl same ↦ marks.all o low (subst (λ (r : ℕ). F r o) same is)
        | inr other ↦ marks.kept o (c.loop-number.invariant.all o q low from (omega (arith, to, other)) is)
      ];
      only = λ o e. elim (marks.only o e) [ inl before ↦ c.loop-number.invariant.only o before | inr is ↦ (c.loop-number.number, c.loop-number-test.true, is) ];
    }

pub returns : goal.returns
returns g c =
    let f = without_maps (picture_of c.args.core.now).at c.args.pid c.args.first c.args.pages in
    let xs = c.loop-number.used in
    c.first_free.ensures
    ∙ least_same (λ o. get_or xs o false) (is_used f) 0 named_limit (λ o low high. used_same f xs
    (λ o q low below is. elim (cases_eq q 0) [
      | inl zero ↦ absurd (nobody c.args.core.now c.requires.fit c.args.pid c.args.first c.args.pages o (subst (λ (r : ℕ). IsUsedBy f r o) zero is))
      | inr some ↦ c.loop-number.invariant.all o q low (omega (arith, some)) (omega (arith, below, c.loop-number-test.false)) is
    ])
    c.loop-number.invariant.only o high)
