use Rattle.ranges.proofs.Names.{top_level, names, sizes, user_pages_fit, ◌≤◌, inl, inr, sym, ap, ◌∙◌, rules, arith, cases_lt, false≢true, IsPage}
use Rattle.ranges.proofs.Names.{Picture, picture_of}
use Rattle.ranges.{proofs.{Emptied.{in_row_from}, LastName.{same_without, last_there, more_last, home_last, looked_at, forgets_row}}}
use Rattle.ranges.proofs.forgetting.forget_pages.Goals as goal

pub loop-named-preserved : goal.loop-named-preserved
loop-named-preserved g c =
    let a : Picture g.M.Levels.mode = picture_of c.args.core.now in
    let b : Picture g.M.Levels.mode = picture_of c.loop-named.core in
    let k = c.loop-named.invariant in
    let n = c.in-Some.named in
    let next = c.in-Some.ensures.some in
    let late : c.args.first ≤ n.at = (let x = k.low in let y = next.from in omega (arith, x, y)) in
    let next_page = c.get-from.ensures.number in
    let last = last_there c.loop-named.core c.forget_there.new.core c.args.pid c.args.first c.args.pages n.at n.page k.fit.granting.objects c.requires.row.row late next.within next.here c.forget_there.ensures.there in
    let on = more_last c.args.core.now c.loop-named.core c.forget_there.new.core c.args.pid c.args.first c.args.pages n.page k.fit k.more k.rest last in
    record {
      fit = c.forget_there.ensures.fit;
      low = omega (arith, late, next_page);
      more = on.0;
      gone = λ j q late' below is. looked_at a b (picture_of c.forget_there.new.core) c.args.pid c.args.first c.args.pages c.loop-named.from n.at n.page k.gone (λ i. k.more.at c.args.pid i) next.here next.none_before
          (home_last c.loop-named.core c.forget_there.new.core c.args.pid c.args.first c.args.pages n.page last)
          (elim last [ inl same ↦ inr (sym (same_without a b c.args.pid c.args.first c.args.pages n.page k.more) ∙ same.1) | inr gone ↦ inl gone.0.placed ]) j q late' (omega (arith, below, next_page)) is;
      rest = on.1;
    }

pub forget_there-requires : goal.forget_there-requires
forget_there-requires g c =
    let k = c.loop-named.invariant in
    let n = c.in-Some.named in
    let next = c.in-Some.ensures.some in
    let late : c.args.first ≤ n.at = (let x = k.low in let y = next.from in omega (arith, x, y)) in
    let user : IsPage (top_level g.M.Levels.mode) n.at = (let x = next.within in let y = c.requires.row.row in let fits = user_pages_fit g.M.Levels.mode in omega (arith, x, y, fits)) in
    record { fit = k.fit; named = next.here; bare = k.more.entries c.args.pid n.at user ∙ c.requires.bare n.at (in_row_from c.args.first c.args.pages n.at late next.within) }

pub returns : goal.returns
returns g c =
    let k = c.loop-named.invariant in
    let forgets = forgets_row (picture_of c.args.core.now) (picture_of c.loop-named.core) c.args.pid c.args.first c.args.pages c.requires.row.fit k.more (λ j p low below is. elim (cases_lt j c.loop-named.from) [
      | inl passed ↦ k.gone j p low passed is
      | inr late ↦ absurd (false≢true (sym (c.in_default.ensures.none j p.object p.page late below) ∙ ap (λ x. names x p.object p.page) (k.more.at c.args.pid j) ∙ is))
    ]) in
    search rules

pub overflow_add-first : goal.overflow_add-first
overflow_add-first g c = omega (arith, c.requires.row.row, (sizes g.M.Levels.mode).most)
