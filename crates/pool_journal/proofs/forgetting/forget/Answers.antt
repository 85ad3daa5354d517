use Rattle.std.proofs.Common.{◌≡◌, ◌+◌, ◌*◌, ◌∙◌, ℕ, Bool, true, false, ap, arith, length, get_or, subst}
use Rattle.std.proofs.lemmas.List.{with_items_is}
use Rattle.std.specs.Vec.{with_items}
use Rattle.pool_journal.{proofs.Runs.{whole_body}, specs.{Giving.{number_but, live_among}, Maps.{entries_of, IsMapOf}, declared.map.SlotMap.{SlotMap}}}
use Rattle.pool_journal.proofs.forgetting.forget.Goals as goal

pub returns : goal.returns
returns c = record {
  forgotten = forgotten;
  size = λ blocks is. (
    ap (λ xs. length xs) first ∙ c.forget_in.ensures.size ∙ ap (λ xs. length xs) c.deref_mut.ensures.value ∙ is.0,
    ap (λ xs. length xs) second ∙ c.forget_in-2.ensures.size ∙ ap (λ xs. length xs) c.deref_mut-2.ensures.value ∙ is.1,
  );
  counted = λ blocks is. (let one = first_live blocks is in let two = second_live blocks is in omega (arith, one, two));
}
  where
    was : SlotMap
    was = c.args.map.now

    new : SlotMap
    new = record { first = with_items was.first c.forget_in.new.numbers; second = with_items was.second c.forget_in-2.new.numbers }

    first : new.first.items ≡ c.forget_in.new.numbers
    first = with_items_is was.first c.forget_in.new.numbers (c.forget_in.ensures.size ∙ c.deref_mut.ensures.len)

    second : new.second.items ≡ c.forget_in-2.new.numbers
    second = with_items_is was.second c.forget_in-2.new.numbers (c.forget_in-2.ensures.size ∙ c.deref_mut-2.ensures.len)

    forgotten : (body : Bool) (r : ℕ) → entries_of new body r ≡ number_but c.args.homes.now (entries_of was body r)
    forgotten false r = ap (λ xs. get_or xs r 0) first ∙ whole_body c.args.homes.now c.deref_mut.result.now c.forget_in.new.numbers c.forget_in.result c.forget_in.ensures r
        ∙ ap (λ xs. number_but c.args.homes.now (get_or xs r 0)) c.deref_mut.ensures.value
    forgotten true r = ap (λ xs. get_or xs r 0) second ∙ whole_body c.args.homes.now c.deref_mut-2.result.now c.forget_in-2.new.numbers c.forget_in-2.result c.forget_in-2.ensures r
        ∙ ap (λ xs. number_but c.args.homes.now (get_or xs r 0)) c.deref_mut-2.ensures.value

    first_live : (blocks : ℕ) → IsMapOf blocks was → c.forget_in.result + live_among (entries_of new false) (504 * blocks) ≡ live_among (entries_of was false) (504 * blocks)
    first_live blocks is =
        let xs = c.deref_mut.result.now in
        let long : length xs ≡ 504 * blocks = ap (λ ys. length ys) c.deref_mut.ensures.value ∙ is.0 in
        ap (λ ys. c.forget_in.result + live_among (λ r. get_or ys r 0) (504 * blocks)) first
        ∙ subst (λ n. c.forget_in.result + live_among (λ r. get_or c.forget_in.new.numbers r 0) n ≡ live_among (λ r. get_or xs r 0) n) long c.forget_in.ensures.counted
        ∙ ap (λ ys. live_among (λ r. get_or ys r 0) (504 * blocks)) c.deref_mut.ensures.value

    second_live : (blocks : ℕ) → IsMapOf blocks was → c.forget_in-2.result + live_among (entries_of new true) (504 * blocks) ≡ live_among (entries_of was true) (504 * blocks)
    second_live blocks is =
        let xs = c.deref_mut-2.result.now in
        let long : length xs ≡ 504 * blocks = ap (λ ys. length ys) c.deref_mut-2.ensures.value ∙ is.1 in
        ap (λ ys. c.forget_in-2.result + live_among (λ r. get_or ys r 0) (504 * blocks)) second
        ∙ subst (λ n. c.forget_in-2.result + live_among (λ r. get_or c.forget_in-2.new.numbers r 0) n ≡ live_among (λ r. get_or xs r 0) n) long c.forget_in-2.ensures.counted
        ∙ ap (λ ys. live_among (λ r. get_or ys r 0) (504 * blocks)) c.deref_mut-2.ensures.value
