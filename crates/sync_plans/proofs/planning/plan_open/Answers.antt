use Rattle.sync_plans.{proofs.{Made.{as_given, at_end, few, full_list, keeps}, Names.{◌≡◌, true, false, not, IfErr, IfErr-weaker, IfOk-at_ok, IfOk-weaker, arith, is_pool, pool_named, IsClosed}, Runs.{refuses_image, refuses_told}}, specs.Requests.{RefusesImage}}
use Rattle.sync_plans.proofs.planning.plan_open.Goals as goal

pub told-requires-clause-room : goal.told-requires-clause-room
told-requires-clause-room c = let few = few c.begun-disk.ensures c.open-disk.ensures.stays in omega (arith, few)

pub told-requires-clause-caused : goal.told-requires-clause-caused
told-requires-clause-caused c = IfErr-weaker c.open-disk.result.1 _ _ (λ refusal refused is. let more = refused.cause is in omega (arith, more)) c.open-disk.ensures.refused

pub returns-clause-opens : goal.returns-clause-opens
returns-clause-opens c = IfOk-weaker c.told.result _ _
    (λ used made.
    let begins = rw c.none.ensures at c.begun-disk.ensures in
    let stays = c.open-disk.ensures.stays in
    let opens = IfOk-at_ok _ made.1 (c.open-disk.ensures.opens tt) in
    rw made.0 (record {
      keeps = keeps begins stays c.told.ensures.copies opens.store opens.synced opens.outside (c.open-disk.ensures.any_moment tt);
      closed = at_end begins stays c.told.ensures.copies opens.store (λ sectors first last. is_pool first ≡ false → IsClosed sectors last) opens.closed;
      anew = at_end begins stays c.told.ensures.copies opens.store (λ sectors first last. is_pool first ≡ true → (IsClosed sectors first → ⊥) → pool_named last ≡ not (pool_named first)) opens.anew;
    })) c.told.ensures.made

pub returns-clause-no_room : goal.returns-clause-no_room
returns-clause-no_room c = IfErr-weaker c.told.result _ _ (λ refusal full is. full_list c.begun-disk.ensures c.open-disk.ensures.stays c.told.ensures.copies (full is)) c.told.ensures.full

pub returns-clause-refused : goal.returns-clause-refused
returns-clause-refused c = refuses_told _ _ _ _ c.open-disk.result.1 c.told.result c.told.ensures.refused (as_given c.begun-disk.ensures (λ sectors image. IfErr c.open-disk.result.1 (RefusesImage sectors image ⊥ ⊥))
    (refuses_image _ c.begun-disk.result c.open-disk.result.0 c.open-disk.result.1 tt (λ bad. bad) (λ denied. denied) c.open-disk.ensures.refused))
