use Rattle.sync_plans.{proofs.{Made.{as_given, at_end, at_stop, few, full_list, plan, stands_now}, Names.{IfErr, IfErr-weaker, IfOk-at_ok, IfOk-weaker, inr, refl, arith, ArePages, StandsFor, StandsForEither, capacity_pages, file_info}, Runs.{refuses_image, refuses_told}}, specs.{PlanDisk.{content_of}, Requests.{IsStore, KeepsOutside, AreWritable, AreReadOnly, RefusesImage}}}
use Rattle.sync_plans.proofs.planning.plan_commit.Goals as goal

pub told-requires-clause-room : goal.told-requires-clause-room
told-requires-clause-room c = let few = few c.begun-disk.ensures c.commit-disk.ensures.stays in omega (arith, few)

pub told-requires-clause-caused : goal.told-requires-clause-caused
told-requires-clause-caused c = IfErr-weaker c.commit-disk.result.1 _ _ (λ refusal refused is. let more = refused.cause is in omega (arith, more)) c.commit-disk.ensures.refused

pub returns-clause-commits : goal.returns-clause-commits
returns-clause-commits c = IfOk-weaker c.told.result _ _
    (λ used made.
    let begins = c.begun-disk.ensures in
    let stays = c.commit-disk.ensures.stays in
    let copies = c.told.ensures.copies in
    let commits = IfOk-at_ok _ made.1 (c.commit-disk.ensures.commits tt) in
    rw made.0 (record {
      store = as_given begins IsStore commits.store;
      writable = as_given begins (λ sectors first. AreWritable sectors first c.args.updates.pages.now) commits.writable;
      plan = plan begins stays copies commits.store commits.synced;
      any_moment = λ files before after stands changes.
          at_stop begins stays copies commits.store (λ sectors. StandsForEither sectors files before after) (commits.any_moment files before after (stands_now begins files before stands) changes);
      ok = λ files before after stands changes. at_end begins stays copies commits.store (λ sectors first last. StandsFor sectors files after last)
          (commits.ok files before after (stands_now begins files before stands) changes (content_of c.commit-disk.result.0) (record { kept = λ n. inr refl }));
      outside = at_end begins stays copies commits.store KeepsOutside commits.outside;
    })) c.told.ensures.made

pub returns-clause-no_room : goal.returns-clause-no_room
returns-clause-no_room c = IfErr-weaker c.told.result _ _ (λ refusal full is. full_list c.begun-disk.ensures c.commit-disk.ensures.stays c.told.ensures.copies (full is)) c.told.ensures.full

pub returns-clause-refused : goal.returns-clause-refused
returns-clause-refused c = refuses_told _ _ _ _ c.commit-disk.result.1 c.told.result c.told.ensures.refused
    (as_given c.begun-disk.ensures (λ sectors image. IfErr c.commit-disk.result.1 (RefusesImage sectors image (ArePages (file_info sectors image) (capacity_pages sectors image) c.args.updates.pages.now → ⊥) (AreReadOnly sectors image c.args.updates.pages.now)))
    (refuses_image _ c.begun-disk.result c.commit-disk.result.0 c.commit-disk.result.1 tt (λ bad. bad tt) (λ denied. denied tt) c.commit-disk.ensures.refused))
