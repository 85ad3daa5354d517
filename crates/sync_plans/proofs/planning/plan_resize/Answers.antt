use Rattle.sync_plans.proofs.{Made.{as_given, at_end, at_stop, few, full_list, plan, stands_now}, Names.{IfErr-at_err, IfErr-weaker, IfOk-at_ok, IfOk-weaker, inr, refl, length, arith, ⊎_elim, StandsFor, file_info, is_pool, ◌≡◌, true}}
use Rattle.pool_growth.specs.Sizes.{files_sized}
use Rattle.sync_plans.specs.{PlanDisk.{content_of}, Requests.{IsStore, KeepsOutside}, Resizing.{AreAllWritable, AreResizable, RefusesSizesOf, StandsForSized}}
use Rattle.sync_plans.proofs.planning.plan_resize.Goals as goal

pub told-requires-clause-room : goal.told-requires-clause-room
told-requires-clause-room c = let few = few c.begun-disk.ensures c.resize-disk.ensures.stays in omega (arith, few)

pub told-requires-clause-caused : goal.told-requires-clause-caused
told-requires-clause-caused c = IfErr-weaker c.resize-disk.result.1 _ _ (λ refusal refused is. let more = refused.cause is in omega (arith, more)) c.resize-disk.ensures.refused

pub returns-clause-resizes : goal.returns-clause-resizes
returns-clause-resizes c = IfOk-weaker c.told.result _ _
    (λ used made.
    let begins = c.begun-disk.ensures in
    let stays = c.resize-disk.ensures.stays in
    let copies = c.told.ensures.copies in
    let sizes = c.args.updates.sizes.now in
    let fresh = c.args.updates.fresh.now in
    let list = c.args.updates.pages.now in
    let all = IfOk-at_ok _ made.1 (c.resize-disk.ensures.resizes tt) in
    rw made.0 (record {
      store = as_given begins IsStore all.store;
      pool = as_given begins (λ sectors image. is_pool image ≡ true) all.pool;
      writable = as_given begins (λ sectors image. AreAllWritable (file_info sectors image) sizes list) all.writable;
      resizable = as_given begins (λ sectors image. AreResizable sectors image sizes fresh list (length c.args.updates.bytes.now)) all.resizable;
      plan = plan begins stays copies all.store all.synced;
      any_moment = λ files before after stands sized.
          at_stop begins stays copies all.store (λ sectors. StandsForSized sectors sizes files before after) (all.any_moment files before after (stands_now begins files before stands) sized);
      ok = λ files before after stands sized. at_end begins stays copies all.store (λ sectors first last. StandsFor sectors (files_sized files sizes) after last)
          (all.ok files before after (stands_now begins files before stands) sized (content_of c.resize-disk.result.0) (record { kept = λ n. inr refl }));
      outside = at_end begins stays copies all.store KeepsOutside all.outside;
    })) c.told.ensures.made

pub returns-clause-no_room : goal.returns-clause-no_room
returns-clause-no_room c = IfErr-weaker c.told.result _ _ (λ refusal full is. full_list c.begun-disk.ensures c.resize-disk.ensures.stays c.told.ensures.copies (full is)) c.told.ensures.full

pub returns-clause-refused : goal.returns-clause-refused
returns-clause-refused c = IfErr-weaker c.told.result _ _
    (λ refusal. ⊎_elim
    (λ full. record { none = λ is. cc; memory = λ is. cc; pages = λ is. cc; read_only = λ is. cc; homes = λ is. cc })
    (λ same. as_given c.begun-disk.ensures (λ sectors image. RefusesSizesOf sectors image c.args.updates.sizes.now c.args.updates.fresh.now c.args.updates.pages.now (length c.args.updates.bytes.now) refusal)
    (IfErr-at_err _ same (IfErr-weaker c.resize-disk.result.1 _ _ (λ r refused. refused.image tt) c.resize-disk.ensures.refused))))
    c.told.ensures.refused
