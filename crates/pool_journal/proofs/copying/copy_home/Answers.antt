use Rattle.std.proofs.Common.{◌≤◌, ◌∙◌, true, false, length, get_or, ap, sym, subst, arith, rules}
use Rattle.std.proofs.lemmas.Result.{on_ok_weaker}
use Rattle.disk_model.proofs.{Moments.{asks_then, asks_wider}, Naming.{once_wider}}
use Rattle.disk_model.specs.{Moments.{AsksOnly}, Stop.{NamesOnce}}
use Rattle.pool_journal.proofs.Copied.{second_loose, homes_held, run_both, once_both, first_single, second_single, still_pool}
use Rattle.pool_journal.specs.{Copying.{IsBodyHome, IsBodyCopy, IsCopiedHome, HoldsBody, IsSingleBody}, Maps.{entries_of}, Pools.{IsLooseHome, IsSingle}}
use Rattle.sync_journal.{proofs.Runs.{of_more}, specs.Runs.{RunsOnDevice}}
use Rattle.pool_journal.proofs.copying.copy_home.Goals as goal

pub copy_body-requires-clause-size : goal.copy_body-requires-clause-size
copy_body-requires-clause-size g c = ap (λ xs. length xs) c.deref.ensures.value ∙ c.requires.size.1

pub copy_body-requires-clause-homes : goal.copy_body-requires-clause-homes
copy_body-requires-clause-homes g c = λ r. subst (λ xs. get_or xs r 0 ≤ c.args.sizes.homes) (sym c.deref.ensures.value) (c.requires.homes true r)

pub copy_body-requires-2-clause-pool : goal.copy_body-requires-2-clause-pool
copy_body-requires-2-clause-pool g c = still_pool g.D.SectorDisk c.args.sizes c.args.disk.now c.copy_body.new.disk c.copy_body.ensures.run.size c.requires.pool

pub copy_body-requires-2-clause-size : goal.copy_body-requires-2-clause-size
copy_body-requires-2-clause-size g c = ap (λ xs. length xs) c.deref-2.ensures.value ∙ c.requires.size.0

pub copy_body-requires-2-clause-homes : goal.copy_body-requires-2-clause-homes
copy_body-requires-2-clause-homes g c = λ r. subst (λ xs. get_or xs r 0 ≤ c.args.sizes.homes) (sym c.deref-2.ensures.value) (c.requires.homes false r)

pub returns-in_err-copy_body : goal.returns-in_err-copy_body
returns-in_err-copy_body g c =
    let d = g.D.SectorDisk in
    let m = c.args.sizes.blocks in
    let map = c.args.map.now in
    let old = c.args.disk.now in
    let mid = c.copy_body.new.disk in
    let w = c.copy_body.ensures in
    let value = c.deref.ensures.value in
    let run = of_more d (IsBodyHome m map.second.items) (IsLooseHome m (entries_of map)) old mid (second_loose d m map c.requires.size)
    (subst (λ xs. RunsOnDevice d (IsBodyHome m xs) old mid) value w.run) in
    let once : IsSingle m (entries_of map) → NamesOnce (IsCopiedHome m (entries_of map)) (d.asked old) (d.asked mid) = λ single.
    once_wider (IsBodyCopy m true map.second.items 0) (IsCopiedHome m (entries_of map)) (d.asked old) (d.asked mid) (λ k was. (true, was.0, omega (arith, was.2, c.requires.size.1), was.3))
    (subst (λ xs. NamesOnce (IsBodyCopy m true xs 0) (d.asked old) (d.asked mid)) value (w.once (subst IsSingleBody (sym value) (second_single d m map c.requires.size single)))) in
    let asks = asks_wider d (IsBodyCopy m true map.second.items 0) (IsCopiedHome m (entries_of map)) old mid (λ k was. (true, was.0, omega (arith, was.2, c.requires.size.1), was.3))
    (subst (λ xs. AsksOnly d (IsBodyCopy m true xs 0) old mid) value w.asks) in
    search rules

pub returns : goal.returns
returns g c =
    let d = g.D.SectorDisk in
    let m = c.args.sizes.blocks in
    let map = c.args.map.now in
    let old = c.args.disk.now in
    let mid = c.copy_body.new.disk in
    let new = c.copy_body-2.new.disk in
    let w = c.in_ok-copy_body.ensures in
    let v = c.copy_body-2.ensures in
    let second = c.deref.ensures.value in
    let first = c.deref-2.ensures.value in
    let run_second = subst (λ xs. RunsOnDevice d (IsBodyHome m xs) old mid) second w.run in
    let run_first = subst (λ xs. RunsOnDevice d (IsBodyHome m xs) mid new) first v.run in
    record {
      done = λ keeps. (let before = v.run.kept keeps in
          on_ok_weaker c.copy_body-2.result (λ held. homes_held d m map c.requires.size old mid new
          (run_second.touches before) (subst (λ xs. HoldsBody m true xs (d.content old) (d.content mid)) second (w.done before))
          (run_first.touches keeps) (subst (λ xs. HoldsBody m false xs (d.content mid) (d.content new)) first held)) (v.done keeps));
      run = run_both d m map c.requires.size old mid new run_second run_first;
      once = λ single. once_both d m map c.requires.size old mid new single
          (subst (λ xs. NamesOnce (IsBodyCopy m true xs 0) (d.asked old) (d.asked mid)) second (w.once (subst IsSingleBody (sym second) (second_single d m map c.requires.size single))))
          (subst (λ xs. NamesOnce (IsBodyCopy m false xs 0) (d.asked mid) (d.asked new)) first (v.once (subst IsSingleBody (sym first) (first_single d m map c.requires.size single))));
      asks = asks_then d (IsCopiedHome m (entries_of map)) old mid new
          (asks_wider d (IsBodyCopy m true map.second.items 0) (IsCopiedHome m (entries_of map)) old mid (λ k was. (true, was.0, omega (arith, was.2, c.requires.size.1), was.3)) (subst (λ xs. AsksOnly d (IsBodyCopy m true xs 0) old mid) second w.asks))
          (asks_wider d (IsBodyCopy m false map.first.items 0) (IsCopiedHome m (entries_of map)) mid new (λ k was. (false, was.0, omega (arith, was.2, c.requires.size.0), was.3)) (subst (λ xs. AsksOnly d (IsBodyCopy m false xs 0) mid new) first v.asks));
      failed = λ is. (let failed = v.failed is in let calm = w.calm in omega (arith, failed, calm));
      calm = on_ok_weaker c.copy_body-2.result (λ calm. calm ∙ w.calm) v.calm;
    }
