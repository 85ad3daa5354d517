use Rattle.sync_plans.{proofs.{Growth.{is_or_not}, Lost.{lost_still, lost_here, time_written}, Names.{◌<◌, inl, inr, ⊎_elim, sym, subst}}, specs.PlanDisk.{content_of, listed_unsynced, listed_left, plan_moment, IsLost}}
use Rattle.disk_model.specs.{Asked.{times_named}, declared.asking.Asked.{Asked}}
use Rattle.sync_plans.proofs.plan_disk.PlanDiskWriteZeros.write_zeros.Goals as goal

pub returns-in-Ok-clause-time : goal.returns-in-Ok-clause-time
returns-in-Ok-clause-time c = λ _.
    let old = c.args.self.now in
    let new = c.put_zeros.new.self in
    let put = c.put_zeros.ensures in
    time_written (plan_moment old) (plan_moment new) (listed_left old) (listed_left new) (content_of old) (content_of new) (listed_unsynced old) (listed_unsynced new) (IsLost old) (IsLost new) put.time
    (λ k. ⊎_elim (λ u. inl (put.still k u)) (λ lost. inr (subst (λ (a : Asked). 0 < times_named a k) (sym put.keeps.lost) lost)))
    (λ k. ⊎_elim (λ here. inl (inl (c.in-Ok.ensures.marked k here))) (λ other. inr (put.others.others k other)) (is_or_not c.args.n c.args.pages k))

pub returns-in-Err-clause-time : goal.returns-in-Err-clause-time
returns-in-Err-clause-time c = λ _.
    let old = c.args.self.now in
    let mid = c.put_zeros.new.self in
    let put = c.put_zeros.ensures in
    let names = c.pages-in-Err.ensures in
    time_written (plan_moment old) (plan_moment mid) (listed_left old) (listed_left mid) (content_of old) (content_of mid) (listed_unsynced old) (listed_unsynced mid) (IsLost old) (λ k. 0 < times_named c.pages-in-Err.new.self k) put.time
    (λ k. ⊎_elim (λ u. inl (put.still k u)) (λ lost. inr (lost_still (times_named mid.lost) (times_named c.pages-in-Err.new.self) _ names k (subst (λ (a : Asked). 0 < times_named a k) (sym put.keeps.lost) lost))))
    (λ k. ⊎_elim (λ here. inl (inr (lost_here (times_named mid.lost) (times_named c.pages-in-Err.new.self) _ names k here))) (λ other. inr (put.others.others k other)) (is_or_not c.args.n c.args.pages k))
