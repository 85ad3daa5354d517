use Rattle.upgrades.proofs.Names.{◌≡◌, ◌+◌, ◌*◌, ◌-◌, ◌∙◌, ℕ, false, ⊎_elim, inl, inr, refl, arith, rules, of_more, on_ok_weaker, once_apart, once_wider, one_more}
use Rattle.pool_journal.specs.{Clearing.{IsHeadOfPool}, Pools.{pool_gate, pool_start}}
use Rattle.pool_store.{proofs.{Formats.{head_low}, Held.{empty_moves}, Making.{has_pool}}, specs.Format.{IsHomeSector, new_pages}}
use Rattle.upgrades.specs.NewPool.{IsTableSector}
use Rattle.upgrades.proofs.writing.write_tables.Goals as goal

pub write_directory-requires-clause-pool : goal.write_directory-requires-clause-pool
write_directory-requires-clause-pool g c = has_pool g.E.SectorDisk c.args.sizes c.args.new.now c.clear.new.disk c.clear.ensures.writes.size c.requires.pool

pub returns-in_err-clear : goal.returns-in_err-clear
returns-in_err-clear g c =
    let n = g.E.SectorDisk in let m = c.args.sizes.blocks in let w = c.clear.ensures.writes in
    record {
      done = search rules;
      run = of_more n (IsHeadOfPool m) (IsTableSector m) c.args.new.now c.clear.new.disk (λ k at. inl at) w.run;
      once = once_wider (IsHeadOfPool m) (IsTableSector m) _ _ (λ k at. inl at) w.once;
      failed = λ _. c.in_err-clear.ensures.writes.failed refl;
      calm = search rules;
    }

pub returns : goal.returns
returns g c =
    let n = g.E.SectorDisk in let m = c.args.sizes.blocks in let w = c.clear.ensures.writes in let v = c.write_directory.ensures in
    let old = c.args.new.now in let mid = c.clear.new.disk in let new = c.write_directory.new.disk in let r = c.write_directory.result in
    let Homes = IsHomeSector m 0 new_pages in let some = c.requires.pool.sized.0 in let calm = c.in_ok-clear.ensures.writes.calm in
    record {
      done = λ k.
          let front : (s : ℕ) → IsHeadOfPool m s → n.content new s ≡ n.content mid s = λ s head. let low = head_low m s some head in ⊎_elim (λ at. absurd (omega (arith, low.1, at.0))) (λ e. e) ((v.touches k).content s) in
          on_ok_weaker r (λ held. record {
            empty = empty_moves m (n.content mid) (n.content new) (front pool_gate (inl refl)) (λ i below. front (pool_start m false + 8 * (m - 1 - 0) + i) (inr (omega arith, omega (arith, below)))) (c.in_ok-clear.ensures.writes.done (v.kept k));
            directory = held;
          }) (v.done k);
      run = one_more n (IsTableSector m) old mid new (of_more n (IsHeadOfPool m) (IsTableSector m) old mid (λ s at. inl at) w.run) (of_more n Homes (IsTableSector m) mid new (λ s at. inr at) v.run);
      once = once_apart (IsHeadOfPool m) Homes (IsTableSector m) _ _ _ (λ s at. inl at) (λ s at. inr at) (λ s head home. let low = head_low m s some head in omega (arith, low.1, home.0)) w.once v.once;
      failed = λ is. let more = v.failed is in omega (arith, more, calm);
      calm = on_ok_weaker r (λ e. e ∙ calm) v.calm;
    }
