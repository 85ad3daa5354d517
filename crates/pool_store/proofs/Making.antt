-- How the parts of making a store go on.
use Rattle.pool_store.proofs.Names.{◌≡◌, ◌∙◌, ℕ, Result, sym, ap, ⊎_elim, inl, inr, arith, on_ok_weaker, on_err_weaker, Ghosts, NamesOnce, RunsOnDevice, asks_once, once_apart}
use Rattle.file_store.proofs.{Making.{makes_more, makes_of}}
use Rattle.file_store.specs.{Making.{FillsHomes, Makes}, declared.faults.FormatFault.{FormatFault}}
use Rattle.pool_journal.specs.{Pools.{pool_home_count}, Sizes.{HasPool}, declared.sizes.PoolSizes.{PoolSizes}}

module _ {D : Type 0} (g : Ghosts D) where
  -- the pool lies on the device still
  pub has_pool : (sizes : PoolSizes) (old new : D) → g.sector_count new ≡ g.sector_count old → HasPool g sizes old → HasPool g sizes new
  has_pool sizes old new same has = record { sized = has.sized; room = omega (arith, same, has.room); homes = has.homes ∙ ap (pool_home_count sizes.blocks) (sym same) }

  -- sectors of W that were written were asked for alone
  pub made_once : (W : ℕ → Type 0) (old new : D) → RunsOnDevice g W old new → NamesOnce W (g.asked old) (g.asked new) → Makes g W old new
  made_once W old new run once = record { size = run.size; kept = run.kept; later = run.later; asks = asks_once g W W old new (λ k at. at) once; touches = run.touches }

  -- homes are filled after other sectors were written
  pub fills_later : {T : Type 0} (V W U : ℕ → Type 0) (HasBytes AreTold : Type 0) (old mid new : D) (r : Result T FormatFault) → ((k : ℕ) → V k → U k) → ((k : ℕ) → W k → U k) → ((k : ℕ) → V k → W k → ⊥)
      → Makes g V old mid → NamesOnce V (g.asked old) (g.asked mid) → g.failures mid ≡ g.failures old → FillsHomes g W HasBytes AreTold mid new r → FillsHomes g U HasBytes AreTold old new r
  fills_later V W U HasBytes AreTold old mid new r first then' apart made once calm fills = record {
    run = makes_more g U old mid new (makes_of g V U old mid first made) (makes_of g W U mid new then' fills.run);
    once = once_apart V W U (g.asked old) (g.asked mid) (g.asked new) first then' apart once fills.once;
    causes = record {
      device = λ is. let more = fills.causes.device is in omega (arith, more, calm);
      calm = on_ok_weaker r (λ e. e ∙ calm) fills.causes.calm;
      still = on_err_weaker r (⊎_elim (λ is. inl is) (λ e. inr (e ∙ calm))) fills.causes.still;
    };
    source = fills.source;
    others = fills.others;
    whole = fills.whole;
  }
