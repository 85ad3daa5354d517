use Rattle.std.proofs.Common.{ℕ, ◌≤◌, [], ◌∷◌, ◌++◌, false, ap, subst, sym, ◌∙◌}
use Rattle.pool_store.specs.Store.{info_by}
use Rattle.sized_stores.proofs.Started.{durable_more}
use Rattle.sized_stores.proofs.store.durable_sizes.Goals as goal

pub loop-file-preserved : goal.loop-file-preserved
loop-file-preserved c =
    let sizes = c.loop-file.sizes.items in (
      durable_more (info_by c.args.directory.now) c.loop-file.file sizes c.push_reserved.new.self.items
          (c.push_reserved.ensures.items ∙ ap (λ (n : ℕ). sizes ++ record { length = n; shortest = n; resized = false } ∷ []) c.durable_length-length.ensures) c.loop-file.invariant.0,
      subst (λ (n : ℕ). c.len-places.result ≤ n) (sym c.push_reserved.ensures.capacity) c.loop-file.invariant.1,
    )
