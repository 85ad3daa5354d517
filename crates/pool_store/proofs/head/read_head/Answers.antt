use Rattle.std.proofs.Common.{◌<◌, Err, refl, subst, ◌∙◌, ap}
use Rattle.pool_journal.specs.Pools.{pool_home_count}
use Rattle.pool_store.proofs.{Blames.{if_ok_none}, Looking.{looks_bad, looks_further, same_told}, OneKind.{bad_by_all, too_small}}
use Rattle.pool_store.specs.{Pools.{IsBadPool.{TooSmall}}, declared.faults.OpenFault.TheVariants.{BadLayout, Memory}}
use Rattle.pool_store.proofs.head.read_head.Goals as goal

pub returns-in_err-kind : goal.returns-in_err-kind
returns-in_err-kind g c = record {
  looks = looks_further g.D.SectorDisk _ c.args.disk.now c.read_kind.new.disk c.read_kind.ensures.looks.looks.run _ c.in_err-kind.field-0.0 c.from_residual.result c.from_residual.ensures.1 c.in_err-kind.ensures.looks (λ keeps bad. bad);
  found = if_ok_none _ _ c.from_residual.result c.from_residual.ensures.1;
  no_memory = λ told. c.in_err-kind.ensures.memory (same_told c.from_residual.result c.in_err-kind.field-0.0 Memory c.from_residual.ensures.1 told);
  once = c.read_kind.ensures.once;
}

pub returns-then-sizes-kind : goal.returns-then-sizes-kind
returns-then-sizes-kind g c =
    let d = g.D.SectorDisk in
    let old = c.args.disk.now in
    let kind = c.in_ok-kind.kind in
    let run = c.read_kind.ensures.looks.looks.run in
    let few : pool_home_count kind.map_blocks (d.sector_count old) < kind.directory_pages =
    subst (λ n. n < kind.directory_pages) (c.of-sizes.ensures.homes ∙ ap (pool_home_count kind.map_blocks) (c.sectors.ensures ∙ run.size)) c.if-sizes-kind.true in
    record {
      looks = looks_bad d _ old c.read_kind.new.disk run (Err BadLayout) refl c.in_ok-kind.ensures.looks.looks.calm
          (λ keeps. bad_by_all kind.map_blocks kind.directory_pages (d.sector_count old) (d.content old) (c.in_ok-kind.ensures.kind keeps)
          (TooSmall (too_small kind.map_blocks kind.directory_pages (d.sector_count old) c.in_ok-kind.ensures.sized.1 few)));
      found = tt;
      no_memory = λ told. cc;
      once = c.read_kind.ensures.once;
    }
