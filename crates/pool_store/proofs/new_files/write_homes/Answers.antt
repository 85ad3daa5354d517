use Rattle.pool_store.proofs.Names.{◌≡◌, ◌+◌, ◌<◌, ◌≤◌, ◌∙◌, ⊎_elim, length, drop, slice_get, Some, drop-drop, refl, sym, ap, subst, get_or, arith, cases_eq, rules, once_apart, once_wider, length-set, drop-set-lt}
use Rattle.file_store.proofs.{Filling.{fills_error}, Making.{makes_more, makes_of}}
use Rattle.pool_store.proofs.Names.{same_Some, slice_get_read, IsSome}
use Rattle.file_store.proofs.{NewStores.{slice_get-drop, first_home-rest, first_home-order}, Totals.{total_pages-rest, total_pages-set}}
use Rattle.file_store.specs.{Format.{total_pages, first_home, page_given, reader_tells}, Layout.{pages_of_length, bytes_inside}, declared.sources.FileSource.{FileSource}}
use Rattle.pool_journal.specs.Pools.{pool_home}
use Rattle.pool_store.{proofs.{Held.{cut_moves}, Making.{has_pool}}, specs.Format.{HomesHoldSource, IsHomeSector, new_pages}}
use Rattle.pool_store.proofs.new_files.write_homes.Goals as goal

pub write_file-requires-clause-pool : goal.write_file-requires-clause-pool
write_file-requires-clause-pool g c = has_pool g.D.SectorDisk c.args.sizes c.args.disk.now c.loop-f.disk c.loop-f.invariant.run.size c.requires.pool

pub write_file-requires-clause-homes : goal.write_file-requires-clause-homes
write_file-requires-clause-homes g c =
    let inv = c.loop-f.invariant in
    let below : c.loop-f.f < length c.loop-f.sources = omega (arith, inv.length, c.loop-f-test.true) in
    let e = total_pages-rest c.loop-f.sources c.loop-f.f c.index-sources-f.result below c.index-sources-f.is in
    let same = ap (λ s. pages_of_length s.length) c.index-sources-f.is in
    omega (arith, e, same, inv.rest, c.requires.homes)

pub overflow_add-first : goal.overflow_add-first
overflow_add-first g c = omega (arith, c.loop-f.invariant.rest, c.requires.homes, c.requires.pool.homes, c.pages-first.ensures.bound)

pub loop-f-preserved : goal.loop-f-preserved
loop-f-preserved g c =
    let inv = c.loop-f.invariant in
    let w = c.write_file.ensures in
    let m = c.args.sizes.blocks in
    let sources = c.args.sources.now in
    let f = c.loop-f.f in
    let at = c.loop-f.first in
    let below : f < length c.loop-f.sources = omega (arith, inv.length, c.loop-f-test.true) in
    let e = total_pages-rest c.loop-f.sources f c.index-sources-f.result below c.index-sources-f.is in
    let after = total_pages-set c.loop-f.sources f c.write_file.new.source in
    let same = ap (λ i. pages_of_length i.length) w.info in
    let is = ap (λ s. pages_of_length s.length) c.index-sources-f.is in
    let here : slice_get sources f ≡ Some c.index-sources-f.result = sym (slice_get-drop sources f) ∙ ap (λ list. slice_get list 0) (sym inv.behind) ∙ slice_get-drop c.loop-f.sources f
    ∙ slice_get_read c.loop-f.sources (length c.loop-f.sources) f c.index-sources-f.result refl below c.index-sources-f.is in
    let first : at ≡ new_pages + first_home sources f = let split = first_home-rest sources f in let behind = ap total_pages inv.behind in omega (arith, split, behind, inv.rest) in
    let pages = pages_of_length (get_or c.loop-f.sources f c.index-sources-f.result).length in
    let All = IsHomeSector m new_pages (new_pages + total_pages sources) in
    record {
      run = makes_more g.D.SectorDisk All c.args.disk.now c.loop-f.disk c.write_file.new.disk inv.run
          (makes_of g.D.SectorDisk (IsHomeSector m at (at + pages)) All c.loop-f.disk c.write_file.new.disk
          (λ k inside. (omega (arith, inside.0, first), omega (arith, inside.1, e, is, inv.rest))) w.fills.run);
      once = once_apart (IsHomeSector m new_pages at) (IsHomeSector m at (at + pages))
          (IsHomeSector m new_pages (at + c.pages-first.result)) _ _ _ (λ k inside. (inside.0, omega (arith, inside.1))) (λ k inside. (omega (arith, inside.0, first), omega (arith, inside.1, same, c.pages-first.ensures.count)))
          (λ k before now. omega (arith, before.1, now.0)) inv.once w.fills.once;
      calm = c.in_ok-write_file.ensures.fills.calm ∙ inv.calm;
      length = length-set c.loop-f.sources f c.write_file.new.source ∙ inv.length;
      rest = omega (arith, e, after, same, is, inv.rest, c.pages-first.ensures.count);
      behind = drop-set-lt (f + 1) c.loop-f.sources f c.write_file.new.source (omega arith) ∙ sym (drop-drop 1 f c.loop-f.sources) ∙ ap (drop 1) inv.behind ∙ drop-drop 1 f sources;
      files = λ keeps h source less given. ⊎_elim
          (λ one.
          let source_is : get_or c.loop-f.sources f c.index-sources-f.result ≡ source = sym c.index-sources-f.is ∙ same_Some c.index-sources-f.result source (sym here ∙ ap (slice_get sources) (sym one) ∙ given) in
          let from : at ≡ new_pages + first_home sources h = first ∙ ap (λ n. new_pages + first_home sources n) (sym one) in
          subst (λ n. HomesHoldSource m g.R.Read.remaining source n (pages_of_length source.length) (g.D.SectorDisk.content c.write_file.new.disk)) from
          (subst (λ (s : FileSource g.row.R.Denot). HomesHoldSource m g.R.Read.remaining s at (pages_of_length s.length) (g.D.SectorDisk.content c.write_file.new.disk)) source_is
          (c.in_ok-write_file.ensures.pages keeps)))
          (λ other. λ k inside.
          let order = first_home-order sources h f source (omega (arith, less, other)) given in
          cut_moves m (new_pages + first_home sources h + k) (bytes_inside source.length k) (page_given g.R.Read.remaining source k)
          (g.D.SectorDisk.content c.loop-f.disk) (g.D.SectorDisk.content c.write_file.new.disk)
          (λ i lt. ⊎_elim (λ behind. absurd (omega (arith, behind, first, order, inside, lt)))
          (λ e. e)
          ((w.fills.run.touches keeps).content (pool_home m (new_pages + first_home sources h + k) + i)))
          (inv.files (w.fills.run.kept keeps) h source (omega (arith, less, other)) given k inside))
          (cases_eq h f);
      whole = λ h source told less given tells. ⊎_elim
          (λ one.
          let source_is : get_or c.loop-f.sources f c.index-sources-f.result ≡ source = sym c.index-sources-f.is ∙ same_Some c.index-sources-f.result source (sym here ∙ ap (slice_get sources) (sym one) ∙ given) in
          subst (λ (s : FileSource g.row.R.Denot). reader_tells g.R.Read.remaining s.bytes ≡ Some told → s.length ≤ length told) source_is
          (c.in_ok-write_file.ensures.fills.whole told) tells)
          (λ other. inv.whole h source told (omega (arith, less, other)) given tells)
          (cases_eq h f);
    }

pub returns-in_err-write_file-clause-fills : goal.returns-in_err-write_file-clause-fills
returns-in_err-write_file-clause-fills g c =
    let inv = c.loop-f.invariant in
    let m = c.args.sizes.blocks in
    let sources = c.args.sources.now in
    let f = c.loop-f.f in
    let at = c.loop-f.first in
    let below : f < length c.loop-f.sources = omega (arith, inv.length, c.loop-f-test.true) in
    let e = total_pages-rest c.loop-f.sources f c.index-sources-f.result below c.index-sources-f.is in
    let is = ap (λ s. pages_of_length s.length) c.index-sources-f.is in
    let here : slice_get sources f ≡ Some c.index-sources-f.result = sym (slice_get-drop sources f) ∙ ap (λ list. slice_get list 0) (sym inv.behind)
    ∙ slice_get-drop c.loop-f.sources f ∙ slice_get_read c.loop-f.sources (length c.loop-f.sources) f c.index-sources-f.result refl below c.index-sources-f.is in
    let first : at ≡ new_pages + first_home sources f = let split = first_home-rest sources f in let behind = ap total_pages inv.behind in omega (arith, split, behind, inv.rest) in
    let pages = pages_of_length (get_or c.loop-f.sources f c.index-sources-f.result).length in
    let All = IsHomeSector m new_pages (new_pages + total_pages sources) in
    fills_error g.D.SectorDisk _ _ _ c.args.disk.now c.write_file.new.disk
    (makes_more g.D.SectorDisk All c.args.disk.now c.loop-f.disk c.write_file.new.disk inv.run
    (makes_of g.D.SectorDisk (IsHomeSector m at (at + pages)) All c.loop-f.disk c.write_file.new.disk
    (λ k inside. (omega (arith, inside.0, first), omega (arith, inside.1, e, is, inv.rest))) c.write_file.ensures.fills.run))
    (once_apart (IsHomeSector m new_pages at) (IsHomeSector m at (at + pages)) All _ _ _
    (λ k inside. (inside.0, omega (arith, inside.1, inv.rest))) (λ k inside. (omega (arith, inside.0, first), omega (arith, inside.1, e, is, inv.rest))) (λ k before now. omega (arith, before.1, now.0)) inv.once c.write_file.ensures.fills.once)
    _ _ _ c.in_err-write_file.field-0.0 c.from_residual.result c.loop-f.disk c.from_residual.ensures.1 inv.calm c.in_err-write_file.ensures.fills (λ bytes.
    let given = subst (λ (s : FileSource g.row.R.Denot). IsSome s.bytes × (0 < s.length)) (sym c.index-sources-f.is) bytes in
    (f, c.index-sources-f.result, here, given.0, given.1))

pub returns-clause-fills : goal.returns-clause-fills
returns-clause-fills g c =
    let inv = c.loop-f.invariant in
    record {
      run = inv.run;
      once = once_wider (IsHomeSector c.args.sizes.blocks new_pages c.loop-f.first) (IsHomeSector c.args.sizes.blocks new_pages (new_pages + total_pages c.args.sources.now)) _ _ (λ k inside. (inside.0, omega (arith, inside.1, inv.rest))) inv.once;
      causes = search rules;
      source = search rules;
      others = search rules;
      whole = search rules;
    }
