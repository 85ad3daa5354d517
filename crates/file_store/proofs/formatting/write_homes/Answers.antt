use Rattle.file_store.proofs.{Filling.{fills_error}, Making.{makes_more, makes_of}, Names.{◌≡◌, ◌+◌, ◌<◌, ◌≤◌, ◌∙◌, ⊎_elim, length, drop, slice_get, Some, drop-drop, refl, sym, ap, subst, get_or, arith, cases_eq, rules, once_apart, once_wider, length-set, drop-set-lt}}
use Rattle.file_store.proofs.{Names.{same_Some, slice_get_read, IsSome, home_sector, home_count}, NewStores.{cut_moves, slice_get-drop, first_home-rest, first_home-order}, Totals.{total_pages-rest, total_pages-set}}
use Rattle.file_store.specs.{Format.{total_pages, first_home, page_given, reader_tells, IsHomesBetween, HoldsSourcePages}, Layout.{pages_of_length, bytes_inside}, declared.sources.FileSource.{FileSource}}
use Rattle.file_store.proofs.formatting.write_homes.Goals as goal

pub write_file-requires : goal.write_file-requires
write_file-requires g c =
    let inv = c.loop-f.invariant in
    let below : c.loop-f.f < length c.loop-f.sources = omega (arith, inv.length, c.loop-f-test.true) in
    let e = total_pages-rest c.loop-f.sources c.loop-f.f c.index-sources-f.result below c.index-sources-f.is in
    let same = ap (λ s. pages_of_length s.length) c.index-sources-f.is in
    let homes = ap home_count inv.run.size in
    omega (arith, e, same, homes, inv.rest, c.requires)

pub overflow_add-first : goal.overflow_add-first
overflow_add-first g c = omega (arith, c.loop-f.invariant.rest, c.requires, c.pages-first.ensures.bound)

pub loop-f-preserved : goal.loop-f-preserved
loop-f-preserved g c =
    let inv = c.loop-f.invariant in
    let w = c.write_file.ensures in
    let sources = c.args.sources.now in
    let f = c.loop-f.f in
    let below : f < length c.loop-f.sources = omega (arith, inv.length, c.loop-f-test.true) in
    let e = total_pages-rest c.loop-f.sources f c.index-sources-f.result below c.index-sources-f.is in
    let after = total_pages-set c.loop-f.sources f c.write_file.new.source in
    let same = ap (λ i. pages_of_length i.length) w.info in
    let is = ap (λ s. pages_of_length s.length) c.index-sources-f.is in
    let here : slice_get sources f ≡ Some c.index-sources-f.result = sym (slice_get-drop sources f) ∙ ap (λ list. slice_get list 0) (sym inv.behind) ∙ slice_get-drop c.loop-f.sources f
    ∙ slice_get_read c.loop-f.sources (length c.loop-f.sources) f c.index-sources-f.result refl below c.index-sources-f.is in
    let first : c.loop-f.first ≡ first_home sources f = let split = first_home-rest sources f in let behind = ap total_pages inv.behind in omega (arith, split, behind, inv.rest) in
    record {
      run = makes_more g.D.SectorDisk (IsHomesBetween 0 (total_pages c.args.sources.now)) c.args.disk.now c.loop-f.disk c.write_file.new.disk inv.run
          (makes_of g.D.SectorDisk (IsHomesBetween c.loop-f.first (c.loop-f.first + pages_of_length (get_or c.loop-f.sources c.loop-f.f c.index-sources-f.result).length)) (IsHomesBetween 0 (total_pages c.args.sources.now)) c.loop-f.disk c.write_file.new.disk
          (λ k at. (omega (arith, at.0), omega (arith, at.1, e, is, inv.rest))) c.write_file.ensures.fills.run);
      once = once_apart (IsHomesBetween 0 c.loop-f.first) (IsHomesBetween c.loop-f.first (c.loop-f.first + pages_of_length (get_or c.loop-f.sources c.loop-f.f c.index-sources-f.result).length))
          (IsHomesBetween 0 (c.loop-f.first + c.pages-first.result)) _ _ _ (λ k at. (at.0, omega (arith, at.1))) (λ k at. (omega (arith, at.0), omega (arith, at.1, same, c.pages-first.ensures.count)))
          (λ k before now. omega (arith, before.1, now.0)) inv.once c.write_file.ensures.fills.once;
      calm = c.in_ok-write_file.ensures.fills.calm ∙ inv.calm;
      length = length-set c.loop-f.sources f c.write_file.new.source ∙ inv.length;
      rest = omega (arith, e, after, same, is, inv.rest, c.pages-first.ensures.count);
      behind = drop-set-lt (f + 1) c.loop-f.sources f c.write_file.new.source (omega arith) ∙ sym (drop-drop 1 f c.loop-f.sources) ∙ ap (drop 1) inv.behind ∙ drop-drop 1 f sources;
      files = λ keeps h source less at. ⊎_elim
          (λ same.
          let source_is : get_or c.loop-f.sources f c.index-sources-f.result ≡ source = sym c.index-sources-f.is ∙ same_Some c.index-sources-f.result source (sym here ∙ ap (slice_get sources) (sym same) ∙ at) in
          let from : c.loop-f.first ≡ first_home sources h = first ∙ ap (first_home sources) (sym same) in
          subst (λ n. HoldsSourcePages g.R.Read.remaining source n (pages_of_length source.length) (g.D.SectorDisk.content c.write_file.new.disk)) from
          (subst (λ (s : FileSource g.row.R.Denot). HoldsSourcePages g.R.Read.remaining s c.loop-f.first (pages_of_length s.length) (g.D.SectorDisk.content c.write_file.new.disk)) source_is
          (c.in_ok-write_file.ensures.pages keeps)))
          (λ other. λ k inside.
          let order = first_home-order sources h f source (omega (arith, less, other)) at in
          cut_moves (first_home sources h + k) (bytes_inside source.length k) (page_given g.R.Read.remaining source k)
          (g.D.SectorDisk.content c.loop-f.disk) (g.D.SectorDisk.content c.write_file.new.disk)
          (λ i lt. ⊎_elim (λ behind. absurd (omega (arith, behind, first, order, inside, lt)))
          (λ e. e)
          ((w.fills.run.touches keeps).content (home_sector (first_home sources h + k) + i)))
          (inv.files (w.fills.run.kept keeps) h source (omega (arith, less, other)) at k inside))
          (cases_eq h f);
      whole = λ h source told less at tells. ⊎_elim
          (λ same.
          let source_is : get_or c.loop-f.sources f c.index-sources-f.result ≡ source = sym c.index-sources-f.is ∙ same_Some c.index-sources-f.result source (sym here ∙ ap (slice_get sources) (sym same) ∙ at) in
          subst (λ (s : FileSource g.row.R.Denot). reader_tells g.R.Read.remaining s.bytes ≡ Some told → s.length ≤ length told) source_is
          (c.in_ok-write_file.ensures.fills.whole told) tells)
          (λ other. inv.whole h source told (omega (arith, less, other)) at tells)
          (cases_eq h f);
    }

pub returns-in_err-write_file-clause-fills : goal.returns-in_err-write_file-clause-fills
returns-in_err-write_file-clause-fills g c =
    let inv = c.loop-f.invariant in
    let sources = c.args.sources.now in
    let f = c.loop-f.f in
    let below : f < length c.loop-f.sources = omega (arith, inv.length, c.loop-f-test.true) in
    let e = total_pages-rest c.loop-f.sources f c.index-sources-f.result below c.index-sources-f.is in
    let is = ap (λ s. pages_of_length s.length) c.index-sources-f.is in
    let here : slice_get sources f ≡ Some c.index-sources-f.result = sym (slice_get-drop sources f) ∙ ap (λ list. slice_get list 0) (sym inv.behind)
    ∙ slice_get-drop c.loop-f.sources f ∙ slice_get_read c.loop-f.sources (length c.loop-f.sources) f c.index-sources-f.result refl below c.index-sources-f.is in
    fills_error g.D.SectorDisk _ _ _ c.args.disk.now c.write_file.new.disk
    (makes_more g.D.SectorDisk (IsHomesBetween 0 (total_pages sources)) c.args.disk.now c.loop-f.disk c.write_file.new.disk inv.run
    (makes_of g.D.SectorDisk (IsHomesBetween c.loop-f.first (c.loop-f.first + pages_of_length (get_or c.loop-f.sources f c.index-sources-f.result).length)) (IsHomesBetween 0 (total_pages sources)) c.loop-f.disk c.write_file.new.disk
    (λ k at. (omega (arith, at.0), omega (arith, at.1, e, is, inv.rest))) c.write_file.ensures.fills.run))
    (once_apart (IsHomesBetween 0 c.loop-f.first) (IsHomesBetween c.loop-f.first (c.loop-f.first + pages_of_length (get_or c.loop-f.sources c.loop-f.f c.index-sources-f.result).length)) (IsHomesBetween 0 (total_pages sources)) _ _ _
    (λ k at. (at.0, omega (arith, at.1, inv.rest))) (λ k at. (omega (arith, at.0), omega (arith, at.1, e, is, inv.rest))) (λ k before now. omega (arith, before.1, now.0)) inv.once c.write_file.ensures.fills.once)
    _ _ _ c.in_err-write_file.field-0.0 c.from_residual.result c.loop-f.disk c.from_residual.ensures.1 inv.calm c.in_err-write_file.ensures.fills (λ bytes.
    let given = subst (λ (s : FileSource g.row.R.Denot). IsSome s.bytes × (0 < s.length)) (sym c.index-sources-f.is) bytes in
    (f, c.index-sources-f.result, here, given.0, given.1))

pub returns-clause-fills : goal.returns-clause-fills
returns-clause-fills g c =
    let inv = c.loop-f.invariant in
    record {
      run = inv.run;
      once = once_wider (IsHomesBetween 0 c.loop-f.first) (IsHomesBetween 0 (total_pages c.args.sources.now)) _ _ (λ k at. (at.0, omega (arith, at.1, inv.rest))) inv.once;
      causes = search rules;
      source = search rules;
      others = search rules;
      whole = search rules;
    }
