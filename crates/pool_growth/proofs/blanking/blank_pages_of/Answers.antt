use Rattle.std.proofs.Common.{◌≡◌, ◌≤◌, ◌+◌, ◌-◌, ◌∙◌, Ok, Some, length, get_or, slice_get, take, ap, arith, sym, subst}
use Rattle.std.proofs.Math.Seq.{take-length}
use Rattle.std.proofs.lemmas.Option.{slice_get-get_or}
use Rattle.std.specs.{Option.{option_map}, Prelude.{min}}
use Rattle.directories.proofs.Said.{no_extent}
use Rattle.directories.specs.Homes.{extents_of, homes_of}
use Rattle.growth.proofs.Resized.{one_more_in_front}
use Rattle.pool_growth.proofs.Blanked.{blanked_as, blanked_both, blanked_failed}
use Rattle.pool_growth.proofs.Homed.{each_page, extent_inside, front_pages, homes_enough, more_pages, one_page, part_pages, two_parts}
use Rattle.pool_growth.specs.{Files.{file_page_count}, Putting.{BlanksHomes, IsHomeOfPages, IsHomeOfPart, IsNewHomeOf}}
use Rattle.pool_journal.proofs.Copied.{still_pool}
use Rattle.pool_store.specs.{Files.{info_of}, Store.{info_by}}
use Rattle.pool_growth.proofs.blanking.blank_pages_of.Goals as goal

pub blank_part-requires-clause-pool : goal.blank_part-requires-clause-pool
blank_part-requires-clause-pool g c = still_pool g.D.SectorDisk c.args.journal.now.sizes c.args.disk.now c.loop-extent.disk c.loop-extent.invariant.blanked.run.size c.requires.on.pool

pub blank_part-requires-clause-homes : goal.blank_part-requires-clause-homes
blank_part-requires-clause-homes g c less =
    let items = c.extents-extent-items.result.now in
    let j = c.loop-extent.extent-index in
    let x = get_or items j no_extent in
    let is : slice_get items j ≡ Some x = slice_get-get_or items j no_extent c.loop-extent-test.true in
    let change = c.requires.change in
    extent_inside c.args.journal.now.sizes.homes c.args.directory.now change.0 change.1 change.2 c.args.change.now change.3 c.in-Some.entry j c.min-high.result x c.in-Some.is
    (ap (λ xs. slice_get xs j) (sym c.extents-extent-items.ensures.extents) ∙ is) (omega (arith, c.min-high.ensures, c.from-count.ensures)) (omega (arith, less))

pub returns-in_err-blank_part : goal.returns-in_err-blank_part
returns-in_err-blank_part g c =
    let entry = c.args.change.now.entry in
    let items = c.extents-extent-items.result.now in
    let j = c.loop-extent.extent-index in
    let x = get_or items j no_extent in
    let is : slice_get items j ≡ Some x = slice_get-get_or items j no_extent c.loop-extent-test.true in
    let before = c.pages_of-before.result in
    let pages = c.pages_of-pages.result in
    let passed = c.loop-extent.passed in
    let low = c.saturating_sub-low.result in
    let high = c.min-high.result in
    let high_is : high ≡ min (pages - passed) x.count = omega (arith, c.min-high.ensures, c.saturating_sub.ensures, c.from-count.ensures) in
    let had = file_page_count (info_by c.args.directory.now c.args.change.now.file) in
    let count = file_page_count (option_map info_of entry) in
    let had_is : before ≡ had = c.pages_of-before.ensures ∙ ap (λ o. file_page_count (option_map info_of o)) c.entry.ensures in
    let count_is : pages ≡ count = c.pages_of-pages.ensures ∙ ap (λ o. file_page_count (option_map info_of o)) (sym c.in-Some.is) in
    let change = c.requires.change in
    let parts = part_pages entry c.in-Some.entry c.in-Some.is items c.extents-extent-items.ensures.extents j x is before pages passed low high c.loop-extent.invariant.passed c.saturating_sub-low.ensures high_is in
    let apart = two_parts entry c.in-Some.entry c.in-Some.is items c.extents-extent-items.ensures.extents j x is before pages passed low high c.loop-extent.invariant.passed c.saturating_sub-low.ensures high_is
    (one_page c.args.journal.now.sizes.homes c.args.directory.now change.0 change.1 change.2 c.args.change.now change.3) in
    blanked_failed g.D.SectorDisk c.args.journal.now (IsHomeOfPages entry before (min pages passed)) (IsHomeOfPart x low high) (IsNewHomeOf c.args.directory.now c.args.change.now)
    (more_pages entry before (min pages passed) had count (omega (arith, had_is)) (omega (arith, count_is)))
    (λ h part. more_pages entry before (min pages (passed + x.count)) had count (omega (arith, had_is)) (omega (arith, count_is)) h (parts h part))
    apart c.args.disk.now c.loop-extent.disk c.blank_part.new.disk c.loop-extent.invariant.blanked c.in_err-blank_part.field-0.0 c.from_residual.result c.from_residual.ensures.1 c.in_err-blank_part.ensures

pub loop-extent-preserved : goal.loop-extent-preserved
loop-extent-preserved g c =
    let entry = c.args.change.now.entry in
    let items = c.extents-extent-items.result.now in
    let j = c.loop-extent.extent-index in
    let x = get_or items j no_extent in
    let is : slice_get items j ≡ Some x = slice_get-get_or items j no_extent c.loop-extent-test.true in
    let before = c.pages_of-before.result in
    let pages = c.pages_of-pages.result in
    let passed = c.loop-extent.passed in
    let low = c.saturating_sub-low.result in
    let high = c.min-high.result in
    let counted : c.from-count.result ≡ x.count = c.from-count.ensures in
    let high_is : high ≡ min (pages - passed) x.count = omega (arith, c.min-high.ensures, c.saturating_sub.ensures, counted) in
    let change = c.requires.change in
    let front = front_pages entry c.in-Some.entry c.in-Some.is items c.extents-extent-items.ensures.extents j x is before pages passed low high c.loop-extent.invariant.passed c.saturating_sub-low.ensures high_is in
    let parts = part_pages entry c.in-Some.entry c.in-Some.is items c.extents-extent-items.ensures.extents j x is before pages passed low high c.loop-extent.invariant.passed c.saturating_sub-low.ensures high_is in
    let each = each_page entry c.in-Some.entry c.in-Some.is items c.extents-extent-items.ensures.extents j x is before pages passed low high c.loop-extent.invariant.passed c.saturating_sub-low.ensures high_is in
    let apart = two_parts entry c.in-Some.entry c.in-Some.is items c.extents-extent-items.ensures.extents j x is before pages passed low high c.loop-extent.invariant.passed c.saturating_sub-low.ensures high_is
    (one_page c.args.journal.now.sizes.homes c.args.directory.now change.0 change.1 change.2 c.args.change.now change.3) in
    let more = one_more_in_front items j c.loop-extent-test.true in
    record {
      passed = omega (arith, more, counted, c.loop-extent.invariant.passed);
      small = omega (arith, c.from-count.type_inv, c.loop-extent.invariant.small);
      blanked = subst (λ k. BlanksHomes g.D.SectorDisk c.args.journal.now (IsHomeOfPages entry before (min pages (passed + k))) c.args.disk.now c.blank_part.new.disk (Ok (tt {0}))) (sym counted)
          (blanked_both g.D.SectorDisk c.args.journal.now (IsHomeOfPages entry before (min pages passed)) (IsHomeOfPart x low high) (IsHomeOfPages entry before (min pages (passed + x.count)))
          front parts apart c.args.disk.now c.loop-extent.disk c.blank_part.new.disk c.loop-extent.invariant.blanked each c.in_ok-blank_part.ensures);
    }

pub returns : goal.returns
returns g c =
    let entry = c.args.change.now.entry in
    let before = c.pages_of-before.result in
    let pages = c.pages_of-pages.result in
    let passed = c.loop-extent.passed in
    let had = file_page_count (info_by c.args.directory.now c.args.change.now.file) in
    let count = file_page_count (option_map info_of entry) in
    let had_is : before ≡ had = c.pages_of-before.ensures ∙ ap (λ o. file_page_count (option_map info_of o)) c.entry.ensures in
    let count_is : pages ≡ count = c.pages_of-pages.ensures ∙ ap (λ o. file_page_count (option_map info_of o)) (sym c.in-Some.is) in
    let change = c.requires.change in
    let enough = homes_enough c.args.journal.now.sizes.homes c.args.directory.now change.0 change.1 change.2 c.args.change.now change.3 c.in-Some.entry c.in-Some.is in
    let items = c.extents-extent-items.result.now in
    let end : c.loop-extent.extent-index ≡ length items = omega (arith, c.loop-extent-test.false, c.loop-extent.auto.extent-index-end) in
    let whole : passed ≡ length (homes_of (extents_of c.in-Some.entry)) = c.loop-extent.invariant.passed
    ∙ ap (λ xs. length (homes_of xs)) (ap (λ k. take k items) end ∙ take-length items ∙ c.extents-extent-items.ensures.extents) in
    let all : pages ≤ passed = omega (arith, count_is, enough, whole) in
    blanked_as g.D.SectorDisk c.args.journal.now (IsHomeOfPages entry before (min pages passed)) (IsNewHomeOf c.args.directory.now c.args.change.now)
    (more_pages entry before (min pages passed) had count (omega (arith, had_is)) (omega (arith, count_is)))
    (more_pages entry had count before (min pages passed) (omega (arith, had_is)) (omega (arith, count_is, all)))
    c.args.disk.now c.loop-extent.disk (Ok (tt {0})) c.loop-extent.invariant.blanked
