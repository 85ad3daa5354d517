use Rattle.std.proofs.Common.{◌≡◌, ◌+◌, Ok, Some, length, get_or, slice_get, sym, arith, subst}
use Rattle.std.proofs.lemmas.Option.{slice_get-get_or}
use Rattle.growth.proofs.Listed.{no_change}
use Rattle.pool_growth.proofs.Blanked.{blanked_as, blanked_both, blanked_failed, blanked_none}
use Rattle.pool_growth.proofs.Homed.{apart_first, each_first, first_new, front_first, new_by_change, new_first, next_first, IsHomeOfFirst}
use Rattle.pool_growth.specs.Putting.{IsNewHome, IsNewHomeOf}
use Rattle.pool_journal.proofs.Copied.{still_pool}
use Rattle.pool_growth.proofs.blanking.blank_new_pages.Goals as goal

pub loop-change-init : goal.loop-change-init
loop-change-init g c = record { blanked = blanked_none g.D.SectorDisk c.args.journal.now (IsHomeOfFirst c.args.directory.now c.args.changes.now 0) (λ h of. omega (arith, of.2)) c.args.disk.now }

pub blank_pages_of-requires-clause-on : goal.blank_pages_of-requires-clause-on
blank_pages_of-requires-clause-on g c = record {
  is_journal = c.requires.is.is_journal;
  pool = still_pool g.D.SectorDisk c.args.journal.now.sizes c.args.disk.now c.loop-change.disk c.loop-change.invariant.blanked.run.size c.requires.is.pool;
  is_directory = c.requires.is.is_directory;
}

pub blank_pages_of-requires-clause-change : goal.blank_pages_of-requires-clause-change
blank_pages_of-requires-clause-change g c = (c.args.changes.now, c.requires.changes, c.loop-change.change-index, slice_get-get_or c.args.changes.now c.loop-change.change-index no_change c.loop-change-test.true)

pub returns-in_err-blank_pages_of : goal.returns-in_err-blank_pages_of
returns-in_err-blank_pages_of g c =
    let n = c.args.journal.now.sizes.homes in
    let directory = c.args.directory.now in
    let changes = c.args.changes.now in
    let are = c.requires.changes in
    let i = c.loop-change.change-index in
    let change = get_or changes i no_change in
    let is : slice_get changes i ≡ Some change = slice_get-get_or changes i no_change c.loop-change-test.true in
    blanked_failed g.D.SectorDisk c.args.journal.now (IsHomeOfFirst directory changes i) (IsNewHomeOf directory change) (IsNewHome directory changes)
    (first_new n directory changes are i) (new_by_change n directory changes are i change is) (apart_first n directory changes are i change is)
    c.args.disk.now c.loop-change.disk c.blank_pages_of.new.disk c.loop-change.invariant.blanked c.in_err-blank_pages_of.field-0.0 c.from_residual.result c.from_residual.ensures.1 c.in_err-blank_pages_of.ensures

pub loop-change-preserved : goal.loop-change-preserved
loop-change-preserved g c =
    let n = c.args.journal.now.sizes.homes in
    let directory = c.args.directory.now in
    let changes = c.args.changes.now in
    let are = c.requires.changes in
    let i = c.loop-change.change-index in
    let change = get_or changes i no_change in
    let is : slice_get changes i ≡ Some change = slice_get-get_or changes i no_change c.loop-change-test.true in
    record {
      blanked = blanked_both g.D.SectorDisk c.args.journal.now (IsHomeOfFirst directory changes i) (IsNewHomeOf directory change) (IsHomeOfFirst directory changes (i + 1))
          (front_first n directory changes are i change is) (next_first n directory changes are i change is) (apart_first n directory changes are i change is)
          c.args.disk.now c.loop-change.disk c.blank_pages_of.new.disk c.loop-change.invariant.blanked (each_first n directory changes are i change is) c.in_ok-blank_pages_of.ensures;
    }

pub returns : goal.returns
returns g c =
    let n = c.args.journal.now.sizes.homes in
    let directory = c.args.directory.now in
    let changes = c.args.changes.now in
    let are = c.requires.changes in
    let i = c.loop-change.change-index in
    let end : i ≡ length changes = omega (arith, c.loop-change-test.false, c.loop-change.auto.change-index-end) in
    blanked_as g.D.SectorDisk c.args.journal.now (IsHomeOfFirst directory changes i) (IsNewHome directory changes) (first_new n directory changes are i)
    (λ h new. subst (λ count. IsHomeOfFirst directory changes count h) (sym end) (new_first n directory changes are h new))
    c.args.disk.now c.loop-change.disk (Ok (tt {0})) c.loop-change.invariant.blanked
