use Rattle.std.proofs.Common.{ℕ, ◌≡◌, ◌+◌, ◌∙◌, ◌⊎◌, Ok, true, false, length, refl, sym, ap, subst, inl, inr, ⊎_elim, arith}
use Rattle.std.proofs.lemmas.Bool.{false≢true, le-ltb, lt-ltb}
use Rattle.disk_model.proofs.{Moments.{stays}, Naming.{once_none, once_still}}
use Rattle.disk_model.specs.Stop.{Image, NamesOnce}
use Rattle.pool_growth.proofs.Owning.{at_home}
use Rattle.pool_growth.proofs.Placed.{made_zeros, none_made, not_put, place_now, puts, still_rest, still_zeros, written_asks, written_once, written_run, AreMadeZeros}
use Rattle.pool_growth.specs.{Files.{added_count}, Putting.{is_sparse, new_home, IsBroughtSector, IsNewSector, IsPutSector}}
use Rattle.pool_journal.specs.{Maps.{entries_of}, Pools.{pool_standing}}
use Rattle.pool_store.specs.Store.{info_by}
use Rattle.sync_journal.{proofs.{Causes.{asks_nothing, calm_first, told_on, told_was, not_source, device_failed, none_failed}, Runs.{and_no_write}}, specs.{Steps.{TakesPages}, declared.faults.CommitFault.TheVariants.{Source}}}
use Rattle.pool_growth.proofs.placing.put_new_pages.Goals.{After-write_new_pages, then-sparse+in_ok-blank_new_pages, else-sparse}
use Rattle.pool_growth.proofs.placing.put_new_pages.Goals as goal

-- where some new pages are not given all are zeros before they are written
made : (g : _) (c : After-write_new_pages g) → AreMadeZeros g.D.SectorDisk c.args.journal.now c.args.directory.now c.args.pages.changes.now (is_sparse c.args.directory.now c.args.pages.changes.now c.args.pages.fresh.now)
    c.args.disk.now c.if-sparse.disk
made g c =
    let d = g.D.SectorDisk in
    let journal = c.args.journal.now in
    let directory = c.args.directory.now in
    let changes = c.args.pages.changes.now in
    let fresh = c.args.pages.fresh.now in
    let sparse = is_sparse directory changes fresh in
    let old = c.args.disk.now in
    let all = added_count (info_by directory) changes in
    elim c.if-sparse.branch [
      | then-sparse+in_ok-blank_new_pages w ↦
          (let is : sparse ≡ true = lt-ltb (length fresh) all (omega (arith, w.if-sparse.true, c.added_count.ensures)) in
          subst (λ mid. AreMadeZeros d journal directory changes sparse old mid) (sym w.disk-is) (made_zeros d journal directory changes sparse old w.blank_new_pages.new.disk is w.in_ok-blank_new_pages.ensures))
      | else-sparse w ↦
          (let is : sparse ≡ false = le-ltb (length fresh) all (omega (arith, w.if-sparse.false, c.added_count.ensures)) in
          subst (λ mid. AreMadeZeros d journal directory changes sparse old mid) (sym w.disk-is) (none_made d journal directory changes sparse old is))
    ]

pub returns-then-not-sparse : goal.returns-then-not-sparse
returns-then-not-sparse g c =
    let d = g.D.SectorDisk in
    let s = g.S.PageSource in
    let journal = c.args.journal.now in
    let directory = c.args.directory.now in
    let changes = c.args.pages.changes.now in
    let fresh = c.args.pages.fresh.now in
    let count = c.args.pages.count in
    let is = c.requires.is in
    let old = c.args.disk.now in
    let from = c.args.source.now in
    let none : count ≡ 0 = c.if-pages-eq0.true in
    let all : is_sparse directory changes fresh ≡ false = le-ltb (length fresh) (added_count (info_by directory) changes) (omega (arith, c.if-not-sparse.true, c.added_count.ensures)) in
    let takes : TakesPages d s (IsNewSector journal directory changes) old old from from (Ok (tt {0})) = record {
      run = record { size = refl; kept = λ k. k; later = omega arith; touches = λ k. stays d (IsNewSector journal directory changes) old };
      asks = asks_nothing s from (g.met.S.PageSource.stays from);
      causes = none_failed _ _ _ _ refl refl;
    } in
    puts journal directory changes c.requires.changes fresh c.requires.fresh count c.requires.few d s old from is (λ keeps image. g.met.D.SectorDisk.only_now old image keeps) old from (Ok (tt {0})) takes
    (λ k. inr refl) (λ so. once_none (IsPutSector journal directory changes fresh count) (d.asked old) (d.asked old) (λ k. refl))
    (λ keeps kept i j below. absurd (omega (arith, below, none))) (λ keeps so. absurd (false≢true (sym all ∙ so))) (λ keeps. (is.at_rest keeps).rest) (λ told. cc)

pub returns-in_err-blank_new_pages : goal.returns-in_err-blank_new_pages
returns-in_err-blank_new_pages g c =
    let d = g.D.SectorDisk in
    let s = g.S.PageSource in
    let journal = c.args.journal.now in
    let directory = c.args.directory.now in
    let changes = c.args.pages.changes.now in
    let fresh = c.args.pages.fresh.now in
    let old = c.args.disk.now in
    let from = c.args.source.now in
    let new = c.blank_new_pages.new.disk in
    let b = c.in_err-blank_new_pages.ensures in
    let result = c.from_residual.result in
    let sparse : is_sparse directory changes fresh ≡ true = lt-ltb (length fresh) (added_count (info_by directory) changes) (omega (arith, c.if-sparse.true, c.added_count.ensures)) in
    let takes : TakesPages d s (IsNewSector journal directory changes) old new from from result = record {
      run = b.run;
      asks = asks_nothing s from (g.met.S.PageSource.stays from);
      causes = device_failed _ _ _ _ _ c.from_residual.ensures.1 (b.failed refl) refl;
    } in
    not_put journal directory changes c.requires.changes fresh c.requires.fresh c.args.pages.count c.requires.few d s old from c.requires.is (λ keeps image. g.met.D.SectorDisk.only_now old image keeps) new from result takes
    (λ k. ⊎_elim (λ same. inr same) (λ of. inl (inl (sparse, of.0))) (b.once.each k)) (λ so. absurd (false≢true (sym so ∙ sparse))) _ c.from_residual.ensures.1 (λ told. absurd (not_source result c.from_residual.ensures.1 told))

pub returns-in_err-write_new_pages : goal.returns-in_err-write_new_pages
returns-in_err-write_new_pages g c =
    let d = g.D.SectorDisk in
    let s = g.S.PageSource in
    let journal = c.args.journal.now in
    let directory = c.args.directory.now in
    let changes = c.args.pages.changes.now in
    let fresh = c.args.pages.fresh.now in
    let count = c.args.pages.count in
    let old = c.args.disk.now in
    let from = c.args.source.now in
    let blank = c.if-sparse.disk in
    let new = c.write_new_pages.new.disk in
    let left = c.write_new_pages.new.source in
    let zeros = made g (goal.at.returns-in_err-write_new_pages g c).After-write_new_pages in
    let result = c.from_residual-in_err-write_new_pages.result in
    let takes : TakesPages d s (IsNewSector journal directory changes) old new from left result = record {
      run = written_run journal directory changes c.requires.changes fresh c.requires.fresh count c.requires.few d s old from blank new left c.write_new_pages.result zeros c.write_new_pages.ensures.fills;
      asks = c.write_new_pages.ensures.fills.asks;
      causes = calm_first zeros.calm (told_on _ _ _ _ _ _ c.from_residual-in_err-write_new_pages.ensures.1 c.in_err-write_new_pages.ensures.fills.causes);
    } in
    not_put journal directory changes c.requires.changes fresh c.requires.fresh count c.requires.few d s old from c.requires.is (λ keeps image. g.met.D.SectorDisk.only_now old image keeps) new left result takes
    (written_asks journal directory changes c.requires.changes fresh c.requires.fresh count c.requires.few d s old from blank new left c.write_new_pages.result zeros c.write_new_pages.ensures.fills)
    (written_once journal directory changes c.requires.changes fresh c.requires.fresh count c.requires.few d s old from blank new left c.write_new_pages.result zeros c.write_new_pages.ensures.fills)
    _ c.from_residual-in_err-write_new_pages.ensures.1
    (λ told. c.in_err-write_new_pages.ensures.some (told_was _ Source result c.from_residual-in_err-write_new_pages.ensures.1 told))

pub returns-in_err-sync : goal.returns-in_err-sync
returns-in_err-sync g c =
    let d = g.D.SectorDisk in
    let s = g.S.PageSource in
    let journal = c.args.journal.now in
    let directory = c.args.directory.now in
    let changes = c.args.pages.changes.now in
    let fresh = c.args.pages.fresh.now in
    let count = c.args.pages.count in
    let old = c.args.disk.now in
    let from = c.args.source.now in
    let blank = c.if-sparse.disk in
    let mid = c.write_new_pages.new.disk in
    let new = c.sync.new.self in
    let left = c.write_new_pages.new.source in
    let w = c.in_ok-write_new_pages.ensures.fills in
    let y = c.sync.ensures in
    let zeros = made g (goal.at.returns-in_err-sync g c).After-write_new_pages in
    let run = and_no_write d (IsNewSector journal directory changes) old mid new
    (written_run journal directory changes c.requires.changes fresh c.requires.fresh count c.requires.few d s old from blank mid left (Ok (tt {0})) zeros w)
    y.size y.kept y.cause.later y.same y.unsynced y.time in
    let asks : (k : ℕ) → IsBroughtSector journal directory changes fresh count k ⊎ (d.asked new k ≡ d.asked old k) = λ k. ⊎_elim (λ of. inl of) (λ same. inr (y.asks k ∙ same))
    (written_asks journal directory changes c.requires.changes fresh c.requires.fresh count c.requires.few d s old from blank mid left (Ok (tt {0})) zeros w k) in
    let once : is_sparse directory changes fresh ≡ false → NamesOnce (IsPutSector journal directory changes fresh count) (d.asked old) (d.asked new) =
    λ all. once_still (IsPutSector journal directory changes fresh count) (d.asked old) (d.asked mid) (d.asked new)
    (written_once journal directory changes c.requires.changes fresh c.requires.fresh count c.requires.few d s old from blank mid left (Ok (tt {0})) zeros w all) y.asks in
    let result = c.from_residual-in_err-sync.result in
    let takes : TakesPages d s (IsNewSector journal directory changes) old new from left result = record {
      run = run;
      asks = w.asks;
      causes = device_failed _ _ _ _ _ c.from_residual-in_err-sync.ensures.1 (let failed = c.in_err-sync.ensures.cause.failed refl in omega (arith, failed, w.causes.device_calm, zeros.calm)) w.causes.source_calm;
    } in
    not_put journal directory changes c.requires.changes fresh c.requires.fresh count c.requires.few d s old from c.requires.is (λ keeps image. g.met.D.SectorDisk.only_now old image keeps) new left result takes
    asks once _ c.from_residual-in_err-sync.ensures.1 (λ told. absurd (not_source result c.from_residual-in_err-sync.ensures.1 told))

pub returns : goal.returns
returns g c =
    let d = g.D.SectorDisk in
    let s = g.S.PageSource in
    let journal = c.args.journal.now in
    let directory = c.args.directory.now in
    let changes = c.args.pages.changes.now in
    let fresh = c.args.pages.fresh.now in
    let count = c.args.pages.count in
    let old = c.args.disk.now in
    let from = c.args.source.now in
    let blank = c.if-sparse.disk in
    let mid = c.write_new_pages.new.disk in
    let new = c.sync.new.self in
    let left = c.write_new_pages.new.source in
    let w = c.in_ok-write_new_pages.ensures.fills in
    let y = c.sync.ensures in
    let zeros = made g (goal.at.returns g c).After-write_new_pages in
    let run = and_no_write d (IsNewSector journal directory changes) old mid new
    (written_run journal directory changes c.requires.changes fresh c.requires.fresh count c.requires.few d s old from blank mid left (Ok (tt {0})) zeros w)
    y.size y.kept y.cause.later y.same y.unsynced y.time in
    let asks : (k : ℕ) → IsBroughtSector journal directory changes fresh count k ⊎ (d.asked new k ≡ d.asked old k) = λ k. ⊎_elim (λ of. inl of) (λ same. inr (y.asks k ∙ same))
    (written_asks journal directory changes c.requires.changes fresh c.requires.fresh count c.requires.few d s old from blank mid left (Ok (tt {0})) zeros w k) in
    let once : is_sparse directory changes fresh ≡ false → NamesOnce (IsPutSector journal directory changes fresh count) (d.asked old) (d.asked new) =
    λ all. once_still (IsPutSector journal directory changes fresh count) (d.asked old) (d.asked mid) (d.asked new)
    (written_once journal directory changes c.requires.changes fresh c.requires.fresh count c.requires.few d s old from blank mid left (Ok (tt {0})) zeros w all) y.asks in
    let takes : TakesPages d s (IsNewSector journal directory changes) old new from left (Ok (tt {0})) = record {
      run = run;
      asks = w.asks;
      causes = none_failed _ _ _ _ (c.in_ok-sync.ensures.cause.calm ∙ w.causes.device_calm ∙ zeros.calm) w.causes.source_calm;
    } in
    let only_now = λ (keeps : d.keeps_model old) (image : Image). g.met.D.SectorDisk.only_now old image keeps in
    let place : d.keeps_model new → (h j : ℕ) → pool_standing journal.sizes.blocks journal.sizes.homes (d.content new) h j ≡ d.content mid (at_home journal.sizes.blocks (entries_of journal.map) h + j) =
    λ keeps h j. place_now journal directory changes c.requires.changes fresh c.requires.fresh count c.requires.few d s old from c.requires.is only_now new left (Ok (tt {0})) takes asks once keeps h j
    ∙ ap (λ (image : Image). image (at_home journal.sizes.blocks (entries_of journal.map) h + j)) (y.same keeps) in
    puts journal directory changes c.requires.changes fresh c.requires.fresh count c.requires.few d s old from c.requires.is only_now new left (Ok (tt {0})) takes asks once
    (λ keeps kept i j below small. place keeps (new_home directory changes fresh i) j ∙ w.body (y.kept keeps) kept i j below small)
    (λ keeps sparse h j is other small. place keeps h j
    ∙ still_zeros journal directory changes c.requires.changes fresh c.requires.fresh count c.requires.few d s old from blank mid left (Ok (tt {0})) zeros w sparse (y.kept keeps) h j is other small)
    (λ keeps. still_rest journal directory changes c.requires.changes fresh c.requires.fresh count c.requires.few d s old from c.requires.is only_now new left (Ok (tt {0})) takes asks once keeps (c.in_ok-sync.ensures.synced keeps)) (λ told. cc)
