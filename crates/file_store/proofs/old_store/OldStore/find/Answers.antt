use Rattle.file_store.proofs.Names.{◌≡◌, ◌≤◌, Err, inl, sym, ap, subst, ◌∙◌, Image, once_wider, so_before, so_since, IsBadOld, IsLookedAtIn, NamesOnce, StandsAsFound}
use Rattle.file_store.specs.{declared.faults.OpenFault.TheVariants.{BadLayout}, Faults.{open_fault}, Standing.{IsHeadIn}, Upgrade.{IsOldHead}, Versions.{homes_of}}
use Rattle.file_store.proofs.{Asking.{old_head_once}, Causes.{journal_from, is_this, same_Err}, Openings.{content_is}}
use Rattle.file_store.proofs.old_store.OldStore.find.Goals as goal

pub returns-in_err-directory-clause-bad_layout : goal.returns-in_err-directory-clause-bad_layout
returns-in_err-directory-clause-bad_layout g c = λ k is.
    let made = is_this c.from_residual.result c.in_err-directory.field-0.0 c.from_residual.ensures.1 in
    c.in_err-directory.ensures.looks.bad k (ap Err (same_Err c.in_err-directory.field-0.0 BadLayout (sym made ∙ is)))

pub find-requires : goal.find-requires
find-requires g c = subst (λ m. homes_of c.args.version ≤ m) (sym c.read_layout.ensures.looks.run.size) c.in_ok-directory.ensures.room

pub returns-in_err-journal-clause-bad_journal : goal.returns-in_err-journal-clause-bad_journal
returns-in_err-journal-clause-bad_journal g c = λ k is.
    let k1 = c.find.ensures.run.kept k in
    let layout = c.in_ok-directory.ensures in
    let made = is_this c.from_residual-in_err-journal.result (open_fault c.in_err-journal.field-0.0) c.from_residual-in_err-journal.ensures.1 in
    let fault = journal_from c.in_err-journal.field-0.0 (same_Err _ _ (sym is ∙ made)) in (
      so_before g.D.SectorDisk c.args.disk.now c.read_layout.new.disk (layout.looks.run.touches k1) (λ n image. IsBadOld c.args.version n image) layout.looks.run.size (c.in_err-journal.ensures.bad k (ap Err fault)),
      layout.good k1,
    )

pub returns-clause-found : goal.returns-clause-found
returns-clause-found g c =
    let d = g.D.SectorDisk in
    let old = c.args.disk.now in
    let mid = c.read_layout.new.disk in
    let layout = c.in_ok-directory.ensures in
    let kept = c.find.ensures.run.kept in
    let is : c.in_ok-journal.journal.version ≡ c.args.version = c.in_ok-journal.ensures.version in
    record {
      version = is;
      sound = layout.found.sound;
      few = c.in_ok-journal.ensures.few;
      found = λ k. record {
        sector = layout.found.sector (kept k);
        entries = layout.found.entries (kept k);
        stands = subst (λ (image : Image). StandsAsFound c.in_ok-journal.journal image) (content_is d old mid (layout.looks.run.touches (kept k))) (c.in_ok-journal.ensures.found k);
      };
      good_layout = λ k. layout.good (kept k);
      good_journal = λ k bad. c.in_ok-journal.ensures.good k (so_since d old mid (layout.looks.run.touches (kept k)) (λ n image. IsBadOld c.args.version n image) layout.looks.run.size bad);
    }

pub returns-in_err-directory-clause-once : goal.returns-in_err-directory-clause-once
returns-in_err-directory-clause-once g c = λ k. once_wider (IsHeadIn c.args.version) (IsOldHead c.args.version (g.D.SectorDisk.content c.args.disk.now)) _ _ (λ s at. inl at) c.read_layout.ensures.once

pub returns-in_err-journal-clause-once : goal.returns-in_err-journal-clause-once
returns-in_err-journal-clause-once g c = λ k.
    let d = g.D.SectorDisk in let old = c.args.disk.now in let mid = c.read_layout.new.disk in
    old_head_once c.args.version (d.content old) (d.asked old) (d.asked mid) (d.asked c.find.new.disk) c.read_layout.ensures.once
    (subst (λ (image : Image). NamesOnce (IsLookedAtIn c.args.version image) (d.asked mid) (d.asked c.find.new.disk))
    (content_is d old mid (c.read_layout.ensures.looks.run.touches (c.find.ensures.run.kept k))) (c.find.ensures.once k))

pub returns-clause-once : goal.returns-clause-once
returns-clause-once g c = λ k.
    let d = g.D.SectorDisk in let old = c.args.disk.now in let mid = c.read_layout.new.disk in
    old_head_once c.args.version (d.content old) (d.asked old) (d.asked mid) (d.asked c.find.new.disk) c.read_layout.ensures.once
    (subst (λ (image : Image). NamesOnce (IsLookedAtIn c.args.version image) (d.asked mid) (d.asked c.find.new.disk))
    (content_is d old mid (c.read_layout.ensures.looks.run.touches (c.find.ensures.run.kept k))) (c.find.ensures.once k))
