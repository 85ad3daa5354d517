use Rattle.{std.proofs.Common.{⊎_elim, refl, sym, ap, ◌∙◌, subst, Err, rules}, stores.specs.{Opened.{IsCarriedOut}, Store.{StoreKept}}}
use Rattle.programs.{proofs.{Asking.{keeps_image, keeps_unopened}, Copies.{same_open, opened_bytes, opened_info}}, specs.Showing.{KeepsImage, RefusesToShow}}
use Rattle.programs.proofs.showing.show.Goals as goal

pub returns-in-Ok-show_opened-clause-writes : goal.returns-in-Ok-show_opened-clause-writes
returns-in-Ok-show_opened-clause-writes g c =
    let opened = c.in-Ok.ensures in
    let e = c.in-Ok-show_opened.ensures in
    record {
      calm = search rules;
      ready = search rules;
      carried = λ keeps. subst (λ (kept : StoreKept). IsCarriedOut kept (g.D.SectorDisk.content c.args.disk)) (sym e.reads.same) (opened.carried (e.reads.kept keeps));
      synced = λ keeps k u. ⊎_elim (λ was. opened.synced (e.reads.kept keeps) k was) (λ none. none) ((e.reads.touches keeps).unsynced k u);
      good_layout = λ keeps. opened.good_layout (e.reads.kept keeps);
      good_journal = λ keeps. opened.good_journal (e.reads.kept keeps);
      shown = λ keeps files pages stood.
          let read = opened_bytes g.D.SectorDisk c.args.disk c.in-Ok.store opened (e.reads.kept keeps) files pages stood c.args.file e.some.0 e.some.1 in
          (e.some.0, read.0, e.written keeps _ read.1);
    }

pub returns-in-Ok-show_opened-clause-keeps : goal.returns-in-Ok-show_opened-clause-keeps
returns-in-Ok-show_opened-clause-keeps g c =
    keeps_image g.D.SectorDisk c.args.disk c.in-Ok.store c.show_opened.new.store c.args.file c.in-Ok.ensures c.show_opened.ensures.reads

pub returns-in-Err-show_opened-clause-err_keeps : goal.returns-in-Err-show_opened-clause-err_keeps
returns-in-Err-show_opened-clause-err_keeps g c =
    subst (λ d. KeepsImage g.D.SectorDisk c.args.file c.args.disk d) (sym c.into_disk.ensures)
    (keeps_image g.D.SectorDisk c.args.disk c.in-Ok.store c.show_opened.new.store c.args.file c.in-Ok.ensures c.show_opened.ensures.reads)

pub returns-in-Err-show_opened-clause-refuses : goal.returns-in-Err-show_opened-clause-refuses
returns-in-Err-show_opened-clause-refuses g c =
    let opened = c.in-Ok.ensures in
    let e = c.in-Err-show_opened.ensures in
    subst (λ d. RefusesToShow g.D.SectorDisk c.args.file c.args.disk c.in-Err-show_opened.fault d) (sym c.into_disk.ensures) (record {
      device = λ is. absurd (e.unopened _ (ap Err is));
      read = search rules;
      calm = search rules;
      bad_layout = λ _ is. absurd (e.unopened _ (ap Err is));
      bad_journal = λ _ is. absurd (e.unopened _ (ap Err is));
      layout_first = λ _ is. absurd (e.unopened _ (ap Err is));
      unwritten = search rules;
      good_layout = λ keeps _. opened.good_layout (e.reads.kept keeps);
      good_journal = λ keeps _. opened.good_journal (e.reads.kept keeps);
      no_file = λ is keeps files pages stood.
          sym (opened_info g.D.SectorDisk c.args.disk c.in-Ok.store opened (e.reads.kept keeps) files pages stood c.args.file) ∙ e.none (ap Err is);
    })

pub returns-in-Err-show_opened-clause-begins : goal.returns-in-Err-show_opened-clause-begins
returns-in-Err-show_opened-clause-begins g c =
    let opened = c.in-Ok.ensures in
    let e = c.in-Err-show_opened.ensures in record {
      no_byte = λ other is. absurd (e.unopened _ (ap Err is));
      begun = λ keeps files pages info stood is.
          let kept = subst g.D.SectorDisk.keeps_model c.into_disk.ensures keeps in
          let first = e.reads.kept kept in
          let file = opened_info g.D.SectorDisk c.args.disk c.in-Ok.store opened first files pages stood c.args.file ∙ is in
          let read = opened_bytes g.D.SectorDisk c.args.disk c.in-Ok.store opened first files pages stood c.args.file info file in
          e.written kept _ read.1;
    }

pub returns-in-Err-clause-refuses : goal.returns-in-Err-clause-refuses
returns-in-Err-clause-refuses g c =
    let e = c.in-Err.ensures in record {
      device = search rules;
      read = search rules;
      calm = search rules;
      bad_layout = λ keeps is. e.bad_layout keeps (same_open c.in-Err.fault _ is);
      bad_journal = λ keeps is. e.bad_journal keeps (same_open c.in-Err.fault _ is);
      layout_first = λ keeps is. e.layout_first keeps (same_open c.in-Err.fault _ is);
      unwritten = λ keeps is. e.unwritten keeps (λ device. ⊎_elim
          (λ layout. (let bad = sym (same_open c.in-Err.fault _ layout) ∙ device in cc)) (λ journal. (let bad = sym (same_open c.in-Err.fault _ journal) ∙ device in cc)) is);
      good_layout = λ _ none. absurd (none c.in-Err.fault refl);
      good_journal = λ _ none. absurd (none c.in-Err.fault refl);
      no_file = search rules;
    }

pub returns-in-Err-clause-err_keeps : goal.returns-in-Err-clause-err_keeps
returns-in-Err-clause-err_keeps g c = keeps_unopened g.D.SectorDisk c.args.disk c.in-Err.disk c.args.file c.in-Err.ensures.err_run
