use Rattle.file_store.proofs.{Entries.{entries_all, entries_front, entries_more, fits_in}, Names.{◌≡◌, ◌≢◌, ◌<◌, ◌+◌, ⊎_elim, None, get_or, set, take, length, sym, ap, ◌∙◌, subst, arith, length-take-le, cases_eq}}
use Rattle.{file_store.specs.Directory.{entry_in, AreGood, AreEntries}, std.proofs.Common.{length-set, get_or-set_same, get_or-set_other}}
use Rattle.file_store.proofs.directory.Directory.from_sector.Goals as goal

pub next_entry-requires-clause-read : goal.next_entry-requires-clause-read
next_entry-requires-clause-read c = entries_front c.args.sector.now c.loop-f.entries c.loop-f.f (omega (arith, c.loop-f.invariant.size, c.loop-f-test.true)) c.loop-f.invariant.read

pub loop-f-preserved : goal.loop-f-preserved
loop-f-preserved c =
    let sector = c.args.sector.now in
    let entries = c.loop-f.entries in
    let f = c.loop-f.f in
    let inside : f < length entries = omega (arith, c.loop-f.invariant.size, c.loop-f-test.true) in
    let front : length (take f entries) ≡ f = length-take-le f entries (omega arith) in
    let is : c.in_ok-entries.field-0 ≡ entry_in sector f = c.in_ok-entries.ensures.next.entry ∙ ap (entry_in sector) front in
    record {
      size = length-set entries f c.in_ok-entries.field-0 ∙ c.loop-f.invariant.size;
      fits = λ k e less there. ⊎_elim
          (λ (same : k ≡ f). fits_in c.in_ok-entries.field-0 e c.in_ok-entries.ensures.next.fits
          (sym (get_or-set_same entries f c.in_ok-entries.field-0 None inside) ∙ ap (λ n. get_or (set entries f c.in_ok-entries.field-0) n None) (sym same) ∙ there))
          (λ (other : k ≢ f). c.loop-f.invariant.fits k e (omega (arith, less, other)) (sym (get_or-set_other entries f k c.in_ok-entries.field-0 None other) ∙ there))
          (cases_eq k f);
      read = entries_more sector entries f c.in_ok-entries.field-0 inside c.loop-f.invariant.read is;
      good = subst (λ n. AreGood c.args.homes sector (n + 1)) front c.in_ok-entries.ensures.next.good;
    }

pub returns-clause-entries : goal.returns-clause-entries
returns-clause-entries c = λ f.
    let at_end : c.loop-f.f ≡ 64 = omega (arith, c.loop-f.auto.f-end, c.loop-f-test.false) in
    entries_all c.args.sector.now c.loop-f.entries c.loop-f.invariant.size (subst (λ n. AreEntries c.args.sector.now c.loop-f.entries n) at_end c.loop-f.invariant.read) f
