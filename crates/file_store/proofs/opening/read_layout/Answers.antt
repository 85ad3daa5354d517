use Rattle.file_store.proofs.Names.{◌≡◌, ◌≤◌, ℕ, sym, subst, ◌∙◌, arith, rules, false≢true, Image}
use Rattle.file_store.{specs.{Versions.{homes_of, home_pages_of, directory_of, mark_of}, Directory.{IsBadDirectory}, Standing.IsBadLayoutIn.{Unmarked, BadDirectory}}, proofs.{Asking.{none_once, mark_once, layout_once}, Openings.{good_when}}}
use Rattle.file_store.proofs.opening.read_layout.Goals as goal

pub returns-then-not-marks-clause-looks : goal.returns-then-not-marks-clause-looks
returns-then-not-marks-clause-looks g c = record {
  looks = search rules;
  bad = λ k _. Unmarked (λ same. absurd (false≢true (sym c.if-not-marks.true ∙ c.marks.ensures.1 (c.in_ok-read.ensures.gives k ∙ same))));
  no_journal = search rules;
}

pub returns-clause-good : goal.returns-clause-good
returns-clause-good g c = λ k.
    let k1 = c.read_directory.ensures.looks.run.kept k in
    let n = g.D.SectorDisk.sector_count c.args.disk.now in
    let content = g.D.SectorDisk.content c.args.disk.now in
    let room : homes_of c.args.version ≤ n = omega (arith, c.if-sectors-first_home.false, c.sectors.ensures, c.first_home.ensures.is) in
    let marked : content 0 ≡ mark_of c.args.version = sym (c.in_ok-read.ensures.gives k1) ∙ c.marks.ensures.0 c.if-not-marks.false in
    good_when c.read_directory.result c.args.version n (g.D.SectorDisk.sector_count c.read.new.self) content (g.D.SectorDisk.content c.read.new.self) c.read.ensures.size (c.read.ensures.same k1) room marked (c.read_directory.ensures.good k)

pub returns-clause-looks : goal.returns-clause-looks
returns-clause-looks g c = record {
  looks = search rules;
  bad = λ k is.
      let n = g.D.SectorDisk.sector_count c.args.disk.now in
      BadDirectory (subst (λ (image : Image). IsBadDirectory (home_pages_of c.args.version n) (image (directory_of c.args.version))) (c.read.ensures.same (c.read_directory.ensures.looks.run.kept k))
      (subst (λ (m : ℕ). IsBadDirectory (home_pages_of c.args.version m) (g.D.SectorDisk.content c.read.new.self (directory_of c.args.version))) c.read.ensures.size (c.read_directory.ensures.looks.bad k is)));
  no_journal = c.read_directory.ensures.looks.no_journal;
}

pub returns-then-sectors-first_home-clause-once : goal.returns-then-sectors-first_home-clause-once
returns-then-sectors-first_home-clause-once g c = none_once _ _

pub returns-in_err-read-clause-once : goal.returns-in_err-read-clause-once
returns-in_err-read-clause-once g c = mark_once c.args.version _ _ c.read.ensures.asks

pub returns-then-not-marks-clause-once : goal.returns-then-not-marks-clause-once
returns-then-not-marks-clause-once g c = mark_once c.args.version _ _ c.read.ensures.asks

pub returns-clause-once : goal.returns-clause-once
returns-clause-once g c = layout_once c.args.version _ _ _ c.read.ensures.asks c.read_directory.ensures.once
