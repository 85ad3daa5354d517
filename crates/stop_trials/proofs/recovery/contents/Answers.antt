use Rattle.{std.proofs.Common.{◌≡◌, ◌++◌, ℕ, List, refl, sym, ap, ◌∙◌, arith}, disk_model.{proofs.Pieces.{joined-none, joined-more}, specs.{Sectors.{joined}, Stop.{Image}}}, programs.proofs.Copies.{same_content}}
use Rattle.{stores.specs.Store.{disk_of}, stop_trials.specs.Standing.{standing_bytes}}
use Rattle.stop_trials.proofs.recovery.contents.Goals as goal

pub loop-file-init : goal.loop-file-init
loop-file-init g c = record {
  ready = c.requires;
  kept = λ keeps. keeps;
  same = λ keeps. refl;
  size = refl;
  bytes = λ keeps. c.new-bytes.ensures.items
      ∙ sym (joined-none (standing_bytes (g.D.SectorDisk.sector_count (disk_of c.args.store.now)) (g.D.SectorDisk.content (disk_of c.args.store.now))));
}

pub loop-file-preserved : goal.loop-file-preserved
loop-file-preserved g c =
    let e = c.in-Ok.ensures in
    let i = c.loop-file.invariant in
    let file = c.loop-file.file in
    let sectors = g.D.SectorDisk.sector_count (disk_of c.args.store.now) in
    let first = g.D.SectorDisk.content (disk_of c.args.store.now) in
    let mid = g.D.SectorDisk.content (disk_of c.loop-file.store) in
    record {
      ready = e.ready;
      kept = λ keeps. i.kept (e.kept keeps);
      same = λ keeps. same_content g.D.SectorDisk (disk_of c.loop-file.store) (disk_of c.add_file.new.store) (e.touches keeps) ∙ i.same (e.kept keeps);
      size = e.size ∙ i.size;
      bytes = λ keeps.
          e.added keeps
          ∙ ap (λ (s : List ℕ). s ++ standing_bytes (g.D.SectorDisk.sector_count (disk_of c.loop-file.store)) mid file) (i.bytes (e.kept keeps))
          ∙ ap (λ (n : ℕ). joined (standing_bytes sectors first) file ++ standing_bytes n mid file) i.size
          ∙ ap (λ (image : Image). joined (standing_bytes sectors first) file ++ standing_bytes sectors image file) (i.same (e.kept keeps))
          ∙ sym (joined-more (standing_bytes sectors first) file);
    }

pub returns-clause-bytes : goal.returns-clause-bytes
returns-clause-bytes g c = λ keeps.
    let all : c.loop-file.file ≡ 4096 = omega (arith, c.loop-file-test.false) in
    c.loop-file.invariant.bytes keeps
    ∙ ap (joined (standing_bytes (g.D.SectorDisk.sector_count (disk_of c.args.store.now)) (g.D.SectorDisk.content (disk_of c.args.store.now)))) all
