use Rattle.{std.proofs.Common.{◌∙◌, sym}, lives.proofs.{Agreeing.{same_contents}, Lives.{lives_most, still_stands}}}
use Rattle.lives.proofs.laws.boot_after_lives.Goals as goal

pub returns : goal.returns
returns g c = λ before lives store m holds keeps boots.
    let left = still_stands g.D.SectorDisk g.E.SectorDisk before lives store holds in
    let sectors = g.D.SectorDisk.sector_count store in
    let agree = same_contents sectors boots.state.durable left.0 (g.D.SectorDisk.content store) (boots.stands keeps) left.2 in (
      left.0,
      left.1,
      record {
        facts = λ f. sym (boots.start.files f) ∙ agree.files f;
        seen = λ f k inside. boots.start.same f k ∙ agree.pages f k inside;
        most = boots.most keeps ∙ lives_most g.D.SectorDisk g.E.SectorDisk sectors lives holds.first (g.D.SectorDisk.content store) holds.lived;
      },
    )
