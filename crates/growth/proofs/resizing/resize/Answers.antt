use Rattle.std.proofs.Common.{subst}
use Rattle.directories.specs.Homes.{pages_of_length}
use Rattle.growth.specs.Resizing.{IsResized}
use Rattle.growth.specs.Room.{HasNoRoom, GivesRoom}
use Rattle.growth.proofs.Resized.{resized, keeps_pages}
use Rattle.growth.proofs.resizing.resize.Goals as goal

pub returns-in-Some : goal.returns-in-Some
returns-in-Some c =
    let before = c.args.before.now in
    let changes = c.args.changes.now in
    let e = c.args.entry.now in
    let bytes = c.args.bytes in
    let room = c.args.room in
    let gives : GivesRoom before changes e (pages_of_length bytes) room c.in-Some.wider = subst (λ n. GivesRoom before changes e n room c.in-Some.wider) c.pages_of.ensures c.in-Some.ensures in
    let is : IsResized before changes e bytes room c.cut.result = resized before changes e bytes room c.in-Some.wider c.cut.result gives c.cut.ensures in
    record { entry = is; keeps = keeps_pages before changes e bytes room c.cut.result is }

pub returns-in-None-clause-entry : goal.returns-in-None-clause-entry
returns-in-None-clause-entry c = subst (λ n. HasNoRoom c.args.before.now c.args.changes.now c.args.entry.now n c.args.room) c.pages_of.ensures c.in-None.ensures
