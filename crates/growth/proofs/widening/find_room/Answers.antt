use Rattle.std.proofs.Common.{◌≡◌, ◌∙◌, ap, subst}
use Rattle.std.specs.Prelude.{max}
use Rattle.growth.specs.Room.{HasNoRun, wanted}
use Rattle.growth.proofs.Widened.{room_missing}
use Rattle.growth.proofs.widening.find_room.Goals as goal

pub returns-in-None : goal.returns-in-None
returns-in-None c =
    let large : c.max-wanted.result ≡ wanted c.args.entry.now c.args.missing = c.max-wanted.ensures ∙ ap (λ n. max n c.args.missing) (c.max.ensures ∙ ap (λ n. max n 64) c.homes.ensures) in
    room_missing c.args.before.now c.args.changes.now c.args.entry.now c.args.room c.args.missing c.find_run-in-None.result
    (subst (HasNoRun c.args.before.now c.args.changes.now c.args.entry.now c.args.room) large c.in-None.ensures) c.find_run-in-None.ensures
