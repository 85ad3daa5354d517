use Rattle.std.proofs.Common.{◌≡◌, ◌<◌, ◌-◌, List, length, ap, subst, inr, arith}
use Rattle.directories.specs.Homes.{extents_of}
use Rattle.directories.specs.declared.entry.Extent.{Extent}
use Rattle.growth.specs.Room.{HasNoRun, IsRoom, file_homes}
use Rattle.growth.proofs.Widened.{with_one}
use Rattle.growth.proofs.widening.widen.Goals as goal

pub returns-in-Some : goal.returns-in-Some
returns-in-Some c =
    let e = c.args.entry.now in
    let homes = c.homes-homes.ensures in
    let long : length c.extents.result.now ≡ length (extents_of e) = ap (λ (xs : List Extent). length xs) c.extents.ensures.extents in
    let lacks : file_homes e < c.args.count = omega (arith, homes) in
    let few : length (extents_of e) < 30 = omega (arith, long) in
    with_one c.args.before.now c.args.changes.now e c.args.count c.args.room c.in-Some.extent c.with_extent.result lacks few
    (subst (λ n. IsRoom c.args.before.now c.args.changes.now e c.args.room (c.args.count - n) c.in-Some.extent) homes c.in-Some.ensures) c.with_extent.ensures

pub returns-in-None : goal.returns-in-None
returns-in-None c =
    let homes = c.homes-homes.ensures in
    ((λ has. omega (arith, has, homes)), inr (subst (λ n. HasNoRun c.args.before.now c.args.changes.now c.args.entry.now c.args.room (c.args.count - n)) homes c.in-None.ensures))
