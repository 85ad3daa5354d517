use Rattle.std.proofs.Common.{refl, arith}
use Rattle.sync_journal.proofs.Causes.{is_error}
use Rattle.pool_journal.proofs.Tidied.{maps_empty, not_copied}
use Rattle.pool_journal.proofs.pool.PoolJournal.bring_home.Goals as goal

pub returns-in_err-copy_home : goal.returns-in_err-copy_home
returns-in_err-copy_home g c = not_copied g.D.SectorDisk c.args.self.now c.requires.is c.args.disk.now c.copy_home.new.disk c.copy_home.ensures _ (is_error _ _ c.from_residual.ensures.1)
    (c.in_err-copy_home.ensures.failed refl)

pub put_map-requires-clause-size : goal.put_map-requires-clause-size
put_map-requires-clause-size g c = c.clear.ensures.size _ c.requires.is.next

pub put_map-requires-clause-homes : goal.put_map-requires-clause-homes
put_map-requires-clause-homes g c = λ body r. (let none = c.clear.ensures.empty body r in omega (arith, none))

pub returns : goal.returns
returns g c =
    let is = c.requires.is in
    maps_empty g.D.SectorDisk c.args.self.now is c.args.disk.now c.copy_home.new.disk c.in_ok-copy_home.ensures
    (record { sizes = c.args.self.now.sizes; second = c.args.self.now.second; map = c.args.self.now.map; next = c.clear.new.self; free = c.args.self.now.free; taken = c.args.self.now.taken })
    (record { is = record { sized = is.sized; map = is.map; next = c.clear.ensures.size _ is.next; homes = is.homes; counted = is.counted; room = is.room }; sizes = refl; second = refl; map = refl; free = refl })
    c.clear.ensures.empty c.put_map.new.disk c.put_map.ensures
