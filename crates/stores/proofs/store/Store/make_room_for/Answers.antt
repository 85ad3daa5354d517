use Rattle.stores.proofs.{Names.{arith}, RoomMade.{left_alone, made}}
use Rattle.stores.proofs.store.Store.make_room_for.Goals as goal

-- room is enough
pub returns-then-count-free_pages : goal.returns-then-count-free_pages
returns-then-count-free_pages g c =
    left_alone g.D.SectorDisk g.met.D.SectorDisk.counts_now g.met.D.SectorDisk.only_now c.args.self.now c.requires.ready c.args.count
    (omega (arith, c.free_pages.ensures, c.if-count-free_pages.true))

-- or the store was tidied
pub returns : goal.returns
returns g c =
    made g.D.SectorDisk c.args.count c.args.self.now c.tidy.new.self c.tidy.result c.requires.most (omega (arith, c.free_pages.ensures, c.if-count-free_pages.false)) c.tidy.ensures
