use Rattle.{std.proofs.Common.{arith}, stores.specs.Store.{kept_of}, batches.proofs.Rooms.{always_takes}}
use Rattle.batches.proofs.serving.serve.Goals as goal

pub make_room_for-requires-clause-most : goal.make_room_for-requires-clause-most
make_room_for-requires-clause-most g c = let most = always_takes (kept_of c.args.store.now) in omega (arith, most, c.always_free_pages.ensures)
