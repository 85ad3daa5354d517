use Rattle.file_store.{proofs.{Asking.{one_once}, Making.{written_synced, makes_write, makes_synced}, Names.{ℕ, refl, rules, once_still}}, specs.Format.{IsMarkSector}}
use Rattle.file_store.proofs.formatting.write_mark.Goals as goal

pub returns-in_err-write-clause-writes : goal.returns-in_err-write-clause-writes
returns-in_err-write-clause-writes g c =
    let d = g.D.SectorDisk in
    written_synced d _ _ _ _ (makes_write d IsMarkSector 0 c.args.disk.now c.write.new.self refl c.write.ensures.size c.write.ensures.kept c.write.ensures.cause.later c.write.ensures.asks c.write.ensures.others c.write.ensures.unsynced c.write.ensures.time)
    (one_once IsMarkSector 0 _ _ refl c.write.ensures.asks) (search rules) (search rules) (search rules)

pub returns-clause-writes : goal.returns-clause-writes
returns-clause-writes g c =
    let d = g.D.SectorDisk in
    let W : ℕ → Type 0 = IsMarkSector in
    written_synced d _ _ _ _ (makes_synced d W c.args.disk.now c.write.new.self c.sync.new.self
    (makes_write d IsMarkSector 0 c.args.disk.now c.write.new.self refl c.write.ensures.size c.write.ensures.kept c.write.ensures.cause.later c.write.ensures.asks c.write.ensures.others c.write.ensures.unsynced c.write.ensures.time)
    c.sync.ensures.size c.sync.ensures.kept c.sync.ensures.cause.later c.sync.ensures.asks c.sync.ensures.same c.sync.ensures.unsynced c.sync.ensures.time)
    (once_still W _ _ _ (one_once IsMarkSector 0 _ _ refl c.write.ensures.asks) c.sync.ensures.asks) (search rules) (search rules) (search rules)
