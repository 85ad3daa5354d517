use Rattle.pool_journal.{proofs.Blanked.{BlanksBefore}, specs.Maps.{entries_of}}
use Rattle.pool_journal.proofs.pool.PoolJournal.blank_slots.Given as goal

abbrev pub invariant-loop-place : goal.invariant-loop-place
invariant-loop-place g l = BlanksBefore g.D.SectorDisk l.self.sizes.blocks l.second (entries_of l.self.map l.second) l.first l.count l.place l.fn.disk l.disk
