use Rattle.page_cache.proofs.TableLemmas.{IsSound-whole}
use Rattle.page_cache.proofs.cache.PageCache.frames.Goals as goal

pub returns-clause-sound : goal.returns-clause-sound
returns-clause-sound c = rw (← c.self.view_is) (IsSound-whole c.self.inside c.self.invariant)
