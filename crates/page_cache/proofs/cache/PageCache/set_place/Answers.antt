use Rattle.std.proofs.Common.{rules}
use Rattle.page_cache.proofs.cache.PageCache.set_place.Goals as goal

pub returns-in-Slot-clause-touched : goal.returns-in-Slot-clause-touched
returns-in-Slot-clause-touched c = search rules
