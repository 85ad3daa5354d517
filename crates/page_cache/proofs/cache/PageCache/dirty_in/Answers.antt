use Rattle.page_cache.proofs.ExactLemmas.{exact, length_of}
use Rattle.page_cache.proofs.cache.PageCache.dirty_in.Goals as goal

pub returns-then-row-len-clause-number : goal.returns-then-row-len-clause-number
returns-then-row-len-clause-number c = length_of _ _ _ _ _ _ _ _ c.gather_row.result c.gather_row.ensures.gathered c.gather_row.ensures.all

pub returns-then-row-len-clause-exact : goal.returns-then-row-len-clause-exact
returns-then-row-len-clause-exact c = exact _ _ _ _ _ _ _ _ c.gather_row.result c.gather_row.ensures.gathered c.gather_row.ensures.all c.gather_row.ensures.too_many

pub returns-else-row-len-clause-number : goal.returns-else-row-len-clause-number
returns-else-row-len-clause-number c = length_of _ _ _ _ _ _ _ _ c.gather_touched.result c.gather_touched.ensures.gathered c.gather_touched.ensures.all

pub returns-else-row-len-clause-exact : goal.returns-else-row-len-clause-exact
returns-else-row-len-clause-exact c = exact _ _ _ _ _ _ _ _ c.gather_touched.result c.gather_touched.ensures.gathered c.gather_touched.ensures.all c.gather_touched.ensures.too_many
