use Rattle.page_cache.{specs.Inside.{cache_table_of}, proofs.TableLemmas.{IsFresh-empty, IsSound-fresh}}
use Rattle.page_cache.proofs.cache.PageCache.new.Goals as goal

pub returns-clause-fresh : goal.returns-clause-fresh
returns-clause-fresh c = IsFresh-empty (cache_table_of (record { frames = c.args.frames; index = c.in_ok-index.index; touched = c.in_ok-touched.touched })) c.args.slots c.in_ok-index.ensures.empty

pub returns-clause-sound : goal.returns-clause-sound
returns-clause-sound c =
    let t = cache_table_of (record { frames = c.args.frames; index = c.in_ok-index.index; touched = c.in_ok-touched.touched }) in
    IsSound-fresh t c.args.frames c.args.slots c.requires.least_frames c.requires.most_frames c.requires.most_slots (IsFresh-empty t c.args.slots c.in_ok-index.ensures.empty)
