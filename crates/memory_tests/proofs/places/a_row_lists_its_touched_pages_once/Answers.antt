use Rattle.{std.proofs.Common.{◌≡◌, ◌≤◌, ℕ, List, arith}, vm_types.specs.declared.file.FilePage.{FilePage}, page_cache.specs.{CacheTable.{CacheTable}, Gathering.{IsGathering}, Inside.{cache_table_of}}}
use Rattle.memory_tests.proofs.places.a_row_lists_its_touched_pages_once.Goals as goal

-- fewer entries may be kept
fewer : (t now : CacheTable) (list : List FilePage) (ranks : List ℕ) (n used : ℕ) → t ≡ now → IsGathering t list ranks n → used ≤ n → IsGathering now list ranks used
fewer t now list ranks n used is gathering less = rw (← is) (record {
  room = omega (arith, gathering.room);
  nodes = gathering.nodes;
  ranked = λ i below. gathering.ranked i (omega arith);
})

pub dirty_in-got-requires-clause-gathering : goal.dirty_in-got-requires-clause-gathering
dirty_in-got-requires-clause-gathering g c =
    fewer (cache_table_of c.cache.inside) c.loop-n-2.cache c.loop-file.list c.loop-file.ranks c.loop-file.entries _ c.cache.view_is c.loop-file.invariant (omega arith)
