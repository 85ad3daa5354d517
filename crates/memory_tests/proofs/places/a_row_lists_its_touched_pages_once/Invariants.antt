use Rattle.page_cache.specs.{Gathering.{IsGathering}, Inside.{cache_table_of}}
use Rattle.memory_tests.proofs.places.a_row_lists_its_touched_pages_once.Given as goal

abbrev pub invariant-loop-n : goal.invariant-loop-n
invariant-loop-n g l = Unit {0}

abbrev pub invariant-loop-n-2 : goal.invariant-loop-n-2
invariant-loop-n-2 g l = Unit {0}

-- each row goes on with the list and the ranks of the one before
abbrev pub invariant-loop-file : goal.invariant-loop-file
invariant-loop-file g l = IsGathering (cache_table_of l.cache-inside) l.list l.ranks l.entries
