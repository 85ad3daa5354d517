use Rattle.std.proofs.Common.{◌≡◌, length}
use Rattle.store_tests.proofs.pools.a_batch_has_more_pages_than_a_journal_takes.Given as goal

abbrev pub invariant-loop-page : goal.invariant-loop-page
invariant-loop-page g l = length l.bytes.items ≡ length l.pages.items
