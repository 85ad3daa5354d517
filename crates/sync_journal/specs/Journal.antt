-- The journal of a store, between two commits.
use Rattle.std.specs.Prelude.{ℕ, List, take}
use Rattle.sync_journal.specs.declared.journal.Journal.{Journal}

-- The homes of the last commit's pages, which stand in the body until the next commit writes them home. There are none
-- where the gate is closed.
abbrev pub live_homes : Journal → List ℕ
live_homes journal = take journal.count journal.homes
