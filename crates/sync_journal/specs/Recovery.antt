-- What a look at the journal finds.
use Rattle.std.specs.Prelude.{ℕ, ◌≤◌, ◌≡◌, ⊤, false, List, take, Option, Some, None, Result, Ok, Err}
use Rattle.disk_model.specs.Stop.{Image}
use Rattle.sync_journal.specs.Layout.{home_count, page_limit}
use Rattle.sync_journal.specs.Gate.{is_open}
use Rattle.sync_journal.specs.Map.{AreHomes}
use Rattle.sync_journal.specs.Standing.{IsOpenFor, IsBadSingle}
use Rattle.sync_journal.specs.declared.faults.RecoverFault.{RecoverFault}
use Rattle.sync_journal.specs.declared.faults.RecoverFault.TheVariants.{Device, BadJournal}

-- a closed gate, an open one before a map that names the first homes of the list, or a bad journal
abbrev pub Finds : ℕ → Image → List ℕ → Result (Option ℕ) RecoverFault → Type 0
Finds sectors image homes (Ok None) = is_open image ≡ false
Finds sectors image homes (Ok (Some count)) = IsOpenFor (take count homes) image
Finds sectors image homes (Err Device) = ⊤
Finds sectors image homes (Err BadJournal) = IsBadSingle sectors image

-- The first homes of the list are fit to be written.
abbrev pub GivesHomes : ℕ → List ℕ → Result (Option ℕ) RecoverFault → Type 0
GivesHomes sectors homes (Ok None) = ⊤
GivesHomes sectors homes (Ok (Some count)) = (count ≤ page_limit) × AreHomes (home_count sectors) (take count homes)
GivesHomes sectors homes (Err fault) = ⊤
