-- The layouts of stores.
use Rattle.std.specs.Prelude.{ℕ, true, List}
use Rattle.sync_journal.specs.OldLayouts.{sizes_under, old_home_count}
use Rattle.sync_journal.specs.declared.version.Version.{Version}
use Rattle.sync_journal.specs.declared.version.Version.TheVariants.{One, Two, Three}
use Rattle.file_store.specs.Layout.{mark, mark_1, mark_3}

-- the first sector of the first home page
abbrev pub homes_of : Version → ℕ
homes_of version = (sizes_under version true).homes

-- how many home pages a device of so many sectors has
abbrev pub home_pages_of : Version → ℕ → ℕ
home_pages_of version sectors = old_home_count version sectors

-- the sector of the directory
abbrev pub directory_of : Version → ℕ
directory_of One = 1
directory_of Two = 1
directory_of Three = 9

-- what its sector 0 holds, and of layout 3 sector 1 too
abbrev pub mark_of : Version → List ℕ
mark_of One = mark_1
mark_of Two = mark
mark_of Three = mark_3
