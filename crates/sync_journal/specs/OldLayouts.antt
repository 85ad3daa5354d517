-- Stores from which an upgrade makes one of a later layout, and which are only read: of layout 1, 2 or 3. What an image of one stands for.
use Rattle.std.specs.Prelude.{ℕ, ◌≡◌, ◌+◌, Bool, true, List}
use Rattle.disk_model.specs.Stop.{Image}
use Rattle.sync_journal.specs.Layout.{Sizes, gate_sector, sizes_1, sizes_2, sizes_3, home_count_in}
use Rattle.sync_journal.specs.Map.{IsBadMap}
use Rattle.sync_journal.specs.Gate.{is_open_sector}
use Rattle.sync_journal.specs.Standing.{standing_under, map_in}
use Rattle.sync_journal.specs.declared.version.Version.{Version}
use Rattle.sync_journal.specs.declared.version.Version.TheVariants.{One, Two, Three}

-- the gate of a layout, and whether it is open
abbrev pub old_gate : Version → ℕ
old_gate One = gate_sector
old_gate Two = gate_sector
old_gate Three = 16

abbrev pub is_old_open : Version → Image → Bool
is_old_open layout image = is_open_sector (image (old_gate layout))

-- where the journal lies that counts under such a gate: of layout 3, which has two, the second one where it is open
abbrev pub sizes_under : Version → Bool → Sizes
sizes_under One gate = sizes_1
sizes_under Two gate = sizes_2
sizes_under Three gate = sizes_3 gate

-- and whether pages stand in it: of layout 3 always
abbrev pub holds_under : Version → Bool → Bool
holds_under One gate = gate
holds_under Two gate = gate
holds_under Three gate = true

-- the same of an image
abbrev pub sizes_in : Version → Image → Sizes
sizes_in layout image = sizes_under layout (is_old_open layout image)

abbrev pub holds_in : Version → Image → Bool
holds_in layout image = holds_under layout (is_old_open layout image)

-- how many home pages a device of so many sectors has
abbrev pub old_home_count : Version → ℕ → ℕ
old_home_count layout sectors = home_count_in (sizes_under layout true) sectors

-- the first sector of the page that stands for home h, and its sector i
abbrev pub old_place : Version → Image → ℕ → ℕ
old_place layout image h = standing_under (sizes_in layout image) (holds_in layout image) (map_in (sizes_in layout image) image) h

abbrev pub old_standing : Version → Image → ℕ → ℕ → List ℕ
old_standing layout image h i = image (old_place layout image h + i)

-- Pages stand in the journal before a map that no commit writes.
pub record IsBadOld (layout : Version) (sectors : ℕ) (image : Image) : Type 0 where
  pub holds : holds_in layout image ≡ true
  pub map : IsBadMap (sizes_in layout image).most (old_home_count layout sectors) (map_in (sizes_in layout image) image)
