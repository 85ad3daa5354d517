-- What a stop leaves in the sectors that were not synced.
use Rattle.std.specs.Prelude.{ℕ, List, ◌++◌, take, replicate, false, if◌then◌else◌, slice_index_or}
use Rattle.disk_model.specs.Sectors.{sector_bytes}
use Rattle.disk_model.specs.Stop.{Image}
use Rattle.disk_model.specs.SimDisk.{sector_of, last_synced}
use Rattle.disk_model.specs.declared.sim_disk.SimDisk.{SimDisk}
use Rattle.sync_journal.specs.Gate.{open_sector, closed_sector}
use Rattle.stop_trials.specs.declared.fillings.Filling.{Filling}
use Rattle.stop_trials.specs.declared.fillings.Filling.TheVariants.{Old, Zeros, Ones, HalfOpen, Open}

-- the first half of what opens the gate, and zeros
unfoldable pub half_open_sector : List ℕ
half_open_sector = take 256 open_sector ++ replicate 256 0

-- what a sector holds then that held these bytes when it was last synced
abbrev pub filled_by : Filling → List ℕ → List ℕ
filled_by Old old = old
filled_by Zeros old = closed_sector
filled_by Ones old = replicate sector_bytes 255
filled_by HalfOpen old = half_open_sector
filled_by Open old = open_sector

abbrev pub left_with : Filling → SimDisk → Image
left_with filling d k = if slice_index_or d.unsynced.items k false then filled_by filling (last_synced d k) else sector_of d k
