-- What the exit status says of the trials.
use Rattle.std.specs.Prelude.{◌≡◌, ℕ, List, map, Option, None, Result, IfOk}
use Rattle.std.specs.declared.alloc.Global.{Global}
use Rattle.std.specs.declared.fs.File.{File}
use Rattle.std.specs.declared.vec.Vec.{Vec}
use Rattle.command_words.specs.declared.stopping.StopWords.{StopWords}
use Rattle.disk_model.specs.declared.sector_disk.SectorDisk.{Ghosts}
use Rattle.disk_model.specs.declared.sim_disk.SimDisk.{SimDisk}
use Rattle.disk_model.specs.SimDisk.{sectors_in, sector_of}
use Rattle.file_store.specs.declared.sources.FileSource.{FileSource}
use Rattle.programs.specs.declared.faults.ProgramFault.{ProgramFault}
use Rattle.programs.specs.Running.{outcome_status}
use Rattle.programs.specs.Specs.{AreSpecSources}
use Rattle.stores.specs.NewStores.{IsNewStore}
use Rattle.stores.specs.declared.new_stores.NewStore.{NewStore}
use Rattle.stop_trials.specs.declared.runs.Setting.{Setting}
use Rattle.stop_trials.specs.declared.stopping.StoppingDisk.{StoppingDisk}
use Rattle.stop_trials.specs.declared.trials.Summary.{Summary}
use Rattle.stop_trials.specs.Lines.{AreCommandsOf, IsReadWhole, split_lines}
use Rattle.stop_trials.specs.Runs.{AreStates}
use Rattle.stop_trials.specs.Trials.{AreAllTried}

-- The device holds such a new store, of the files that these specs name.
pub record HoldsNewStore (store : NewStore) (specs : List (List ℕ)) (image : SimDisk) : Type 0 where
  pub sources : List (FileSource File)
  pub named : AreSpecSources specs sources
  pub made : IsNewStore (λ file. None) store (sectors_in image) sources (sector_of image)

module _ (g : Ghosts StoppingDisk) (h : Ghosts SimDisk) where
  -- Stops were tried as these words ask for it:
  pub record EndsTrials (before after : Option (List ℕ)) (status : ℕ) : Type 0 where
    pub words : StopWords
    pub setting : Setting
    -- on a machine of the size that they name, over a new store of the layout and the files that they name,
    pub frames : setting.config.frames ≡ words.frames
    pub slots : setting.config.slots ≡ words.slots
    pub layout : setting.store ≡ words.store
    pub store : HoldsNewStore words.store (map (λ spec. spec.now) words.specs.items) setting.image.now
    pub drops : setting.drops ≡ words.drop
    -- the commands of all lines that were read were run,
    pub trace : List ℕ
    pub whole : IsReadWhole before after trace
    pub commands : AreCommandsOf (split_lines trace) setting.commands.now
    -- after the msyncs of which the files hold this,
    pub states : List (Vec ℕ Global)
    pub are : AreStates h setting states
    -- each stop that is a multiple of a number was tried, and they come to this,
    pub summary : Summary
    pub tried : AreAllTried g h setting states words.every summary
    -- and the status is 0 exactly where none was bad.
    pub good : status ≡ 0 → summary.bad ≡ 0
    pub bad : summary.bad ≡ 0 → status ≡ 0

  -- The exit status tells what came of the trials, or the fault by which the program gave up.
  pub record ExitsAfterTrials (before after : Option (List ℕ)) (status : ℕ) : Type 0 where
    pub outcome : Result ℕ ProgramFault
    pub ends : IfOk outcome (EndsTrials before after)
    pub told : status ≡ outcome_status outcome
