-- Runs of a trace: lives over a device that may stop.
use Rattle.std.specs.Prelude.{◌≡◌, ◌⊎◌, ◌<◌, ◌+◌, ℕ, List, [], Some, None, length, slice_get, take}
use Rattle.std.specs.declared.alloc.Global.{Global}
use Rattle.std.specs.declared.vec.Vec.{Vec}
use Rattle.disk_model.specs.declared.sector_disk.SectorDisk.{Ghosts}
use Rattle.disk_model.specs.declared.sim_disk.SimDisk.{SimDisk}
use Rattle.disk_model.specs.SimDisk.{sectors_in, sector_of, IsNewDevice, IsUnsynced}
use Rattle.disk_model.specs.Stop.{Image}
use Rattle.vm_types.specs.declared.command.Command.{Command}
use Rattle.vm_types.specs.declared.reply.Reply.{Reply}
use Rattle.machine.specs.declared.boot.BootFault.TheVariants.{Device}
use Rattle.machine.specs.declared.machine.Machine.{Machine}
use Rattle.machine.specs.Boot.{BootRefuses, HasRoom}
use Rattle.machine.specs.Machine.{store_of, swap_of}
use Rattle.lives.specs.Lives.{RanSince}
use Rattle.stop_trials.specs.declared.fillings.Filling.TheVariants.{Old}
use Rattle.stop_trials.specs.declared.runs.Setting.{Setting}
use Rattle.stop_trials.specs.declared.stopping.StoppingDisk.{StoppingDisk}
use Rattle.stop_trials.specs.Fillings.{left_with}
use Rattle.stop_trials.specs.Lines.{acknowledged_in}
use Rattle.stop_trials.specs.Standing.{standing_contents}
use Rattle.stop_trials.specs.Stopping.{plan_of}

-- The store's device as a run begins that is to be stopped:
pub record IsSetUp (setting : Setting) (stop : ℕ) (store : StoppingDisk) : Type 0 where
  -- it stops in this event, and drops the sync that the setting names,
  pub plan : plan_of store ≡ record { events = 0; stop = Some stop; stopped = None; drops = setting.drops }
  -- and holds what is synced of the image, all of it synced.
  pub size : sectors_in store.disk ≡ sectors_in setting.image.now
  pub holds : (k : ℕ) → k < sectors_in setting.image.now → sector_of store.disk k ≡ left_with Old setting.image.now k
  pub synced : (k : ℕ) → IsUnsynced store.disk k → ⊥

module _ (g : Ghosts StoppingDisk) (h : Ghosts SimDisk) where
  -- A machine carried the commands out:
  pub record Lived (setting : Setting) (store : StoppingDisk) (replies : List Reply) (left : StoppingDisk) : Type 0 where
    -- it had the size that the setting names,
    pub machine : Machine StoppingDisk SimDisk
    pub room : HasRoom machine setting.config
    -- what it did is a life wherever a stop comes, where no sync was dropped,
    pub lived : g.keeps_model (store_of machine) → h.keeps_model (swap_of machine) → RanSince g h store machine setting.commands.now replies
    -- and it left this device.
    pub leaves : left ≡ store_of machine

  -- No machine started, since the device had stopped.
  pub record StoppedFirst (setting : Setting) (store : StoppingDisk) (swap : SimDisk) (replies : List Reply) (left : StoppingDisk) : Type 0 where
    pub refuses : BootRefuses g setting.config (h.sector_count swap) store Device left
    pub none : replies ≡ []

  -- A run of the commands that is to be stopped left this device:
  pub record IsTrialRun (setting : Setting) (stop : ℕ) (replies : List Reply) (left : StoppingDisk) : Type 0 where
    -- it began with such a device,
    pub store : StoppingDisk
    pub swap : SimDisk
    pub fresh : IsSetUp setting stop store
    -- and was a life, unless the device stopped first.
    pub ran : Lived setting store replies left ⊎ StoppedFirst setting store swap replies left

-- how many msyncs the first of these replies, so many, acknowledge
abbrev pub acknowledged_by : Setting → List Reply → ℕ → ℕ
acknowledged_by setting replies count = acknowledged_in (take count setting.commands.now) (take count replies)

module _ (h : Ghosts SimDisk) (setting : Setting) where
  -- A run of these commands that nothing stops left this device:
  pub record IsWholeRun (commands : List Command) (replies : List Reply) (left : SimDisk) : Type 0 where
    -- it began with a new one, which held what is synced of the image,
    pub store : SimDisk
    pub fresh : IsNewDevice store
    pub size : sectors_in store ≡ sectors_in setting.image.now
    pub holds : (k : ℕ) → k < sectors_in setting.image.now → sector_of store k ≡ left_with Old setting.image.now k
    -- and was a life, of a machine that had the size that the setting names.
    pub machine : Machine SimDisk SimDisk
    pub room : HasRoom machine setting.config
    pub lived : RanSince h h store machine commands replies
    pub leaves : left ≡ store_of machine

  -- The files hold these bytes as a run of the first commands ends, so many, that nothing stops:
  pub record EndsWith (count : ℕ) (bytes : List ℕ) : Type 0 where
    pub replies : List Reply
    pub device : SimDisk
    pub ran : IsWholeRun (take count setting.commands.now) replies device
    -- they stand so in what is left where nothing that was not synced is.
    pub image : Image
    pub left : (k : ℕ) → k < sectors_in device → image k ≡ left_with Old device k
    pub holds : bytes ≡ standing_contents (sectors_in device) image

  -- The files hold these bytes after n of the msyncs that these replies acknowledge:
  pub record IsState (replies : List Reply) (n : ℕ) (bytes : List ℕ) : Type 0 where
    -- so many of the first commands have n of them,
    pub count : ℕ
    pub acknowledged : acknowledged_by setting replies count ≡ n
    -- the last of these commands being the n-th,
    pub last : (before : ℕ) → before + 1 ≡ count → acknowledged_by setting replies before + 1 ≡ n
    -- and the files hold the bytes where a run of these commands ends.
    pub ends : EndsWith count bytes

  -- What the files hold at first and after each of the msyncs that a run acknowledges which nothing stops:
  pub record AreStates (states : List (Vec ℕ Global)) : Type 0 where
    -- the run, of all commands,
    pub replies : List Reply
    pub device : SimDisk
    pub ran : IsWholeRun setting.commands.now replies device
    -- one state more than it acknowledges msyncs,
    pub count : length states ≡ acknowledged_in setting.commands.now replies + 1
    -- each after as many of them as there are states before it.
    pub each : (n : ℕ) (bytes : Vec ℕ Global) → slice_get states n ≡ Some bytes → IsState replies n bytes.items
