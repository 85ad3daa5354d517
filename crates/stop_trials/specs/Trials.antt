-- What trials of stops find, and what they come to.
use Rattle.std.specs.Prelude.{◌≡◌, ◌⊎◌, ◌<◌, ◌+◌, ◌*◌, ◌^◌, ◌-◌, min, ℕ, List, [], ◌∷◌, Option, None, Some, IsSome, MatchOption, slice_index_or, EachIndex, length}
use Rattle.std.specs.declared.alloc.Global.{Global}
use Rattle.std.specs.declared.vec.Vec.{Vec}
use Rattle.disk_model.specs.Stop.{Image}
use Rattle.disk_model.specs.declared.sector_disk.SectorDisk.{Ghosts}
use Rattle.stores.specs.Images.{IsBadLayout, IsBadJournal}
use Rattle.vm_types.specs.declared.reply.Reply.{Reply}
use Rattle.disk_model.specs.SimDisk.{sectors_in}
use Rattle.disk_model.specs.declared.sim_disk.SimDisk.{SimDisk}
use Rattle.stop_trials.specs.declared.fillings.Filling.{Filling}
use Rattle.stop_trials.specs.declared.fillings.Filling.TheVariants.{Old, Zeros, Ones, HalfOpen, Open}
use Rattle.stop_trials.specs.declared.runs.Setting.{Setting}
use Rattle.stop_trials.specs.declared.stopping.StoppingDisk.{StoppingDisk}
use Rattle.stop_trials.specs.declared.trials.Trial.{Trial}
use Rattle.stop_trials.specs.declared.trials.Summary.{Summary}
use Rattle.stop_trials.specs.Fillings.{left_with}
use Rattle.stop_trials.specs.Lines.{acknowledged_in}
use Rattle.stop_trials.specs.Runs.{IsTrialRun}
use Rattle.stop_trials.specs.Standing.{IsStanding, standing_contents}

-- What a stop of this device leaves with this filling: the files stand there as after n msyncs, the acknowledged ones among them.
pub record StandsWith (states : List (Vec ℕ Global)) (acknowledged : ℕ) (device : SimDisk) (filling : Filling) (n : ℕ) : Type 0 where
  pub image : Image
  pub left : (k : ℕ) → k < sectors_in device → image k ≡ left_with filling device k
  pub stands : IsStanding states acknowledged (standing_contents (sectors_in device) image) n

-- the image is no store, or its files stand as after none of the msyncs from the acknowledged ones on
abbrev pub IsBadStop : List (Vec ℕ Global) → ℕ → ℕ → Image → Type 0
IsBadStop states acknowledged sectors image =
    (IsBadLayout sectors image ⊎ IsBadJournal sectors image) ⊎ ((n : ℕ) → IsStanding states acknowledged (standing_contents sectors image) n → ⊥)

-- What a stop of this device leaves with this filling is none of what it may.
pub record StandsNowhere (states : List (Vec ℕ Global)) (acknowledged : ℕ) (device : SimDisk) (filling : Filling) : Type 0 where
  pub image : Image
  pub left : (k : ℕ) → k < sectors_in device → image k ≡ left_with filling device k
  pub bad : IsBadStop states acknowledged (sectors_in device) image

-- after how many msyncs the files stand that a stop of this device leaves with this filling, none exactly where they stand after no such number
abbrev pub IsJudged : List (Vec ℕ Global) → ℕ → SimDisk → Filling → Option ℕ → Type 0
IsJudged states acknowledged device filling standing =
    MatchOption standing (StandsNowhere states acknowledged device filling) (StandsWith states acknowledged device filling)

abbrev pub all_fillings : List Filling
all_fillings = Old ∷ Zeros ∷ Ones ∷ HalfOpen ∷ Open ∷ []

-- with each filling the files stand as after some of the msyncs
abbrev pub AllStand : Trial → Type 0
AllStand trial = EachIndex trial.standing (λ i. IsSome (slice_index_or trial.standing i None))

-- the same for each filling
abbrev pub StandWithEach : List (Vec ℕ Global) → ℕ → SimDisk → List (Option ℕ) → Type 0
StandWithEach states acknowledged device standing =
    (i : ℕ) → i < 5 → IsJudged states acknowledged device (slice_index_or all_fillings i Old) (slice_index_or standing i None)

module _ (g : Ghosts StoppingDisk) (h : Ghosts SimDisk) (setting : Setting) (states : List (Vec ℕ Global)) where
  -- The trial of a stop in the event of that number:
  pub record IsTrial (number : ℕ) (trial : Trial) : Type 0 where
    -- it has the number, and the kind of store that says which part of it a sector is of;
    pub is : trial.number ≡ number
    pub of : trial.store ≡ setting.store
    -- the commands were run on a device that stops in that event, and drops the sync that is to be dropped,
    pub replies : List Reply
    pub device : StoppingDisk
    pub ran : IsTrialRun g h setting number replies device
    -- which it did,
    pub at : device.stop ≡ Some number
    pub stopped : device.stopped ≡ Some trial.event
    -- and so many msyncs were acknowledged, after which its files stand as the trial says.
    pub acknowledged : trial.acknowledged ≡ acknowledged_in setting.commands.now replies
    pub each : StandWithEach states trial.acknowledged device.disk trial.standing

  -- trials, the last one first, of the first multiples of a number
  abbrev pub AreTrials : ℕ → List Trial → Type 0
  AreTrials every [] = Unit {0}
  AreTrials every (trial ∷ earlier) = IsTrial (min (every * (length earlier + 1)) (2 ^ 64 - 1)) trial × AreTrials every earlier

-- A run that was to be stopped in the event of that number has none: its device did not stop there.
module _ (g : Ghosts StoppingDisk) (h : Ghosts SimDisk) (setting : Setting) where
  pub record HasNoEvent (number : ℕ) : Type 0 where
    pub replies : List Reply
    pub device : StoppingDisk
    pub ran : IsTrialRun g h setting number replies device
    pub unstopped : device.stop ≡ Some number → device.stopped ≡ None

-- each of them left with each filling what it may
abbrev pub AreGoodTrials : List Trial → Type 0
AreGoodTrials [] = Unit {0}
AreGoodTrials (trial ∷ earlier) = AllStand trial × AreGoodTrials earlier

-- What the trials come to: so many stops, none of them bad exactly where each left what it may.
pub record AreTried (g : Ghosts StoppingDisk) (h : Ghosts SimDisk) (setting : Setting) (states : List (Vec ℕ Global)) (every : ℕ) (summary : Summary) : Type 0 where
  pub trials : List Trial
  pub each : AreTrials g h setting states every trials
  pub count : summary.stops ≡ length trials
  pub good : summary.bad ≡ 0 → AreGoodTrials trials
  pub bad : AreGoodTrials trials → summary.bad ≡ 0

-- All stops in events of these numbers were tried:
pub record AreAllTried (g : Ghosts StoppingDisk) (h : Ghosts SimDisk) (setting : Setting) (states : List (Vec ℕ Global)) (every : ℕ) (summary : Summary) : Type 0 where
  -- the trials come to this,
  pub tried : AreTried g h setting states every summary
  -- and a run has no event of the next number, unless there were 2^64 - 2 of them.
  pub last : HasNoEvent g h setting (min (every * (summary.stops + 1)) (2 ^ 64 - 1)) ⊎ (summary.stops ≡ 2 ^ 64 - 2)
