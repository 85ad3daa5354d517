-- Lives of a store: a machine starts on what the stop before left, carries out commands, and a stop comes at any moment.
-- After Park, Kelly and Shen, Failure-Atomic msync, EuroSys 2013.
use Rattle.std.specs.Prelude.{ℕ, ◌≡◌, ◌⊎◌, List, [], ◌∷◌, length}
use Rattle.disk_model.specs.Stop.{Image}
use Rattle.disk_model.specs.declared.sector_disk.SectorDisk.{Ghosts}
use Rattle.{file_store.specs.Standing.{IsPageOf}, stores.specs.Images.{StandsForContents}}
use Rattle.stores.specs.Opened.{Opens}
use Rattle.vm_types.specs.declared.command.Command.{Command}
use Rattle.vm_types.specs.declared.reply.Reply.{Reply}
use Rattle.vm_types.specs.Files.{Contents}
use Rattle.vm_types.specs.Prefix.{Event, IsPrefixHolding}
use Rattle.vm_types.specs.State.{State}
use Rattle.machine.specs.declared.boot.BootFault.{BootFault}
use Rattle.machine.specs.declared.boot.BootFault.TheVariants.{BadLayout, BadJournal}
use Rattle.machine.specs.Boot.{Boots}
use Rattle.machine.specs.Chain.{Runs, after}
use Rattle.machine.specs.Machine.{store_of}
use Rattle.machine.specs.declared.machine.Machine.{Machine}

-- A life in words of the flat model.
pub record Life : Type 0 where
  -- its commands as they were answered
  pub events : List Event
  -- how many of them were answered before the stop that ended it
  pub answered : ℕ

-- The files hold what the lives left, one after another: of each a first part of its msyncs, each whole, with every one that it
-- acknowledged before its stop.
abbrev pub IsLeftBy : Contents → List Life → Contents → Type 0
IsLeftBy before [] contents = contents ≡ before
IsLeftBy before (life ∷ lives) contents = (between : Contents) × IsPrefixHolding before life.events life.answered between × IsLeftBy between lives contents

-- The state has these files, all mappings see these pages of them, and an msync takes so many pages.
pub record IsAtFirst (contents : Contents) (taken : ℕ) (s : State) : Type 0 where
  pub facts : (f : ℕ) → s.files f ≡ contents.files f
  pub seen : (f k : ℕ) → IsPageOf contents.files f k → s.volatile f k ≡ contents.pages f k
  pub most : s.most ≡ taken

-- two lives with one command each, the second of which was stopped in its own
abbrev pub stopped_in_second : Event → Event → List Life
stopped_in_second a b = record { events = a ∷ []; answered = 1 } ∷ record { events = b ∷ []; answered = 0 } ∷ []

-- two lives with one command each, the first of which was stopped in its own
abbrev pub stopped_in_first : Event → Event → List Life
stopped_in_first a b = record { events = a ∷ []; answered = 0 } ∷ record { events = b ∷ []; answered = 1 } ∷ []

module _ {D E : Type 0} (g : Ghosts D) (h : Ghosts E) where
  -- No command was carried out: a machine was to start on a device that came up with the first image, all of it synced, and a stop
  -- came meanwhile, or after it had not started.
  pub record StopsEarly (sectors : ℕ) (first : Image) (life : Life) (last : Image) : Type 0 where
    -- the device as it came up, and as the start left it: it has so many sectors
    pub old : D
    pub new : D
    pub opens : Opens g sectors first old new
    -- the stop
    pub left : g.left_since new (g.moment old) last
    pub none : life.events ≡ []

  -- A machine, of either mode, started on a device that held the first image and ran these commands, and a stop came after so many
  -- of them were answered.
  pub record StopsLater (sectors : ℕ) (first : Image) (life : Life) (last : Image) : Type 0 where
    -- the device at first
    pub store : D
    pub size : g.sector_count store ≡ sectors
    pub held : g.content store ≡ first
    -- the machine that booted on it
    pub old : Machine D E
    pub same_size : g.sector_count (store_of old) ≡ g.sector_count store
    pub kept : g.keeps_model (store_of old)
    pub boots : Boots g h store old
    -- its run, to the machine after the last command
    pub new : Machine D E
    pub keeps : g.keeps_model (store_of new)
    pub commands : List Command
    pub replies : List Reply
    pub runs : Runs g h old new commands replies boots.state
    pub events : life.events ≡ runs.events
    -- the stop, at any moment since the machine after so many commands
    pub left : g.left_since (store_of new) (g.moment (store_of (after g h old boots.state commands replies runs.events new runs.last runs.chain life.answered))) last

  -- A life that begins with the first image and ends with the last.
  abbrev pub Lives : ℕ → Image → Life → Image → Type 0
  Lives sectors first life last = StopsEarly sectors first life last ⊎ StopsLater sectors first life last

  -- one life after another, each on what the one before left, and each in a mode of its own
  abbrev pub LeftInLives : ℕ → List Life → Image → Image → Type 0
  LeftInLives sectors [] first last = last ≡ first
  LeftInLives sectors (life ∷ lives) first last = (image : Image) × Lives sectors first life image × LeftInLives sectors lives image last

  -- The device holds what these lives left of a store that stood for these contents.
  pub record HoldsLives (before : Contents) (lives : List Life) (store : D) : Type 0 where
    pub first : Image
    pub stands : StandsForContents (g.sector_count store) before first
    pub lived : LeftInLives (g.sector_count store) lives first (g.content store)

  -- From this store a machine was booted and ran these commands to the new one.
  pub record RanSince (store : D) (new : Machine D E) (commands : List Command) (replies : List Reply) : Type 0 where
    pub old : Machine D E
    pub boots : Boots g h store old
    pub runs : Runs g h old new commands replies boots.state
    -- A stop while it started ends a life, where nothing was unsynced then.
    pub early : ((k : ℕ) → g.unsynced store k → ⊥) → (image : Image) → g.left_since (store_of old) (g.moment store) image
        → Lives (g.sector_count store) (g.content store) (record { events = []; answered = 0 }) image
    -- So does a stop after k of the commands.
    pub later : (k : ℕ) (image : Image)
        → g.left_since (store_of new) (g.moment (store_of (after g h old boots.state commands replies runs.events new runs.last runs.chain k))) image
        → Lives (g.sector_count store) (g.content store) (record { events = runs.events; answered = k }) image
    -- So it does where nothing stops it and its store is handed on.
    pub handed_on : Lives (g.sector_count store) (g.content store) (record { events = runs.events; answered = length commands }) (g.content (store_of new))

  -- A machine was to start on this store and did not: a stop meanwhile ends a life of no command.
  abbrev pub FailedSince : D → D → Type 0
  FailedSince store new = (image : Image) → g.left_since new (g.moment store) image
      → Lives (g.sector_count store) (g.content store) (record { events = []; answered = 0 }) image

  -- No machine starts on this store, for this fault:
  pub record FailsToStart (store : D) (fault : BootFault) (new : D) : Type 0 where
    -- a stop meanwhile ends a life of no command, where nothing was unsynced;
    pub failed : g.keeps_model new → ((k : ℕ) → g.unsynced store k → ⊥) → FailedSince store new
    -- and on what lives left of a store, or one that has had none, the fault is neither `BadLayout` nor `BadJournal`.
    pub good_layout : g.keeps_model new → (before : Contents) (lives : List Life) → HoldsLives before lives store → fault ≡ BadLayout → ⊥
    pub good_journal : g.keeps_model new → (before : Contents) (lives : List Life) → HoldsLives before lives store → fault ≡ BadJournal → ⊥
