-- A run of commands on a machine, and what a stop in it leaves.
use Rattle.std.specs.Prelude.{ℕ, zero, suc, ◌≡◌, List, [], ◌∷◌}
use Rattle.disk_model.specs.Stop.{Image}
use Rattle.disk_model.specs.declared.sector_disk.SectorDisk.{Ghosts}
use Rattle.vm_types.specs.declared.command.Command.{Command}
use Rattle.vm_types.specs.declared.reply.Reply.{Reply}
use Rattle.vm_types.specs.Prefix.{Event, IsPrefixHolding}
use Rattle.vm_types.specs.State.{State, IsRunning}
use Rattle.msync.specs.Shows.{SaysMost}
use Rattle.machine.specs.Engine.{StandsForSome}
use Rattle.machine.specs.declared.machine.Machine.{Machine}
use Rattle.machine.specs.Machine.{store_of, KeepsSizes, IsCausedBetween, Shows, Meets}

-- a command and its reply, in the state before it
abbrev pub event : State → Command → Reply → Event
event s command reply = record { state = s; command = command; reply = reply }

module _ {D E : Type 0} (g : Ghosts D) (h : Ghosts E) where
  -- Whatever the devices do: there is a machine after each reply, up to the last one, and what the reply names came to pass
  -- between the machine before it and that one.
  abbrev pub Caused : Machine D E → List Reply → Machine D E → Type 0
  Caused old [] new = new ≡ old
  Caused old (reply ∷ replies) new = (mid : Machine D E) × IsCausedBetween g h old mid reply × Caused mid replies new

  -- the machine goes from one state to another by these commands with these replies, each carried out
  abbrev pub Chain : Machine D E → State → List Command → List Reply → List Event → Machine D E → State → Type 0
  Chain old s [] [] [] new t = (new ≡ old) × (t ≡ s)
  Chain old s (command ∷ commands) (reply ∷ replies) (first ∷ events) new t =
      (mid : Machine D E) × (u : State) × (first ≡ event s command reply) × Meets g h old mid s u command reply
      × Chain mid u commands replies events new t
  Chain old s [] [] (first ∷ events) new t = ⊥
  Chain old s [] (reply ∷ replies) events new t = ⊥
  Chain old s (command ∷ commands) [] events new t = ⊥
  Chain old s (command ∷ commands) (reply ∷ replies) [] new t = ⊥

  -- the machine after the first k commands of a chain
  abbrev pub after : (old : Machine D E) (s : State) (commands : List Command) (replies : List Reply) (events : List Event) (new : Machine D E) (t : State)
      → Chain old s commands replies events new t → ℕ → Machine D E
  after old s [] replies events new t chain k = old
  after old s (command ∷ commands) replies events new t chain zero = old
  after old s (command ∷ commands) [] events new t chain (suc k) = old
  after old s (command ∷ commands) (reply ∷ replies) [] new t chain (suc k) = old
  after old s (command ∷ commands) (reply ∷ replies) (first ∷ events) new t chain (suc k) =
      after chain.0 chain.1 commands replies events new t chain.4 k

  -- Every image of a stop since the machine after the first k commands stands for the files after some of the msyncs, in
  -- order, each taken whole, and with each that was acknowledged among those k.
  abbrev pub LeavesPrefixes : (old : Machine D E) (s : State) (commands : List Command) (replies : List Reply) (events : List Event) (new : Machine D E) (t : State)
      → Chain old s commands replies events new t → Type 0
  LeavesPrefixes old s commands replies events new t chain =
      (k : ℕ) (image : Image)
      → g.left_since (store_of new) (g.moment (store_of (after old s commands replies events new t chain k))) image
      → StandsForSome (g.sector_count (store_of old)) (IsPrefixHolding s.durable events k) image

  -- It says as many pages of an msync as the state.
  abbrev pub LeavesMost : (old : Machine D E) (s : State) (commands : List Command) (replies : List Reply) (events : List Event) (new : Machine D E) (t : State)
      → Chain old s commands replies events new t → Type 0
  LeavesMost old s commands replies events new t chain =
      (k : ℕ) (image : Image)
      → g.left_since (store_of new) (g.moment (store_of (after old s commands replies events new t chain k))) image
      → SaysMost (g.sector_count (store_of old)) s.most image

  -- The replies are those of the flat model, there are as many frames and slots as there were and the mode is the same, and what a stop leaves
  -- is what some of the msyncs left, with as many pages of an msync.
  pub record Runs (old new : Machine D E) (commands : List Command) (replies : List Reply) (s : State) : Type 0 where
    pub last : State
    pub events : List Event
    pub chain : Chain old s commands replies events new last
    pub shows : Shows g h new last
    pub room : KeepsSizes old new
    pub prefixes : IsRunning s → g.keeps_model (store_of new) → LeavesPrefixes old s commands replies events new last chain
    pub most : g.keeps_model (store_of new) → LeavesMost old s commands replies events new last chain
