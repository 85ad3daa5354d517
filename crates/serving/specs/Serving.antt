-- What a request does, and what is told of it.
use Rattle.std.specs.Prelude.{◌≡◌, ◌⊎◌, ◌<◌, ℕ, zero, suc, false, List, length, Option, Some, None}
use Rattle.std.specs.Io.KnownBytes.{Appends, Consumes, IsAtEnd}
use Rattle.disk_model.specs.declared.sector_disk.SectorDisk.{Ghosts}
use Rattle.residency.specs.Picture.{is_live}
use Rattle.vm_types.specs.Replies.{told}
use Rattle.vm_types.specs.State.{State}
use Rattle.vm_types.specs.declared.access.Access.TheVariants as Kinds
use Rattle.vm_types.specs.declared.access.StoredValue.{StoredValue}
use Rattle.vm_types.specs.declared.command.Command.{Command}
use Rattle.vm_types.specs.declared.command.Command.TheVariants.{Load, Store}
use Rattle.vm_types.specs.declared.number.Phys.{Phys}
use Rattle.vm_types.specs.declared.reply.Answer.{Answer}
use Rattle.vm_types.specs.declared.reply.Answer.TheVariants.{Process, Address, Done, Value, Faulted, Refused, Stalled, Halted}
use Rattle.vm_types.specs.declared.width.Width.TheVariants.{One}
use Rattle.machine.specs.Commands.{DoesAsTold, KeepsModelsAndRoom}
use Rattle.machine.specs.Hardware.{IsGrantedBy}
use Rattle.machine.specs.Machine.{halted_of, past_of, IsReadable, Meets, Shows}
use Rattle.machine.specs.declared.machine.Machine.{Machine}
use Rattle.inspection.specs.Machines.{memory_of}
use Rattle.runner.specs.Trace.{Streams}
use Rattle.runner.specs.declared.engine.RunEnd.{RunEnd}
use Rattle.runner.specs.declared.engine.RunEnd.TheVariants.{Done as Finished, ReadFault, WriteFault}
use Rattle.serving.specs.Requests.{HoldsNumbers, request_of}
use Rattle.serving.specs.Responses.{response_bytes}
use Rattle.serving.specs.declared.numbers.RequestNumbers.{RequestNumbers}
use Rattle.serving.specs.declared.requests.Request.{Request}
use Rattle.serving.specs.declared.requests.Request.TheVariants.{Carry, Touch}
use Rattle.serving.specs.declared.responses.Response.{Response}
use Rattle.serving.specs.declared.responses.Response.TheVariants.{Malformed, Answered}

-- the answer tells a number, which is the one that is stored
abbrev pub IsByte : Option Answer → StoredValue → Type 0
IsByte answer stored = answer ≡ Some (Value stored.width stored.value)

-- it tells none that may be stored
abbrev pub IsNoByte : Option Answer → Type 0
IsNoByte answer = (stored : StoredValue) → IsByte answer stored → ⊥

-- less than a request was read
abbrev pub ReadsLess : Option (List ℕ) → Option (List ℕ) → Type 0
ReadsLess had left = (rest : List ℕ) × (length rest < 72) × Consumes had left rest

module _ {D E : Type 0} where
  -- the frame of a process's root table, or 0, where there is no such process or the machine has halted
  abbrev pub IsRootFrame : Machine D E → ℕ → ℕ → Type 0
  IsRootFrame m pid root = ((memory_of m).root pid ≡ Some root) ⊎ ((root ≡ 0) × (halted_of m ≡ false → is_live (memory_of m) pid ≡ false))

  -- that of the process which an answer names, or 0, where it names none
  abbrev pub IsRootTold : Machine D E → Option Answer → ℕ → Type 0
  IsRootTold m (Some (Process pid)) root = IsRootFrame m pid root
  IsRootTold m (Some (Address addr)) root = root ≡ 0
  IsRootTold m (Some Done) root = root ≡ 0
  IsRootTold m (Some (Value width value)) root = root ≡ 0
  IsRootTold m (Some (Faulted fault)) root = root ≡ 0
  IsRootTold m (Some (Refused errno)) root = root ≡ 0
  IsRootTold m (Some (Stalled stall)) root = root ≡ 0
  IsRootTold m (Some Halted) root = root ≡ 0
  IsRootTold m None root = root ≡ 0

module _ {D E : Type 0} (g : Ghosts D) (h : Ghosts E) where
  -- A command was carried out, and this is the answer to it:
  pub record AnswersCommand (old : Machine D E) (command : Command) (new : Machine D E) (answer : Option Answer) : Type 0 where
    -- in whatever state the machine was, it did as the flat model does, as long as the devices that it reads keep the disk model,
    pub meets : (s : State) → Shows g h old s → IsReadable g h new s command → (t : State) × Meets g h old new s t command (told (past_of new) answer)
    -- whatever they do, it did as the answer tells,
    pub does : DoesAsTold g h old new command (told (past_of new) answer)
    -- and they and the sizes of the machine were kept.
    pub keeps : KeepsModelsAndRoom g h old new

  -- The byte at an address is touched:
  pub record TouchesByte (old : Machine D E) (pid addr : ℕ) (new : Machine D E) (answer : Option Answer) : Type 0 where
    -- it was loaded,
    pub mid : Machine D E
    pub loaded : Option Answer
    pub loads : AnswersCommand old (Load pid addr One) mid loaded
    -- and stored as it is, or, where the load gave none, the load's answer is the one that is told,
    pub stores : ((stored : StoredValue) × IsByte loaded stored × AnswersCommand mid (Store pid addr stored) new answer)
        ⊎ (IsNoByte loaded × (new ≡ mid) × (answer ≡ loaded))
    -- and once it is done the tables grant the process a store there, so that hardware makes it by itself when it tries again.
    pub grants : answer ≡ Some Done → halted_of new ≡ false → (place : Phys) × IsGrantedBy new pid addr One Kinds.Store place

  abbrev pub AnswersRequest : Machine D E → Request → Machine D E → Option Answer → Type 0
  AnswersRequest old (Carry command) new answer = AnswersCommand old command new answer
  AnswersRequest old (Touch pid addr) new answer = TouchesByte old pid addr new answer

  -- What is no request does nothing, and is told so. To every other one its answer is told, and the root table of the process that it names.
  abbrev pub ServesRequest : Machine D E → Option Request → Machine D E → Response → Type 0
  ServesRequest old None new response = (response ≡ Malformed) × (new ≡ old)
  ServesRequest old (Some request) new response =
      (answer : Option Answer) × (root : ℕ) × (response ≡ Answered answer root) × AnswersRequest old request new answer × IsRootTold new answer root

  -- A request was read, and served, of which this is to be told.
  pub record TakesRequest (old new : Machine D E) (had left : Option (List ℕ)) (response : Response) : Type 0 where
    pub bytes : List ℕ
    pub size : length bytes ≡ 72
    pub read : Consumes had left bytes
    pub numbers : RequestNumbers
    pub holds : HoldsNumbers bytes numbers
    pub serves : ServesRequest old (request_of numbers) new response

  -- The next request was, and what is told of it was written.
  pub record ServesNext (old new : Machine D E) (before after : Streams) : Type 0 where
    pub response : Response
    pub takes : TakesRequest old new before.left after.left response
    pub wrote : Appends before.held after.held (response_bytes response)

  -- So many requests were, one after another.
  abbrev pub ServesInTurn : ℕ → Machine D E → Machine D E → Streams → Streams → Type 0
  ServesInTurn zero old new before after = (new ≡ old) × (after ≡ before)
  ServesInTurn (suc count) old new before after =
      (mid : Machine D E) × (between : Streams) × ServesInTurn count old mid before between × ServesNext mid new between after

  -- Less than a request was read, and nothing else happened.
  pub record StopsShort (old new : Machine D E) (before after : Streams) : Type 0 where
    pub same : new ≡ old
    pub unwritten : after.held ≡ before.held
    pub read : ReadsLess before.left after.left

  -- Why no more are served. Done: the reader is at its end, with no whole request left. A read fault: it gave no whole one. A write fault: the next
  -- one was served, and what is told of it was not written whole.
  abbrev pub StopsFor : RunEnd → Machine D E → Machine D E → Streams → Streams → Type 0
  StopsFor Finished old new before after = StopsShort old new before after × IsAtEnd after.left
  StopsFor ReadFault old new before after = StopsShort old new before after
  StopsFor WriteFault old new before after = (response : Response) × TakesRequest old new before.left after.left response

  -- Requests were served, so many of them, until this end.
  pub record ServesUntil (end : RunEnd) (old new : Machine D E) (before after : Streams) : Type 0 where
    pub count : ℕ
    pub mid : Machine D E
    pub between : Streams
    pub served : ServesInTurn count old mid before between
    pub stops : StopsFor end mid new between after
