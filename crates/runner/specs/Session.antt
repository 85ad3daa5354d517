-- Lines that are run on a machine, one after the other, and the texts of their replies.
use Rattle.std.specs.Prelude.{◌≡◌, ℕ, List, [], ◌∷◌, ◌++◌, ◌⊎◌}
use Rattle.vm_types.specs.declared.command.Command.{Command}
use Rattle.vm_types.specs.declared.reply.Reply.{Reply}
use Rattle.disk_model.specs.declared.sector_disk.SectorDisk.{Ghosts}
use Rattle.machine.specs.declared.machine.Machine.{Machine}
use Rattle.vm_types.specs.State.{State}
use Rattle.machine.specs.Machine.{store_of, swap_of, IsCausedBetween, IsReadable, Shows, Meets}
use Rattle.trace_lang.specs.Grammar.{IsCommand}
use Rattle.trace_lang.specs.Texts.{text_of, bad_line_text}

-- the line is in no form
abbrev pub IsBadLine : List ℕ → Type 0
IsBadLine line = (command : Command) → IsCommand line command → ⊥

module _ {D E : Type 0} (g : Ghosts D) (h : Ghosts E) where
  -- in whatever state the machine is, it carries the command out, as long as the devices that it reads keep the disk model
  abbrev pub Steps : Machine D E → Command → Reply → Machine D E → Type 0
  Steps old command reply new =
      (s : State) → Shows g h old s → IsReadable g h new s command → (t : State) × Meets g h old new s t command reply

  -- the line's command is run and its reply is the text
  pub record Obeys (old : Machine D E) (line text : List ℕ) (new : Machine D E) : Type 0 where
    pub command : Command
    pub reply : Reply
    pub form : IsCommand line command
    pub steps : Steps old command reply new
    pub caused : IsCausedBetween g h old new reply
    pub kept : g.keeps_model (store_of new) → g.keeps_model (store_of old)
    pub swap_kept : h.keeps_model (swap_of new) → h.keeps_model (swap_of old)
    pub text_is : text ≡ text_of reply

  -- the line stands for no command, and nothing else happens
  pub record Rejects (old : Machine D E) (line text : List ℕ) (new : Machine D E) : Type 0 where
    pub bad : IsBadLine line
    pub same : new ≡ old
    pub text_is : text ≡ bad_line_text

  abbrev pub Answers : Machine D E → List ℕ → List ℕ → Machine D E → Type 0
  Answers old line text new = Obeys old line text new ⊎ Rejects old line text new

  -- the lines get their replies one after the other, and the text is that of the replies together
  abbrev pub CarriesOut : Machine D E → List (List ℕ) → List ℕ → Machine D E → Type 0
  CarriesOut old [] text new = (text ≡ []) × (new ≡ old)
  CarriesOut old (line ∷ lines) text new =
      (mid : Machine D E) × (first rest : List ℕ) × Answers old line first mid × CarriesOut mid lines rest new × (text ≡ first ++ rest)

-- These are the replies' texts to the lines' commands, and the bad line's text for each line that stands for none.
abbrev pub Answered : List (List ℕ) → List Command → List Reply → List ℕ → Type 0
Answered [] commands replies text = (commands ≡ []) × (replies ≡ []) × (text ≡ [])
Answered (line ∷ lines) commands replies text =
    (IsBadLine line × ((rest : List ℕ) × (text ≡ bad_line_text ++ rest) × Answered lines commands replies rest))
    ⊎ ((command : Command) × (reply : Reply) × (more : List Command) × (others : List Reply) × (rest : List ℕ)
    × IsCommand line command × (commands ≡ command ∷ more) × (replies ≡ reply ∷ others)
    × (text ≡ text_of reply ++ rest) × Answered lines more others rest)
