-- Which commands the lines of a trace stand for, and how many of them acknowledge an msync.
use Rattle.std.specs.Prelude.{◌≡◌, ◌⊎◌, ◌+◌, ◌==◌, ◌&&◌, ℕ, List, [], ◌∷◌, Option, if◌then◌else◌}
use Rattle.std.specs.Io.KnownBytes.{Consumes, IsAtEnd}
use Rattle.std.specs.List.{slice_split}
use Rattle.vm_types.specs.declared.command.Command.{Command}
use Rattle.vm_types.specs.declared.reply.Reply.{Reply}
use Rattle.vm_types.specs.Prefix.{is_msync, is_done}
use Rattle.trace_lang.specs.Grammar.{IsCommand}
use Rattle.runner.specs.Session.{IsBadLine}

-- what stands between the newlines of a trace, before the first and after the last
abbrev pub split_lines : List ℕ → List (List ℕ)
split_lines trace = slice_split (λ byte. byte == 10) trace

-- The trace was read whole: it is all that the reader had left, where that tells.
pub record IsReadWhole (before after : Option (List ℕ)) (trace : List ℕ) : Type 0 where
  pub read : Consumes before after trace
  pub end : IsAtEnd after

-- these are the commands of the lines, one after another; a line that stands for none is passed over
abbrev pub AreCommandsOf : List (List ℕ) → List Command → Type 0
AreCommandsOf [] commands = commands ≡ []
AreCommandsOf (line ∷ lines) commands =
    (IsBadLine line × AreCommandsOf lines commands)
    ⊎ ((command : Command) × (more : List Command) × IsCommand line command × (commands ≡ command ∷ more) × AreCommandsOf lines more)

-- how many of the commands were msyncs that returned `ok`, each with its reply
abbrev pub acknowledged_in : List Command → List Reply → ℕ
acknowledged_in [] replies = 0
acknowledged_in (command ∷ commands) [] = 0
acknowledged_in (command ∷ commands) (reply ∷ replies) =
    (if is_msync command && is_done reply then 1 else 0) + acknowledged_in commands replies
