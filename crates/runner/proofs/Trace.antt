-- From the lines that were carried out to a run of the machine.
use Rattle.{std.{proofs.Common.{◌≡◌, ℕ, List, [], ◌∷◌, ◌++◌, refl, sym, ap, subst, ◌∙◌, Option, inl, inr}, specs.Io.KnownBytes.{Consumes}}, disk_model.specs.{Stop.{Image, MayLeave}, declared.sector_disk.SectorDisk.{Ghosts}}}
use Rattle.{vm_types.specs.{State.{State}, declared.{command.Command.{Command}, reply.Reply.{Reply}}}, machine.{proofs.{Face.{readable, face}, Runs.{all_ran, RanSoFar}}, specs.Chain.{event, Caused}}}
use Rattle.{machine.specs.{Machine.{store_of, swap_of, Shows}, declared.machine.Machine.{Machine}}, trace_lang.specs.Lines.{lines_of}, runner.specs.{Progress.{stage, EndsSo}, Session.{Obeys, Rejects, CarriesOut, Answered}}}
use Rattle.runner.specs.{Trace.{Streams, streams, EndsTrace, CausedTrace, RunsTrace}, declared.engine.RunEnd.{RunEnd, TheVariants.{Done, ReadFault, WriteFault}}}

module _ {D E : Type 0} (g : Ghosts D) (h : Ghosts E) where
  -- a line more, of a command
  answered_more : (old mid : Machine D E) (line : List ℕ) (lines : List (List ℕ)) (commands : List Command) (replies : List Reply) (first rest text : List ℕ)
      → (o : Obeys g h old line first mid) → text ≡ first ++ rest → Answered lines commands replies rest
      → Answered (line ∷ lines) (o.command ∷ commands) (o.reply ∷ replies) text
  answered_more old mid line lines commands replies first rest text o is later =
      inr (o.command, o.reply, commands, replies, rest, o.form, refl, refl, is ∙ ap (λ t. t ++ rest) o.text_is, later)

  -- a line more, of none
  answered_none : (old mid : Machine D E) (line : List ℕ) (lines : List (List ℕ)) (commands : List Command) (replies : List Reply) (first rest text : List ℕ)
      → Rejects g h old line first mid → text ≡ first ++ rest → Answered lines commands replies rest
      → Answered (line ∷ lines) commands replies text
  answered_none old mid line lines commands replies first rest text r is later = inl (r.bad, (rest, is ∙ ap (λ t. t ++ rest) r.text_is, later))

  -- the replies to the lines' commands, each caused
  record Replied (old new : Machine D E) (lines : List (List ℕ)) (text : List ℕ) : Type 0 where
    commands : List Command
    replies : List Reply
    answered : Answered lines commands replies text
    caused : Caused g h old replies new

  replied : (old new : Machine D E) (lines : List (List ℕ)) (text : List ℕ) → CarriesOut g h old lines text new → Replied old new lines text
  replied old new [] text carried = record { commands = []; replies = []; answered = (refl, refl, carried.0); caused = carried.1 }
  replied old new (line ∷ lines) text carried =
      let later = replied carried.0 new lines carried.2 carried.4 in
      elim carried.3 [
        | inl o ↦ record {
          commands = o.command ∷ later.commands;
          replies = o.reply ∷ later.replies;
          answered = answered_more old carried.0 line lines later.commands later.replies carried.1 carried.2 text o carried.5 later.answered;
          caused = (carried.0, o.caused, later.caused);
        }
        | inr r ↦ record {
          commands = later.commands;
          replies = later.replies;
          answered = answered_none old carried.0 line lines later.commands later.replies carried.1 carried.2 text r carried.5 later.answered;
          caused = subst (λ m. Caused g h m later.replies new) r.same later.caused;
        }
      ]

  -- the lines that were run until the end
  record Ran (end : RunEnd) (old new : Machine D E) (bytes : List ℕ) (before after : Streams) : Type 0 where
    lines : List (List ℕ)
    text : List ℕ
    runs : CarriesOut g h old lines text new
    ends : EndsTrace end bytes lines text before after

  ran : (end : RunEnd) (old new : Machine D E) (left left_then held held_then : Option (List ℕ)) (bytes : List ℕ)
      → EndsSo g h end left_then (stage old [] [] held) (stage new [] [] held_then) bytes []
      → Ran end old new bytes (streams left held) (streams left_then held_then)
  ran Done old new left left_then held held_then bytes ended = record { lines = lines_of bytes; text = ended.1.text; runs = ended.1.runs; ends = (ended.0, refl, ended.1.wrote) }
  ran ReadFault old new left left_then held held_then bytes ended =
      record { lines = ended.advances.lines; text = ended.text; runs = ended.advances.runs; ends = ((ended.rest, ended.advances.cuts), ended.wrote) }
  ran WriteFault old new left left_then held held_then bytes ended =
      elim ended [
        | inl e ↦ record { lines = e.advances.lines; text = e.text; runs = e.advances.runs; ends = (inl (e.front, e.more, e.rest, e.split, e.advances.cuts), e.wrote) }
        | inr e ↦ record { lines = lines_of bytes; text = e.1.text; runs = e.1.runs; ends = (inr (e.0, refl), e.1.wrote) }
      ]

  pub caused_trace : (end : RunEnd) (old new : Machine D E) (left left_then held held_then : Option (List ℕ)) (bytes : List ℕ)
      → Consumes left left_then bytes → EndsSo g h end left_then (stage old [] [] held) (stage new [] [] held_then) bytes []
      → CausedTrace g h end old new (streams left held) (streams left_then held_then)
  caused_trace end old new left left_then held held_then bytes read ended =
      let r = ran end old new left left_then held held_then bytes ended in
      let a = replied old new r.lines r.text r.runs in
      record { bytes = bytes; read = read; lines = r.lines; commands = a.commands; replies = a.replies; text = r.text; answered = a.answered; caused = a.caused; ends = r.ends }

  -- devices that keep the disk model to the end kept it from the beginning
  abbrev pub KeptModels : Machine D E → Machine D E → Type 0
  KeptModels old new = (g.keeps_model (store_of new) → g.keeps_model (store_of old)) × (h.keeps_model (swap_of new) → h.keeps_model (swap_of old))

  kept_all : (old new : Machine D E) (lines : List (List ℕ)) (text : List ℕ) → CarriesOut g h old lines text new → KeptModels old new
  kept_all old new [] text carried = (subst (λ m. g.keeps_model (store_of m)) carried.1, subst (λ m. h.keeps_model (swap_of m)) carried.1)
  kept_all old new (line ∷ lines) text carried =
      let later = kept_all carried.0 new lines carried.2 carried.4 in
      elim carried.3 [ inl o ↦ (λ k. o.kept (later.0 k), λ k. o.swap_kept (later.1 k)) | inr r ↦ subst (λ m. KeptModels m new) r.same later ]

  pub kept_trace : (end : RunEnd) (old new : Machine D E) (left left_then held held_then : Option (List ℕ)) (bytes : List ℕ)
      → EndsSo g h end left_then (stage old [] [] held) (stage new [] [] held_then) bytes [] → KeptModels old new
  kept_trace end old new left left_then held held_then bytes ended = let r = ran end old new left left_then held held_then bytes ended in kept_all old new r.lines r.text r.runs

module _ {D E : Type 0} (g : Ghosts D) (h : Ghosts E)
    (only_now : (d : D) (image : Image) → g.keeps_model d → g.left_since d (g.moment d) image → MayLeave (g.content d) (g.unsynced d) image) where
  -- the machine's run of the lines' commands
  record Session (old new : Machine D E) (s : State) (lines : List (List ℕ)) (text : List ℕ) : Type 0 where
    commands : List Command
    replies : List Reply
    answered : Answered lines commands replies text
    ran_so_far : RanSoFar g h old new s commands replies

  relates : (old new : Machine D E) (s : State) (lines : List (List ℕ)) (text : List ℕ)
      → CarriesOut g h old lines text new → Shows g h old s → g.keeps_model (store_of new) → h.keeps_model (swap_of new)
      → Session old new s lines text
  relates old new s [] text carried shows keeps swap_keeps = record {
    commands = [];
    replies = [];
    answered = (refl, refl, carried.0);
    ran_so_far = record { last = s; events = []; chain = (carried.1, refl); shows = subst (λ m. Shows g h m s) (sym carried.1) shows };
  }
  relates old new s (line ∷ lines) text carried shows keeps swap_keeps =
      let mid = carried.0 in
      elim carried.3 [
        | inl o ↦
            let kept = kept_all g h mid new lines carried.2 carried.4 in
            let step = o.steps s shows (readable g h mid s o.command (kept.0 keeps) (kept.1 swap_keeps)) in
            let later = relates mid new step.0 lines carried.2 carried.4 (face g h old mid s step.0 o.command o.reply step.1).shows keeps swap_keeps in
            record {
              commands = o.command ∷ later.commands;
              replies = o.reply ∷ later.replies;
              answered = answered_more g h old mid line lines later.commands later.replies carried.1 carried.2 text o carried.5 later.answered;
              ran_so_far =
                  let rest = later.ran_so_far in
                  record { last = rest.last; events = event s o.command o.reply ∷ rest.events; chain = (mid, step.0, refl, step.1, rest.chain); shows = rest.shows };
            }
        | inr r ↦
            let later = relates old new s lines carried.2 (subst (λ m. CarriesOut g h m lines carried.2 new) r.same carried.4) shows keeps swap_keeps in
            record {
              commands = later.commands;
              replies = later.replies;
              answered = answered_none g h old mid line lines later.commands later.replies carried.1 carried.2 text r carried.5 later.answered;
              ran_so_far = later.ran_so_far;
            }
      ]

  pub runs_trace : (end : RunEnd) (old new : Machine D E) (s : State) (left left_then held held_then : Option (List ℕ)) (bytes : List ℕ)
      → Consumes left left_then bytes → EndsSo g h end left_then (stage old [] [] held) (stage new [] [] held_then) bytes []
      → Shows g h old s → g.keeps_model (store_of new) → h.keeps_model (swap_of new) → RunsTrace g h end old new (streams left held) (streams left_then held_then) s
  runs_trace end old new s left left_then held held_then bytes read ended shows keeps swap_keeps =
      let r = ran g h end old new left left_then held held_then bytes ended in
      let a = relates old new s r.lines r.text r.runs shows keeps swap_keeps in
      record {
        bytes = bytes;
        read = read;
        lines = r.lines;
        commands = a.commands;
        replies = a.replies;
        text = r.text;
        answered = a.answered;
        runs = all_ran g h old new s a.commands a.replies only_now shows a.ran_so_far;
        ends = r.ends;
      }
