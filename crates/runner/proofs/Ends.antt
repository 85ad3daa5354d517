-- How a run ends, after what it did before.
use Rattle.std.{proofs.{Common.{◌≡◌, ◌≢◌, ℕ, List, [], ◌∷◌, ◌++◌, length, refl, sym, ap, subst, ◌∙◌, append_assoc, append-nil, Option, inl, inr}, KnownBytes.{Appends-trans, Appends-nil}}, specs.Io.KnownBytes.{Appends, IsAtEnd}}
use Rattle.{disk_model.specs.declared.sector_disk.SectorDisk.{Ghosts}, machine.specs.declared.machine.Machine.{Machine}, trace_lang.specs.Lines.{lines_of, Cuts}, runner.proofs.Lines.{lines_of-cut, lines_of-unfinished, Cuts-none}}
use Rattle.runner.{proofs.{Progress.{Advances-trans, breaks_later, wrote_beginning}, Session.{answers_line, CarriesOut-one, CarriesOut-append}}, specs.{Bytes.{WritesBeginning}, Progress.{Stage, stage, HoldsOpenLine, ReadsAll, RunsLast}}}
use Rattle.runner.specs.{Progress.{Fails, GoesOn, BreaksOff, Ends}, Session.{Answers, CarriesOut}, declared.engine.RunEnd.{RunEnd, TheVariants.{Done, ReadFault, WriteFault}}}

-- an open line of which something is kept is a line of the trace
pub lines_of-open : (kept open_line : List ℕ) → HoldsOpenLine kept open_line → length kept ≢ 0 → lines_of open_line ≡ open_line ∷ []
lines_of-open kept [] begun some = let none : length kept ≡ 0 = ap length begun.front in absurd (some none)
lines_of-open kept (b ∷ line) begun some = lines_of-unfinished b line begun.unfinished

-- the lines of an open line, the bytes after it, and what follows
pub lines_of-more : (open_line bytes more : List ℕ) (lines : List (List ℕ)) (rest : List ℕ) → Cuts (open_line ++ bytes) lines rest
    → lines_of (open_line ++ (bytes ++ more)) ≡ lines ++ lines_of (rest ++ more)
lines_of-more open_line bytes more lines rest cuts = ap lines_of (sym (append_assoc open_line bytes more)) ∙ lines_of-cut (open_line ++ bytes) lines rest more cuts

-- what the writer took in all
pub wrote_all : (old mid new : Option (List ℕ)) (pending text written half others : List ℕ)
    → pending ++ text ≡ written ++ half → Appends old mid written → Appends mid new (half ++ others)
    → Appends old new (pending ++ (text ++ others))
wrote_all old mid new pending text written half others sent wrote more =
    subst (Appends old new)
    (sym (append_assoc written half others) ∙ ap (λ t. t ++ others) (sym sent) ∙ append_assoc pending text others)
    (Appends-trans old mid new written (half ++ others) wrote more)

module _ {D E : Type 0} (g : Ghosts D) (h : Ghosts E) where
  pub runs_last : (old new : Machine D E) (kept open_line pending more text : List ℕ) → HoldsOpenLine kept open_line → length kept ≢ 0
      → Answers g h old kept text new → more ≡ pending ++ text → RunsLast g h old new open_line pending more
  runs_last old new kept open_line pending more text begun some answers sent = record {
    text = text;
    runs = subst (λ ls. CarriesOut g h old ls text new) (sym (lines_of-open kept open_line begun some))
        (CarriesOut-one g h old new open_line text (answers_line g h old new open_line text (subst (λ k. Answers g h old k text new) begun.front answers)));
    sent = sent;
  }

  pub finishes : (old new : Machine D E) (kept pending more left : List ℕ) (held held_then : Option (List ℕ))
      → ((open_line : List ℕ) → HoldsOpenLine kept open_line → RunsLast g h old new open_line pending more) → Appends held held_then more
      → (remaining : Option (List ℕ)) → IsAtEnd remaining → Ends g h Done remaining (stage old kept pending held) (stage new kept left held_then) []
  finishes old new kept pending more left held held_then last wrote remaining all open_line begun =
      let runs = last open_line begun in (
        all,
        record {
          text = runs.text;
          runs = subst (λ l. CarriesOut g h old (lines_of l) runs.text new) (sym (append-nil open_line)) runs.runs;
          wrote = subst (Appends held held_then) runs.sent wrote;
        },
      )

  pub finishes_badly : (old new : Machine D E) (kept pending more left : List ℕ) (held held_then : Option (List ℕ))
      → ((open_line : List ℕ) → HoldsOpenLine kept open_line → RunsLast g h old new open_line pending more) → WritesBeginning held held_then more
      → (remaining : Option (List ℕ)) → IsAtEnd remaining → Ends g h WriteFault remaining (stage old kept pending held) (stage new kept left held_then) []
  finishes_badly old new kept pending more left held held_then last wrote remaining all open_line begun =
      let runs = last open_line begun in
      inr (
        all,
        record {
          text = runs.text;
          runs = subst (λ l. CarriesOut g h old (lines_of l) runs.text new) (sym (append-nil open_line)) runs.runs;
          wrote = subst (WritesBeginning held held_then) runs.sent wrote;
        },
      )

  -- the reader failed where nothing is pending
  pub stops_here : (remaining : Option (List ℕ)) (machine : Machine D E) (kept pending left : List ℕ) (held : Option (List ℕ)) → pending ≡ []
      → Ends g h ReadFault remaining (stage machine kept pending held) (stage machine kept left held) []
  stops_here remaining machine kept pending left held none open_line begun = record {
    text = [];
    rest = open_line;
    advances = record { lines = []; cuts = Cuts-none open_line begun.unfinished; runs = (refl, refl) };
    wrote = subst (Appends held held) (sym (append-nil pending ∙ none)) (Appends-nil held);
  }

  -- what was pending is written out
  pub written_out : (old : Stage D E) (machine : Machine D E) (kept pending left : List ℕ) (held held_then : Option (List ℕ)) (bytes : List ℕ)
      → GoesOn g h old (stage machine kept pending held) bytes → left ≡ [] → Appends held held_then pending
      → GoesOn g h old (stage machine kept left held_then) bytes
  written_out old machine kept pending left held held_then bytes reads gone wrote open_line begun =
      let r = reads open_line begun in
      record {
        text = r.text;
        rest = r.rest;
        written = r.written ++ pending;
        advances = r.advances;
        kept = r.kept;
        sent = r.sent ∙ sym (append-nil (r.written ++ pending)) ∙ ap (λ l. (r.written ++ pending) ++ l) (sym gone);
        wrote = Appends-trans old.held held held_then r.written pending r.wrote wrote;
      }

  pub not_written_out : (old : Stage D E) (machine : Machine D E) (kept pending left : List ℕ) (held held_then : Option (List ℕ)) (bytes : List ℕ)
      → GoesOn g h old (stage machine kept pending held) bytes → WritesBeginning held held_then pending
      → BreaksOff g h old (stage machine kept left held_then) bytes
  not_written_out old machine kept pending left held held_then bytes reads wrote open_line begun =
      let r = reads open_line begun in
      record {
        text = r.text;
        rest = r.rest;
        front = bytes;
        more = [];
        split = sym (append-nil bytes);
        advances = r.advances;
        wrote = (
          r.written ++ wrote.0,
          Appends-trans old.held held held_then r.written wrote.0 r.wrote wrote.1,
          (wrote.2.0, r.sent ∙ ap (λ l. r.written ++ l) wrote.2.1 ∙ sym (append_assoc r.written wrote.0 wrote.2.0)),
        );
      }

  -- the writer failed at the end of the reader
  fails_after : (old mid new : Stage D E) (bytes more open_line : List ℕ) → (first : ReadsAll g h old mid bytes open_line) → Fails g h mid new more first.rest
      → Fails g h old new (bytes ++ more) open_line
  fails_after old mid new bytes more open_line first second = record {
    text = first.text ++ second.text;
    runs = subst (λ ls. CarriesOut g h old.machine ls (first.text ++ second.text) new.machine)
        (sym (lines_of-more open_line bytes more first.advances.lines first.rest first.advances.cuts))
        (CarriesOut-append g h old.machine mid.machine new.machine first.advances.lines (lines_of (first.rest ++ more)) first.text second.text first.advances.runs second.runs);
    wrote = wrote_beginning old.held mid.held new.held old.pending first.text first.written mid.pending second.text first.sent first.wrote second.wrote;
  }

  pub ends_after : (end : RunEnd) (remaining : Option (List ℕ)) (old mid new : Stage D E) (bytes more : List ℕ)
      → GoesOn g h old mid bytes → Ends g h end remaining mid new more → Ends g h end remaining old new (bytes ++ more)
  ends_after Done remaining old mid new bytes more p q open_line begun =
      let first = p open_line begun in
      let ended = q first.rest first.kept in
      let second = ended.1 in (
        ended.0,
        record {
          text = first.text ++ second.text;
          runs = subst (λ ls. CarriesOut g h old.machine ls (first.text ++ second.text) new.machine)
              (sym (lines_of-more open_line bytes more first.advances.lines first.rest first.advances.cuts))
              (CarriesOut-append g h old.machine mid.machine new.machine first.advances.lines (lines_of (first.rest ++ more)) first.text second.text first.advances.runs second.runs);
          wrote = wrote_all old.held mid.held new.held old.pending first.text first.written mid.pending second.text first.sent first.wrote second.wrote;
        },
      )
  ends_after ReadFault remaining old mid new bytes more p q open_line begun =
      let first = p open_line begun in
      let second = q first.rest first.kept in
      record {
        text = first.text ++ second.text;
        rest = second.rest;
        advances = Advances-trans g h old.machine mid.machine new.machine open_line bytes more first.text second.text first.rest second.rest first.advances second.advances;
        wrote = wrote_all old.held mid.held new.held old.pending first.text first.written mid.pending second.text first.sent first.wrote second.wrote;
      }
  ends_after WriteFault remaining old mid new bytes more p q open_line begun =
      let first = p open_line begun in
      elim (q first.rest first.kept) [
        | inl second ↦ inl (breaks_later g h old mid new bytes more open_line first second)
        | inr ended ↦ inr (ended.0, fails_after old mid new bytes more open_line first ended.1)
      ]

  -- of what it leaves, a run's end knows the machine and the writer alone
  pub ends_alike : (end : RunEnd) (remaining : Option (List ℕ)) (old : Stage D E) (machine : Machine D E) (kept other_kept left other_left : List ℕ) (held : Option (List ℕ)) (bytes : List ℕ)
      → Ends g h end remaining old (stage machine kept left held) bytes → Ends g h end remaining old (stage machine other_kept other_left held) bytes
  ends_alike Done remaining old machine kept other_kept left other_left held bytes p open_line begun =
      let e = p open_line begun in (e.0, record { text = e.1.text; runs = e.1.runs; wrote = e.1.wrote })
  ends_alike ReadFault remaining old machine kept other_kept left other_left held bytes p open_line begun =
      let e = p open_line begun in record { text = e.text; rest = e.rest; advances = e.advances; wrote = e.wrote }
  ends_alike WriteFault remaining old machine kept other_kept left other_left held bytes p open_line begun =
      elim (p open_line begun) [
        | inl e ↦ inl (record { text = e.text; rest = e.rest; front = e.front; more = e.more; split = e.split; advances = e.advances; wrote = e.wrote })
        | inr e ↦ inr (e.0, record { text = e.1.text; runs = e.1.runs; wrote = e.1.wrote })
      ]
