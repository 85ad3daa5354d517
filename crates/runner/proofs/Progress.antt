-- How the engine goes on, line after line.
use Rattle.std.proofs.{Common.{◌≡◌, ◌≢◌, ℕ, ◌≤◌, List, [], ◌∷◌, ◌++◌, length, take, refl, sym, ap, subst, ◌∙◌, append_assoc, append-nil, inl, inr, arith, Option, Result}, KnownBytes.{Appends-trans, Appends-nil}, lemmas.Bool.{cases_lt}}
use Rattle.{std.{proofs.lemmas.List.{take_all, length-take-le, take-append-le, Elements.{All-nil}}, specs.Io.KnownBytes.{Appends}}, disk_model.specs.declared.sector_disk.SectorDisk.{Ghosts}, machine.specs.declared.machine.Machine.{Machine}}
use Rattle.{trace_lang.specs.Lines.{HasNoNewline}, runner.{proofs.{Bytes.{match_both}, Lines.{Cuts-trans, Cuts-none, Cuts-bytes, Cuts-newline}, Session.{answers_line, CarriesOut-one, CarriesOut-append}}, specs.Bytes.{WritesBeginning}}}
use Rattle.runner.specs.{Progress.{Stage, stage, HoldsOpenLine, Advances, ReadsAll, Breaks, GoesOn, BreaksOff, TakesBytes}, Session.{Answers}, declared.output_buffer.WriteFault.{WriteFault}}

-- the buffer goes on as the line does
pub kept_bytes : (line bytes : List ℕ) → take 257 (take 257 line ++ bytes) ≡ take 257 (line ++ bytes)
kept_bytes line bytes = elim (cases_lt (length line) 257) [
  | inl short ↦ let room : length line ≤ 257 = omega arith in ap (λ l. take 257 (l ++ bytes)) (take_all 257 line room)
  | inr long ↦
      let all = length-take-le 257 line long in
      let enough : 257 ≤ length (take 257 line) = omega arith in
      let nothing_more : length (take 257 line) ≤ 257 = omega arith in
      take-append-le 257 (take 257 line) bytes enough ∙ take_all 257 (take 257 line) nothing_more
      ∙ sym (take-append-le 257 line bytes long)
]

pub HoldsOpenLine-none : HoldsOpenLine [] []
HoldsOpenLine-none = record { front = refl; unfinished = All-nil (λ b. b ≢ 10) }

-- what the writer took in the end, after what it took before
pub wrote_beginning : (old mid new : Option (List ℕ)) (pending text written half others : List ℕ)
    → pending ++ text ≡ written ++ half → Appends old mid written → WritesBeginning mid new (half ++ others)
    → WritesBeginning old new (pending ++ (text ++ others))
wrote_beginning old mid new pending text written half others sent wrote broke = (
  written ++ broke.0,
  Appends-trans old mid new written broke.0 wrote broke.1,
  (
    broke.2.0,
    sym (append_assoc pending text others) ∙ ap (λ t. t ++ others) sent ∙ append_assoc written half others
        ∙ ap (λ t. written ++ t) broke.2.1 ∙ sym (append_assoc written broke.0 broke.2.0),
  ),
)

module _ {D E : Type 0} (g : Ghosts D) (h : Ghosts E) where
  pub Advances-trans : (old mid new : Machine D E) (open_line bytes more text others half rest : List ℕ)
      → Advances g h old open_line bytes text half mid → Advances g h mid half more others rest new
      → Advances g h old open_line (bytes ++ more) (text ++ others) rest new
  Advances-trans old mid new open_line bytes more text others half rest p q = record {
    lines = p.lines ++ q.lines;
    cuts = rw (← append_assoc open_line bytes more) (Cuts-trans (open_line ++ bytes) more p.lines q.lines half rest p.cuts q.cuts);
    runs = CarriesOut-append g h old mid new p.lines q.lines text others p.runs q.runs;
  }

  -- no byte changes nothing
  pub goes_nowhere : (s : Stage D E) → GoesOn g h s s []
  goes_nowhere s open_line kept = record {
    text = [];
    rest = open_line;
    written = [];
    advances = record { lines = []; cuts = Cuts-none open_line kept.unfinished; runs = (refl, refl) };
    kept = kept;
    sent = append-nil s.pending;
    wrote = Appends-nil s.held;
  }

  -- bytes that go on with the line
  pub goes_on_by_bytes : (machine : Machine D E) (kept pending : List ℕ) (held : Option (List ℕ)) (bytes more : List ℕ)
      → HasNoNewline bytes → more ≡ take 257 (kept ++ bytes) → GoesOn g h (stage machine kept pending held) (stage machine more pending held) bytes
  goes_on_by_bytes machine kept pending held bytes more others is open_line begun =
      let cuts = Cuts-bytes open_line bytes begun.unfinished others in
      record {
        text = [];
        rest = open_line ++ bytes;
        written = [];
        advances = record { lines = []; cuts = cuts; runs = (refl, refl) };
        kept = record { front = is ∙ ap (λ k. take 257 (k ++ bytes)) begun.front ∙ kept_bytes open_line bytes; unfinished = cuts.rest };
        sent = append-nil pending;
        wrote = Appends-nil held;
      }

  -- the newline
  pub goes_on_by_newline : (old new : Machine D E) (kept pending more text : List ℕ) (held : Option (List ℕ)) → Answers g h old kept text new → more ≡ pending ++ text
      → GoesOn g h (stage old kept pending held) (stage new [] more held) (10 ∷ [])
  goes_on_by_newline old new kept pending more text held answers is open_line begun = record {
    text = text;
    rest = [];
    written = [];
    advances = record {
      lines = open_line ∷ [];
      cuts = Cuts-newline open_line begun.unfinished;
      runs = CarriesOut-one g h old new open_line text (answers_line g h old new open_line text (subst (λ k. Answers g h old k text new) begun.front answers));
    };
    kept = HoldsOpenLine-none;
    sent = sym is;
    wrote = Appends-nil held;
  }

  pub GoesOn-trans : (old mid new : Stage D E) (bytes more : List ℕ) → GoesOn g h old mid bytes → GoesOn g h mid new more → GoesOn g h old new (bytes ++ more)
  GoesOn-trans old mid new bytes more p q open_line begun =
      let first = p open_line begun in
      let second = q first.rest first.kept in
      record {
        text = first.text ++ second.text;
        rest = second.rest;
        written = first.written ++ second.written;
        advances = Advances-trans old.machine mid.machine new.machine open_line bytes more first.text second.text first.rest second.rest first.advances second.advances;
        kept = second.kept;
        sent = sym (append_assoc old.pending first.text second.text) ∙ ap (λ t. t ++ second.text) first.sent
            ∙ append_assoc first.written mid.pending second.text ∙ ap (λ t. first.written ++ t) second.sent
            ∙ sym (append_assoc first.written second.written new.pending);
        wrote = Appends-trans old.held mid.held new.held first.written second.written first.wrote second.wrote;
      }

  pub breaks_later : (old mid new : Stage D E) (bytes more open_line : List ℕ) → (first : ReadsAll g h old mid bytes open_line) → Breaks g h mid new more first.rest
      → Breaks g h old new (bytes ++ more) open_line
  breaks_later old mid new bytes more open_line first second = record {
    text = first.text ++ second.text;
    rest = second.rest;
    front = bytes ++ second.front;
    more = second.more;
    split = ap (λ b. bytes ++ b) second.split ∙ sym (append_assoc bytes second.front second.more);
    advances = Advances-trans old.machine mid.machine new.machine open_line bytes second.front first.text second.text first.rest second.rest first.advances second.advances;
    wrote = wrote_beginning old.held mid.held new.held old.pending first.text first.written mid.pending second.text first.sent first.wrote second.wrote;
  }

  pub breaks_after : (old mid new : Stage D E) (bytes more : List ℕ) → GoesOn g h old mid bytes → BreaksOff g h mid new more → BreaksOff g h old new (bytes ++ more)
  breaks_after old mid new bytes more p q open_line begun = let first = p open_line begun in breaks_later old mid new bytes more open_line first (q first.rest first.kept)

  -- A whole line with its newline, by what the newline does where the line is held. The line may stand in the buffer, or in the
  -- bytes after an empty buffer.
  pub reads_line : (r : Result (Unit {0}) WriteFault) (old new : Machine D E) (kept line cleared pending more bytes : List ℕ) (held held_then : Option (List ℕ))
      → HasNoNewline bytes → line ≡ take 257 (kept ++ bytes) → cleared ≡ []
      → TakesBytes g h r (stage old line pending held) (stage new [] more held_then) (10 ∷ [])
      → TakesBytes g h r (stage old kept pending held) (stage new cleared more held_then) (bytes ++ 10 ∷ [])
  reads_line r old new kept line cleared pending more bytes held held_then unbroken is none ended =
      let before = stage old kept pending held in
      let mid = stage old line pending held in
      let after = stage new [] more held_then in
      let goes = goes_on_by_bytes old kept pending held bytes line unbroken is in
      subst (λ (k : List ℕ). TakesBytes g h r before (stage new k more held_then) (bytes ++ 10 ∷ [])) (sym none) (record {
        sound = ended.sound;
        reads = match_both r (GoesOn-trans before mid after bytes (10 ∷ []) goes) (breaks_after before mid after bytes (10 ∷ []) goes) ended.reads;
        room = ended.room;
      })

  -- the bytes after a break stay unread
  pub breaks_before : (old new : Stage D E) (bytes more : List ℕ) → BreaksOff g h old new bytes → BreaksOff g h old new (bytes ++ more)
  breaks_before old new bytes more p open_line begun =
      let first = p open_line begun in
      record {
        text = first.text;
        rest = first.rest;
        front = first.front;
        more = first.more ++ more;
        split = ap (λ b. b ++ more) first.split ∙ append_assoc first.front first.more more;
        advances = first.advances;
        wrote = first.wrote;
      }
