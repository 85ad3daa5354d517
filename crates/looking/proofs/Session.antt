-- How a trace goes on that is run while one looks inside.
use Rattle.std.proofs.{Common.{◌≡◌, ◌≤◌, ℕ, List, [], ◌∷◌, ◌++◌, length, take, refl, sym, ap, subst, ◌∙◌, append_assoc, arith, Bool, true, false, if◌then◌else◌}, lemmas.List.{take_all}}
use Rattle.{disk_model.specs.declared.sector_disk.SectorDisk.{Ghosts}, machine.specs.declared.machine.Machine.{Machine}, trace_lang.specs.Lines.{HasNoNewline}}
use Rattle.runner.{proofs.{Lines.{Cuts-trans, Cuts-none, Cuts-bytes, Cuts-newline}, Progress.{kept_bytes, HoldsOpenLine-none}, Session.{answers_line, CarriesOut-one, CarriesOut-append}}, specs.{Progress.{HoldsOpenLine}, Session.{Answers, CarriesOut}}}
use Rattle.looking.specs.{Lines.{is_aside}, Session.{traced, TakesLine, LooksOn, TakesAll, TakesSome}}

one_more : (b : Bool) (line : List ℕ) (all lines others : List (List ℕ)) → all ≡ lines ++ others → (if b then all else line ∷ all) ≡ (if b then lines else line ∷ lines) ++ others
one_more true line all lines others is = is
one_more false line all lines others is = ap (λ l. line ∷ l) is

traced_append : (lines others : List (List ℕ)) → traced (lines ++ others) ≡ traced lines ++ traced others
traced_append [] others = refl
traced_append (line ∷ lines) others = one_more (is_aside line) line _ (traced lines) (traced others) (traced_append lines others)

-- the first bytes of a line tell whether it is the trace's
same_kind : (line : List ℕ) → is_aside (take 257 line) ≡ is_aside line
same_kind [] = refl
same_kind (byte ∷ line) = refl

no_bytes : (l : List ℕ) → length l ≡ 0 → l ≡ []
no_bytes [] e = refl
no_bytes (b ∷ l) e = absurd (omega (arith, e))

-- after an empty buffer the line is these bytes
pub whole_line : (kept bytes : List ℕ) → length kept ≡ 0 → length bytes ≤ 256 → bytes ≡ take 257 (kept ++ bytes)
whole_line kept bytes none short =
    let room : length bytes ≤ 257 = omega (arith, short) in
    sym (take_all 257 bytes room) ∙ ap (λ k. take 257 (k ++ bytes)) (sym (no_bytes kept none))

pub no_line : (kept : List ℕ) → length kept ≡ 0 → kept ≡ []
no_line kept none = no_bytes kept none

module _ {D E : Type 0} (g : Ghosts D) (h : Ghosts E) where
  -- a line is taken by its first bytes
  whole : (old new : Machine D E) (kept line : List ℕ) → kept ≡ take 257 line → TakesLine g h old kept new → TakesLine g h old line new
  whole old new kept line is takes =
      let kind : is_aside kept ≡ is_aside line = ap is_aside is ∙ same_kind line in
      record {
        aside = λ yes. takes.aside (kind ∙ yes);
        answers = λ no. let answers = takes.answers (kind ∙ no) in (answers.0, answers_line g h old new line answers.0 (subst (λ k. Answers g h old k answers.0 new) is answers.1));
      }

  one_line : (old new : Machine D E) (line : List ℕ) → TakesLine g h old line new → (b : Bool) → is_aside line ≡ b
      → (text : List ℕ) × CarriesOut g h old (if b then [] else line ∷ []) text new
  one_line old new line takes true is = ([], (refl, takes.aside is))
  one_line old new line takes false is = let answers = takes.answers is in (answers.0, CarriesOut-one g h old new line answers.0 answers.1)

  LooksOn-trans : (old mid new : Machine D E) (open_line bytes more half rest : List ℕ) → LooksOn g h old open_line bytes half mid
      → LooksOn g h mid half more rest new → LooksOn g h old open_line (bytes ++ more) rest new
  LooksOn-trans old mid new open_line bytes more half rest p q = record {
    lines = p.lines ++ q.lines;
    cuts = rw (← append_assoc open_line bytes more) (Cuts-trans (open_line ++ bytes) more p.lines q.lines half rest p.cuts q.cuts);
    text = p.text ++ q.text;
    runs = subst (λ l. CarriesOut g h old l (p.text ++ q.text) new) (sym (traced_append p.lines q.lines))
        (CarriesOut-append g h old mid new (traced p.lines) (traced q.lines) p.text q.text p.runs q.runs);
  }

  -- no byte changes nothing
  pub takes_none : (m : Machine D E) (kept : List ℕ) → TakesAll g h m kept [] m kept
  takes_none m kept open_line begun =
      (open_line, record { lines = []; cuts = Cuts-none open_line begun.unfinished; text = []; runs = (refl, refl) }, begun)

  -- bytes that go on with the line
  pub takes_bytes : (m : Machine D E) (kept bytes left : List ℕ) → HasNoNewline bytes → left ≡ take 257 (kept ++ bytes) → TakesAll g h m kept bytes m left
  takes_bytes m kept bytes left unbroken is open_line begun =
      let cuts = Cuts-bytes open_line bytes begun.unfinished unbroken in (
        open_line ++ bytes,
        record { lines = []; cuts = cuts; text = []; runs = (refl, refl) },
        record { front = is ∙ ap (λ k. take 257 (k ++ bytes)) begun.front ∙ kept_bytes open_line bytes; unfinished = cuts.rest },
      )

  -- the newline
  takes_newline : (old new : Machine D E) (kept left : List ℕ) → left ≡ [] → TakesLine g h old kept new → TakesAll g h old kept (10 ∷ []) new left
  takes_newline old new kept left none takes open_line begun =
      let ran = one_line old new open_line (whole old new kept open_line begun.front takes) (is_aside open_line) refl in (
        [],
        record { lines = open_line ∷ []; cuts = Cuts-newline open_line begun.unfinished; text = ran.0; runs = ran.1 },
        subst (λ k. HoldsOpenLine k []) (sym none) HoldsOpenLine-none,
      )

  pub takes_on : (old mid new : Machine D E) (kept bytes half more left : List ℕ) → TakesAll g h old kept bytes mid half → TakesAll g h mid half more new left
      → TakesAll g h old kept (bytes ++ more) new left
  takes_on old mid new kept bytes half more left p q open_line begun =
      let first = p open_line begun in
      let second = q first.0 first.2 in
      (second.0, LooksOn-trans old mid new open_line bytes more first.0 second.0 first.1 second.1, second.2)

  -- bytes without a newline and the newline after them
  pub takes_ended : (old new : Machine D E) (kept bytes line left : List ℕ) → HasNoNewline bytes → line ≡ take 257 (kept ++ bytes) → left ≡ []
      → TakesLine g h old line new → TakesAll g h old kept (bytes ++ 10 ∷ []) new left
  takes_ended old new kept bytes line left unbroken is none takes =
      takes_on old old new kept bytes line (10 ∷ []) left (takes_bytes old kept bytes line unbroken is) (takes_newline old new line left none takes)

  pub takes_some : (old new : Machine D E) (kept front more left bytes : List ℕ) → bytes ≡ front ++ more → TakesAll g h old kept front new left → TakesSome g h old kept bytes new
  takes_some old new kept front more left bytes split takes open_line begun = let first = takes open_line begun in (front, more, first.0, split, first.1)

  pub takes_whole : (old new : Machine D E) (kept front more left bytes : List ℕ) → bytes ≡ front ++ more → TakesAll g h old kept (front ++ more) new left
      → TakesAll g h old kept bytes new left
  takes_whole old new kept front more left bytes split takes = subst (λ b. TakesAll g h old kept b new left) (sym split) takes
