-- Laws of runs of lines.
use Rattle.std.proofs.{Common.{ℕ, ◌<◌, ◌≤◌, List, [], ◌∷◌, ◌++◌, length, take, refl, sym, ap, subst, ◌∙◌, append_assoc, append-nil, inl, inr, arith}, lemmas.{Bool.{cases_lt}, List.{take_all, length-take-le}}}
use Rattle.{vm_types.specs.declared.command.Command.{Command}, disk_model.specs.declared.sector_disk.SectorDisk.{Ghosts}, machine.specs.declared.machine.Machine.{Machine}, trace_lang.specs.Grammar.{IsCommand}}
use Rattle.runner.specs.Session.{IsBadLine, Answers, CarriesOut}

-- a line of more than 256 bytes is in no form
too_long : (line : List ℕ) → 256 < length line → IsBadLine line
too_long line long command form = let short = form.short in absurd (omega arith)

-- the first 257 bytes of a line tell what it stands for
pub same_form : (line : List ℕ) (command : Command) → IsCommand (take 257 line) command → IsCommand line command
same_form line command form = elim (cases_lt 256 (length line)) [
  | inl long ↦ let room : 257 ≤ length line = omega arith in let all = length-take-le 257 line room in absurd (too_long (take 257 line) (omega arith) command form)
  | inr short ↦ let room : length line ≤ 257 = omega arith in rw (take_all 257 line room) at form
]

pub same_bad_line : (line : List ℕ) → IsBadLine (take 257 line) → IsBadLine line
same_bad_line line bad command form = let short = form.short in let room : length line ≤ 257 = omega arith in bad command (rw (take_all 257 line room) form)

module _ {D E : Type 0} (g : Ghosts D) (h : Ghosts E) where
  pub answers_line : (old new : Machine D E) (line text : List ℕ) → Answers g h old (take 257 line) text new → Answers g h old line text new
  answers_line old new line text answers = elim answers [
    | inl o ↦ inl (record { command = o.command; reply = o.reply; form = same_form line o.command o.form; steps = o.steps; caused = o.caused; kept = o.kept; swap_kept = o.swap_kept; text_is = o.text_is })
    | inr r ↦ inr (record { bad = same_bad_line line r.bad; same = r.same; text_is = r.text_is })
  ]

  pub CarriesOut-one : (old new : Machine D E) (line text : List ℕ) → Answers g h old line text new → CarriesOut g h old (line ∷ []) text new
  CarriesOut-one old new line text answers = (new, text, [], answers, (refl, refl), sym (append-nil text))

  pub CarriesOut-append : (old mid new : Machine D E) (lines others : List (List ℕ)) (first second : List ℕ)
      → CarriesOut g h old lines first mid → CarriesOut g h mid others second new → CarriesOut g h old (lines ++ others) (first ++ second) new
  CarriesOut-append old mid new [] others first second p q =
      subst (λ t. CarriesOut g h old others t new) (ap (λ t. t ++ second) (sym p.0)) (subst (λ m. CarriesOut g h m others second new) p.1 q)
  CarriesOut-append old mid new (line ∷ lines) others first second p q = (
    p.0,
    p.1,
    p.2 ++ second,
    p.3,
    CarriesOut-append p.0 mid new lines others p.2 second p.4 q,
    ap (λ t. t ++ second) p.5 ∙ append_assoc p.1 p.2 second,
  )
