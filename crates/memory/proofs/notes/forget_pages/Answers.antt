use Rattle.memory.{specs.{declared.notes.Note.{Note}, Notes.{Covers, NamesFrame, no_note}}, proofs.Names.{◌∙◌, ℕ, inl, inr, sym, subst, length-set, get_or-set_other, cases_eq, FrameTable}}
use Rattle.memory.proofs.notes.forget_pages.Goals as goal

pub invariant_of-memory : goal.invariant_of-memory
invariant_of-memory g c =
    let t = c.memory.inside.frames in
    let n = c.args.frame.0 in
    let items = c.memory.inside.notes.each.items in
    let was = c.memory.invariant.1 in (
      c.memory.invariant.0,
      record {
        count = length-set items n no_note ∙ was.count;
        covers = λ whole root page m names inside. elim (cases_eq m n) [
          | inl e ↦ (
              let N : ℕ → Type 0 = λ x. NamesFrame g.M.Levels.mode t root page x in
              absurd (c.requires.none root page (subst (λ (x : FrameTable). NamesFrame g.M.Levels.mode x root page n) c.memory.view_is (subst N e names))))
          | inr ne ↦ subst (λ (x : Note). Covers x root page) (sym (get_or-set_other items n m no_note no_note ne)) (was.covers whole root page m names inside)
        ];
      },
      c.memory.invariant.2,
    )
