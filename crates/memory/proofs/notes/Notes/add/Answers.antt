use Rattle.memory.{specs.{declared.notes.Note.{Note}, Notes.{Covers, no_note}}, proofs.Names.{◌<◌, ℕ, inl, inr, sym, subst, arith, get_or, slice_set, length, get_or-set_same, get_or-set_other, cases_eq, get_or_read}}
use Rattle.memory.proofs.notes.Notes.add.Goals as goal

pub returns-then-n-len-clause-kept : goal.returns-then-n-len-clause-kept
returns-then-n-len-clause-kept c = λ n r p h.
    let items = c.args.self.now.each.items in
    let k = c.in-Some.n in
    let below : k < length items = (let l = c.len.ensures in let t = c.if-n-len.true in omega (arith, l, t)) in
    let C : Note → Type 0 = λ x. Covers x r p in
    elim (cases_eq n k) [
      | inl e ↦ (
          let P : ℕ → Type 0 = λ x. Covers (get_or items x no_note) r p in
          let here : Covers c.index.result.now r p = subst C (sym (get_or_read items k _ below c.index.ensures no_note)) (subst P e h) in
          let Q : ℕ → Type 0 = λ x. Covers (get_or (slice_set items k c.add.result) x no_note) r p in
          subst Q (sym e) (subst C (sym (get_or-set_same items k c.add.result no_note below)) (c.add.ensures.kept r p here)))
      | inr ne ↦ subst C (sym (get_or-set_other items k n c.add.result no_note ne)) h
    ]
