use Rattle.memory.proofs.{Names.{◌≡◌, ◌*◌, ◌^◌, ◌%◌, bit_or, ℕ, inl, inr, refl, sym, ◌∙◌, subst, arith, eqb-true, cases_eq, bit_at-zero, bit_at_set_same, bit_at_set_other, bit_at, w64}, notes.Note.add.Goals.{then-self-eq0, else-self-eq0}}
use Rattle.memory.proofs.notes.Note.add.Goals as goal

set_here : (kinds root : ℕ) → bit_at (bit_or kinds (1 * 2 ^ (root % 64) % 18446744073709551616)) (root % 64) ≡ 1
set_here kinds root = bit_at_set_same w64 kinds (root % 64) (omega arith)

kept : (kinds root r : ℕ) → bit_at kinds (r % 64) ≡ 1 → bit_at (bit_or kinds (1 * 2 ^ (root % 64) % 18446744073709551616)) (r % 64) ≡ 1
kept kinds root r h = elim (cases_eq (r % 64) (root % 64)) [
  | inl e ↦ subst (λ (k : ℕ). bit_at (bit_or kinds (1 * 2 ^ (root % 64) % 18446744073709551616)) k ≡ 1) (sym e) (set_here kinds root)
  | inr ne ↦ bit_at_set_other w64 kinds (root % 64) (omega arith) (r % 64) ne ∙ h
]

pub returns-then-same-clause-added : goal.returns-then-same-clause-added
returns-then-same-clause-added c = record { kind = set_here c.args.self.kinds c.args.root.0; page_is = inr c.get-page.ensures.number }

pub returns-then-same-clause-kept : goal.returns-then-same-clause-kept
returns-then-same-clause-kept c = λ r p h. record {
  kind = kept c.args.self.kinds c.args.root.0 r h.kind;
  page_is = elim c.if-self-eq0.branch [
    | then-self-eq0 w ↦ (
        let none : bit_at 0 (r % 64) ≡ 1 = subst (λ (k : ℕ). bit_at k (r % 64) ≡ 1) w.if-self-eq0.true h.kind in
        absurd (omega (arith, none, bit_at-zero (r % 64))))
    | else-self-eq0 w ↦ (
        let same : c.args.self.page ≡ c.get-page.result = eqb-true c.args.self.page c.get-page.result (sym w.same-is ∙ c.if-same.true) in
        elim h.page_is [ inl zero ↦ inl (sym same ∙ zero) | inr is ↦ inr (sym same ∙ is) ])
  ];
}

pub returns-else-same-clause-added : goal.returns-else-same-clause-added
returns-else-same-clause-added c = record { kind = set_here c.args.self.kinds c.args.root.0; page_is = inl refl }

pub returns-else-same-clause-kept : goal.returns-else-same-clause-kept
returns-else-same-clause-kept c = λ r p h. record { kind = kept c.args.self.kinds c.args.root.0 r h.kind; page_is = inl refl }
