use Rattle.std.proofs.{Common.{◌≡◌, ◌≢◌, ◌%◌, ◌⊎◌, ℕ, inl, inr, rules, sym, ◌∙◌, subst, arith}, lemmas.Bool.{cases_eq}, lemmas.Nat.Bits.{bit_at-zero}}
use Rattle.std.specs.Int.{bit_at}
use Rattle.vm_types.specs.Limits.{top_level}
use Rattle.frames.specs.FrameTable.{FrameTable}
use Rattle.page_tables.specs.{Tree.{IsForest, IsRoot}, Change.{SetsEntry}}
use Rattle.memory.specs.Notes.{HasKind, IsNumberOf, NamesFrame}
use Rattle.memory.proofs.{Noting.{set_back}, Numbers.{is_number}}
use Rattle.memory_tests.proofs.notes.show_for_a_moment.Goals as goal

no_kind : (kinds root : ℕ) → kinds ≡ 0 → HasKind kinds root → ⊥
no_kind kinds root none has =
    let one : bit_at 0 (root % 64) ≡ 1 = subst (λ (k : ℕ). bit_at k (root % 64) ≡ 1) none has in
    let zero = bit_at-zero (root % 64) in
    omega (arith, one, zero)

-- a page's entry was set and taken away: what names the frame then is another page, and did so before
module _ (mode : ℕ) (before between after : FrameTable) (root q number n : ℕ) (forest : IsForest before) (is_root : IsRoot (top_level mode) before root)
    (set : SetsEntry before between (top_level mode) root q number) (cleared : SetsEntry between after (top_level mode) root q 0)
    (none : (r p : ℕ) → NamesFrame mode before r p n → ⊥) where
  elsewhere : (r p : ℕ) → NamesFrame mode after r p n → (r ≢ root) ⊎ (p ≢ q) → ⊥
  elsewhere r p names other = none r p (record {
    number = names.number;
    is = set_back mode before between root forest is_root q number set r p names.number
        (set_back mode between after root set.forest set.stays q 0 cleared r p names.number names.is other) other;
    framed = names.framed;
    common = names.common;
    frame = names.frame;
  })

  none_left : (r p : ℕ) → NamesFrame mode after r p n → ⊥
  none_left r p names = elim (cases_eq r root) [
    | inl same_root ↦ elim (cases_eq p q) [
      | inl same_page ↦ (
          let P : ℕ → Type 0 = λ x. IsNumberOf mode after x p names.number in
          let Q : ℕ → Type 0 = λ x. IsNumberOf mode after root x names.number in
          let here = subst Q same_page (subst P same_root names.is) in
          here.some (sym (is_number mode after root q names.number here) ∙ cleared.changed))
      | inr ne ↦ elsewhere r p names (inr ne)
    ]
    | inr ne ↦ elsewhere r p names (inl ne)
  ]

pub returns-clause-none : goal.returns-clause-none
returns-clause-none g c =
    let zero : c.kinds_over.result ≡ 0 = search rules in
    none_left g.M.Levels.mode c.args.memory.now c.set.new.memory c.set-2.new.memory c.args.root.0 c.args.page _ 15 c.requires.forest c.requires.root
    c.set.ensures.sets c.set-2.ensures.sets (λ r p names. no_kind c.kinds_over.result r zero (c.kinds_over.ensures r p names))
