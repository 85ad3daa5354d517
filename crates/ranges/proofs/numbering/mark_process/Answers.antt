use Rattle.ranges.proofs.Names.{sizes, widest_end, Maps, ◌≡◌, ◌≢◌, ◌+◌, ℕ, inl, inr, sym, ◌∙◌, subst, arith, picture_of}
use Rattle.ranges.{specs.{Numbers.{IsUsedBetween, IsUsedBy}, Rows.{without_maps}}, proofs.Marking.{marks_then, marks_alike, mine, mine_back, low_out, high_out, theirs, theirs_back}}
use Rattle.ranges.proofs.numbering.mark_process.Goals as goal

moved : (at : Maps) (p q from end o : ℕ) → p ≡ q → IsUsedBetween (at p) from end o → IsUsedBetween (at q) from end o
moved at p q from end o e u = subst (λ (r : ℕ). IsUsedBetween (at r) from end o) e u

pub returns-then-get : goal.returns-then-get
returns-then-get g c =
    let at = (picture_of c.args.core.now).at in
    let q = c.args.number in
    let is : c.in-Some.process ≡ q = c.in-Some.ensures.found.0 in
    let same : q ≡ c.args.left_out.now.pid = sym is ∙ sym c.get.ensures.number ∙ c.if-get.true ∙ c.get-2.ensures.number in
    let P : ℕ → ℕ → ℕ → ℕ → Type 0 = λ p from end o. IsUsedBetween (at p) from end o in
    record {
      marks =
          marks_then (P c.in-Some.process 0 c.args.left_out.now.first) (P c.in-Some.process (c.args.left_out.now.first + c.args.left_out.now.pages) widest_end) (IsUsedBy (without_maps at c.args.left_out.now.pid c.args.left_out.now.first c.args.left_out.now.pages) q)
          c.args.used.now c.mark.new.used c.mark-then-get.new.used
          (λ o u. mine_back at c.args.left_out.now.pid q c.args.left_out.now.first c.args.left_out.now.pages 0 c.args.left_out.now.first same (low_out c.args.left_out.now.first c.args.left_out.now.pages) (omega (arith, c.requires.row, (sizes g.M.Levels.mode).most)) o (moved at c.in-Some.process q 0 c.args.left_out.now.first o is u))
          (λ o u. mine_back at c.args.left_out.now.pid q c.args.left_out.now.first c.args.left_out.now.pages (c.args.left_out.now.first + c.args.left_out.now.pages) widest_end same (high_out c.args.left_out.now.first c.args.left_out.now.pages) (omega arith) o (moved at c.in-Some.process q (c.args.left_out.now.first + c.args.left_out.now.pages) widest_end o is u))
          (λ o u. elim (mine at c.args.left_out.now.pid q c.args.left_out.now.first c.args.left_out.now.pages same o u) [
            | inl a ↦ inl (moved at q c.in-Some.process 0 c.args.left_out.now.first o (sym is) a)
            | inr b ↦ inr (moved at q c.in-Some.process (c.args.left_out.now.first + c.args.left_out.now.pages) widest_end o (sym is) b)
          ])
          c.mark.ensures.marks c.mark-then-get.ensures.marks;
    }

pub returns-else-get : goal.returns-else-get
returns-else-get g c =
    let at = (picture_of c.args.core.now).at in
    let q = c.args.number in
    let is : c.in-Some.process ≡ q = c.in-Some.ensures.found.0 in
    let other : q ≢ c.args.left_out.now.pid = λ e. c.if-get.false (c.get.ensures.number ∙ is ∙ e ∙ sym c.get-2.ensures.number) in
    let R : ℕ → ℕ → Type 0 = λ o p. IsUsedBetween (at p) 0 widest_end o in
    record {
      marks =
          marks_alike (λ o. R o c.in-Some.process) (IsUsedBy (without_maps at c.args.left_out.now.pid c.args.left_out.now.first c.args.left_out.now.pages) q) c.args.used.now c.mark-else-get.new.used
          (λ o u. theirs_back at c.args.left_out.now.pid q c.args.left_out.now.first c.args.left_out.now.pages other o (subst (R o) is u))
          (λ o u. subst (R o) (sym is) (theirs at c.args.left_out.now.pid q c.args.left_out.now.first c.args.left_out.now.pages other o u))
          c.mark-else-get.ensures.marks;
    }

pub overflow_add-first : goal.overflow_add-first
overflow_add-first g c = omega (arith, c.requires.row, (sizes g.M.Levels.mode).most)
