use Rattle.memory.{specs.Lines.{line_at}, proofs.{Names.{rules, ◌≡◌, ℕ, ◌%◌, Some, None, sym, ap, ◌∙◌, slice_index_or, length, arith, get_or_default}, Looks.{agrees, kept_here}}}
use Rattle.memory.proofs.buffer.TranslationBuffer.look.Goals as goal

pub returns-in-Some-clause-agrees : goal.returns-in-Some-clause-agrees
returns-in-Some-clause-agrees c =
    let lines = c.args.self.now.lines in
    let line = c.in-Some.line in
    let root = c.args.root.0 in
    let page = c.args.page in
    let whole : length lines ≡ 64 = search rules in
    let there : slice_index_or lines (page % 64) None ≡ Some line =
    ap (λ (i : ℕ). slice_index_or lines i None) (sym c.place_of.ensures.place)
    ∙ get_or_default lines c.place_of.result None c.index-self-place_of.result (omega (arith, whole, c.place_of.ensures.range)) ∙ c.in-Some.is in
    let here : line_at c.args.self.now root page ≡ Some line.leaf.0 =
    kept_here (slice_index_or lines (page % 64) None) line root page there
    (sym c.eq.ensures ∙ c.if-eq.true) (sym c.eq-then-eq.ensures ∙ c.if-eq-2.true) in
    agrees c.args.self.now root page c.args.access c.frame_number.result.0
    (line.leaf.0, here, sym c.lets.ensures ∙ c.if-lets.true, c.frame_number.ensures)
