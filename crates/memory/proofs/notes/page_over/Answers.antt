use Rattle.memory.proofs.Names.{◌≡◌, ◌<◌, ◌≤◌, ◌⊎◌, ℕ, Option, Some, None, inl, inr, refl, sym, subst, arith, length, get_or_read, IfSome, IsSome, FrameTable, frame_count}
use Rattle.memory.specs.{declared.notes.Note.{Note}, Notes.{Covers, NamesFrame, no_note}}
use Rattle.memory.proofs.notes.page_over.Goals as goal

if_page : (o : Option ℕ) (n : ℕ) (P : ℕ → Type 0) → IfSome o (λ k. k ≡ n) → (IsSome o → P n) → IfSome o P
if_page None n P found is = tt
if_page (Some k) n P found is = subst P (sym found) (is refl)

the_one : (note : Note) (root page : ℕ) → 16 ≤ note.page → (note.page ≡ 0) ⊎ (note.page ≡ page) → page ≡ note.page
the_one note root page some (inl zero) = absurd (omega (arith, some, zero))
the_one note root page some (inr same) = sym same

pub returns-then-memory-clause-one : goal.returns-then-memory-clause-one
returns-then-memory-clause-one g c =
    let t = c.memory.inside.frames in
    let n = c.args.frame.0 in
    let items = c.memory.inside.notes.each.items in
    let inside : n < frame_count t = subst (λ (x : FrameTable). n < frame_count x) (sym c.memory.view_is) c.requires in
    let below : n < length items = (let a = c.memory.invariant.1.count in omega (arith, a, inside)) in
    if_page c.new.result c.index.result.now.page _ c.new.ensures.found (λ some root page names.
    let covers = c.memory.invariant.1.covers c.if-memory.true root page n (subst (λ (x : FrameTable). NamesFrame g.M.Levels.mode x root page n) (sym c.memory.view_is) names) inside in
    let here : Covers c.index.result.now root page = subst (λ (x : Note). Covers x root page) (sym (get_or_read items n _ below c.index.ensures no_note)) covers in
    the_one c.index.result.now root page (c.new.ensures.known.0 some).0 here.page_is)
